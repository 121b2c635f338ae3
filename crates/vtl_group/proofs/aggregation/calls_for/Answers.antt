use Rattle.std.proofs.Common.{Global, Vec, ◌≡◌, ◌-◌, ◌≤◌, ℕ, ◌++◌, List, drop, take, length, map, sym, ap, ◌∙◌, arith}
use Rattle.std.proofs.lemmas.List.{drop-map, length-drop, take_all}
use Rattle.std.proofs.lemmas.Result.{IfOk-weaker}
use Rattle.std.proofs.Math.Seq.{drop-append_seam}
use Rattle.std.specs.Borrow.{Bor}
use Rattle.vtl_tree.specs.Shown.{shown}
use Rattle.vtl_tree.specs.Structure.{columns_of, key_width}
use Rattle.vtl_tree.specs.declared.structure.Component.{Component}
use Rattle.vtl_tree.specs.declared.structure.Structure.{Structure}
use Rattle.vtl_tree.specs.Columns.{identifiers_of, others_of}
use Rattle.vtl_meaning.proofs.Places.{columns_split}
use Rattle.vtl_group.specs.Calls.{placed_for}
use Rattle.vtl_group.specs.declared.calls.Call.{Call}
use Rattle.vtl_group.proofs.aggregation.calls_for.Goals as goal

-- behind the identifiers stand the others
others_behind : (s : Structure) (all : List (Bor Component)) (n : ℕ) → n ≡ key_width s → shown all ≡ columns_of s → shown (drop n all) ≡ others_of s
others_behind s all n many columns =
    sym (drop-map (λ r. r.now) n all) ∙ ap (drop n) (columns ∙ columns_split s)
    ∙ ap (λ m. drop m (identifiers_of s ++ others_of s)) many
    ∙ drop-append_seam (identifiers_of s) (others_of s)

all_behind : {X : Type 0} (n : ℕ) (xs : List X) → take (length xs - n) (drop n xs) ≡ drop n xs
all_behind n xs = take_all (length xs - n) (drop n xs) (let l = length-drop n xs in omega (arith, l))

pub returns : goal.returns
returns c =
    let made = c.args.made.now in
    let by : Component → Call = λ y. placed_for c.args.columns.now c.args.items.now y.name in
    let n = c.key_width-identifiers.result in
    let lent = c.deref.result.now in
    IfOk-weaker c.calls_of.result (λ (v : Vec Call Global). v.items ≡ map by (shown (take (length lent - n) (drop n lent)))) (λ (v : Vec Call Global). v.items ≡ map by (others_of made))
    (λ v e. e ∙ ap (λ l. map by (shown l)) (all_behind n lent ∙ ap (drop n) c.deref.ensures.value) ∙ ap (map by) (others_behind made c.in_ok-all.all.items n c.key_width-identifiers.ensures c.in_ok-all.ensures))
    c.calls_of.ensures
