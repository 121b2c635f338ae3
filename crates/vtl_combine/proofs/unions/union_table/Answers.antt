use Rattle.std.proofs.Common.{◌≡◌, ◌∷◌, [], ◌∙◌, ap, sym, subst, length, arith, List}
use Rattle.std.proofs.lemmas.Result.{IfOk-weaker}
use Rattle.vtl_rows.specs.Tables.{Tabled}
use Rattle.vtl_tree.specs.Environment.{DataSet}
use Rattle.vtl_tree.specs.Shown.{shown}
use Rattle.vtl_meaning.specs.Joined.{structures_of}
use Rattle.vtl_meaning.specs.Made.{AreCombined}
use Rattle.vtl_meaning.specs.Sets.{union_of}
use Rattle.vtl_combine.proofs.UnionLemmas.{two_shown}
use Rattle.vtl_combine.proofs.unions.union_table.Goals as goal

pub united_pair-requires : goal.united_pair-requires
united_pair-requires c =
    let ds = c.args.operands.now in
    let two : length ds ≡ 2 = omega (arith, c.in-len2.len_at_least, c.in-len2.len_below) in
    subst (λ (l : List DataSet). AreCombined (structures_of l) c.args.made.now) (sym (two_shown ds c.a-item.result c.b-item.result two c.a-item.is c.b-item.is)) c.requires

pub returns-in-len2-clause-rows : goal.returns-in-len2-clause-rows
returns-in-len2-clause-rows c =
    let ds = c.args.operands.now in
    let a = c.a-item.result in
    let b = c.b-item.result in
    let s = c.args.made.now in
    let two : length ds ≡ 2 = omega (arith, c.in-len2.len_at_least, c.in-len2.len_below) in
    IfOk-weaker c.united_pair.result (λ (t : Tabled). t.rows ≡ union_of (a.now ∷ b.now ∷ []) s) (λ (t : Tabled). t.rows ≡ union_of (shown ds) s)
    (λ t e. e ∙ ap (λ (l : List DataSet). union_of l s) (two_shown ds a b two c.a-item.is c.b-item.is)) c.united_pair.ensures.rows
