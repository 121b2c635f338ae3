use Rattle.std.proofs.Common.{◌++◌, ◌∷◌, [], ℕ, List, cond, take, ap, sym, ◌∙◌, arith, append-nil, append_assoc}
use Rattle.std.proofs.lemmas.List.{take_all}
use Rattle.vtl_text.specs.Texts.{same_text}
use Rattle.vtl_tree.specs.RuleItems.{right_items}
use Rattle.check_rules.specs.Running.{places_at, places_of}
use Rattle.check_rules.proofs.Lists.{taken_more}
use Rattle.check_rules.proofs.places.note_right.Goals as goal

pub loop-k-init : goal.loop-k-init
loop-k-init c = λ q. sym (append-nil (places_at q c.args.places.now))

pub loop-k-preserved : goal.loop-k-preserved
loop-k-preserved c = λ q.
    let items : List (List ℕ) = right_items c.args.rule.now in
    let x : List ℕ = c.right_item.result.now in
    let one : List ℕ → List ℕ = λ other. cond (same_text q other) (c.args.place ∷ []) [] in
    c.in_ok-note.ensures q ∙ ap (λ l. l ++ one x) (c.loop-k.invariant q) ∙ append_assoc (places_at q c.args.places.now) (places_of c.args.place q (take c.loop-k.k items)) (one x)
    ∙ ap (λ l. places_at q c.args.places.now ++ l) (sym (taken_more one items c.loop-k.k x c.right_item.ensures))

pub returns : goal.returns
returns c = λ q.
    c.loop-k.invariant q ∙ ap (λ l. places_at q c.args.places.now ++ places_of c.args.place q l) (take_all c.loop-k.k (right_items c.args.rule.now) (omega arith))
