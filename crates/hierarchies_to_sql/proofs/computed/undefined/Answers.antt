use Rattle.std.proofs.Common.{◌++◌, ◌∷◌, [], List, ap, sym, ◌∙◌}
use Rattle.std.specs.List.{filter}
use Rattle.std.specs.Map.{keys_of}
use Rattle.std.proofs.lemmas.List.{take_all}
use Rattle.vtl_syntax.specs.declared.word_groups.HierInput.TheVariants as input
use Rattle.vtl_tree.specs.Shown.{shown}
use Rattle.sql_tree.specs.Trees.{Text}
use Rattle.hierarchies_to_sql.specs.ComputedTables.{is_given}
use Rattle.hierarchies_to_sql.proofs.KnownNames.{given_less, given_more, known_defined}
use Rattle.hierarchies_to_sql.proofs.computed.undefined.Goals.{then-not-has+in_ok-share+in_ok-push, else-not-has}
use Rattle.hierarchies_to_sql.proofs.computed.undefined.Goals as goal

pub loop-item-preserved : goal.loop-item-preserved
loop-item-preserved c =
    let rules = shown c.args.rules.now in
    let items = c.args.items.now in
    let left = c.loop-item.left.items in
    let i = c.loop-item.item-index in
    let item = c.item-item.result in
    let known = known_defined rules c.deref.result.now (keys_of c.in_ok-defined.defined) c.in_ok-defined.ensures (c.deref.ensures.value ∙ c.in_ok-lefts.ensures) item in
    elim c.if-not-has.branch [
      | then-not-has+in_ok-share+in_ok-push w ↦
          ap (λ v. v.items) w.left-is
          ∙ w.in_ok-push.ensures.items
          ∙ ap (λ (x : Text). left ++ x ∷ []) w.in_ok-share.ensures
          ∙ given_more rules items left i item c.loop-item-test.true c.item-item.is c.loop-item.invariant (sym known ∙ sym c.has.ensures ∙ w.if-not-has.true)
      | else-not-has w ↦
          ap (λ v. v.items) w.left-is
          ∙ given_less rules items left i item c.loop-item-test.true c.item-item.is c.loop-item.invariant (sym known ∙ sym c.has.ensures ∙ w.if-not-has.false)
    ]
