use Rattle.std.proofs.Common.{◌++◌, ◌∷◌, [], List, ap, get_or, option_map, sym, ◌∙◌}
use Rattle.std.specs.Borrow.{Bor}
use Rattle.std.proofs.lemmas.List.{map-append}
use Rattle.vtl_syntax.specs.declared.statements.HierRule.{HierRule}
use Rattle.vtl_tree.specs.Shown.{shown}
use Rattle.hierarchies_to_sql.proofs.RulePlaces.{got, no_place, place_there}
use Rattle.hierarchies_to_sql.proofs.computed.rules_at.Goals.{in-Some+in_ok-push, in_default}
use Rattle.hierarchies_to_sql.proofs.computed.rules_at.Goals as goal

pub loop-place-preserved : goal.loop-place-preserved
loop-place-preserved c =
    let rules = c.args.rules.now in
    let order = c.args.order.now in
    let i = c.loop-place.place-index in
    let found = c.loop-place.found.items in
    let given = got c.get.result rules (get_or order i 0) c.get.ensures.lookup.1 c.get.ensures.lookup.3 in
    elim c.match-get.branch [
      | in-Some+in_ok-push w ↦
          ap (λ v. shown v.items) w.found-is
          ∙ ap shown w.in_ok-push.ensures.items
          ∙ map-append (λ (z : Bor HierRule). z.now) found (w.in-Some.rule ∷ [])
          ∙ ap (λ (l : List HierRule). l ++ w.in-Some.rule.now ∷ []) c.loop-place.invariant
          ∙ place_there rules order i c.loop-place-test.true w.in-Some.rule.now (sym given ∙ ap (option_map (λ (z : Bor HierRule). z.now)) w.in-Some.is)
      | in_default w ↦
          ap (λ v. shown v.items) w.found-is
          ∙ c.loop-place.invariant
          ∙ no_place rules order i c.loop-place-test.true (sym given ∙ ap (option_map (λ (z : Bor HierRule). z.now)) w.in_default.is)
    ]
