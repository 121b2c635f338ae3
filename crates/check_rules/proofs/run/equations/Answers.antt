use Rattle.std.proofs.Common.{◌++◌, ◌∷◌, [], cond, ap, sym, ◌∙◌, arith, append-nil}
use Rattle.std.specs.List.{enumerate_from, flat_map}
use Rattle.std.proofs.lemmas.List.{drop_all}
use Rattle.check_rules.specs.Order.{is_left}
use Rattle.check_rules.proofs.Lists.{gathered, places_kept}
use Rattle.check_rules.proofs.run.equations.Goals as goal

pub loop-place-init : goal.loop-place-init
loop-place-init c = ap (λ l. l ++ flat_map (λ x. cond (is_left [] x) (x.0 ∷ []) []) (enumerate_from 0 c.args.rules.now)) c.new-places.ensures.items

pub loop-place-preserved : goal.loop-place-preserved
loop-place-preserved c =
    gathered (λ x. cond (is_left [] x) (x.0 ∷ []) []) c.args.rules.now c.loop-place.place c.index-rules-place.result c.loop-place.places.items c.push_equation.new.places.items (flat_map (λ x. cond (is_left [] x) (x.0 ∷ []) []) (enumerate_from 0 c.args.rules.now)) (omega arith) c.index-rules-place.is c.in_ok-push_equation.ensures c.loop-place.invariant

pub returns : goal.returns
returns c =
    sym (append-nil c.loop-place.places.items)
    ∙ sym (ap (λ l. c.loop-place.places.items ++ flat_map (λ x. cond (is_left [] x) (x.0 ∷ []) []) (enumerate_from c.loop-place.place l)) (drop_all c.loop-place.place c.args.rules.now (omega arith)))
    ∙ c.loop-place.invariant ∙ places_kept (is_left []) (enumerate_from 0 c.args.rules.now)
