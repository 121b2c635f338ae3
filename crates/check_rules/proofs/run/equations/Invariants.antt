use Rattle.std.proofs.Common.{◌≡◌, ◌++◌, ◌∷◌, [], cond, drop}
use Rattle.std.specs.List.{enumerate_from, flat_map}
use Rattle.check_rules.specs.Order.{is_left}
use Rattle.check_rules.proofs.run.equations.Given as goal

abbrev pub invariant-loop-place : goal.invariant-loop-place
invariant-loop-place l = l.places.items ++ flat_map (λ x. cond (is_left [] x) (x.0 ∷ []) []) (enumerate_from l.place (drop l.place l.rules)) ≡ flat_map (λ x. cond (is_left [] x) (x.0 ∷ []) []) (enumerate_from 0 l.rules)
