use Rattle.std.proofs.Common.{◌≡◌, ◌++◌, ℕ, List, drop}
use Rattle.std.specs.List.{enumerate_from, flat_map}
use Rattle.check_rules.specs.Running.{makes_of, places_at}
use Rattle.check_rules.proofs.places.makers.Given as goal

abbrev pub invariant-loop-place : goal.invariant-loop-place
invariant-loop-place l = (q : List ℕ) → places_at q l.makers ++ flat_map (makes_of q) (enumerate_from l.place (drop l.place l.rules)) ≡ flat_map (makes_of q) (enumerate_from 0 l.rules)
