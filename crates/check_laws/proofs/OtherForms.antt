-- Forms of which only this is told, that they give a structure.
use Rattle.std.proofs.Common.{ℕ, Bool, List, ◌++◌, map, None}
use Rattle.std.specs.List.{filter}
use Rattle.check_faults.specs.Rules.{ruled}
use Rattle.vtl_tree.specs.declared.structure.Component.{Component}
use Rattle.vtl_tree.specs.Choices.{chosen}
use Rattle.vtl_tree.specs.ClauseShapes.{calculated, is_new, target_component}
use Rattle.check_shapes.specs.Clauses.{calc_form}
use Rattle.vtl_tree.specs.Measures.{Gives as GivesKind, given_measures}
use Rattle.check_shapes.specs.Measures.{measured_form, measured_tests}
use Rattle.check_shapes.specs.Shape.{shaped}
use Rattle.vtl_tree.specs.declared.choices.Choice.{Choice}
use Rattle.vtl_tree.specs.declared.measures.Outcome.{Outcome}
use Rattle.vtl_tree.specs.declared.targets.Target.{Target}
use Rattle.vtl_meaning.specs.Shapes.{IsShaped}
use Rattle.check_laws.specs.Gives.{Gives}
use Rattle.check_laws.proofs.Shapes.{any-shaped, shaped-gives}

some-shaped : (xs : List Component) → Gives IsShaped (shaped xs)
some-shaped xs = shaped-gives IsShaped xs (λ is. is)

pub measured-shaped : (o : Outcome) (f : GivesKind) (literals : Bool) (c : Choice) (names : List (List ℕ)) (xs : List Component) → Gives IsShaped (measured_form o f literals c names xs)
measured-shaped o f literals c names xs = any-shaped (ruled (measured_tests o f literals xs) (tt {0})) (λ u. chosen c names xs ++ given_measures o f None xs)

pub calc-shaped : (ts : List Target) (xs : List Component) → Gives IsShaped (calc_form ts xs)
calc-shaped ts xs = some-shaped (map (calculated ts) xs ++ map target_component (filter (is_new xs) ts))
