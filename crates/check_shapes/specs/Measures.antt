-- The measures that an operator gives.
use Rattle.std.specs.Prelude.{ℕ, Bool, not, ◌++◌, List, [], ◌∷◌, None, Result, length}
use Rattle.vtl_tree.specs.declared.structure.Component.{Component}
use Rattle.vtl_tree.specs.declared.structure.Structure.{Structure}
use Rattle.vtl_tree.specs.Choices.{chosen}
use Rattle.vtl_lists.specs.Results.{◌>>=◌}
use Rattle.check_faults.specs.Rules.{ruled, Tests}
use Rattle.check_faults.specs.declared.rules.Rule.{Rule}
use Rattle.check_faults.specs.declared.rules.Rule.TheVariants as rule
use Rattle.check_shapes.specs.Shape.{shaped}
use Rattle.vtl_tree.specs.declared.choices.Choice.{Choice}
use Rattle.vtl_tree.specs.declared.measures.Outcome.{Outcome}
use Rattle.vtl_tree.specs.Measures.{Gives, measures, any_unmet, is_miscounted, given_measures}

-- the rules that the measures of one operand can break, and the operands that have to be literals
abbrev pub measured_tests : Outcome → Gives → (literals : Bool) → List Component → Tests
measured_tests o f literals xs =
    (rule.WrongKind, any_unmet f None xs)
    ∷ (rule.WrongLiteral, not literals)
    ∷ (rule.MeasuresDisagree, is_miscounted o (length (measures xs))) ∷ []

-- an operator on the measures of one operand: the chosen identifiers, then the measures that it gives
abbrev pub measured_form : Outcome → Gives → (literals : Bool) → Choice → List (List ℕ) → List Component → Result Structure Rule
measured_form o f literals c names xs = ruled (measured_tests o f literals xs) (tt {0}) >>= λ u. shaped (chosen c names xs ++ given_measures o f None xs)
