-- Tests for null, as values of operators.
use Rattle.std.proofs.Common.{◌≡◌, ◌∙◌, true, false, List, [], ◌∷◌, ap}
use Rattle.vtl_cell.specs.Row.{Row}
use Rattle.vtl_decimal.specs.Settings.{Settings}
use Rattle.vtl_cell.specs.declared.kind.Kind.TheVariants as k
use Rattle.vtl_cell.specs.declared.operator.ScalarOp.TheVariants as op
use Rattle.sql_tree.specs.Trees.{Text}
use Rattle.sql_meaning.specs.Outcomes.{operated}
use Rattle.sql_meaning.specs.Values.{null_test}
use Rattle.sql_eval.specs.Placed.{Placed, apply, placed_value}
use Rattle.sql_eval.specs.View.{placeds_of}

pub null_is : (e x : Placed) → x ≡ apply op.IsNull k.Bool (placeds_of (e ∷ [])) → (p : Settings) (rows : Text → List Row) (r : Row) (g : List Row) → placed_value p rows x r g ≡ null_test p false (placed_value p rows e r g)
null_is e x is p rows r g = ap (λ t. placed_value p rows t r g) is

pub not_null_is : (e x y : Placed) → x ≡ apply op.IsNull k.Bool (placeds_of (e ∷ [])) → y ≡ apply op.Not k.Bool (placeds_of (x ∷ [])) → (p : Settings) (rows : Text → List Row) (r : Row) (g : List Row) → placed_value p rows y r g ≡ null_test p true (placed_value p rows e r g)
not_null_is e x y is not_is p rows r g = ap (λ t. placed_value p rows t r g) not_is ∙ ap (λ t. operated p k.Bool (placed_value p rows t r g ∷ []) op.Not) is
