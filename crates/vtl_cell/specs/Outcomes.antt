-- Values of many, which of two branches a condition chooses, and results up to order.
use Rattle.std.specs.Prelude.{◌≡◌, Bool, true, false, List, [], ◌∷◌, Option, Some, None, Ok, Err}
use Rattle.vtl_cell.specs.Conversion.{as_kind}
use Rattle.vtl_cell.specs.Outcome.{Outcome, after}
use Rattle.vtl_lists.specs.Perm.{Perm}
use Rattle.vtl_cell.specs.Scalars.{scalar_of}
use Rattle.vtl_decimal.specs.Settings.{Settings}
use Rattle.vtl_cell.specs.declared.cell.Cell.{Cell}
use Rattle.vtl_cell.specs.declared.cell.Cell.TheVariants as c
use Rattle.vtl_cell.specs.declared.kind.Kind.{Kind}
use Rattle.vtl_cell.specs.declared.operator.ScalarOp.{ScalarOp}

-- ---- conditions

-- a condition holds where its value is true: neither where it is null nor where it has a fault
abbrev pub is_true : Outcome Cell → Bool
is_true (Ok (c.Bool b)) = b
is_true _ = false

-- whether a condition chooses its branch; null does not, and of a value that is no boolean nothing is said
abbrev pub first_chosen : Cell → Option Bool
first_chosen (c.Bool b) = Some b
first_chosen c.Null = Some false
first_chosen other = None

-- the branch that is chosen
abbrev pub branch : Option Bool → Outcome Cell → Outcome Cell → Outcome Cell
branch (Some true) a b = a
branch (Some false) a b = b
branch None a b = Ok c.Null

-- ---- operators

-- all values, or the first fault from the left
abbrev pub all_of : List (Outcome Cell) → Outcome (List Cell)
all_of [] = Ok []
all_of (m ∷ ms) = after m (λ v. after (all_of ms) (λ vs. Ok (v ∷ vs)))

-- the value of an operator at these operands, as a value of its kind
abbrev pub result_of : Settings → ScalarOp → Kind → List Cell → Outcome Cell
result_of p o kind vs = after (scalar_of p o vs) (as_kind p kind)

-- ---- results up to order

-- the same rows, each as often, in any order, or the same fault
abbrev pub Same : {X : Type 0} → Outcome (List X) → Outcome (List X) → Type 0
Same (Ok xs) (Ok ys) = Perm xs ys
Same (Err f) (Err g) = f ≡ g
Same (Ok xs) (Err g) = ⊥
Same (Err f) (Ok ys) = ⊥
