-- What the definitions give for single data sets.
use Rattle.std.proofs.Common.{◌≡◌, ℕ, pos, negsuc, true, false, List, [], ◌∷◌, None, Ok, Err, refl}
use Rattle.std.specs.Prelude.{codes}
use Rattle.vtl_decimal.specs.Settings.{Settings}
use Rattle.vtl_decimal.specs.declared.settings.Rounding.TheVariants.{HalfUp}
use Rattle.vtl_cell.specs.declared.cell.Cell.{Cell}
use Rattle.vtl_cell.specs.declared.cell.Cell.TheVariants.{Null, Int, Text}
use Rattle.vtl_cell.specs.declared.cell.Cell.TheVariants as c
use Rattle.vtl_cell.specs.declared.kind.Kind.TheVariants as k
use Rattle.vtl_cell.specs.declared.operator.ScalarOp.TheVariants as op
use Rattle.vtl_decimal.specs.declared.number.Fault.TheVariants.{DivZero, Range}
use Rattle.vtl_tree.specs.CompExp.{column, const}
use Rattle.vtl_tree.specs.declared.structure.Component.{Component}
use Rattle.vtl_tree.specs.declared.structure.Role.TheVariants as role
use Rattle.vtl_tree.specs.declared.structure.Structure.{Structure}
use Rattle.vtl_tree.specs.Trees as nodes
use Rattle.vtl_tree.specs.Trees.{ItemTree, MeasureTree}
use Rattle.vtl_tree.specs.Measures.{made}
use Rattle.vtl_tree.specs.Environment.{DataSet}
use Rattle.vtl_meaning.specs.Operators.{calculated_of, choice_of, left_of, measured_of, pair_of, sub_of}
use Rattle.vtl_meaning.specs.Points.{with_points}

abbrev pub scale_six : Settings
scale_six = record { scale = 6; rounding = HalfUp }

abbrev pub int : ℕ → Cell
int n = Int (pos n)

abbrev pub with_components : List Component → Structure
with_components xs = record { components = xs }

-- components: two identifiers, measures, an attribute
abbrev pub place : Component
place = made (codes "place") role.Identifier k.Int

abbrev pub year : Component
year = made (codes "year") role.Identifier k.Int

abbrev sold : Component
sold = made (codes "sold") role.Measure k.Int

abbrev pub left : Component
left = made (codes "left") role.Measure k.Int

abbrev note : Component
note = made (codes "note") role.Attribute k.Text

-- components in another order than columns: the attribute stands before the identifiers
abbrev pub by_place_and_year : Structure
by_place_and_year = with_components (note ∷ place ∷ sold ∷ year ∷ left ∷ [])

abbrev both_measures : Structure
both_measures = with_components (place ∷ year ∷ sold ∷ left ∷ [])

-- one identifier, and the measures in another order
abbrev by_year : Structure
by_year = with_components (left ∷ year ∷ sold ∷ [])

abbrev pub sales : DataSet
sales =
    with_points by_place_and_year
    ((int 1 ∷ int 10 ∷ int 5 ∷ int 50 ∷ Text (codes "a") ∷ [])
    ∷ (int 1 ∷ int 20 ∷ int 7 ∷ Null ∷ Null ∷ [])
    ∷ (int 2 ∷ int 10 ∷ int 0 ∷ int 9 ∷ Null ∷ []) ∷ [])

-- year, left, sold
abbrev yearly : DataSet
yearly = with_points by_year ((int 10 ∷ int 1 ∷ int 2 ∷ []) ∷ (int 30 ∷ int 3 ∷ int 4 ∷ []) ∷ [])

-- ---- `sales - yearly` and `yearly - sales`: pairs by the year, namesakes among the measures, no attribute, no year 20 or 30
difference : pair_of scale_six op.Subtract sales yearly both_measures ≡ Ok ((int 1 ∷ int 10 ∷ int 3 ∷ int 49 ∷ []) ∷ (int 2 ∷ int 10 ∷ Int (negsuc 1) ∷ int 8 ∷ []) ∷ [])
difference = refl

abbrev turned_measures : Structure
turned_measures = with_components (place ∷ year ∷ left ∷ sold ∷ [])

turned : pair_of scale_six op.Subtract yearly sales turned_measures ≡ Ok ((int 1 ∷ int 10 ∷ Int (negsuc 48) ∷ Int (negsuc 2) ∷ []) ∷ (int 2 ∷ int 10 ∷ Int (negsuc 7) ∷ int 2 ∷ []) ∷ [])
turned = refl

-- ---- `nvl(sales, 3)`: the measure stands before the value
filled : measured_of scale_six (record { op = op.ValueOr; before = []; after = const (int 3) ∷ [] }) sales both_measures ≡ Ok ((int 1 ∷ int 10 ∷ int 5 ∷ int 50 ∷ []) ∷ (int 1 ∷ int 20 ∷ int 7 ∷ int 3 ∷ []) ∷ (int 2 ∷ int 10 ∷ int 0 ∷ int 9 ∷ []) ∷ [])
filled = refl

-- `999999999999 / shares` at 0.5 and 0: out of range at the first point, division by zero at the second one
abbrev pub by_place : Structure
by_place = with_components (place ∷ made (codes "share") role.Measure k.Num ∷ [])

abbrev pub shares : DataSet
shares = with_points by_place ((int 1 ∷ c.Num (pos 500000) ∷ []) ∷ (int 2 ∷ c.Num (pos 0) ∷ []) ∷ [])

abbrev pub divided : MeasureTree
divided = record { op = op.Divide; before = const (int 999999999999) ∷ []; after = [] }

first_fault : measured_of scale_six divided (with_points by_place ((int 1 ∷ c.Num (pos 500000) ∷ []) ∷ [])) by_place ≡ Err Range
first_fault = refl

worst_fault : measured_of scale_six divided shares by_place ≡ Err DivZero
worst_fault = refl

-- ---- `sales[calc sold := left, left := sold]`: both see the operand
abbrev swapped : List ItemTree
swapped =
    record { role = None; target = codes "sold"; value = nodes.scalar (column 3 (codes "left") k.Int) }
    ∷ record { role = None; target = codes "left"; value = nodes.scalar (column 2 (codes "sold") k.Int) } ∷ []

calculated : calculated_of scale_six swapped sales by_place_and_year ≡ Ok ((int 1 ∷ int 10 ∷ int 50 ∷ int 5 ∷ Text (codes "a") ∷ []) ∷ (int 1 ∷ int 20 ∷ Null ∷ int 7 ∷ Null ∷ []) ∷ (int 2 ∷ int 10 ∷ int 9 ∷ int 0 ∷ Null ∷ []) ∷ [])
calculated = refl

-- ---- `sales[keep left, note]`
shown_columns : left_of sales (with_components (note ∷ place ∷ year ∷ left ∷ [])) ≡ ((int 1 ∷ int 10 ∷ int 50 ∷ Text (codes "a") ∷ []) ∷ (int 1 ∷ int 20 ∷ Null ∷ Null ∷ []) ∷ (int 2 ∷ int 10 ∷ int 9 ∷ Null ∷ []) ∷ [])
shown_columns = refl

-- ---- `sales[sub year = 10]`
taken : sub_of (record { id = codes "year"; value = int 10 } ∷ []) sales (with_components (note ∷ place ∷ sold ∷ left ∷ [])) ≡ ((int 1 ∷ int 5 ∷ int 50 ∷ Text (codes "a") ∷ []) ∷ (int 2 ∷ int 0 ∷ int 9 ∷ Null ∷ []) ∷ [])
taken = refl

-- ---- `if tests then sales#sold else others`: null and false choose the second operand, whose identifiers stand the other way
abbrev tested : Structure
tested = with_components (place ∷ year ∷ made (codes "open") role.Measure k.Bool ∷ [])

abbrev one_measure : Structure
one_measure = with_components (place ∷ year ∷ sold ∷ [])

abbrev turned_identifiers : Structure
turned_identifiers = with_components (year ∷ place ∷ sold ∷ [])

chosen : choice_of
    (with_points tested ((int 1 ∷ int 10 ∷ c.Bool true ∷ []) ∷ (int 1 ∷ int 20 ∷ Null ∷ []) ∷ (int 2 ∷ int 10 ∷ c.Bool false ∷ []) ∷ (int 3 ∷ int 10 ∷ c.Bool true ∷ []) ∷ []))
    (with_points one_measure ((int 1 ∷ int 10 ∷ int 5 ∷ []) ∷ (int 1 ∷ int 20 ∷ int 7 ∷ []) ∷ []))
    (with_points turned_identifiers ((int 20 ∷ int 1 ∷ int 70 ∷ []) ∷ (int 10 ∷ int 2 ∷ int 90 ∷ []) ∷ (int 10 ∷ int 3 ∷ int 80 ∷ []) ∷ []))
    one_measure
    ≡ ((int 1 ∷ int 10 ∷ int 5 ∷ []) ∷ (int 1 ∷ int 20 ∷ int 70 ∷ []) ∷ (int 2 ∷ int 10 ∷ int 90 ∷ []) ∷ [])
chosen = refl
