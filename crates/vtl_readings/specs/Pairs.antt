-- What an operator gives of two data sets: at each pair of points that agree, its value at each two measures of one name, behind the
-- identifiers, unless there is a fault.
use Rattle.std.specs.Prelude.{List, [], ◌∷◌, ◌++◌, cond, filter, map}
use Rattle.std.specs.List.{flat_map, zip}
use Rattle.vtl_cell.specs.Outcome.{Outcome, unless}
use Rattle.vtl_cell.specs.Outcomes.{result_of}
use Rattle.vtl_cell.specs.Row.{Row}
use Rattle.vtl_cell.specs.declared.cell.Cell.{Cell}
use Rattle.vtl_cell.specs.declared.operator.ScalarOp.{ScalarOp}
use Rattle.vtl_decimal.specs.Settings.{Settings}
use Rattle.vtl_tree.specs.Columns.{has_identifier, identifiers_of, measures_of}
use Rattle.vtl_tree.specs.Environment.{DataSet}
use Rattle.vtl_tree.specs.Structure.{columns_of}
use Rattle.vtl_tree.specs.declared.structure.Component.{Component}
use Rattle.vtl_tree.specs.declared.structure.Structure.{Structure}
use Rattle.vtl_meaning.specs.Agreement.{agree_in}
use Rattle.vtl_meaning.specs.LookUps.{value_named}
use Rattle.vtl_meaning.specs.Points.{cell_or_null}
use Rattle.vtl_readings.specs.Faults.{worst}

-- a point of each operand
pub record PointPair : Type 0 where
  pub left : Row
  pub right : Row

abbrev pub two_points : Row → Row → PointPair
two_points x y = record { left = x; right = y }

-- the pairs of points that agree: they have the same value of each identifier that both operands have
abbrev pub agreeing_pairs : DataSet → DataSet → List PointPair
agreeing_pairs a b = flat_map (λ x. map (two_points x) (filter (agree_in a.structure b.structure x) b.points)) a.points

-- the value of an identifier, from the first operand if it has it, else from the second; where both have it they agree on it
abbrev pub identifier_at : Structure → Structure → PointPair → Component → Cell
identifier_at a b w i = cond (has_identifier a i.name) (value_named (columns_of a) w.left i.name) (value_named (columns_of b) w.right i.name)

-- the operator's value at the two measures of one name, of the kind of the measure that they become
abbrev pub value_at : Settings → ScalarOp → Structure → Structure → PointPair → (measure result : Component) → Outcome Cell
value_at p o a b w m r = result_of p o r.kind (value_named (columns_of a) w.left m.name ∷ value_named (columns_of b) w.right m.name ∷ [])

-- for each measure of the operands, beside which stands the one of the result that it becomes
abbrev pub values_at : Settings → ScalarOp → Structure → Structure → Structure → PointPair → List (Outcome Cell)
values_at p o a b s w = map (λ (m : Component × Component). value_at p o a b w m.0 m.1) (zip (measures_of a) (measures_of s))

-- the identifiers, and then the values
abbrev pub pair_point : Settings → ScalarOp → Structure → Structure → Structure → PointPair → Row
pair_point p o a b s w = map (identifier_at a b w) (identifiers_of s) ++ map cell_or_null (values_at p o a b s w)

-- a point for each of these pairs, unless one of their values has a fault
abbrev pub at_pairs : Settings → ScalarOp → Structure → Structure → Structure → List PointPair → Outcome (List Row)
at_pairs p o a b s pairs = unless (worst (flat_map (values_at p o a b s) pairs)) (map (pair_point p o a b s) pairs)

abbrev pub pair_points : Settings → ScalarOp → DataSet → DataSet → Structure → Outcome (List Row)
pair_points p o a b s = at_pairs p o a.structure b.structure s (agreeing_pairs a b)
