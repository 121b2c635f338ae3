-- Points of several operands that agree: they have the same values of the identifiers that both operands have.
use Rattle.std.specs.Prelude.{Bool, List, map, Option, is_some, take}
use Rattle.std.specs.List.{find}
use Rattle.vtl_cell.specs.Row.{Row, same_row}
use Rattle.vtl_tree.specs.Environment.{DataSet}
use Rattle.vtl_tree.specs.Structure.{columns_of, key_width}
use Rattle.vtl_tree.specs.declared.structure.Component.{Component}
use Rattle.vtl_tree.specs.declared.structure.Structure.{Structure}
use Rattle.vtl_tree.specs.Columns.{common_identifiers}
use Rattle.vtl_meaning.specs.LookUps.{values_named}

-- the values of a point of this structure in columns of these names
abbrev pub values_in : Structure → List Component → Row → Row
values_in a ys r = values_named (columns_of a) ys r

-- the identifiers of a point of this structure, which are its first cells
abbrev pub key_of : Structure → Row → Row
key_of a r = take (key_width a) r

abbrev pub agree_in : Structure → Structure → Row → Row → Bool
agree_in a b r q = same_row (values_in b (common_identifiers a b) q) (values_in a (common_identifiers a b) r)

-- The first point of another operand that agrees with a point of this structure. `partner` of Points.antt looks for all identifiers of
-- the other operand, each of which the structure must have; this one for those that both have. Where the structure has them all they
-- are the same.
abbrev pub first_agreeing : Structure → DataSet → Row → Option Row
first_agreeing a other r = find (agree_in a other.structure r) other.points

abbrev pub has_agreeing : Structure → DataSet → Row → Bool
has_agreeing a other r = is_some (first_agreeing a other r)

-- ---- a point with the structure of its operand, so that points of different operands are of one type
pub record OperandPoint : Type 0 where
  pub structure : Structure
  pub point : Row

abbrev pub operand_point : Structure → Row → OperandPoint
operand_point a r = record { structure = a; point = r }

abbrev pub operand_points : DataSet → List OperandPoint
operand_points d = map (operand_point d.structure) d.points

abbrev pub points_agree : OperandPoint → OperandPoint → Bool
points_agree x y = agree_in x.structure y.structure x.point y.point
