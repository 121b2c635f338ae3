-- An operand's columns where a point stands beside its partner.
use Rattle.std.specs.Prelude.{ℕ, List, length, cond}
use Rattle.vtl_tree.specs.CompExp.{CompExp}
use Rattle.vtl_tree.specs.Shown.{shown}
use Rattle.vtl_tree.specs.Structure.{columns_of}
use Rattle.vtl_tree.specs.declared.structure.Structure.{Structure}
use Rattle.vtl_tree.specs.Pairs.{contains}
use Rattle.vtl_tree.specs.Columns.{column_behind, column_named}
use Rattle.vtl_expr.specs.declared.namesakes.Side.{Side}

-- a column by its name
abbrev pub side_column : Side → List ℕ → CompExp
side_column side name = column_behind (length side.before.items) (shown side.columns.items) name

-- the columns of the left and of the right operand, where the cells of the one with all identifiers stand first
abbrev pub left_column : Structure → Structure → List ℕ → CompExp
left_column a b = cond (contains a b) (column_named (columns_of a)) (column_behind (length (columns_of b)) (columns_of a))

abbrev pub right_column : Structure → Structure → List ℕ → CompExp
right_column a b = cond (contains a b) (column_behind (length (columns_of a)) (columns_of b)) (column_named (columns_of b))
