-- Operands, of which a result takes its columns by their names.
use Rattle.std.specs.Prelude.{ℕ, Bool, filter, List}
use Rattle.std.specs.List.{list_all}
use Rattle.vtl_cell.specs.Row.{Row}
use Rattle.vtl_rows.specs.Places.{row_at}
use Rattle.vtl_rows.specs.Tables.{cells_at}
use Rattle.vtl_rows.specs.declared.gather.Pick.{Pick}
use Rattle.vtl_index.specs.Seekers.{Sought, is_any_meant}
use Rattle.vtl_syntax.specs.declared.word_groups.Retain.{Retain}
use Rattle.vtl_tree.specs.Environment.{DataSet}
use Rattle.vtl_tree.specs.Structure.{IsStructure, columns_of, key_width}
use Rattle.vtl_tree.specs.declared.structure.Structure.{Structure}
use Rattle.vtl_tree.specs.Columns.{identifiers_of, places_in}
use Rattle.vtl_meaning.specs.Made.{AreAmong}
use Rattle.vtl_meaning.specs.Operators.{left_of}
use Rattle.vtl_meaning.specs.Sets.{has_point, is_retained}

-- the columns of the result are columns of the operand
pub record HasColumns (s a : Structure) : Type 0 where
  pub well_formed : IsStructure s
  pub columns : AreAmong (columns_of s) (columns_of a)

-- the cell at a place of the only part
abbrev pub pick_at : ℕ → Pick
pick_at place = record { part = 0; column = place }

-- the point of a row number, in the columns of the result
abbrev pub left_at : DataSet → Structure → ℕ → Row
left_at d s i = cells_at (places_in (columns_of d.structure) (columns_of s)) (row_at d.points i)

-- the points of an operand by the result's identifiers, which points of another one have at the places asked
abbrev pub sought_by_key : DataSet → DataSet → Structure → Sought
sought_by_key d e s = record {
  own = places_in (columns_of e.structure) (identifiers_of s);
  asked = places_in (columns_of d.structure) (identifiers_of s);
  rows = e.points;
}

-- of these row numbers, those that are retained by whether there is a row that they ask for
abbrev pub retained_by : Retain → Sought → List Row → List ℕ → List ℕ
retained_by kept x rows is = filter (λ i. is_retained kept (is_any_meant x (row_at rows i))) is

-- of these row numbers of an operand, those whose identifiers another one has, or lacks
abbrev pub retained : Retain → DataSet → DataSet → Structure → List ℕ → List ℕ
retained kept d e s is = filter (λ i. is_retained kept (has_point (key_width s) (left_of e s) (left_at d s i))) is

-- all others have the identifiers of the point of a row number
abbrev pub all_have : DataSet → List DataSet → Structure → ℕ → Bool
all_have d es s i = list_all (λ e. has_point (key_width s) (left_of e s) (left_at d s i)) es
