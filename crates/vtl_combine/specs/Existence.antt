-- `exists_in` by a look-up of the identifiers that both operands have.
use Rattle.std.specs.Prelude.{ℕ, Bool, cond, List, [], ◌∷◌, ◌++◌}
use Rattle.vtl_cell.specs.Row.{Row}
use Rattle.vtl_cell.specs.declared.cell.Cell.TheVariants as c
use Rattle.vtl_rows.specs.Tables.{cells_at}
use Rattle.vtl_index.specs.Seekers.{Sought}
use Rattle.vtl_syntax.specs.declared.word_groups.Retain.{Retain}
use Rattle.vtl_tree.specs.Environment.{DataSet}
use Rattle.vtl_tree.specs.Structure.{columns_of}
use Rattle.vtl_tree.specs.declared.structure.Structure.{Structure}
use Rattle.vtl_tree.specs.Columns.{common_identifiers, places_in}
use Rattle.vtl_meaning.specs.Sets.{is_retained}

-- the points of a data set, as points of a structure ask for those that agree with them
abbrev pub sought_common : Structure → DataSet → Sought
sought_common a e = record {
  own = places_in (columns_of e.structure) (common_identifiers a e.structure);
  asked = places_in (columns_of a) (common_identifiers a e.structure);
  rows = e.points;
}

-- the identifiers of a row and the answer, where that is retained
abbrev pub answered : Retain → List ℕ → Row → Bool → List Row
answered kept identifiers r answer = cond (is_retained kept answer) ((cells_at identifiers r ++ c.Bool answer ∷ []) ∷ []) []
