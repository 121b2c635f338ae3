-- What the points of a join are gathered from, as contracts see it.
use Rattle.std.specs.Prelude.{◌≡◌, ℕ, ◌<◌, List, ◌∷◌, length, map, All}
use Rattle.std.specs.Borrow.{Bor}
use Rattle.vtl_cell.specs.Row.{Row}
use Rattle.vtl_rows.specs.Gathered.{picked, picked_kind, pieces}
use Rattle.vtl_rows.specs.Tables.{Listed, Tabled, column_kinds, listed}
use Rattle.vtl_rows.specs.declared.column.Column.{Column}
use Rattle.vtl_rows.specs.declared.gather.Pick.{Pick}
use Rattle.vtl_sets.specs.TableOf.{table_columns}
use Rattle.vtl_tree.specs.Environment.{DataSet}
use Rattle.vtl_tree.specs.declared.structure.Structure.{Structure}
use Rattle.vtl_meaning.specs.Joined.{structures_of}
use Rattle.vtl_join.specs.Picks.{picks_behind, table_of}

-- the tables of which a tuple has a row number each, the cells that make a point, and the columns of the points
pub record Gathers : Type 0 where
  pub parts : List Listed
  pub picks : List Pick
  pub columns : List Column

-- there are columns, and each cell is one of a table's, of its column's kind
pub record IsGathering (g : Gathers) : Type 0 where
  pub some : 0 < length g.columns
  pub within : All (λ p. p.part < length g.parts) g.picks
  pub kinds : column_kinds g.columns ≡ map (picked_kind g.parts) g.picks

abbrev pub gathers_of : List (Bor Tabled) → List Pick → Structure → Gathers
gathers_of parts picks s = record { parts = map (λ t. listed t.now) parts; picks = picks; columns = table_columns s }

-- a lead before operands, with the cells of identifiers before those of measures and attributes
abbrev pub gathers : Listed → List DataSet → List Pick → Structure → Gathers
gathers lead ds identifiers s = record { parts = lead ∷ map table_of ds; picks = picks_behind identifiers (structures_of ds); columns = table_columns s }

-- ---- points
-- how many numbers a tuple has
abbrev pub width_of : Gathers → ℕ
width_of g = length g.parts

abbrev pub point_of : Gathers → List ℕ → Row
point_of g tuple = picked g.parts g.picks tuple

-- those of tuples that stand one after the other
abbrev pub points_of : Gathers → List ℕ → List Row
points_of g tuples = map (point_of g) (pieces (width_of g) tuples)
