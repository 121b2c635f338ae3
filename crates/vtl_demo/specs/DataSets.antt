-- The two data sets of the demonstration: a point of each for each number from 1 on, by three draws.
use Rattle.std.specs.Prelude.{ℕ, ◌-◌, ◌*◌, ◌%◌, pos, List, [], ◌∷◌, ◌++◌, map, codes, decimal}
use Rattle.std.specs.List.{range_with_len}
use Rattle.vtl_cell.specs.Row.{Row}
use Rattle.vtl_cell.specs.declared.cell.Cell.TheVariants as c
use Rattle.vtl_cell.specs.declared.kind.Kind.TheVariants as k
use Rattle.vtl_rows.specs.Named.{NamedTables}
use Rattle.vtl_rows.specs.Tables.{Listed}
use Rattle.vtl_tree.specs.Environment.{Environment}
use Rattle.vtl_tree.specs.Measures.{made}
use Rattle.vtl_tree.specs.Structures.{Named, structure_of}
use Rattle.vtl_tree.specs.declared.structure.Component.{Component}
use Rattle.vtl_tree.specs.declared.structure.Role.TheVariants as role
use Rattle.vtl_tree.specs.declared.structure.Structure.{Structure}
use Rattle.vtl_sets.specs.DataSets.{data_set}
use Rattle.vtl_sets.specs.TableOf.{table_columns}
use Rattle.vtl_demo.specs.Draws.{draw}
use Rattle.vtl_demo.specs.declared.limits.TheConstants.{MOST_POINTS}

-- ---- structures
abbrev pub number_id : Component
number_id = made (codes "Id_1") role.Identifier k.Int

abbrev pub group_id : Component
group_id = made (codes "Id_2") role.Identifier k.Text

abbrev pub first_measure : Component
first_measure = made (codes "Me_1") role.Measure k.Int

abbrev pub second_measure : Component
second_measure = made (codes "Me_2") role.Measure k.Int

abbrev pub left_structure : Structure
left_structure = structure_of (number_id ∷ group_id ∷ first_measure ∷ [])

abbrev pub right_structure : Structure
right_structure = structure_of (number_id ∷ second_measure ∷ [])

abbrev pub declared : Named
declared = (codes "D_A", left_structure) ∷ (codes "D_B", right_structure) ∷ []

-- ---- points
-- `G` and a digit
abbrev pub group_name : ℕ → List ℕ
group_name digit = codes "G" ++ decimal digit

-- the group and the two factors at a number, each by a draw of its own
abbrev pub group_at : ℕ → List ℕ
group_at i = group_name (draw (3 * i - 2) % 10)

abbrev pub first_factor : ℕ → ℕ
first_factor i = draw (3 * i - 1) % 1000

abbrev pub second_factor : ℕ → ℕ
second_factor i = draw (3 * i) % 1000

abbrev pub left_point : ℕ → Row
left_point i = c.Int (pos i) ∷ c.Text (group_at i) ∷ c.Int (pos (first_factor i)) ∷ []

abbrev pub right_point : ℕ → Row
right_point i = c.Int (pos i) ∷ c.Int (pos (second_factor i)) ∷ []

-- how many numbers there may be
abbrev pub most_points : ℕ
most_points = MOST_POINTS

-- a point for each number from 1 to n
abbrev pub for_each : (ℕ → Row) → ℕ → List Row
for_each point n = map point (range_with_len 1 n)

abbrev pub left_points : ℕ → List Row
left_points = for_each left_point

abbrev pub right_points : ℕ → List Row
right_points = for_each right_point

-- ---- data sets, and the tables that hold them
abbrev pub environment : ℕ → Environment
environment n = (codes "D_A", data_set left_structure (left_points n)) ∷ (codes "D_B", data_set right_structure (right_points n)) ∷ []

abbrev pub named_tables : Listed → Listed → NamedTables
named_tables left right = (codes "D_A", left) ∷ (codes "D_B", right) ∷ []

abbrev pub table_for : Structure → List Row → Listed
table_for s points = record { columns = table_columns s; rows = points }

abbrev pub tables : ℕ → NamedTables
tables n = named_tables (table_for left_structure (left_points n)) (table_for right_structure (right_points n))
