-- What the demonstration says: a line for each of the two back ends, with the name of each result, how many points it has, and how many
-- bytes its CSV text has.
use Rattle.std.specs.Prelude.{◌≡◌, ℕ, List, [], ◌++◌, flat_map, length, Some, Result, Ok, Err, codes, decimal, encode_utf8_all}
use Rattle.std.specs.List.{AllByRecursion}
use Rattle.std.specs.Map.{lookup}
use Rattle.std.specs.Option.{option_map_or}
use Rattle.vtl_decimal.specs.declared.number.Fault.{Fault}
use Rattle.vtl_rows.specs.Named.{NamedTables}
use Rattle.vtl_rows.specs.Tables.{Listed}
use Rattle.vtl_tree.specs.Environment.{DataSet}
use Rattle.vtl_tree.specs.Structure.{same_name}
use Rattle.vtl_tree.specs.Structures.{Named, structure_of}
use Rattle.vtl_tree.specs.declared.structure.Structure.{Structure}
use Rattle.vtl_sets.specs.DataSets.{data_set}
use Rattle.vtl_sets.specs.TableOf.{IsTableOf}
use Rattle.vtl_scripts.specs.Meaning.{Outputs}
use Rattle.vtl_csv.specs.CsvText.{csv_of}
use Rattle.vtl_demo.specs.Nodes.{results}
use Rattle.vtl_demo.specs.Script.{settings}

-- a name, a number of points and a number of bytes, each behind a space
abbrev pub part : List ℕ → (points bytes : ℕ) → List ℕ
part name points bytes = codes " " ++ (encode_utf8_all name ++ (codes " " ++ (decimal points ++ (codes " " ++ decimal bytes))))

abbrev pub part_of : List ℕ × DataSet → List ℕ
part_of d = part d.0 (length d.1.points) (length (csv_of settings d.1.structure d.1.points))

-- the word of a back end, its results, and a line feed
abbrev pub line : (word : List ℕ) → Outputs → List ℕ
line word outputs = word ++ (flat_map part_of outputs ++ codes "\n")

-- of a fault nothing is said; there is none
abbrev pub line_of : (word : List ℕ) → Result Outputs (Fault × List ℕ) → List ℕ
line_of word (Ok outputs) = line word outputs
line_of word (Err fault) = []

-- both lines, for so many points
abbrev pub said : ℕ → List ℕ
said n = line_of (codes "interp") (results n) ++ line_of (codes "engine") (results n)

-- ---- the results in tables
-- a table of a data set of the structure that is known under its name
abbrev pub IsKnown : Named → List ℕ × Listed → Type 0
IsKnown known t = (s : Structure) × (lookup (same_name t.0) known ≡ Some s) × IsTableOf s t.1

abbrev pub AreKnown : Named → NamedTables → Type 0
AreKnown known tables = AllByRecursion (IsKnown known) tables

abbrev pub structure_named : List ℕ → Named → Structure
structure_named name known = option_map_or (λ s. s) (lookup (same_name name) known) (structure_of [])

-- what is said of such a table
abbrev pub part_for : Named → List ℕ × Listed → List ℕ
part_for known t = part_of (t.0, data_set (structure_named t.0 known) t.1.rows)
