-- The cells that are picked for a tuple of row numbers.
use Rattle.std.specs.Prelude.{ℕ, ◌+◌, List, [], ◌∷◌, ◌++◌, length, map}
use Rattle.vtl_cell.specs.Row.{Row}
use Rattle.vtl_rows.specs.Gathered.{picked, pieces}
use Rattle.vtl_rows.specs.Tables.{Listed}
use Rattle.vtl_rows.specs.declared.gather.Pick.{Pick}
use Rattle.vtl_tree.specs.Environment.{DataSet}
use Rattle.vtl_tree.specs.Structure.{columns_of, of_role}
use Rattle.vtl_tree.specs.declared.structure.Role.{Role}
use Rattle.vtl_tree.specs.declared.structure.Role.TheVariants as role
use Rattle.vtl_tree.specs.declared.structure.Structure.{Structure}
use Rattle.vtl_sets.specs.TableOf.{table_columns}
use Rattle.vtl_tree.specs.Columns.{places_in}

-- the table of a data set
abbrev pub table_of : DataSet → Listed
table_of d = record { columns = table_columns d.structure; rows = d.points }

-- the places of the columns of a role
abbrev pub places_of : Role → Structure → List ℕ
places_of r a = places_in (columns_of a) (of_role r a)

abbrev pub picks_at : ℕ → List ℕ → List Pick
picks_at part places = map (λ place. record { part = part; column = place }) places

-- the columns of a role, part by part, from a first part on
abbrev pub picks_from : Role → ℕ → List Structure → List Pick
picks_from r n [] = []
picks_from r n (a ∷ ss) = picks_at n (places_of r a) ++ picks_from r (n + 1) ss

-- The cells of a joined set where a lead stands before the operands: identifiers, then the measures and the attributes of the operands.
abbrev pub picks_behind : List Pick → List Structure → List Pick
picks_behind identifiers ss = identifiers ++ picks_from role.Measure 1 ss ++ picks_from role.Attribute 1 ss

-- a row for each tuple
abbrev pub joined_rows : Listed → List DataSet → List Pick → List ℕ → List Row
joined_rows lead ds identifiers tuples = map (picked (lead ∷ map table_of ds) (picks_behind identifiers (map (λ d. d.structure) ds))) (pieces (length ds + 1) tuples)
