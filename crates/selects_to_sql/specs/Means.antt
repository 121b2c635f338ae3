-- What it is for queries and tables to mean data sets and expressions on them.
use Rattle.std.specs.Prelude.{◌≡◌, ◌⊎◌, ℕ, ◌+◌, ◌<◌, false, List, [], ◌∷◌, ◌++◌, length, Ok, Err, Some}
use Rattle.std.specs.List.{AllByRecursion}
use Rattle.std.specs.Map.{lookup}
use Rattle.vtl_cell.specs.Outcome.{Outcome}
use Rattle.vtl_cell.specs.Outcomes.{Same}
use Rattle.vtl_lists.specs.Perm.{Perm}
use Rattle.vtl_cell.specs.Row.{Row}
use Rattle.vtl_decimal.specs.Settings.{Settings}
use Rattle.vtl_text.specs.Texts.{same_text}
use Rattle.vtl_tree.specs.Environment.{DataSet, Environment, known_in, points_named}
use Rattle.vtl_tree.specs.Structure.{columns_of, same_name}
use Rattle.vtl_tree.specs.declared.structure.Structure.{Structure}
use Rattle.sql_tree.specs.Formed.{IsName, IsQuery}
use Rattle.sql_tree.specs.Trees.{QueryTree, Text}
use Rattle.sql_check_parts.specs.Queries.{query_columns}
use Rattle.sql_check_parts.specs.Scopes.{Tables}
use Rattle.sql_check_laws.specs.Selects.{IsQueryWhole}
use Rattle.sql_meaning.specs.Scripts.{Data, base_of, fault_name, tables_in}
use Rattle.sql_meaning.specs.Selects.{query_value}
use Rattle.selects_to_sql.specs.Runs.{AreLawful, IsTable, entries, printable_depth, run}
use Rattle.selects_to_sql.specs.Tables.{Made, Sources, Table, numbered, table_of}

-- ---- queries

-- a query over these tables breaks no rule and can be printed, and gives the columns of the structure
pub record IsQueryFor (p : Settings) (given : Tables) (s : Structure) (q : QueryTree) : Type 0 where
  pub columns : query_columns given q ≡ entries (columns_of s)
  pub typed : IsQueryWhole p given q
  pub printed : IsQuery printable_depth q

-- and its rows are these up to order, or it has this fault
pub record Means (p : Settings) (before : Data) (q : QueryTree) (s : Structure) (m : Outcome (List Row)) : Type 0 where
  pub query : IsQueryFor p (tables_in before) s q
  pub rows : Same (query_value (base_of p before) q) m

-- ---- tables that stand for points

pub record StandsAs (now : Data) (name : Text) (s : Structure) (points : List Row) : Type 0 where
  pub named : IsName name
  pub rows : List Row
  pub table : IsTable now name s rows
  pub same : Perm rows points

-- one for each data set
abbrev pub AreThere : Data → List Text → List DataSet → Type 0
AreThere now [] [] = Unit {0}
AreThere now (x ∷ xs) (d ∷ ds) = StandsAs now x d.structure d.points × AreThere now xs ds
AreThere now xs ds = ⊥

-- each data set of an environment has a table
abbrev pub Stands : Data → Environment → Type 0
Stands before env = (name : List ℕ) (s : Structure) → lookup (same_name name) (known_in env) ≡ Some s → StandsAs before name s (points_named name env)

-- ---- names

-- the result's name with a number below this one
abbrev pub IsNumbered : Text → ℕ → Text → Type 0
IsNumbered result next name = (j : ℕ) × (name ≡ numbered result j) × (j < next)

-- no table belongs to the statement of this result
abbrev pub IsApartFrom : Text → Data → Type 0
IsApartFrom result before = AllByRecursion (λ t. same_text result (fault_name t.0) ≡ false) before

-- a table of another statement, or of this one with a number below this one
abbrev pub IsEarlier : Text → ℕ → Text → Type 0
IsEarlier result n name = (same_text result (fault_name name) ≡ false) ⊎ IsNumbered result n name

abbrev pub AreEarlier : Text → ℕ → Data → Type 0
AreEarlier result n before = AllByRecursion (λ t. IsEarlier result n t.0) before

-- ---- tables behind others

-- they leave those before as they are, break no rule, and are tables of the statement, one for each number
pub record Extends (p : Settings) (before : Data) (result : Text) (n : ℕ) (tables : List Table) (next : ℕ) : Type 0 where
  pub more : Data
  pub ran : run p before tables ≡ Ok (before ++ more)
  pub lawful : AreLawful p (tables_in before) tables
  pub new : AllByRecursion (λ t. IsNumbered result next t.0) more
  pub counted : next ≡ n + length tables

-- the tables of an expression: its query means its points, or the first table that has a fault has the expression's, with the
-- result's name
abbrev pub NodeGives : Settings → Data → (result : Text) → ℕ → Made → Structure → Outcome (List Row) → Type 0
NodeGives p before result n m s (Ok points) = (x : Extends p before result n m.tables m.next) × Means p (before ++ x.more) m.query s (Ok points)
NodeGives p before result n m s (Err f) = (name : Text) → fault_name name ≡ result → run p before (m.tables ++ table_of name m.query ∷ []) ≡ Err (f, result)

-- the tables of operands stand for their data sets, or the first that has a fault has the first operand's that has one
abbrev pub SourcesGive : Settings → Data → (result : Text) → ℕ → Sources → Outcome (List DataSet) → Type 0
SourcesGive p before result n os (Ok ds) = (x : Extends p before result n os.tables os.next) × AreThere (before ++ x.more) os.names ds
SourcesGive p before result n os (Err f) = run p before os.tables ≡ Err (f, result)
