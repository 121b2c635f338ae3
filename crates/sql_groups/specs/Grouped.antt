-- The groups of numbered rows.
use Rattle.std.specs.Prelude.{◌≡◌, ◌<◌, ℕ, List, [], ◌∷◌, map, length}
use Rattle.std.specs.List.{AllByRecursion}
use Rattle.vtl_cell.specs.Row.{Row}
use Rattle.vtl_rows.specs.Named.{NamedTables}
use Rattle.vtl_rows.specs.Places.{row_at}
use Rattle.vtl_rows.specs.Tables.{cells_at}
use Rattle.vtl_index.specs.Groups.{AreLeads, firsts, rows_led}
use Rattle.sql_meaning.specs.Groups.{keys_by, rows_with}
use Rattle.sql_groups.specs.declared.grouping.Layout.{Layout}
use Rattle.sql_groups.specs.declared.grouping.Layout.TheVariants.{Keyed, Whole}

-- the keys, and for each of them the numbers of its rows
pub record Grouped : Type 0 where
  pub keys : List Row
  pub numbers : List (List ℕ)

-- the rows with these numbers
abbrev pub rows_at : List Row → List ℕ → List Row
rows_at rows numbers = map (row_at rows) numbers

abbrev pub AreWithin : List Row → List ℕ → Type 0
AreWithin rows numbers = AllByRecursion (λ i. i < length rows) numbers

-- they are the groups of rows by their cells at these places
pub record AreGroups (places : List ℕ) (rows : List Row) (g : Grouped) : Type 0 where
  pub keys_are : g.keys ≡ keys_by places rows
  pub rows_are : map (rows_at rows) g.numbers ≡ map (rows_with places rows) g.keys
  pub within : AllByRecursion (AreWithin rows) g.numbers

-- ---- one group

-- all tables that the program holds, the key, and the rows
pub record Group : Type 0 where
  pub held : NamedTables
  pub key : Row
  pub rows : List Row

-- ---- as the code holds them

-- the groups of rows by their cells at these places, each known by its first row
abbrev pub groups_led : List ℕ → List Row → List ℕ → Grouped
groups_led places rows leads = record { keys = map (λ i. cells_at places (row_at rows i)) (firsts leads); numbers = map (rows_led leads) (firsts leads) }

abbrev pub grouped_in : List Row → Layout → Grouped
grouped_in rows (Whole numbers) = record { keys = [] ∷ []; numbers = numbers.items ∷ [] }
grouped_in rows (Keyed places groups) = groups_led places.items rows groups

-- each row has a lead, and leads are of groups
abbrev pub IsLaidOut : List Row → Layout → Type 0
IsLaidOut rows (Whole numbers) = Unit {0}
IsLaidOut rows (Keyed places groups) = (length groups ≡ length rows) × AreLeads groups
