-- A table of each item, with its value at each combination of the other identifiers where it is there, and the combinations.
use Rattle.std.specs.Prelude.{ℕ, cond, true, List, [], ◌∷◌, ◌++◌, map, Some}
use Rattle.vtl_decimal.specs.Settings.{Settings}
use Rattle.vtl_cell.specs.declared.cell.Cell.TheVariants as c
use Rattle.vtl_cell.specs.declared.kind.Kind.TheVariants as k
use Rattle.vtl_tree.specs.Columns.{column_behind, column_named, columns_named}
use Rattle.vtl_tree.specs.CompExp.{CompExp, const}
use Rattle.vtl_tree.specs.Measures.{made}
use Rattle.vtl_tree.specs.Structure.{columns_of, same_name}
use Rattle.vtl_tree.specs.declared.structure.Component.{Component}
use Rattle.vtl_tree.specs.declared.structure.Role.TheVariants as role
use Rattle.vtl_tree.specs.declared.structure.Structure.{Structure}
use Rattle.vtl_meaning.specs.Turned.{other_identifiers}
use Rattle.vtl_rulings.specs.HierarchyChecks.{Ruled}
use Rattle.sql_tree.specs.Trees.{QueryTree, Text}
use Rattle.joins_to_sql.specs.FullJoins.{key_structure}
use Rattle.joins_to_sql.specs.JoinTables.{keys_of}
use Rattle.joins_to_sql.specs.Joins.{Placed, placed_from, width_of}
use Rattle.selects_to_sql.specs.Queries.{equal, points_query}
use Rattle.selects_to_sql.specs.Tables.{Sources, and_then, by_names, over, stored, with_one}
use Rattle.hierarchies_to_sql.specs.SideExps.{Leaf}

-- ---- combinations

-- the identifiers but that of the items
abbrev pub others_structure : Ruled → Structure → Structure
others_structure h a = record { components = other_identifiers h.id a }

-- of the table of combinations; where there are no other identifiers it has one column that is always true
abbrev pub combinations_structure : Ruled → Structure → Structure
combinations_structure h a = key_structure (others_structure h a)

-- those of the points of an operand in a table of their own, and each of them once in another one
abbrev pub combinations_of : Settings → (result : Text) → Ruled → Structure → (tables : List Text) → ℕ → Sources
combinations_of p r h a xs n = keys_of p r (others_structure h a) (a ∷ []) xs n

-- ---- items

-- whether an item is there, under the name of the identifier of the items, which the table of one item does not have
abbrev pub there : Ruled → Component
there h = made h.id role.Measure k.Bool

abbrev pub item_structure : Ruled → Structure → Structure
item_structure h a = record { components = other_identifiers h.id a ++ (made h.measure role.Measure h.kind ∷ there h ∷ []) }

abbrev pub item_exps : Ruled → Structure → List CompExp
item_exps h a = columns_named (columns_of a) (other_identifiers h.id a) ++ (column_named (columns_of a) h.measure ∷ const (c.Bool true) ∷ [])

abbrev pub is_item : Ruled → Structure → (item : List ℕ) → CompExp
is_item h a item = equal (column_named (columns_of a) h.id) (const (c.Text item))

abbrev pub item_query : Settings → Ruled → Structure → (item table : Text) → QueryTree
item_query p h a item x = points_query p (item_exps h a) (item_structure h a) (Some (is_item h a item)) x

-- a table for each item
abbrev pub item_tables : Settings → (result : Text) → Ruled → Structure → (tables : List Text) → (items : List (List ℕ)) → ℕ → Sources
item_tables p r h a xs [] n = by_names [] n
item_tables p r h a xs (item ∷ items) n = and_then (stored r (over (by_names xs n) (with_one (item_query p h a item)))) (item_tables p r h a xs items)

-- ---- the table of each item

abbrev pub Tables : Type 0
Tables = List ℕ → Text

abbrev pub no_tables : Tables
no_tables item = []

-- the tables with one more
abbrev pub with_table : List ℕ → Text → Tables → Tables
with_table name x tables item = cond (same_name name item) x (tables item)

-- one for each
abbrev pub tables_by : List (List ℕ) → List Text → Tables
tables_by (item ∷ items) (x ∷ xs) = with_table item x (tables_by items xs)
tables_by items xs = no_tables

-- ---- items beside the combinations

-- an item's table behind so many columns
abbrev pub leaf_at : Ruled → Placed → Leaf
leaf_at h o = record { value = column_behind o.before (columns_of o.structure) h.measure; there = column_behind o.before (columns_of o.structure) h.id }

-- one for each item
abbrev pub structures_for : Ruled → Structure → (items : List (List ℕ)) → List Structure
structures_for h a items = map (λ item. item_structure h a) items

-- their tables one behind the other, behind the combinations
abbrev pub leaves_for : Ruled → Structure → (items : List (List ℕ)) → List Leaf
leaves_for h a items = map (leaf_at h) (placed_from (width_of (combinations_structure h a)) (structures_for h a items))

-- an identifier of an item's point, where the others stand in these columns
abbrev pub key_exp : (id : List ℕ) → List Component → (item : List ℕ) → Component → CompExp
key_exp id columns item y = cond (same_name y.name id) (const (c.Text item)) (column_named columns y.name)
