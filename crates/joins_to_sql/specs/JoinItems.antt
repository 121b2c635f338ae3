-- Joins as they are written: operands under aliases, and what a select has of them.
use Rattle.std.specs.Prelude.{ℕ, suc, nat_lt, List, [], ◌∷◌, ◌++◌, map, Option, Some, None, if◌then◌else◌}
use Rattle.std.specs.List.{flat_map}
use Rattle.vtl_cell.specs.declared.operator.ScalarOp.TheVariants as op
use Rattle.vtl_tree.specs.Structure.{columns_of}
use Rattle.vtl_tree.specs.declared.structure.Component.{Component}
use Rattle.vtl_tree.specs.declared.structure.Structure.{Structure}
use Rattle.vtl_tree.specs.Columns.{common_identifiers, identifiers_of, measures_of}
use Rattle.vtl_meaning.specs.Made.{attributes_of}
use Rattle.sql_tree.specs.Trees as tree
use Rattle.sql_tree.specs.Trees.{Exp, JoinTree, QueryTree, Text}
use Rattle.sql_tree.specs.declared.parts.Column.{Column}
use Rattle.sql_tree.specs.declared.word_groups.JoinKind.{JoinKind}
use Rattle.sql_tree.specs.declared.word_groups.JoinKind.TheVariants as joining
use Rattle.expressions_to_sql.specs.ToSql.{column_of}
use Rattle.joins_to_sql.specs.declared.join_items.Picked.{Picked}
use Rattle.joins_to_sql.specs.declared.join_operands.Aliased as declared
use Rattle.selects_to_sql.specs.Items.{all_of}
use Rattle.selects_to_sql.specs.Queries.{alias_of, items_as, select_as, source_as}
use Rattle.joins_to_sql.specs.Joins.{without}

-- ---- operands

-- an operand: the alias of its source, the table that stands for it, and its structure
pub record Aliased : Type 0 where
  pub alias : Text
  pub table : Text
  pub structure : Structure

abbrev pub aliased_of : declared.Aliased → Aliased
aliased_of o = record { alias = o.alias; table = o.table; structure = o.structure.now }

abbrev pub aliased : ℕ → Structure → Text → Aliased
aliased n a x = record { alias = alias_of n; table = x; structure = a }

-- the number of the i-th operand, where the one at a place stands before all others
abbrev pub number_around : (place i : ℕ) → ℕ
number_around place i = if nat_lt i place then suc i else (if nat_lt place i then i else 0)

-- operands, of which the first is the i-th of all
abbrev pub aliased_around : (place i : ℕ) → List Structure → List Text → List Aliased
aliased_around place i (a ∷ ss) (x ∷ xs) = aliased (number_around place i) a x ∷ aliased_around place (suc i) ss xs
aliased_around place i ss xs = []

-- ---- columns

abbrev pub column_from : (alias : Text) → Component → Exp
column_from alias y = tree.column (column_of alias y.name)

-- some columns of an operand, and of all
abbrev pub columns_from : (Structure → List Component) → Aliased → List Exp
columns_from f o = map (column_from o.alias) (f o.structure)

abbrev pub columns_from_all : (Structure → List Component) → List Aliased → List Exp
columns_from_all f os = flat_map (columns_from f) os

-- behind some identifiers the measures of all operands, and then the attributes
abbrev pub joined_values : List Exp → List Aliased → List Exp
joined_values ids os = ids ++ columns_from_all measures_of os ++ columns_from_all attributes_of os

abbrev pub column_picked : Picked → Column
column_picked c = column_of c.alias.now c.name.now

abbrev pub picked_column : Picked → Exp
picked_column c = tree.column (column_picked c)

-- ---- joins

-- a column has the value that the column of its name has in the source of another alias
abbrev pub tied_with : (first alias : Text) → Component → Exp
tied_with first alias y = tree.binary (column_from alias y) op.Equal (column_from first y)

-- an operand where these columns have the values that they have in the first source
abbrev pub joined_on : JoinKind → (first : Text) → List Component → Aliased → JoinTree
joined_on kind first ys o = tree.on kind (source_as o.alias o.table) (all_of (map (tied_with first o.alias) ys))

-- an operand where its identifiers have the values that they have in the reference
abbrev pub joined_with : JoinKind → (reference : Aliased) → Aliased → JoinTree
joined_with kind r o = joined_on kind r.alias (common_identifiers r.structure o.structure) o

-- an operand where the identifiers of a table have the values that they have there
abbrev pub keyed_with : (keys : Aliased) → Aliased → JoinTree
keyed_with k o = joined_on joining.Left k.alias (common_identifiers o.structure k.structure) o

abbrev pub crossed_with : Aliased → JoinTree
crossed_with o = tree.cross (source_as o.alias o.table)

-- ---- queries

abbrev pub joined_query : List Exp → Structure → (first : Aliased) → List JoinTree → QueryTree
joined_query es s first joins = select_as (items_as es (columns_of s)) (source_as first.alias first.table) joins None ∷ []

-- from the operand at a place
abbrev pub referred_query : JoinKind → (place : ℕ) → List Aliased → Structure → Option Aliased → QueryTree
referred_query kind place os s None = []
referred_query kind place os s (Some r) = joined_query (joined_values (columns_from identifiers_of r) os) s r (map (joined_with kind r) (without place os))

abbrev pub crossed_query : List Aliased → Structure → QueryTree
crossed_query [] s = []
crossed_query (o ∷ os) s = joined_query (joined_values (columns_from_all identifiers_of (o ∷ os)) (o ∷ os)) s o (map crossed_with os)

-- from a table of identifiers
abbrev pub keyed_query : (keys : Aliased) → List Aliased → Structure → QueryTree
keyed_query k os s = joined_query (joined_values (columns_from identifiers_of k) os) s k (map (keyed_with k) os)
