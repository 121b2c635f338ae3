-- The selects of hierarchical rules, as they are written.
use Rattle.std.specs.Prelude.{◌≡◌, ◌+◌, ℕ, zero, suc, cond, List, [], ◌∷◌, ◌++◌, length, map, unwrap_or, Option, Some, None}
use Rattle.std.specs.List.{list_any}
use Rattle.std.specs.Map.{keys_of, lookup}
use Rattle.vtl_decimal.specs.Settings.{Settings}
use Rattle.vtl_cell.specs.declared.operator.ScalarOp.TheVariants as op
use Rattle.vtl_syntax.specs.declared.statements.HierRule.{HierRule}
use Rattle.vtl_syntax.specs.declared.word_groups.CheckOut.{CheckOut}
use Rattle.vtl_syntax.specs.declared.word_groups.Mode.{Mode}
use Rattle.vtl_text.specs.Texts.{same_text}
use Rattle.vtl_tree.specs.Checks.{with_ids}
use Rattle.vtl_tree.specs.RuleItems.{items_of, left_item, right_items}
use Rattle.vtl_tree.specs.Names.{is_among}
use Rattle.vtl_tree.specs.Structure.{columns_of, same_name}
use Rattle.vtl_tree.specs.declared.structure.Structure.{Structure}
use Rattle.vtl_meaning.specs.Turned.{other_identifiers}
use Rattle.vtl_tree.specs.declared.structure.Component.{Component}
use Rattle.vtl_rulings.specs.HierarchyChecks.{Ruled, SidedRule}
use Rattle.sql_tree.specs.Trees as tree
use Rattle.sql_tree.specs.Trees.{Exp, JoinTree, QueryTree, SelectTree, Text}
use Rattle.sql_tree.specs.declared.parts.Constant.TheVariants as constant
use Rattle.sql_tree.specs.declared.word_groups.JoinKind.TheVariants as joining
use Rattle.joins_to_sql.specs.JoinItems.{column_from, tied_with}
use Rattle.selects_to_sql.specs.Items.{all_of, first_column, from_one}
use Rattle.selects_to_sql.specs.NamedItems.{own_columns}
use Rattle.selects_to_sql.specs.Tables.{numbered}
use Rattle.selects_to_sql.specs.Queries.{alias_of, first_alias, items_as, select_as, source_as}
use Rattle.rules_to_sql.specs.Items.{text_as}
use Rattle.hierarchies_to_sql.specs.ItemTables.{Tables, item_structure}
use Rattle.hierarchies_to_sql.specs.SideItems.{LeafAs, appears_as, check_parts_as, check_where_as, either_of, filled_as, leaf_under, right_as}
use Rattle.hierarchies_to_sql.specs.declared.sides.Measured.{Measured}

-- ---- items of an operand

abbrev pub ruled_of : Measured → Ruled
ruled_of m = record { id = m.id.now; measure = m.measure.now; kind = m.kind }

abbrev pub leaf_of : Measured → (alias : Text) → LeafAs
leaf_of m alias = leaf_under (ruled_of m) alias

abbrev pub leaves_of : Measured → (aliases : List Text) → List LeafAs
leaves_of m aliases = map (leaf_of m) aliases

-- the table of each item, by names
abbrev pub tables_in : List (List ℕ × Text) → Tables
tables_in named item = unwrap_or (lookup (same_text item) named) []

-- ---- tables of items by their numbers

-- the table of the first such item
abbrev pub found_by : (items : List (List ℕ)) → (tables : List Text) → (item : List ℕ) → Option Text
found_by (name ∷ names) (x ∷ xs) item = cond (same_name name item) (Some x) (found_by names xs item)
found_by names xs item = None

-- the one that was found, and otherwise that of a further item
abbrev pub found_else : Option Text → (name : List ℕ) → (table : Text) → (item : List ℕ) → Option Text
found_else (Some y) name x item = Some y
found_else None name x item = cond (same_name name item) (Some x) None

-- the names of so many tables, numbered from here
abbrev pub numbered_from : (result : Text) → ℕ → List (List ℕ) → List Text
numbered_from r n [] = []
numbered_from r n (item ∷ items) = numbered r n ∷ numbered_from r (n + 1) items

-- ---- sources

-- the aliases of so many sources, numbered from here
abbrev pub aliases_from : ℕ → (count : ℕ) → List Text
aliases_from i zero = []
aliases_from i (suc n) = alias_of i ∷ aliases_from (suc i) n

-- a table where these columns have the values of the first source
abbrev pub join_as : (first : Text) → List Component → (alias table : Text) → JoinTree
join_as first ys alias x = tree.on joining.Left (source_as alias x) (all_of (map (tied_with first alias) ys))

abbrev pub joins_as : (first : Text) → List Component → (aliases tables : List Text) → List JoinTree
joins_as first ys (alias ∷ aliases) (x ∷ xs) = join_as first ys alias x ∷ joins_as first ys aliases xs
joins_as first ys aliases xs = []

abbrev pub beside_as : (first : Text) → List Component → (keys : Text) → (aliases tables : List Text) → List Exp → (columns : List Component) → Option Exp → SelectTree
beside_as first ys keys aliases xs es columns condition = select_as (items_as es columns) (source_as first keys) (joins_as first ys aliases xs) condition

-- ---- items of selects

abbrev pub key_as : (id source item : Text) → Component → Exp
key_as id source item y = cond (same_name y.name id) (text_as item) (column_from source y)

abbrev pub keys_as : (id source item : Text) → List Component → List Exp
keys_as id source item ys = map (key_as id source item) ys

abbrev pub true_as : Exp
true_as = tree.constant constant.True

-- the value of an item in its table
abbrev pub item_as : Ruled → (others columns : List Component) → (item table : Text) → SelectTree
item_as h ys columns item x =
    from_one (items_as (own_columns ys ++ (first_column h.measure ∷ true_as ∷ [])) columns) (Some (tree.binary (first_column h.id) op.Equal (text_as item))) x

-- ---- rules

module _ (p : Settings) (h : Ruled) (m : Mode) (first keys : Text) (others : List Component) (tables : Tables) where
  abbrev pub checked_select_as : CheckOut → (ids columns : List Component) → SidedRule → SelectTree
  checked_select_as o ids columns rule =
      let names = items_of rule.1 in
      let aliases = aliases_from 1 (length names) in
      let leaves = map (leaf_under h) aliases in
      beside_as first others keys aliases (map tables names) (keys_as h.id first (left_item rule.1) ids ++ (text_as rule.0 ∷ check_parts_as p m h.kind rule.1 leaves o)) columns (check_where_as p m h.kind rule.1 leaves o)

  abbrev pub checked_selects_as : CheckOut → (ids columns : List Component) → ℕ → List HierRule → List SelectTree
  checked_selects_as o ids columns n rules = map (checked_select_as o ids columns) (with_ids (λ r. r.name) n rules)

  abbrev pub computed_as : (columns : List Component) → HierRule → SelectTree
  computed_as columns r =
      let names = right_items r in
      let aliases = aliases_from 1 (length names) in
      let leaves = map (leaf_under h) aliases in
      beside_as first others keys aliases (map tables names) (map (column_from first) others ++ (right_as p m h.kind r leaves ∷ true_as ∷ [])) columns (appears_as p m h.kind leaves)

-- ---- a computed item and the operand's

abbrev pub value_of_two_as : (made given : LeafAs) → Exp
value_of_two_as made given = tree.call op.ValueOr (tree.exp made.value (tree.exp given.value tree.no_exps))

abbrev pub one_there_as : (made given : LeafAs) → Exp
one_there_as made given = either_of (filled_as made) given.there

abbrev pub merged_as : Ruled → (first keys : Text) → (others columns : List Component) → (made given : Text) → SelectTree
merged_as h first keys others columns x y =
    let made = leaf_under h (alias_of 1) in
    let given = leaf_under h (alias_of 2) in
    beside_as first others keys (alias_of 1 ∷ alias_of 2 ∷ []) (x ∷ y ∷ []) (map (column_from first) others ++ (value_of_two_as made given ∷ true_as ∷ [])) columns (Some (one_there_as made given))

-- ---- the computed points

-- those of an item, from a table of its values
abbrev pub points_as : Ruled → (ids columns : List Component) → Tables → HierRule → SelectTree
points_as h ids columns tables r = from_one (items_as (keys_as h.id first_alias (left_item r) ids ++ (first_column h.measure ∷ [])) columns) None (tables (left_item r))

-- ---- the tables of rules, one after the other

-- The columns are those of the tables of an operand's items, beside these columns of the combinations, and these are the items that the
-- operand gives.
pub record IsShaped (h : Ruled) (ys zs : List Component) (named : List (Text × Unit {0})) (a : Structure) (items : List Text) : Type 0 where
  pub others : ys ≡ other_identifiers h.id a
  pub columns : zs ≡ columns_of (item_structure h a)
  pub given : (q : Text) → list_any (same_text q) (keys_of named) ≡ is_among q items
