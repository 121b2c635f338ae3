-- The selects from one table, as they are written: an item of the operand, the points of a computed item, and no points.
use Rattle.std.proofs.Common.{◌≡◌, Bool, true, false, cond, List, [], ◌∷◌, ◌++◌, map, Some, None, refl, ap, ◌∙◌}
use Rattle.std.proofs.lemmas.List.{map-append}
use Rattle.vtl_decimal.specs.Settings.{Settings}
use Rattle.vtl_cell.specs.declared.cell.Cell.TheVariants as c
use Rattle.vtl_syntax.specs.declared.statements.HierRule.{HierRule}
use Rattle.vtl_tree.specs.Columns.{column_named, columns_named, identifiers_of}
use Rattle.vtl_tree.specs.CompExp.{CompExp, const}
use Rattle.vtl_tree.specs.RuleItems.{left_item}
use Rattle.vtl_tree.specs.Structure.{columns_of, same_name}
use Rattle.vtl_tree.specs.declared.structure.Component.{Component}
use Rattle.vtl_tree.specs.declared.structure.Structure.{Structure}
use Rattle.vtl_meaning.specs.Turned.{other_identifiers}
use Rattle.vtl_rulings.specs.HierarchyChecks.{Ruled}
use Rattle.sql_tree.specs.Trees as tree
use Rattle.sql_tree.specs.Trees.{Exp, Text}
use Rattle.sql_tree.specs.declared.parts.Constant.TheVariants as constant
use Rattle.expressions_to_sql.specs.ToSql.{to_sql}
use Rattle.selects_to_sql.specs.Items.{first_column, from_one}
use Rattle.selects_to_sql.specs.NamedItems.{own_columns}
use Rattle.selects_to_sql.specs.Queries.{condition_for, first_alias, items_as, of_one}
use Rattle.selects_to_sql.proofs.NamedItems.{own_written}
use Rattle.hierarchies_to_sql.specs.ComputedTables.{no_points_query, points_exps, points_select}
use Rattle.hierarchies_to_sql.specs.ItemTables.{Tables, is_item, item_exps, item_query, item_structure, key_exp}
use Rattle.hierarchies_to_sql.specs.RuleItems.{item_as, key_as, keys_as, true_as}

module _ (p : Settings) (h : Ruled) (a : Structure) where
  abbrev others : List Component
  others = other_identifiers h.id a

  items_written : map (to_sql p of_one) (item_exps h a) ≡ own_columns others ++ (first_column h.measure ∷ true_as ∷ [])
  items_written =
      map-append (to_sql p of_one) (columns_named (columns_of a) others) (column_named (columns_of a) h.measure ∷ const (c.Bool true) ∷ [])
      ∙ ap (λ l. l ++ (first_column h.measure ∷ true_as ∷ [])) (own_written p (columns_of a) others)

  pub item_written : (item x : Text) → item_query p h a item x ≡ item_as h others (columns_of (item_structure h a)) item x ∷ []
  item_written item x = ap (λ es. from_one (items_as es (columns_of (item_structure h a))) (condition_for p of_one (Some (is_item h a item))) x ∷ []) items_written

  -- ---- the points of a computed item

  key_written : (columns : List Component) (item : Text) (y : Component) → to_sql p of_one (key_exp h.id columns item y) ≡ key_as h.id first_alias item y
  key_written columns item y = go (same_name y.name h.id)
    where
      go : (b : Bool) → to_sql p of_one (cond b (const (c.Text item)) (column_named columns y.name)) ≡ cond b (tree.constant (constant.Text item)) (first_column y.name)
      go true = refl
      go false = refl

  keys_written : (columns : List Component) (item : Text) (ys : List Component) → map (to_sql p of_one) (map (key_exp h.id columns item) ys) ≡ keys_as h.id first_alias item ys
  keys_written columns item [] = refl
  keys_written columns item (y ∷ ys) =
      ap (λ e. e ∷ map (to_sql p of_one) (map (key_exp h.id columns item) ys)) (key_written columns item y) ∙ ap (λ l. key_as h.id first_alias item y ∷ l) (keys_written columns item ys)

  pub points_written : (s : Structure) (tables : Tables) (r : HierRule) → points_select p h a s tables r ≡ from_one (items_as (keys_as h.id first_alias (left_item r) (identifiers_of a) ++ (first_column h.measure ∷ [])) (columns_of s)) None (tables (left_item r))
  points_written s tables r =
      let columns = columns_of (item_structure h a) in
      let keys = map (key_exp h.id columns (left_item r)) (identifiers_of a) in
      ap (λ es. from_one (items_as es (columns_of s)) None (tables (left_item r)))
      (map-append (to_sql p of_one) keys (column_named columns h.measure ∷ [])
      ∙ ap (λ l. l ++ (first_column h.measure ∷ [])) (keys_written columns (left_item r) (identifiers_of a)))

pub no_points_written : (p : Settings) (a s : Structure) (x : Text) → no_points_query p a s x ≡ from_one (items_as (own_columns (columns_of s)) (columns_of s)) (Some (tree.constant constant.False)) x ∷ []
no_points_written p a s x = ap (λ es. from_one (items_as es (columns_of s)) (Some (tree.constant constant.False)) x ∷ []) (own_written p (columns_of a) (columns_of s))
