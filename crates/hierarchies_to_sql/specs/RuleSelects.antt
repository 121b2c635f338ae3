-- The select of a rule: the combinations, each with what there is of the rule's items, where the rule has a point.
use Rattle.std.specs.Prelude.{true, List, [], ◌∷◌, ◌++◌, map, Option}
use Rattle.vtl_decimal.specs.Settings.{Settings}
use Rattle.vtl_cell.specs.declared.cell.Cell.TheVariants as c
use Rattle.vtl_syntax.specs.declared.statements.HierRule.{HierRule}
use Rattle.vtl_syntax.specs.declared.word_groups.CheckOut.{CheckOut}
use Rattle.vtl_syntax.specs.declared.word_groups.Mode.{Mode}
use Rattle.vtl_tree.specs.Columns.{columns_named, identifiers_of}
use Rattle.vtl_tree.specs.CompExp.{CompExp, const}
use Rattle.vtl_tree.specs.RuleItems.{items_of, left_item, right_items}
use Rattle.vtl_tree.specs.Structure.{columns_of}
use Rattle.vtl_tree.specs.declared.structure.Structure.{Structure}
use Rattle.vtl_meaning.specs.Turned.{other_identifiers}
use Rattle.vtl_rulings.specs.HierarchyChecks.{Ruled, SidedRule, sided_rules}
use Rattle.sql_tree.specs.Trees.{QueryTree, SelectTree, Text}
use Rattle.sql_tree.specs.declared.word_groups.JoinKind.TheVariants as joining
use Rattle.joins_to_sql.specs.Joins.{chain_select}
use Rattle.hierarchies_to_sql.specs.ItemTables.{Tables, combinations_structure, item_structure, key_exp, leaves_for, structures_for}
use Rattle.hierarchies_to_sql.specs.SideExps.{appears_exp, check_parts, check_where, right_exp}

-- the combinations, each with what there is in the tables of some items
abbrev pub beside_items : Settings → Ruled → Structure → (keys : Text) → (tables : List Text) → List CompExp → Structure → Option CompExp → SelectTree
beside_items p h a keys xs es s condition = chain_select p joining.Left (columns_of (combinations_structure h a)) identifiers_of (structures_for h a xs) es s condition keys xs

module _ (p : Settings) (h : Ruled) (a : Structure) (keys : Text) (tables : Tables) where
  -- ---- `check_hierarchy`

  abbrev pub checked_exps : CheckOut → Mode → SidedRule → List CompExp
  checked_exps o m rule =
      map (key_exp h.id (columns_of (combinations_structure h a)) (left_item rule.1)) (identifiers_of a) ++ (const (c.Text rule.0) ∷ check_parts p o m h.kind rule.1 (leaves_for h a (items_of rule.1)))

  abbrev pub checked_select : CheckOut → Mode → Structure → SidedRule → SelectTree
  checked_select o m s rule = beside_items p h a keys (map tables (items_of rule.1)) (checked_exps o m rule) s (check_where o m h.kind rule.1 (leaves_for h a (items_of rule.1)))

  -- rule after rule
  abbrev pub checked_query : CheckOut → Mode → List HierRule → Structure → QueryTree
  checked_query o m rules s = map (checked_select o m s) (sided_rules rules)

  -- ---- `hierarchy`: a table of the shape of an item's

  abbrev pub computed_exps : Mode → HierRule → List CompExp
  computed_exps m r = columns_named (columns_of (combinations_structure h a)) (other_identifiers h.id a) ++ (right_exp m h.kind r (leaves_for h a (right_items r)) ∷ const (c.Bool true) ∷ [])

  abbrev pub computed_query : Mode → HierRule → QueryTree
  computed_query m r = beside_items p h a keys (map tables (right_items r)) (computed_exps m r) (item_structure h a) (appears_exp m h.kind (leaves_for h a (right_items r))) ∷ []
