-- The tables of `check_hierarchy`: the combinations, a table for each item, and a query with a select for each rule.
use Rattle.std.specs.Prelude.{ℕ, List, [], ◌∷◌}
use Rattle.std.specs.List.{flat_map}
use Rattle.vtl_decimal.specs.Settings.{Settings}
use Rattle.vtl_syntax.specs.declared.statements.HierRule.{HierRule}
use Rattle.vtl_syntax.specs.declared.word_groups.CheckOut.{CheckOut}
use Rattle.vtl_syntax.specs.declared.word_groups.Mode.{Mode}
use Rattle.vtl_tree.specs.RuleItems.{items_of}
use Rattle.vtl_tree.specs.Structure.{same_name}
use Rattle.vtl_tree.specs.declared.structure.Structure.{Structure}
use Rattle.vtl_tuples.specs.Keys.{each_once}
use Rattle.vtl_rulings.specs.HierarchyChecks.{Ruled}
use Rattle.sql_tree.specs.Trees.{QueryTree, Text}
use Rattle.selects_to_sql.specs.Tables.{Made, Sources, and_then, over}
use Rattle.hierarchies_to_sql.specs.ItemTables.{combinations_of, item_tables, tables_by}
use Rattle.hierarchies_to_sql.specs.RuleSelects.{checked_query}

-- the items of rules, each once
abbrev pub checked_items : List HierRule → List (List ℕ)
checked_items rules = each_once same_name (flat_map items_of rules)

-- the combinations of an operand, and a table for each item
abbrev pub sided : Settings → (result : Text) → Ruled → Structure → (items : List (List ℕ)) → (tables : List Text) → ℕ → Sources
sided p r h a items xs n = and_then (combinations_of p r h a xs n) (item_tables p r h a xs items)

-- of the first name, and of those behind it
abbrev pub with_behind : (Text → List Text → QueryTree) → List Text → QueryTree
with_behind q [] = []
with_behind q (x ∷ xs) = q x xs

abbrev pub check_hierarchy_made : Settings → (result : Text) → Ruled → Mode → CheckOut → List HierRule → (a s : Structure) → Sources → Made
check_hierarchy_made p r h m o rules a s os =
    let items = checked_items rules in
    over (and_then os (sided p r h a items os.names)) (with_behind (λ x. with_behind (λ keys xs. checked_query p h a keys (tables_by items xs) o m rules s)))
