-- The names of a query that breaks no rule.
use Rattle.std.proofs.Common.{◌≡◌, false, [], ◌∷◌, ◌++◌, None, refl}
use Rattle.std.specs.List.{flat_map}
use Rattle.vtl_decimal.specs.Settings.{Settings}
use Rattle.sql_tree.specs.Trees.{QueryTree}
use Rattle.sql_check_parts.specs.Expressions.{site}
use Rattle.sql_check_parts.specs.Queries.{groups_of, item_breaks, maybe_condition, names_of, parts_break, query_breaks, query_names, scope_of, select_breaks, shared_kinds, sources_break, union_breaks}
use Rattle.sql_check_parts.specs.Windows.{column_breaks}
use Rattle.sql_check_parts.specs.Rules.{broken, least}
use Rattle.sql_check_parts.specs.Scopes.{Tables, repeats}
use Rattle.sql_check_parts.specs.declared.rules.SqlRule.TheVariants as rule
use Rattle.sql_check_parts.proofs.Unbroken.{none_before, none_behind, none_least, unbroken}

-- where a query breaks no rule, its names differ
pub names_differ : (p : Settings) (tables : Tables) (q : QueryTree) → least (query_breaks p tables q) ≡ None → repeats (query_names q) ≡ false
names_differ p tables [] h = refl
names_differ p tables (s ∷ ss) h =
    let all = none_before (flat_map (select_breaks p tables) (s ∷ ss)) (union_breaks tables (query_names (s ∷ ss)) (shared_kinds tables (s ∷ ss)) (s ∷ ss)) (none_least (query_breaks p tables (s ∷ ss)) h) in
    let first = none_before (select_breaks p tables s) (flat_map (select_breaks p tables) ss) all in
    let at = site p tables (scope_of tables s) in
    let parts = none_behind (sources_break p tables s) (parts_break at s) first in
    let names = none_behind (maybe_condition at None s.condition ++ flat_map (column_breaks at.scope None) s.group ++ maybe_condition at (groups_of s) s.having ++ flat_map (item_breaks at (groups_of s)) s.items) (broken ((rule.MisnamedColumn, repeats (names_of s)) ∷ [])) parts in
    (unbroken rule.MisnamedColumn (repeats (names_of s)) [] names).0
