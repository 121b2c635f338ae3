-- The rules that selects and queries break, and the columns that a query gives.
use Rattle.std.specs.Prelude.{ℕ, Bool, false, not, ◌&&◌, ◌||◌, List, [], ◌∷◌, ◌++◌, map, fold, zip, length, nat_lt, Option, Some, None, is_some, option_and_then, if◌then◌else◌}
use Rattle.std.specs.Cmp.Lexicographic.{pointwise}
use Rattle.std.specs.List.{flat_map, list_all, list_any}
use Rattle.std.specs.Map.{keys_of}
use Rattle.std.specs.Option.{is_none}
use Rattle.vtl_decimal.specs.Settings.{Settings}
use Rattle.vtl_cell.specs.ScalarKinds.{shared_kind}
use Rattle.vtl_cell.specs.declared.kind.Kind.{Kind}
use Rattle.vtl_cell.specs.Literals.{is_null_kind}
use Rattle.sql_tree.specs.Trees as tree
use Rattle.sql_tree.specs.Trees.{Text, Exp, ItemTree, JoinTree, QueryTree, SelectTree, ValueTree}
use Rattle.sql_tree.specs.declared.parts.Source.{Source}
use Rattle.sql_check_parts.specs.Expressions.{Site, breaks, condition_breaks, has_aggregate, site}
use Rattle.sql_check_parts.specs.Kinds.{kind_in}
use Rattle.sql_check_parts.specs.Rules.{broken}
use Rattle.vtl_text.specs.Texts.{same_text}
use Rattle.sql_check_parts.specs.Scopes.{Columns, Grouping, Scope, Tables, columns_of, grouping_of, is_among, is_empty, lacks_names, misnames_series, or_null, repeats, with_source}
use Rattle.sql_check_parts.specs.Windows.{column_breaks, window_breaks, window_kind}
use Rattle.sql_check_parts.specs.declared.limits.TheConstants.{MOST_COLUMNS}
use Rattle.sql_check_parts.specs.declared.rules.SqlRule.{SqlRule}
use Rattle.sql_check_parts.specs.declared.rules.SqlRule.TheVariants as rule

-- ---- conditions

abbrev pub condition_at : Site → Option Grouping → Exp → List SqlRule
condition_at at g e = breaks at g e ++ condition_breaks (kind_in at.scope e)

abbrev pub maybe_condition : Site → Option Grouping → Option Exp → List SqlRule
maybe_condition at g None = []
maybe_condition at g (Some e) = condition_at at g e

-- ---- sources

-- a source: its table is known, no source before it has its alias, and a SERIES fits its table
abbrev pub source_breaks : Tables → Scope → Source → List SqlRule
source_breaks tables before s =
    broken ((rule.UnknownTable, is_none (columns_of tables s.table))
    ∷ (rule.MisnamedTable, is_among s.alias (keys_of before))
    ∷ (rule.MisnamedSeries, misnames_series tables s) ∷ [])

abbrev pub join_source : JoinTree → Source
join_source (tree.on kind s e) = s
join_source (tree.cross s) = s

-- the condition of a join names the sources up to its own
abbrev pub join_condition : Site → JoinTree → List SqlRule
join_condition at (tree.on kind s e) = condition_at at None e
join_condition at (tree.cross s) = []

abbrev pub join_breaks : Settings → Tables → Scope → JoinTree → List SqlRule
join_breaks p tables before j =
    source_breaks tables before (join_source j) ++ join_condition (site p tables (with_source tables before (join_source j))) j

-- joins from the left, behind the sources before them
abbrev pub joins_break : Settings → Tables → Scope → List JoinTree → List SqlRule
joins_break p tables before [] = []
joins_break p tables before (j ∷ js) = join_breaks p tables before j ++ joins_break p tables (with_source tables before (join_source j)) js

abbrev pub joined_scope : Tables → Scope → List JoinTree → Scope
joined_scope tables before [] = before
joined_scope tables before (j ∷ js) = joined_scope tables (with_source tables before (join_source j)) js

abbrev pub first_scope : Tables → SelectTree → Scope
first_scope tables s = with_source tables [] s.source

abbrev pub scope_of : Tables → SelectTree → Scope
scope_of tables s = joined_scope tables (first_scope tables s) s.joins

-- all sources of a select, from the left
abbrev pub all_sources : SelectTree → List Source
all_sources s = s.source ∷ map join_source s.joins

-- whether a SERIES of the select names what its table does not have
abbrev pub has_unnamed : Tables → SelectTree → Bool
has_unnamed tables s = list_any (lacks_names tables) (all_sources s)

abbrev pub sources_break : Settings → Tables → SelectTree → List SqlRule
sources_break p tables s = source_breaks tables [] s.source ++ joins_break p tables (first_scope tables s) s.joins

-- ---- groups

abbrev pub value_aggregates : ValueTree → Bool
value_aggregates (tree.expression e) = has_aggregate e
value_aggregates (tree.window w) = false

abbrev pub item_aggregates : ItemTree → Bool
item_aggregates i = value_aggregates i.value

-- a select is grouped where it has GROUP BY or HAVING, or an aggregate in an item
abbrev pub is_grouped : SelectTree → Bool
is_grouped s = not (is_empty s.group) || (is_some s.having || list_any item_aggregates s.items)

-- the columns of GROUP BY, where the select is grouped
abbrev pub groups_of : SelectTree → Option Grouping
groups_of s = if is_grouped s then Some (grouping_of s.group) else None

-- ---- items

abbrev pub item_name : ItemTree → Text
item_name i = i.name

abbrev pub names_of : SelectTree → List Text
names_of s = map item_name s.items

abbrev pub value_kind : Scope → ValueTree → Kind
value_kind scope (tree.expression e) = kind_in scope e
value_kind scope (tree.window w) = window_kind scope w

abbrev pub item_kind : Scope → ItemTree → Kind
item_kind scope i = value_kind scope i.value

abbrev pub kinds_of : Tables → SelectTree → List Kind
kinds_of tables s = map (item_kind (scope_of tables s)) s.items

abbrev pub value_breaks : Site → Option Grouping → ValueTree → List SqlRule
value_breaks at g (tree.expression e) = breaks at g e
value_breaks at g (tree.window w) = window_breaks at.settings at.scope g w

abbrev pub item_breaks : Site → Option Grouping → ItemTree → List SqlRule
item_breaks at g i = value_breaks at g i.value

-- ---- selects

-- the parts of a select that see all its sources; the names of its items differ
abbrev pub parts_break : Site → SelectTree → List SqlRule
parts_break at s =
    maybe_condition at None s.condition
    ++ flat_map (column_breaks at.scope None) s.group
    ++ maybe_condition at (groups_of s) s.having
    ++ flat_map (item_breaks at (groups_of s)) s.items
    ++ broken ((rule.MisnamedColumn, repeats (names_of s)) ∷ [])

abbrev pub select_breaks : Settings → Tables → SelectTree → List SqlRule
select_breaks p tables s = sources_break p tables s ++ parts_break (site p tables (scope_of tables s)) s

-- ---- queries

-- the kinds that columns share with those of one more select, by their places
abbrev pub beside : List (Option Kind) → List Kind → List (Option Kind)
beside [] kinds = []
beside (c ∷ cs) [] = c ∷ cs
beside (c ∷ cs) (kind ∷ kinds) = option_and_then (λ shared. shared_kind shared kind) c ∷ beside cs kinds

-- the kinds that the items of all selects share, by their places
abbrev pub shared_kinds : Tables → QueryTree → List (Option Kind)
shared_kinds tables [] = []
shared_kinds tables (s ∷ ss) = fold (λ shared other. beside shared (kinds_of tables other)) (map Some (kinds_of tables s)) ss

abbrev pub query_names : QueryTree → List Text
query_names [] = []
query_names (s ∷ ss) = names_of s

-- the columns of a query: the names of the first select, and the kinds that all selects share
abbrev pub query_columns : Tables → QueryTree → Columns
query_columns tables q = zip (query_names q) (map or_null (shared_kinds tables q))

abbrev pub same_names : List Text → List Text → Bool
same_names = pointwise same_text

abbrev pub lacks_kind : Option Kind → Bool
lacks_kind kind = is_null_kind (or_null kind)

-- the most columns of a query
abbrev pub most_columns : ℕ
most_columns = MOST_COLUMNS

-- An item is null alone. What a SERIES names that its table does not have is of no kind, and items of it are not null: so this is
-- not asked where one does.
abbrev pub has_null_column : (unnamed : Bool) → List (Option Kind) → Bool
has_null_column unnamed kinds = not unnamed && list_any lacks_kind kinds

-- the selects: they have the same names, and items of one place share a kind, which is not that of null alone; there are not too
-- many items
abbrev pub union_breaks : Tables → List Text → List (Option Kind) → QueryTree → List SqlRule
union_breaks tables names kinds q =
    broken ((rule.UnlikeSelects, not (list_all (λ s. same_names names (names_of s)) q) || list_any is_none kinds)
    ∷ (rule.NullColumn, has_null_column (list_any (has_unnamed tables) q) kinds)
    ∷ (rule.CodesOrCount, nat_lt most_columns (length names)) ∷ [])

abbrev pub query_breaks : Settings → Tables → QueryTree → List SqlRule
query_breaks p tables q = flat_map (select_breaks p tables) q ++ union_breaks tables (query_names q) (shared_kinds tables q) q
