-- Which selects and queries are typed: the rules read positively. A query that is whole has besides no column of null alone.
use Rattle.std.specs.Prelude.{◌≡◌, ◌≤◌, true, false, List, [], ◌∷◌, Option, None, IsSome, length}
use Rattle.std.specs.List.{AllByRecursion, list_any}
use Rattle.std.specs.Map.{keys_of}
use Rattle.vtl_decimal.specs.Settings.{Settings}
use Rattle.vtl_cell.specs.declared.kind.Kind.{Kind}
use Rattle.vtl_cell.specs.Literals.{is_null_kind}
use Rattle.sql_tree.specs.Trees as tree
use Rattle.sql_tree.specs.Trees.{Text, ItemTree, JoinTree, QueryTree, SelectTree, ValueTree}
use Rattle.sql_tree.specs.declared.parts.Source.{Source}
use Rattle.sql_check_parts.specs.Expressions.{Site, site}
use Rattle.sql_check_parts.specs.Queries.{first_scope, groups_of, join_source, lacks_kind, most_columns, names_of, query_names, same_names, scope_of, shared_kinds}
use Rattle.sql_check_parts.specs.Scopes.{Columns, Grouping, Scope, Tables, columns_of, fits_table, is_among, repeats, with_source}
use Rattle.sql_check_laws.specs.Fits.{Fits, IsCondition, IsMaybeCondition, IsSeen, IsWindowTyped}

-- ---- sources

-- a source: its table is known, no source before it has its alias, and a SERIES fits its table
abbrev pub IsSourceTyped : Tables → Scope → Source → Type 0
IsSourceTyped tables before s = IsSome (columns_of tables s.table) × (is_among s.alias (keys_of before) ≡ false) × (fits_table tables s ≡ true)

abbrev pub IsJoinCondition : Site → JoinTree → Type 0
IsJoinCondition at (tree.on kind s e) = IsCondition at None e
IsJoinCondition at (tree.cross s) = Unit {0}

-- joins from the left, each behind the sources before it; its condition sees the sources up to its own
abbrev pub AreJoinsTyped : Settings → Tables → Scope → List JoinTree → Type 0
AreJoinsTyped p tables before [] = Unit {0}
AreJoinsTyped p tables before (j ∷ js) =
    IsSourceTyped tables before (join_source j)
    × IsJoinCondition (site p tables (with_source tables before (join_source j))) j
    × AreJoinsTyped p tables (with_source tables before (join_source j)) js

-- ---- selects

abbrev pub IsValueTyped : Site → Option Grouping → ValueTree → Type 0
IsValueTyped at g (tree.expression e) = Fits at g e
IsValueTyped at g (tree.window w) = IsWindowTyped at.settings at.scope g w

abbrev pub IsItemTyped : Site → Option Grouping → ItemTree → Type 0
IsItemTyped at g i = IsValueTyped at g i.value

abbrev pub whole_site : Settings → Tables → SelectTree → Site
whole_site p tables s = site p tables (scope_of tables s)

pub record IsSelectTyped (p : Settings) (tables : Tables) (s : SelectTree) : Type 0 where
  pub source : IsSourceTyped tables [] s.source
  pub joins : AreJoinsTyped p tables (first_scope tables s) s.joins
  pub condition : IsMaybeCondition (whole_site p tables s) None s.condition
  pub group : AllByRecursion (IsSeen (scope_of tables s) None) s.group
  pub having : IsMaybeCondition (whole_site p tables s) (groups_of s) s.having
  pub items : AllByRecursion (IsItemTyped (whole_site p tables s) (groups_of s)) s.items
  pub names : repeats (names_of s) ≡ false

-- ---- queries

-- selects that have the same names, and items of one place that share a kind; not too many columns
pub record IsQueryTyped (p : Settings) (tables : Tables) (q : QueryTree) : Type 0 where
  pub selects : AllByRecursion (IsSelectTyped p tables) q
  pub names : AllByRecursion (λ s. same_names (query_names q) (names_of s) ≡ true) q
  pub kinds : AllByRecursion IsSome (shared_kinds tables q)
  pub few : length (query_names q) ≤ most_columns

abbrev pub IsColumnKind : Option Kind → Type 0
IsColumnKind kind = lacks_kind kind ≡ false

-- no column is null alone
abbrev pub IsQueryWhole : Settings → Tables → QueryTree → Type 0
IsQueryWhole p tables q = IsQueryTyped p tables q × AllByRecursion IsColumnKind (shared_kinds tables q)

-- from 1 to 1,024 columns of different names, of kinds other than null
pub record AreColumns (columns : Columns) : Type 0 where
  pub some : 1 ≤ length columns
  pub few : length columns ≤ most_columns
  pub names : repeats (keys_of columns) ≡ false
  pub kinds : list_any (λ c. is_null_kind c.1) columns ≡ false
