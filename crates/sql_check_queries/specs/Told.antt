-- What the program tells of the parts of a select, of selects and of queries.
use Rattle.std.specs.Prelude.{◌≡◌, ◌∷◌, ◌||◌, ◌&&◌, [], Bool, true, not, List, Option, Some, map, length, nat_lt}
use Rattle.std.specs.List.{fold, flat_map, list_all, list_any}
use Rattle.std.specs.Option.{is_none}
use Rattle.vtl_decimal.specs.Settings.{Settings}
use Rattle.vtl_cell.specs.declared.kind.Kind.{Kind}
use Rattle.sql_tree.specs.Trees.{Text, ItemTree, QueryTree, SelectTree}
use Rattle.sql_check_parts.specs.Expressions.{Site}
use Rattle.sql_check_parts.specs.Queries.{beside, has_null_column, item_breaks, item_kind, kinds_of, most_columns, names_of, parts_break, query_breaks, query_names, same_names, scope_of, select_breaks, shared_kinds, sources_break}
use Rattle.sql_check_parts.specs.Rules.{broken, least, lesser}
use Rattle.sql_check_parts.specs.Scopes.{Grouping, Tables, or_null}
use Rattle.sql_check_parts.specs.declared.rules.SqlRule.{SqlRule}
use Rattle.sql_check_parts.specs.declared.rules.SqlRule.TheVariants as rule
use Rattle.sql_check_queries.specs.declared.items.ItemsTold.{ItemsTold}
use Rattle.sql_check_queries.specs.declared.queries.QueryTold.{QueryTold}
use Rattle.sql_check_queries.specs.declared.selects.SelectTold.{SelectTold}
use Rattle.sql_check_queries.specs.declared.sources.SourcesTold.{SourcesTold}
use Rattle.sql_check_queries.specs.declared.unions.Union.{Union}

pub record HasSources (p : Settings) (tables : Tables) (s : SelectTree) (t : SourcesTold) : Type 0 where
  pub scope_is : t.scope ≡ scope_of tables s
  pub fault_is : t.fault ≡ least (sources_break p tables s)

pub record HasItems (at : Site) (g : Option Grouping) (items : List ItemTree) (t : ItemsTold) : Type 0 where
  pub kinds_are : t.kinds ≡ map (item_kind at.scope) items
  pub fault_is : t.fault ≡ least (flat_map (item_breaks at g) items)

-- the parts of a select that see all its sources
pub record HasParts (at : Site) (s : SelectTree) (t : SelectTold) : Type 0 where
  pub names_are : t.names ≡ names_of s
  pub kinds_are : t.kinds ≡ map (item_kind at.scope) s.items
  pub fault_is : t.fault ≡ least (parts_break at s)

pub record IsSelectTold (p : Settings) (tables : Tables) (s : SelectTree) (t : SelectTold) : Type 0 where
  pub names_are : t.names ≡ names_of s
  pub kinds_are : t.kinds ≡ kinds_of tables s
  pub fault_is : t.fault ≡ least (select_breaks p tables s)

-- ---- unions

-- what is known of a first select alone
pub record IsFirst (first : SelectTold) (u : Union) : Type 0 where
  pub names_are : u.names ≡ first.names
  pub shared_are : u.shared.items ≡ map Some first.kinds
  pub same : u.same_names ≡ true
  pub fault_is : u.fault ≡ first.fault

-- the rules of a union's columns, where it is known whether the selects have the same names, and whether a SERIES of theirs names what
-- its table does not have
abbrev pub columns_breaks : List Text → List (Option Kind) → (same unnamed : Bool) → List SqlRule
columns_breaks names kinds same unnamed =
    broken ((rule.UnlikeSelects, not same || list_any is_none kinds)
    ∷ (rule.NullColumn, has_null_column unnamed kinds)
    ∷ (rule.CodesOrCount, nat_lt most_columns (length names)) ∷ [])

-- a union with selects behind those before
pub record Grows (p : Settings) (tables : Tables) (selects : List SelectTree) (before : Union) (u : Union) : Type 0 where
  pub names_are : u.names ≡ before.names
  pub shared_are : u.shared.items ≡ fold (λ shared other. beside shared (kinds_of tables other)) before.shared.items selects
  pub same : u.same_names ≡ (before.same_names && list_all (λ s. same_names before.names (names_of s)) selects)
  pub fault_is : u.fault ≡ lesser before.fault (least (flat_map (select_breaks p tables) selects))

-- what is known of the selects of a query behind a first one
pub record IsUnion (p : Settings) (tables : Tables) (first : SelectTree) (rest : List SelectTree) (u : Union) : Type 0 where
  pub names_are : u.names ≡ names_of first
  pub shared_are : u.shared.items ≡ shared_kinds tables (first ∷ rest)
  pub same : u.same_names ≡ list_all (λ s. same_names (names_of first) (names_of s)) rest
  pub fault_is : u.fault ≡ least (flat_map (select_breaks p tables) (first ∷ rest))

-- ---- queries

-- as many kinds as names
pub record IsQueryTold (p : Settings) (tables : Tables) (q : QueryTree) (t : QueryTold) : Type 0 where
  pub names_are : t.names ≡ query_names q
  pub kinds_are : t.kinds ≡ map or_null (shared_kinds tables q)
  pub as_many : length t.kinds ≡ length t.names
  pub fault_is : t.fault ≡ least (query_breaks p tables q)
