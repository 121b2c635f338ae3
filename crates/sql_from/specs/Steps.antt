-- How many steps FROM takes for a join by a look-up.
use Rattle.std.specs.Borrow.{Bor}
use Rattle.std.specs.Prelude.{◌≡◌, ℕ, ◌+◌, ◌==◌, Bool, false, List, length, map, sum, Option, Some, None}
use Rattle.std.specs.List.{AllByRecursion, list_any}
use Rattle.vtl_decimal.specs.Settings.{Settings}
use Rattle.vtl_rows.specs.Gathered.{part_at}
use Rattle.sql_tree.specs.Trees.{JoinTree, SelectTree}
use Rattle.sql_check_parts.specs.Expressions.{site}
use Rattle.sql_meaning.specs.From.{joined}
use Rattle.sql_meaning.specs.Plans.{IsEqualityJoin}
use Rattle.sql_check_parts.specs.Queries.{is_grouped, join_source}
use Rattle.sql_check_parts.specs.Scopes.{with_source}
use Rattle.sql_meaning.specs.Tables.{Base, rows_from}
use Rattle.sql_check_laws.specs.Selects.{IsJoinCondition}
use Rattle.sql_from.specs.Asking.{condition_asks, item_asks}
use Rattle.sql_from.specs.Held.{tables_held}
use Rattle.sql_from.specs.Sources.{Sourced, parts_of, scope_held, table_given}

-- whether a join is listed, by its place
abbrev pub is_listed : Option (Bor (List ℕ)) → ℕ → Bool
is_listed None place = false
is_listed (Some joins) place = list_any (λ n. n == place) joins.now

-- A select that is not grouped and has no EXISTS, over two sources: the ON of their join is a conjunction of equalities of a column of
-- each.
pub record IsPlainJoin (s : SelectTree) : Type 0 where
  pub plain : is_grouped s ≡ false
  pub one : length s.joins ≡ 1
  pub equal : AllByRecursion IsEqualityJoin s.joins
  pub condition : condition_asks s.condition ≡ false
  pub items : list_any item_asks s.items ≡ false

-- how many rows the source of a join has
abbrev pub joined_count : Base → JoinTree → ℕ
joined_count b j = length (rows_from b (join_source j))

-- one for each row of each source, and one for each row that FROM gives
abbrev pub most_steps : Base → SelectTree → ℕ
most_steps b s = length (rows_from b s.source) + sum (map (joined_count b) s.joins) + length (joined b s).rows

-- ---- one source more

-- a join of the one source so far with another one, whose ON fits both and is such a conjunction
pub record JoinsTwo (p : Settings) (s : Sourced) (j : JoinTree) : Type 0 where
  pub one : length s.sources ≡ 1
  pub equal : IsEqualityJoin j
  pub typed : IsJoinCondition (site p (tables_held s.held) (with_source (tables_held s.held) (scope_held s.sources) (join_source j))) j

-- how many rows both have
abbrev pub two_counts : Sourced → JoinTree → ℕ
two_counts s j = length (part_at (parts_of s.sources) 0).rows + length (table_given s.held (join_source j)).rows
