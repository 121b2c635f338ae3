-- Conditions of a select as they are tried at tuples, and joins by them.
use Rattle.std.specs.Prelude.{ℕ, List, length, map}
use Rattle.vtl_decimal.specs.Settings.{Settings}
use Rattle.sql_tree.specs.Trees.{Exp}
use Rattle.sql_tree.specs.declared.word_groups.JoinKind.{JoinKind}
use Rattle.sql_from.specs.Conditions.{conditions_at}
use Rattle.sql_from.specs.Gains.{IsJoined}
use Rattle.sql_from.specs.Joins.{Test, in_turn}
use Rattle.sql_from.specs.Keys.{last_of}
use Rattle.sql_from.specs.Sources.{Sourced}
use Rattle.sql_from.specs.Tried.{value_of}
use Rattle.sql_from.specs.declared.conditions.Conditions.{Conditions}
use Rattle.sql_from.specs.declared.pairs.Walked.{Walked}

-- their value at each tuple
abbrev pub tested : Conditions → Test
tested c = in_turn (map value_of c.parts.items)

-- behind a join of tuples with the rows of the last source by these conditions, of which these parts of WHERE are tried
abbrev pub IsJoinedBy : Settings → Sourced → JoinKind → List Exp → List Exp → List ℕ → Walked → Walked → Type 0
IsJoinedBy p s kind conditions parts marks before behind = IsJoined kind (conditions_at p s conditions) (conditions_at p s parts) marks (length (last_of s).rows) before behind
