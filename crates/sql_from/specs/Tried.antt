-- A condition as it is tried at tuples.
use Rattle.std.specs.Prelude.{[]}
use Rattle.sql_eval.specs.Placed.{placed_value}
use Rattle.sql_eval.specs.View.{placed_of}
use Rattle.sql_from.specs.Held.{rows_held}
use Rattle.sql_from.specs.Joins.{Test}
use Rattle.sql_from.specs.Rows.{combined}
use Rattle.sql_from.specs.Sources.{parts_of}
use Rattle.sql_from.specs.declared.source_condition.SourceCondition.{SourceCondition}

-- its value at each tuple
abbrev pub value_of : SourceCondition → Test
value_of c x = placed_value c.profile.now (rows_held c.partners.held) (placed_of c.expression) (combined (parts_of c.partners.sources) x) []
