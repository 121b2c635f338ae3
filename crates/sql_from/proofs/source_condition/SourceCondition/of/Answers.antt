use Rattle.std.proofs.Common.{◌∙◌, [], ap}
use Rattle.sql_eval.specs.Placed.{placed_value}
use Rattle.sql_eval.specs.View.{placed_of}
use Rattle.sql_from.specs.Held.{rows_held}
use Rattle.sql_from.specs.Joins.{Test}
use Rattle.sql_from.specs.Rows.{combined}
use Rattle.sql_from.specs.Sources.{Sourced, parts_of}
use Rattle.sql_from.proofs.source_condition.SourceCondition.of.Goals as goal

pub returns-clause-value : goal.returns-clause-value
returns-clause-value g c =
    let s = c.args.sources.now in
    let value : Sourced → Test = λ t x. placed_value c.args.p.now (rows_held t.held) (placed_of c.in_ok-resolved.resolved.exp) (combined (parts_of t.sources) x) [] in
    ap value c.in_ok-wanted_partners.ensures.sources ∙ λ i x. c.in_ok-resolved.ensures.value_is (rows_held s.held) (combined (parts_of s.sources) x) [] i
