use Rattle.std.proofs.Common.{◌≡◌, drop, not}
use Rattle.std.specs.List.{list_any}
use Rattle.sql_check_parts.specs.Statements.{codes_fit}
use Rattle.sql_check.proofs.inputs.any_misplaced.Given as goal

abbrev pub invariant-loop-column : goal.invariant-loop-column
invariant-loop-column l = list_any (λ c. not (codes_fit l.key c)) (drop l.column-index l.columns) ≡ list_any (λ c. not (codes_fit l.key c)) l.columns
