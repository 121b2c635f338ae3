use Rattle.std.proofs.Common.{◌≡◌, ◌+◌, drop, map}
use Rattle.sql_tree.specs.View.{statement_tree}
use Rattle.sql_check_parts.specs.Statements.{fault_from, nothing}
use Rattle.sql_check.specs.Answers.{given_view}
use Rattle.sql_check.proofs.scripts.statements_fault.Given as goal

abbrev pub invariant-loop-i : goal.invariant-loop-i
invariant-loop-i l = fault_from l.profile (l.i + 2) (given_view l.given) (map statement_tree (drop l.i l.statements)) ≡ fault_from l.profile 2 nothing (map statement_tree l.statements)
