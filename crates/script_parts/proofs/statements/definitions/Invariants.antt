use Rattle.std.proofs.Common.{◌≡◌, ◌++◌, map}
use Rattle.vtl_syntax.specs.View.{statement_tree}
use Rattle.script_parts.proofs.Places.{definitions_left}
use Rattle.script_parts.proofs.statements.definitions.Given as goal

abbrev pub invariant-loop-statement : goal.invariant-loop-statement
invariant-loop-statement l = map statement_tree l.definitions.items ++ definitions_left l.statements l.statement-index ≡ definitions_left l.statements 0
