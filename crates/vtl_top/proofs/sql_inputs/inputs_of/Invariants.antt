use Rattle.std.proofs.Common.{◌≡◌, ◌++◌, drop, map}
use Rattle.sql_tree.specs.View.{statement_tree}
use Rattle.vtl_top.specs.SqlInputs.{inputs_wanted, wanted_by}
use Rattle.vtl_top.proofs.sql_inputs.inputs_of.Given as goal

-- those so far, and then those of the statements that are left
abbrev pub invariant-loop-statement : goal.invariant-loop-statement
invariant-loop-statement l = map wanted_by l.inputs.items ++ inputs_wanted (map statement_tree (drop l.statement-index l.statements)) ≡ inputs_wanted (map statement_tree l.statements)
