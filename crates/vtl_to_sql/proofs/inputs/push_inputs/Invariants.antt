use Rattle.std.proofs.Common.{◌≡◌, ◌++◌, map, take}
use Rattle.vtl_backend.specs.Inputs.{inputs_of}
use Rattle.sql_tree.specs.View.{statement_tree}
use Rattle.vtl_to_sql.specs.Scripts.{input_for}
use Rattle.vtl_to_sql.proofs.inputs.push_inputs.Given as goal

abbrev pub invariant-loop-name : goal.invariant-loop-name
invariant-loop-name l = map statement_tree l.draft.statements.items ≡ map statement_tree l.fn.draft.statements.items ++ map (input_for l.script.not_null) (take l.name-index (inputs_of l.script))
