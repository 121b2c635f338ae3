use Rattle.std.proofs.Common.{◌≡◌, map, take}
use Rattle.vtl_tree.specs.Shown.{shown}
use Rattle.vtl_to_sql.specs.Scripts.{input_column}
use Rattle.vtl_to_sql.proofs.inputs.input_columns.Given as goal

abbrev pub invariant-loop-component : goal.invariant-loop-component
invariant-loop-component l = l.columns.items ≡ map (input_column l.not_null) (shown (take l.component-index l.components))
