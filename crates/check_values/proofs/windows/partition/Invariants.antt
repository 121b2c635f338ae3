use Rattle.std.proofs.Common.{◌≡◌, drop}
use Rattle.check_faults.specs.InTurn.{in_turn}
use Rattle.check_values.specs.Windows.{part_typed, partition_typed}
use Rattle.check_values.proofs.windows.partition.Given as goal

abbrev pub invariant-loop-part : goal.invariant-loop-part
invariant-loop-part l = in_turn (part_typed l.columns) l.names.items (drop l.part-index l.parts) ≡ partition_typed l.columns l.parts
