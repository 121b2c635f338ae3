use Rattle.std.proofs.Common.{◌≡◌, drop}
use Rattle.check_faults.specs.InTurn.{in_turn}
use Rattle.check_values.specs.Windows.{key_typed, order_typed}
use Rattle.check_values.proofs.windows.order.Given as goal

abbrev pub invariant-loop-part : goal.invariant-loop-part
invariant-loop-part l = in_turn (key_typed l.columns) l.keys.items (drop l.part-index l.parts) ≡ order_typed l.columns l.parts
