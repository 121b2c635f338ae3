use Rattle.std.proofs.Common.{◌≡◌, drop}
use Rattle.check_rules.specs.Running.{Runs}
use Rattle.check_rules.proofs.run.Run.settle_all.Given as goal

abbrev pub invariant-loop-i : goal.invariant-loop-i
invariant-loop-i l = record {
  running : Runs l.rules (drop l.i l.places) l.self;
  order : l.self.order.items ≡ l.fn.self.order.items;
}
