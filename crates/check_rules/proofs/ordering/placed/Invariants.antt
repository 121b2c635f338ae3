use Rattle.std.proofs.Common.{◌≡◌, ◌-◌, [], length}
use Rattle.check_rules.specs.Order.{order_behind, order_of}
use Rattle.check_rules.specs.Running.{Runs}
use Rattle.check_rules.proofs.ordering.placed.Given as goal

abbrev pub invariant-loop-done : goal.invariant-loop-done
invariant-loop-done l = record {
  running : Runs l.rules [] l.run;
  order : order_behind (length l.equations.items - l.done) l.rules l.run.order.items ≡ order_of l.rules;
}
