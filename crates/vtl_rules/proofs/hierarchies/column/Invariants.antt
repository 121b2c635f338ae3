use Rattle.std.proofs.Common.{◌≡◌, map}
use Rattle.std.specs.List.{range_with_len}
use Rattle.vtl_cell.specs.Outcome.{faults_by, join}
use Rattle.vtl_scalar.specs.Seen.{seen_of}
use Rattle.vtl_rules.specs.ComputedItems.{computed_at, fault_of, value_or_null}
use Rattle.vtl_rules.proofs.hierarchies.column.Given as goal

abbrev pub invariant-loop-number : goal.invariant-loop-number
invariant-loop-number g l = record {
  column : l.column.items ≡ map (λ n. value_or_null (computed_at l.p l.computing.mode l.computing.kind l.computing.input l.computing.items l.made l.rule n)) (range_with_len 0 l.number);
  seen : seen_of l.seen ≡ join (seen_of l.fn.seen) (faults_by (λ n. fault_of (computed_at l.p l.computing.mode l.computing.kind l.computing.input l.computing.items l.made l.rule n)) (range_with_len 0 l.number));
}
