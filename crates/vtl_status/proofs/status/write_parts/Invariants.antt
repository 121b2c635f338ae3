use Rattle.std.proofs.Common.{◌≤◌, ◌++◌, drop}
use Rattle.vtl_files.specs.Whole.{AddsUpTo}
use Rattle.vtl_status.specs.PartView.{all_said}
use Rattle.vtl_status.proofs.status.write_parts.Given as goal

abbrev pub invariant-loop-part : goal.invariant-loop-part
invariant-loop-part g l = record {
  faults : g.O.Sink.faults l.fn.out ≤ g.O.Sink.faults l.out;
  taken : AddsUpTo (λ front taken. taken ++ front) (g.O.Sink.taken l.fn.out) (g.O.Sink.taken l.out) (all_said l.fn.parts) (all_said (drop l.part-index l.fn.parts));
}
