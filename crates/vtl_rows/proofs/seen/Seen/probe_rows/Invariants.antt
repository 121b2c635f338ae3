use Rattle.std.proofs.Common.{◌≡◌, ◌-◌}
use Rattle.vtl_rows.specs.Seen.{probes_of}
use Rattle.vtl_rows.proofs.seen.Seen.probe_rows.Given as goal

abbrev pub invariant-loop-i : goal.invariant-loop-i
invariant-loop-i l = l.probes.items ≡ probes_of l.keys l.self.mask l.table.rows l.first (l.i - l.first)
