use Rattle.std.proofs.Common.{sym, subst}
use Rattle.vtl_frames.specs.Stretches.{AreStarts}
use Rattle.vtl_frames.proofs.RunLemmas.{are_starts}
use Rattle.vtl_frames.proofs.stretches.Stretches.of.Goals as goal

pub invariant_of-result : goal.invariant_of-result
invariant_of-result c =
    subst (AreStarts c.args.numbers.now) (sym c.in_ok-starts.ensures.starts) (are_starts c.args.keys.now c.args.table.now.rows c.args.numbers.now)
