use Rattle.std.proofs.Common.{◌≡◌, ◌++◌, map, take}
use Rattle.vtl_frames.specs.Ranked.{count_in}
use Rattle.vtl_frames.proofs.ranks.put_counts.Given as goal

abbrev pub invariant-loop-count : goal.invariant-loop-count
invariant-loop-count l = l.out.items ≡ l.fn.out.items ++ map (count_in l.p) (take l.count-index l.counts)
