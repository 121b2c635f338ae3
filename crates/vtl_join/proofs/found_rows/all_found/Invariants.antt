use Rattle.std.proofs.Common.{◌≡◌, map, take}
use Rattle.vtl_join.specs.Finding.{found_by}
use Rattle.vtl_join.proofs.found_rows.all_found.Given as goal

abbrev pub invariant-loop-source : goal.invariant-loop-source
invariant-loop-source g l = l.found.items ≡ map (found_by l.lead.rows) (take l.source-index l.sources)
