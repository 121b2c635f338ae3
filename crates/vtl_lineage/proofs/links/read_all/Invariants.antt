use Rattle.std.proofs.Common.{◌≡◌, []}
use Rattle.vtl_check.specs.Checked.{known_of}
use Rattle.vtl_sources.specs.Links.{pairs_of}
use Rattle.vtl_lineage.specs.Reads.{held_inputs}
use Rattle.vtl_lineage.specs.Shown.{lent_pairs}
use Rattle.vtl_lineage.proofs.ReadInputs.{front}
use Rattle.vtl_lineage.proofs.links.read_all.Given as goal

abbrev pub invariant-loop-name : goal.invariant-loop-name
invariant-loop-name l = record {
  pairs : lent_pairs l.pairs.items ≡ pairs_of (front (known_of l.script) l.name-items l.name-index);
  known : l.known ≡ held_inputs 0 [] (front (known_of l.script) l.name-items l.name-index);
}
