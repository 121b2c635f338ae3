use Rattle.vtl_check.specs.Checked.{known_of}
use Rattle.vtl_lineage.specs.Shown.{lent_pairs}
use Rattle.vtl_lineage.proofs.ReadInputs.{next_known, next_pairs}
use Rattle.vtl_lineage.proofs.links.read_all.Goals as goal

pub loop-name-preserved : goal.loop-name-preserved
loop-name-preserved c =
    let known = known_of c.args.script.now in
    let names = c.inputs-name-items.result.now in
    let i = c.loop-name.name-index in
    let name = c.name-item.result in record {
      pairs = next_pairs known names i name c.loop-name-test.true c.name-item.is (lent_pairs c.loop-name.pairs.items) (lent_pairs c.read.new.pairs.items) c.loop-name.invariant.pairs c.in_ok-read.ensures.pairs;
      known = next_known known names i name c.loop-name-test.true c.name-item.is c.loop-name.pairs.items c.loop-name.known c.read.new.known c.loop-name.invariant.pairs c.loop-name.invariant.known c.in_ok-read.ensures.known;
    }
