use Rattle.vtl_lineage.specs.Shown.{lent_pairs, shown_links}
use Rattle.vtl_lineage.proofs.Numbering.{numbered_step}
use Rattle.vtl_lineage.proofs.statements.push_component.Goals as goal

pub loop-number-preserved : goal.loop-number-preserved
loop-number-preserved c =
    numbered_step (lent_pairs c.args.pairs.now) c.args.output.now c.args.component.now c.args.numbers.now c.loop-number.number-index _ (shown_links c.args.links.now.items) (shown_links c.loop-number.links.items) (shown_links c.push_numbered.new.links.items)
    c.loop-number-test.true c.loop-number.invariant c.in_ok-push_numbered.ensures
