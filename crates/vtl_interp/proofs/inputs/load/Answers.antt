use Rattle.vtl_interp.proofs.Loads.{fresh_input, held_more, is_input, read_at}
use Rattle.vtl_interp.proofs.inputs.load.Goals as goal

pub input-requires : goal.input-requires
input-requires c =
    is_input c.args.script.now c.args.inputs.now c.loop-name.name-index c.name-item.result c.requires
    (read_at c.args.script.now c.inputs-name-items.result.now c.loop-name.name-index c.name-item.result c.inputs-name-items.ensures c.loop-name-test.true c.name-item.is)

pub put-requires : goal.put-requires
put-requires c =
    fresh_input c.args.script.now c.args.inputs.now c.loop-name.known.entries c.inputs-name-items.result.now c.loop-name.name-index c.name-item.result c.loop-name.invariant c.inputs-name-items.ensures c.loop-name-test.true c.name-item.is

pub loop-name-preserved : goal.loop-name-preserved
loop-name-preserved c =
    held_more c.args.script.now c.args.inputs.now c.loop-name.known.entries c.put.new.known.entries c.loop-name.name-index c.name-item.result c.in_ok-set.set
    (read_at c.args.script.now c.inputs-name-items.result.now c.loop-name.name-index c.name-item.result c.inputs-name-items.ensures c.loop-name-test.true c.name-item.is)
    c.loop-name.invariant c.in_ok-set.ensures.structure c.in_ok-set.ensures.points c.in_ok-put.ensures
