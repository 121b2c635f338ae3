use Rattle.vtl_interp.proofs.ReorderedRuns.{inputs_reordered, ranges_reordered, runs_reordered}
use Rattle.vtl_interp.proofs.ordered.run_over.Goals as goal

pub run-requires-clause-inputs : goal.run-requires-clause-inputs
run-requires-clause-inputs g c = inputs_reordered c.args.inputs c.in_ok-ready.ready c.in_ok-ready.ensures c.args.script.now c.requires.inputs

pub run-requires-clause-ranges : goal.run-requires-clause-ranges
run-requires-clause-ranges g c = ranges_reordered c.args.inputs c.in_ok-ready.ready c.in_ok-ready.ensures c.args.script.now c.requires.ranges

pub returns-clause-run : goal.returns-clause-run
returns-clause-run g c =
    runs_reordered c.args.inputs c.in_ok-ready.ready c.args.script.now c.nodes.ensures.typed c.nodes.ensures.declared c.requires.inputs c.in_ok-ready.ensures
    c.args.out.now c.run.new.out c.run.result c.run.ensures.run
