use Rattle.std.proofs.Common.{subst, sym}
use Rattle.vtl_backend.specs.Inputs.{AreInRange, AreInputs}
use Rattle.vtl_demo.proofs.Demonstrated.{in_range, inputs_are, only_memory, shows_results}
use Rattle.vtl_demo.proofs.demonstration.results.Goals as goal

pub run-requires-clause-inputs : goal.run-requires-clause-inputs
run-requires-clause-inputs g c = subst (AreInputs c.args.script.now) (sym c.in_ok-inputs.ensures) (inputs_are c.args.script.now c.requires.script c.args.points)

pub run-requires-clause-ranges : goal.run-requires-clause-ranges
run-requires-clause-ranges g c = subst (AreInRange c.args.script.now) (sym c.in_ok-inputs.ensures) (in_range c.args.script.now c.requires.script c.args.points c.requires.few)

pub returns-in-Ok-clause-shown : goal.returns-in-Ok-clause-shown
returns-in-Ok-clause-shown g c =
    shows_results c.args.script.now c.requires.script c.args.points c.requires.few c.in_ok-inputs.inputs c.in_ok-inputs.ensures c.run.new.out c.in-Ok.ensures.run

pub unreachable-requires : goal.unreachable-requires
unreachable-requires g c =
    let is = only_memory c.args.script.now c.requires.script c.args.points c.requires.few c.in_ok-inputs.inputs c.in_ok-inputs.ensures c.new-outputs.result c.run.new.out c.in-Err-DivZero.field-0 c.in-Err-DivZero.ensures.run in
    cc (is, c.in-Err-DivZero.field-0-is)

pub unreachable-requires-in-Err-Range : goal.unreachable-requires-in-Err-Range
unreachable-requires-in-Err-Range g c =
    let is = only_memory c.args.script.now c.requires.script c.args.points c.requires.few c.in_ok-inputs.inputs c.in_ok-inputs.ensures c.new-outputs.result c.run.new.out c.in-Err-Range.field-0 c.in-Err-Range.ensures.run in
    cc (is, c.in-Err-Range.field-0-is)
