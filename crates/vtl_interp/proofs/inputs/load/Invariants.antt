use Rattle.std.proofs.Common.{◌≡◌, map, take}
use Rattle.vtl_backend.specs.Inputs.{input_of, inputs_of}
use Rattle.vtl_interp.proofs.inputs.load.Given as goal

abbrev pub invariant-loop-name : goal.invariant-loop-name
invariant-loop-name l = l.known.entries ≡ map (input_of l.inputs) (take l.name-index (inputs_of l.script))
