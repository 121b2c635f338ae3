use Rattle.std.proofs.Common.{◌≡◌, take}
use Rattle.std.specs.Map.{keys_of}
use Rattle.vtl_backend.specs.Inputs.{inputs_of}
use Rattle.vtl_top.proofs.edits.input_names.Given as goal

abbrev pub invariant-loop-i : goal.invariant-loop-i
invariant-loop-i l = keys_of l.names ≡ take l.i (keys_of (inputs_of l.checked))
