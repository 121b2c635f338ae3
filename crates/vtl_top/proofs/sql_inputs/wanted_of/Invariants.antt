use Rattle.std.proofs.Common.{◌≡◌, map, take}
use Rattle.vtl_top.specs.InputsRead.{as_wanted}
use Rattle.vtl_top.specs.SqlInputs.{wanted_by}
use Rattle.vtl_top.proofs.sql_inputs.wanted_of.Given as goal

abbrev pub invariant-loop-input : goal.invariant-loop-input
invariant-loop-input l = map as_wanted l.wanted.items ≡ map wanted_by (take l.input-index l.inputs)
