use Rattle.std.proofs.Common.{◌≡◌, take}
use Rattle.std.specs.List.{AllByRecursion}
use Rattle.vtl_backend.specs.Inputs.{inputs_of}
use Rattle.vtl_top.specs.InputsRead.{IsListed, all_wanted}
use Rattle.vtl_top.proofs.inputs.wanted_of.Given as goal

abbrev pub invariant-loop-i : goal.invariant-loop-i
invariant-loop-i l = record {
  entries : all_wanted l.wanted.items ≡ take l.i (inputs_of l.checked);
  listed : AllByRecursion (IsListed l.checked.not_null) l.wanted.items;
}
