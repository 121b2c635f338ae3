use Rattle.std.proofs.Common.{[], drop, map, take, Result}
use Rattle.vtl_backend.specs.Inputs.{input_of}
use Rattle.vtl_top.specs.Answered.{Takes}
use Rattle.vtl_top.specs.Expected.{inputs_step}
use Rattle.vtl_top.specs.InputsRead.{SameType, all_wanted, all_wanted_from}
use Rattle.vtl_status.specs.declared.status.Status.{Status}
use Rattle.vtl_top.proofs.InputLemmas.{AreRead}
use Rattle.vtl_top.proofs.inputs.read_all_wanted.Given as goal

-- What is left gives from here what all inputs give from the start.
abbrev pub invariant-loop-i : goal.invariant-loop-i
invariant-loop-i g l = record {
  so : AreRead l.profile (all_wanted l.wanted) l.i l.tables;
  takes : (now : SameType l.files) (result : Result (SameType l.tables) Status) → Takes g.F.Files l.files now (inputs_step l.profile (map (input_of l.tables) (take l.i (all_wanted l.wanted))) (drop l.i (all_wanted_from l.folder l.wanted))) (λ t. map (input_of t) (all_wanted l.wanted)) result
      → Takes g.F.Files l.fn.files now (inputs_step l.profile [] (all_wanted_from l.folder l.wanted)) (λ t. map (input_of t) (all_wanted l.wanted)) result;
}
