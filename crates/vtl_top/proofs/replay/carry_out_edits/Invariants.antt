use Rattle.std.proofs.Common.{◌≡◌, drop, map, Result}
use Rattle.vtl_top.specs.Answered.{Takes}
use Rattle.vtl_top.specs.EditsView.{HasEnded, edit_view, script_at, stage_view}
use Rattle.vtl_top.specs.Informed.{typed_view}
use Rattle.vtl_top.specs.InputsRead.{SameType}
use Rattle.vtl_top.specs.Replayed.{Stage, replayed_step}
use Rattle.vtl_status.specs.declared.status.Status.{Status}
use Rattle.vtl_top.proofs.replay.carry_out_edits.Given as goal

-- What is left gives from here what all edits give from the start.
abbrev pub invariant-loop-edit : goal.invariant-loop-edit
invariant-loop-edit g l = record {
  script : script_at l.stage ≡ script_at l.fn.stage;
  ended : HasEnded l.stage;
  takes : (now : SameType l.files) (result : Result (Unit {0}) Status) (last : Stage) → Takes g.F.Files l.files now (replayed_step (typed_view (script_at l.fn.stage)) (stage_view l.stage) (map edit_view (drop l.edit-index l.edits))) (λ (x : Unit {0}). last) result
      → Takes g.F.Files l.fn.files now (replayed_step (typed_view (script_at l.fn.stage)) (stage_view l.fn.stage) (map edit_view l.edits)) (λ (x : Unit {0}). last) result;
}
