use Rattle.std.proofs.Common.{map, sym, subst}
use Rattle.std.specs.List.{AllByRecursion}
use Rattle.vtl_check.specs.Checked.{inputs_of}
use Rattle.vtl_top.specs.Answered.{Takes}
use Rattle.vtl_top.specs.Edits.{edits_step}
use Rattle.vtl_top.specs.EditsView.{NamesInput, edit_view, edits_view, files_and_text}
use Rattle.vtl_top.specs.Informed.{typed_view}
use Rattle.vtl_top.specs.Replayed.{after_edits}
use Rattle.vtl_top.specs.RunView.{replay_view}
use Rattle.vtl_top.proofs.StepLemmas.{takes_onward, takes_stopped}
use Rattle.vtl_top.proofs.replay.replay_typed.Goals as goal

pub replayed-requires : goal.replayed-requires
replayed-requires g c = subst (AllByRecursion (NamesInput c.args.checked)) (sym c.deref.ensures.value) c.in-Ok.ensures.inputs

pub returns-in-Ok-clause-takes : goal.returns-in-Ok-clause-takes
returns-in-Ok-clause-takes g c =
    let r = replay_view c.args.replay.now in
    let t = typed_view c.args.checked in
    takes_onward g.F.Files (edits_step r.edits (inputs_of c.args.checked)) (after_edits r t) c.args.files.now c.read_edits.new.files c.replayed.new.files edits_view files_and_text c.in-Ok.edits c.replayed.result c.in-Ok.ensures.takes
    (subst (λ es. Takes g.F.Files c.read_edits.new.files c.replayed.new.files (after_edits r t (map edit_view es)) files_and_text c.replayed.result) c.deref.ensures.value c.replayed.ensures.takes)

pub returns-in-Err-clause-takes : goal.returns-in-Err-clause-takes
returns-in-Err-clause-takes g c =
    let r = replay_view c.args.replay.now in
    takes_stopped g.F.Files (edits_step r.edits (inputs_of c.args.checked)) (after_edits r (typed_view c.args.checked)) c.args.files.now c.read_edits.new.files edits_view files_and_text c.in-Err.status c.in-Err.ensures.takes
