use Rattle.std.proofs.Common.{string_bytes}
use Rattle.vtl_rows.specs.Tables.{listed}
use Rattle.vtl_top.specs.EditsView.{stage_of, stage_view}
use Rattle.vtl_top.specs.Informed.{typed_view}
use Rattle.vtl_top.specs.Replayed.{refreshed, replaced}
use Rattle.vtl_top.proofs.ReplayLemmas.{moved_on, stage_replaced}
use Rattle.vtl_top.proofs.replay.replace.Goals as goal

pub returns-clause-refreshed : goal.returns-clause-refreshed
returns-clause-refreshed c =
    let old = c.args.stage.now.session in
    let new = c.replace.new.self in
    let said = string_bytes c.args.stage.now.said in
    let is = stage_replaced old new said c.args.name.now (listed c.args.table) c.replace.ensures.script c.in_ok-replace.ensures.inputs c.in_ok-replace.ensures.fresh c.requires.input c.script-script.ensures.inputs in
    moved_on c.refresh.result (λ t s. refreshed (typed_view t) s) new.script old.script (stage_of new said) (replaced (typed_view old.script) c.args.name.now c.args.table.rows (stage_of old said)) (stage_view c.refresh.new.stage) c.replace.ensures.script is c.refresh.ensures.refreshed
