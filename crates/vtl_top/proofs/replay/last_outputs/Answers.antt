use Rattle.std.proofs.Common.{map}
use Rattle.vtl_check.specs.Checked.{known_of}
use Rattle.vtl_rerun.specs.Kept.{meaning_now}
use Rattle.vtl_top.specs.Expected.{outputs_of}
use Rattle.vtl_top.specs.ResultTables.{file_for}
use Rattle.vtl_top.proofs.ReplayLemmas.{last_made, last_shown}
use Rattle.vtl_top.proofs.replay.last_outputs.Goals as goal

pub make_outputs-requires : goal.make_outputs-requires
make_outputs-requires c =
    (last_shown c.args.folder.now c.args.session.now c.script-script.result.now c.in-Some.tables.now c.script-script.ensures.script c.nodes-nodes.ensures.typed c.in-Some.ensures).0

pub returns-clause-view : goal.returns-clause-view
returns-clause-view c =
    let k = c.args.session.now in
    let t = c.script-script.result.now in
    let tables = c.in-Some.tables.now in
    last_made c.make_outputs.result (outputs_of c.args.folder.now k.script.settings (meaning_now k)) (map (file_for c.args.folder.now t.settings (known_of t)) tables)
    (last_shown c.args.folder.now k t tables c.script-script.ensures.script c.nodes-nodes.ensures.typed c.in-Some.ensures).1 c.make_outputs.ensures.view
