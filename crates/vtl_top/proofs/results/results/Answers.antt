use Rattle.std.proofs.Common.{Ok, ap, sym, ◌∙◌}
use Rattle.vtl_top.proofs.ResultLemmas.{results_shown}
use Rattle.vtl_top.proofs.results.results.Goals as goal

pub make_outputs-requires : goal.make_outputs-requires
make_outputs-requires g c = (results_shown c.args.folder.now c.args.checked.now c.args.inputs c.run_over.new.out c.nodes-nodes.ensures.typed c.in-Ok.ensures.run).0

pub returns-in-Ok-clause-view : goal.returns-in-Ok-clause-view
returns-in-Ok-clause-view g c =
    (results_shown c.args.folder.now c.args.checked.now c.args.inputs c.run_over.new.out c.nodes-nodes.ensures.typed c.in-Ok.ensures.run).1 ∙ ap Ok (sym c.in_ok-make_outputs-in-Ok.ensures.view)
