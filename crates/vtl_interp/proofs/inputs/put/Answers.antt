use Rattle.std.proofs.Common.{ap, ◌∙◌}
use Rattle.indexmap.specs.IndexMap.{insert_entry}
use Rattle.vtl_tree.specs.Structure.{same_name}
use Rattle.vtl_interp.proofs.Environments.{insert_new}
use Rattle.vtl_interp.proofs.inputs.put.Goals as goal

pub returns : goal.returns
returns c =
    c.in_ok-insert.ensures.entries
    ∙ ap (λ name. insert_entry same_name c.args.known.now.entries name c.args.set) c.in_ok-share.ensures
    ∙ insert_new c.args.known.now.entries c.args.name.now c.args.set c.requires
