use Rattle.vtl_top.specs.Expected.{dataset_step}
use Rattle.vtl_top.specs.InputsRead.{wanted_from}
use Rattle.vtl_top.proofs.InputLemmas.{takes_added}
use Rattle.vtl_top.proofs.inputs.add_input.Goals as goal

pub returns-in_ok-put-in-Ok-clause-takes : goal.returns-in_ok-put-in-Ok-clause-takes
returns-in_ok-put-in-Ok-clause-takes g c =
    takes_added g.F.Files c.args.files.now c.read_input.new.files (dataset_step c.args.profile.now (wanted_from c.args.folder.now c.args.wanted.now)) c.in-Ok.table c.args.tables.now _ c.args.wanted.now.name.now c.in_ok-share-in-Ok.field-0 _ c.in-Ok.ensures.takes
    c.requires.new c.in_ok-share-in-Ok.ensures c.in_ok-put-in-Ok.ensures.put
