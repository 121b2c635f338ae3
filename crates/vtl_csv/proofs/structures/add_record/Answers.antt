use Rattle.std.proofs.Common.{sym, ◌∙◌}
use Rattle.vtl_csv.proofs.DeclarationLemmas.{record_fits}
use Rattle.vtl_csv.proofs.structures.add_record.Goals as goal

pub add_to-requires-clause-fits : goal.add_to-requires-clause-fits
add_to-requires-clause-fits c = (record_fits c.args.version c.args.structures.now.sets c.args.fields.now c.in-Ok.new (sym c.in_ok-new.ensures ∙ c.in-Ok.is)).0

pub add_to-requires-clause-value : goal.add_to-requires-clause-value
add_to-requires-clause-value c = (record_fits c.args.version c.args.structures.now.sets c.args.fields.now c.in-Ok.new (sym c.in_ok-new.ensures ∙ c.in-Ok.is)).1
