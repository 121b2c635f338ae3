use Rattle.std.proofs.Common.{not, ap, ◌∙◌}
use Rattle.std.specs.Map.{keys_of}
use Rattle.sql_check.proofs.Settled.{export_new}
use Rattle.sql_check.proofs.statements.export.Goals as goal

pub put_export-requires : goal.put_export-requires
put_export-requires c =
    export_new c.args.given.now.tables (keys_of c.args.given.now.exported) c.args.export.now c.in_ok-fault.fault c.in_ok-fault.ensures (c.is_none.ensures ∙ ap not c.if-is_none.true)
