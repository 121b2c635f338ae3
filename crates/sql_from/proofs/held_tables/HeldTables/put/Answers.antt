use Rattle.std.proofs.Common.{◌∙◌, ap}
use Rattle.vtl_rows.specs.Named.{table_of}
use Rattle.vtl_rows.proofs.NamedLemmas.{free_key}
use Rattle.sql_from.proofs.held_tables.HeldTables.put.Goals as goal

pub put-requires : goal.put-requires
put-requires c = free_key c.args.name c.self.inside.named (ap (table_of c.args.name) c.self.view_is ∙ c.requires)
