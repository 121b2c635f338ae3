use Rattle.std.proofs.Common.{◌∙◌, ap}
use Rattle.vtl_rows.specs.Named.{table_of}
use Rattle.vtl_rows.proofs.NamedLemmas.{lookup_is}
use Rattle.vtl_rows.proofs.tables.Tables.shared.Goals as goal

pub returns : goal.returns
returns c = c.get.ensures ∙ lookup_is c.args.name.now c.self.inside.named ∙ ap (table_of c.args.name.now) c.self.view_is
