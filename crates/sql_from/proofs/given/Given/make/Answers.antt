use Rattle.std.proofs.Common.{◌≡◌, ◌∙◌, Some, ap, refl, sym}
use Rattle.vtl_rows.specs.Named.{table_of}
use Rattle.sql_eval.specs.declared.origin.Origin.{Origin}
use Rattle.sql_from.proofs.MadeRows.{rows_made}
use Rattle.sql_from.proofs.given.Given.make.Goals as goal

pub put-requires : goal.put-requires
put-requires c =
    let held = c.args.self.now in
    let own = c.in-Some-held.table.now in
    let o : Origin = record { table = c.in_ok-share.field-0; series = Some c.in_ok-copy.field-0 } in
    let there : table_of o.table held ≡ Some own = ap (λ name. table_of name held) c.in_ok-share.ensures ∙ ap (table_of c.args.source.now.table) (sym c.self.view_is) ∙ sym c.in-Some-held.ensures in
    rows_made held own c.in_ok-made.made c.in_ok-places.places c.in_ok-copy.field-0 o there refl c.in_ok-copy.ensures c.in_ok-made.ensures
