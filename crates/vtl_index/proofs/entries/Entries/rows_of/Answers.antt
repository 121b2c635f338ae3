use Rattle.std.proofs.Common.{arith, sym, ◌∙◌, length}
use Rattle.vtl_index.proofs.Adding.{rows_found, seek_at}
use Rattle.vtl_index.proofs.entries.Entries.rows_of.Goals as goal

pub index-requires : goal.index-requires
index-requires c =
    let at = seek_at c.args.self.now.cells.items c.args.self.now.width (length c.args.self.now.rows.items) c.args.self.now.places.buckets.items c.args.self.now.places.others c.args.key.now c.in-Some.place (sym c.in-Some.ensures) in
    omega (arith, at.0)

pub returns-in-Some : goal.returns-in-Some
returns-in-Some c =
    let at = seek_at c.args.self.now.cells.items c.args.self.now.width (length c.args.self.now.rows.items) c.args.self.now.places.buckets.items c.args.self.now.places.others c.args.key.now c.in-Some.place (sym c.in-Some.ensures) in
    c.as_slice.ensures ∙ rows_found c.args.self.now.rows.items c.in-Some.place _ _ at.0 c.index.ensures c.in-Some.ensures
