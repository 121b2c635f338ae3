use Rattle.std.proofs.Common.{◌∙◌, ap, get_or}
use Rattle.vtl_rows.specs.Tables.{fits}
use Rattle.vtl_rows.proofs.Flats.{fits_alone}
use Rattle.vtl_rows.proofs.table.Table.gather.Goals as goal

pub push_moved-requires : goal.push_moved-requires
push_moved-requires c =
    let there = c.requires c.loop-i.i 0 c.loop-i-test.true in
    fits_alone _ _ _ _ _ c.loop-i.invariant.columns c.in_ok-append_copies.ensures (c.fetch_ahead.ensures ∙ c.loop-i.invariant.none)
    (ap (fits c.args.self.now.columns) c.row.ensures.row ∙ c.columns.ensures.fit (get_or c.args.rows.now c.loop-i.i 0) c.row.result.now there)
