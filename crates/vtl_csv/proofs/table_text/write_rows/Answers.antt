use Rattle.std.proofs.Common.{length, ap, arith}
use Rattle.vtl_csv.proofs.table_text.write_rows.Goals as goal

pub push_record-requires : goal.push_record-requires
push_record-requires c =
    let w = c.row_at.ensures.width in
    let some = c.columns.ensures.some in
    let e = ap length c.columns.ensures.columns in
    omega (arith, w, some, e)
