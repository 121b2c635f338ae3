use Rattle.std.proofs.Common.{◌≡◌, length, arith}
use Rattle.vtl_rows.specs.Tables.{listed}
use Rattle.sql_from.proofs.Alone.{kinds_alone, only_part}
use Rattle.sql_from.proofs.lent_table.lent_table.Goals as goal

pub are_all-requires-clause-only : goal.are_all-requires-clause-only
are_all-requires-clause-only c =
    let ss = c.args.sources.now.sources in
    let one : length ss ≡ 1 = omega (arith, c.len.ensures.count, c.if-len-ne1.false) in
    only_part ss (listed c.table-table.result.now) one c.table-table.ensures.source

pub returns-then-are_all-clause-kinds : goal.returns-then-are_all-clause-kinds
returns-then-are_all-clause-kinds c =
    let ss = c.args.sources.now.sources in
    let one : length ss ≡ 1 = omega (arith, c.len.ensures.count, c.if-len-ne1.false) in
    kinds_alone ss (listed c.table-table.result.now) (only_part ss (listed c.table-table.result.now) one c.table-table.ensures.source)
