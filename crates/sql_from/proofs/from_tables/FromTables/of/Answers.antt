use Rattle.std.proofs.Common.{◌≤◌, ap, arith, length, refl}
use Rattle.sql_tree.specs.View.{select_tree}
use Rattle.sql_from.proofs.FromGiven.{given_all}
use Rattle.sql_from.proofs.from_tables.FromTables.of.Goals as goal

pub returns : goal.returns
returns c =
    let items = c.as_slice-join-items.result.now in
    given_all c.args.held.now (select_tree c.args.select.now) c.args.select.now.joins items c.loop-join.join-index c.loop-join.tables.items refl c.as_slice-join-items.ensures (omega (arith, c.loop-join-test.false)) c.loop-join.invariant
