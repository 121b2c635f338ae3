use Rattle.std.proofs.Common.{◌<◌, length, sym, subst, arith}
use Rattle.vtl_index.specs.Groups.{firsts}
use Rattle.vtl_join.proofs.KeyTables.{firsts_more, led_first}
use Rattle.vtl_join.proofs.keys.first_rows.Goals as goal

pub bounds-rows-0 : goal.bounds-rows-0
bounds-rows-0 c =
    let leads = c.args.groups.now in
    let within : c.loop-group.group < length (firsts leads) = omega (arith, c.len-group-end.ensures, c.loop-group-test.true) in
    subst (λ l. 0 < length l) (sym c.rows.ensures) (led_first leads c.requires c.loop-group.group within).0

pub loop-group-preserved : goal.loop-group-preserved
loop-group-preserved c =
    let leads = c.args.groups.now in
    let within : c.loop-group.group < length (firsts leads) = omega (arith, c.len-group-end.ensures, c.loop-group-test.true) in
    firsts_more leads c.requires c.loop-group.group c.rows.result.now c.loop-group.rows.items c.push.new.self.items within c.rows.ensures c.loop-group.invariant c.in_ok-push.ensures.items
