use Rattle.std.proofs.Common.{◌<◌, sym, subst, length, arith, List, ℕ}
use Rattle.vtl_index.specs.Groups.{firsts}
use Rattle.vtl_index.proofs.FirstRows.{first_more, some_led}
use Rattle.vtl_combine.proofs.firsts.first_rows.Goals as goal

pub bounds-rows-0 : goal.bounds-rows-0
bounds-rows-0 c =
    let leads = c.args.groups.now in
    let within : c.loop-group.group < length (firsts leads) = omega (arith, c.len-group-end.ensures, c.loop-group-test.true) in
    subst (λ (l : List ℕ). 0 < length l) (sym c.rows.ensures) (some_led leads c.requires c.loop-group.group within)

pub loop-group-preserved : goal.loop-group-preserved
loop-group-preserved c =
    let leads = c.args.groups.now in
    let within : c.loop-group.group < length (firsts leads) = omega (arith, c.len-group-end.ensures, c.loop-group-test.true) in
    first_more leads c.requires c.loop-group.group within c.rows.result.now c.loop-group.first_rows.items c.push.new.self.items c.rows.ensures c.loop-group.invariant c.in_ok-push.ensures.items
