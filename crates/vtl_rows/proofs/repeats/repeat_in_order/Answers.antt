use Rattle.std.proofs.Common.{◌+◌, ◌<◌, ◌≤◌, refl, sym, subst, length, arith}
use Rattle.vtl_rows.proofs.Least.{IsLeast, all_pairs, found, none_found, one_more}
use Rattle.vtl_rows.proofs.repeats.repeat_in_order.Goals as goal

pub loop-i-preserved : goal.loop-i-preserved
loop-i-preserved c =
    let within : c.loop-i.i + 1 < length c.args.places.now = omega arith in
    subst (IsLeast c.args.keys.now c.args.table.now.rows c.args.places.now (c.loop-i.i + 1)) (sym c.lesser-least.ensures)
    (one_more c.args.keys.now c.args.table.now.rows c.args.places.now c.loop-i.i c.loop-i.least _ _ c.loop-i.invariant within refl refl)

pub returns-then-least-len : goal.returns-then-least-len
returns-then-least-len c =
    let ended : length c.args.places.now ≤ c.loop-i.i + 1 = omega arith in
    found c.args.keys.now c.args.table.now.rows c.args.places.now c.requires c.loop-i.least (all_pairs c.args.keys.now c.args.table.now.rows c.args.places.now c.loop-i.i c.loop-i.least ended c.loop-i.invariant) (omega arith)

pub returns-else-least-len : goal.returns-else-least-len
returns-else-least-len c =
    let ended : length c.args.places.now ≤ c.loop-i.i + 1 = omega arith in
    none_found c.args.keys.now c.args.table.now.rows c.args.places.now c.requires c.loop-i.least (all_pairs c.args.keys.now c.args.table.now.rows c.args.places.now c.loop-i.i c.loop-i.least ended c.loop-i.invariant) (omega arith)
