use Rattle.std.proofs.Common.{◌<◌, ◌≤◌, length, arith}
use Rattle.vtl_rows.specs.Tables.{listed}
use Rattle.vtl_interp.proofs.Reorders.{all_reordered, next_reordered, start_reordered}
use Rattle.vtl_interp.proofs.ordered.in_order.Goals as goal

pub loop-i-init : goal.loop-i-init
loop-i-init c = start_reordered c.args.inputs.now c.new-sorted.result c.new-sorted.ensures

pub loop-i-preserved : goal.loop-i-preserved
loop-i-preserved c =
    let within : c.loop-i.i < length c.args.inputs.now = omega arith in
    next_reordered c.args.inputs.now c.loop-i.sorted c.put_sorted.new.sorted c.loop-i.i c.at.result.0.now (listed c.at.result.1.now) within c.at.ensures c.loop-i.invariant c.in_ok-put_sorted.ensures

pub returns : goal.returns
returns c =
    let all : length c.args.inputs.now ≤ c.loop-i.i = omega arith in
    all_reordered c.args.inputs.now c.loop-i.sorted c.loop-i.i all c.loop-i.invariant
