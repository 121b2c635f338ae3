use Rattle.std.proofs.Common.{rules, arith, ◌≡◌, ℕ, ◌+◌, ◌-◌, ◌/◌, ◌<◌, ◌≤◌, length, Some, None, Less, Equal, Greater, ◌∙◌}
use Rattle.vtl_cell.specs.ScalarComparison.{order_of}
use Rattle.vtl_scalar.proofs.MemberLemmas.{above_more, below_more, found, missed, unknown}
use Rattle.vtl_scalar.proofs.members.is_among.Goals as goal

-- the place in the middle, from the bounds
within_half : (low high n : ℕ) → low < high → high ≤ n → (low + (high - low) / 2 < n) × (low + (high - low) / 2 < high)
within_half low high n h k = (omega (arith, h, k), omega (arith, h, k))

pub returns-in_err-order : goal.returns-in_err-order
returns-in_err-order c =
    let middle = c.loop-low.low + (c.loop-low.high - c.loop-low.low) / 2 in
    let within = within_half c.loop-low.low c.loop-low.high (length c.args.members.now) c.loop-low-test.true c.loop-low.invariant.1 in
    let none : c.from_residual.result ≡ None = search rules in
    let order : None ≡ order_of c.args.p.now c.args.a.now c.index-members-middle.result = search rules in
    none ∙ unknown c.args.p.now c.args.a.now c.args.members.now c.requires middle c.index-members-middle.result within.0 c.index-members-middle.is order

pub loop-low-preserved-in-Less : goal.loop-low-preserved-in-Less
loop-low-preserved-in-Less c =
    let middle = c.loop-low.low + (c.loop-low.high - c.loop-low.low) / 2 in
    let within = within_half c.loop-low.low c.loop-low.high (length c.args.members.now) c.loop-low-test.true c.loop-low.invariant.1 in
    let order : Some Less ≡ order_of c.args.p.now c.args.a.now c.index-members-middle.result = search rules in
    (omega arith, omega (arith, within.0), c.loop-low.invariant.2, above_more c.args.p.now c.args.a.now c.args.members.now c.requires middle c.index-members-middle.result within.0 c.index-members-middle.is order)

pub returns-in-Equal : goal.returns-in-Equal
returns-in-Equal c =
    let middle = c.loop-low.low + (c.loop-low.high - c.loop-low.low) / 2 in
    let within = within_half c.loop-low.low c.loop-low.high (length c.args.members.now) c.loop-low-test.true c.loop-low.invariant.1 in
    let order : Some Equal ≡ order_of c.args.p.now c.args.a.now c.index-members-middle.result = search rules in
    found c.args.p.now c.args.a.now c.args.members.now c.requires middle c.index-members-middle.result within.0 c.index-members-middle.is order

pub loop-low-preserved : goal.loop-low-preserved
loop-low-preserved c =
    let middle = c.loop-low.low + (c.loop-low.high - c.loop-low.low) / 2 in
    let within = within_half c.loop-low.low c.loop-low.high (length c.args.members.now) c.loop-low-test.true c.loop-low.invariant.1 in
    let order : Some Greater ≡ order_of c.args.p.now c.args.a.now c.index-members-middle.result = search rules in
    (omega (arith, within.1), c.loop-low.invariant.1, below_more c.args.p.now c.args.a.now c.args.members.now c.requires middle c.index-members-middle.result within.0 c.index-members-middle.is order, c.loop-low.invariant.3)

pub returns : goal.returns
returns c =
    missed c.args.p.now c.args.a.now c.args.members.now c.loop-low.low c.loop-low.high c.loop-low-test.false c.loop-low.invariant.2 c.loop-low.invariant.3
