use Rattle.std.proofs.Common.{arith, ◌≡◌, ◌≤◌, pos}
use Rattle.std.specs.Prelude.{unsigned_abs}
use Rattle.std.proofs.lemmas.Int.{to_z-of_z}
use Rattle.vtl_decimal.specs.Rounding.{rounded_quotient}
use Rattle.vtl_decimal.proofs.RoundingLemmas.{rounded_quotient_within}
use Rattle.vtl_decimal.proofs.total.mean_units.Goals as goal

pub returns-clause-value : goal.returns-clause-value
returns-clause-value c =
    let e : c.rounded.result ≡ rounded_quotient c.args.rounding c.args.total (pos c.args.count) = grind (arith, to_z-of_z) in
    let w : unsigned_abs (rounded_quotient c.args.rounding c.args.total (pos c.args.count)) ≤ 999999999999999999 =
    rounded_quotient_within c.args.rounding c.args.total c.args.count 999999999999999999 (omega arith) (omega arith) in
    grind (arith, to_z-of_z)

pub returns-clause-in_range : goal.returns-clause-in_range
returns-clause-in_range c =
    let e : c.rounded.result ≡ rounded_quotient c.args.rounding c.args.total (pos c.args.count) = grind (arith, to_z-of_z) in
    let w : unsigned_abs (rounded_quotient c.args.rounding c.args.total (pos c.args.count)) ≤ 999999999999999999 =
    rounded_quotient_within c.args.rounding c.args.total c.args.count 999999999999999999 (omega arith) (omega arith) in
    grind (arith, to_z-of_z)
