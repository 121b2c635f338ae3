use Rattle.std.proofs.Common.{ℤ, ◌≡◌, ◌<◌, ◌*ℤ◌, ◌^◌, pos, Result, sym, subst, arith}
use Rattle.std.specs.Prelude.{unsigned_abs, IfOk}
use Rattle.std.proofs.lemmas.Int.{to_z-of_z, ints}
use Rattle.vtl_decimal.specs.declared.number.Fault.{Fault}
use Rattle.vtl_decimal.specs.Operators.{quotient}
use Rattle.vtl_decimal.specs.Rounding.{IsNear}
use Rattle.vtl_decimal.proofs.OperatorLemmas.{quotient_by_nonzero, quotient_near}
use Rattle.vtl_decimal.proofs.operators.div.Goals as goal

pub returns-clause-value : goal.returns-clause-value
returns-clause-value c =
    let h : 0 < unsigned_abs c.args.b = grind (arith, ints, to_z-of_z) in
    let e = quotient_by_nonzero c.args.p.now.rounding c.args.p.now.scale c.args.a c.args.b h in
    grind (arith, to_z-of_z)

pub returns-clause-near : goal.returns-clause-near
returns-clause-near c =
    let p = c.args.p.now in
    let h : 0 < unsigned_abs c.args.b = grind (arith, ints, to_z-of_z) in
    let e = quotient_by_nonzero p.rounding p.scale c.args.a c.args.b h in
    let value : c.fit.result ≡ quotient p.rounding p.scale c.args.a c.args.b = grind (arith, to_z-of_z) in
    let P : Result ℤ Fault → Type 0 = λ r. IfOk r (IsNear p.rounding (c.args.a *ℤ pos (10 ^ p.scale)) c.args.b) in
    subst P (sym value) (quotient_near p.rounding p.scale c.args.a c.args.b h)
