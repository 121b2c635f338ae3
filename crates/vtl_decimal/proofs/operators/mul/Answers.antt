use Rattle.std.proofs.Common.{ℤ, ◌≡◌, ◌*ℤ◌, ◌^◌, pos, Result, sym, subst, arith}
use Rattle.std.specs.Prelude.{IfOk}
use Rattle.std.proofs.lemmas.Int.{to_z-of_z}
use Rattle.vtl_decimal.specs.declared.number.Fault.{Fault}
use Rattle.vtl_decimal.specs.Operators.{product}
use Rattle.vtl_decimal.specs.Rounding.{IsNear}
use Rattle.vtl_decimal.proofs.OperatorLemmas.{product_near}
use Rattle.vtl_decimal.proofs.operators.mul.Goals as goal

pub returns-clause-near : goal.returns-clause-near
returns-clause-near c =
    let p = c.args.p.now in
    let value : c.fit.result ≡ product p.rounding p.scale c.args.a c.args.b = grind (arith, to_z-of_z) in
    let P : Result ℤ Fault → Type 0 = λ r. IfOk r (IsNear p.rounding (c.args.a *ℤ c.args.b) (pos (10 ^ p.scale))) in
    subst P (sym value) (product_near p.rounding p.scale c.args.a c.args.b)
