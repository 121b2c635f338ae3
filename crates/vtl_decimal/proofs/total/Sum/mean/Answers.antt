use Rattle.std.proofs.Common.{ℤ, ◌≡◌, ◌<◌, pos, sym, subst, arith}
use Rattle.std.proofs.lemmas.Int.{to_z-of_z}
use Rattle.vtl_decimal.specs.Rounding.{rounded_quotient, IsNear}
use Rattle.vtl_decimal.proofs.NearLemmas.{rounded_near}
use Rattle.vtl_decimal.proofs.total.Sum.mean.Goals as goal

pub returns-clause-near : goal.returns-clause-near
returns-clause-near c =
    let m = c.args.p.now.rounding in
    let t = c.args.self.now in
    let some : 0 < t.count = grind arith in
    let value : c.of.result ≡ rounded_quotient m t.total (pos t.count) = grind (arith, to_z-of_z) in
    let P : ℤ → Type 0 = λ k. IsNear m t.total (pos t.count) k in
    subst P (sym value) (rounded_near m t.total (pos t.count) some)
