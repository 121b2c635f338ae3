use Rattle.std.proofs.Common.{◌≡◌, ℕ, ◌<◌, ◌^◌, List, ap, ◌∙◌, arith}
use Rattle.std.specs.Fmt.{decimal}
use Rattle.std.specs.Str.{chars}
use Rattle.std.proofs.lemmas.Fmt.{IsAscii-decimal}
use Rattle.std.proofs.lemmas.Result.{IfOk-weaker}
use Rattle.std.proofs.lemmas.Str.{chars-IsAscii}
use Rattle.check_rules.proofs.definitions.digits.Goals as goal

characters : (bytes : List ℕ) (n : ℕ) → n < 2 ^ 64 → bytes ≡ decimal n → chars bytes ≡ decimal n
characters bytes n small is = ap chars is ∙ chars-IsAscii (decimal n) (IsAscii-decimal n small)

pub returns : goal.returns
returns c =
    let fits = c.ranges.number.fits in
    IfOk-weaker c.new.result _ _ (λ t e. e ∙ characters c.deref.result.now c.args.number (omega (arith, fits)) (c.deref.ensures ∙ c.in_ok-digits.ensures.ok)) c.new.ensures
