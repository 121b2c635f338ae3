use Rattle.std.proofs.Common.{◌≡◌, ℕ, ◌<◌, ◌^◌, List, ap, arith, sym, ◌∙◌}
use Rattle.std.specs.Fmt.{decimal}
use Rattle.std.specs.Str.{chars}
use Rattle.std.proofs.lemmas.Fmt.{IsAscii-decimal}
use Rattle.std.proofs.lemmas.Result.{IfOk-weaker}
use Rattle.std.proofs.lemmas.Str.{chars-IsAscii}
use Rattle.vtl_tree.specs.Checks.{rule_id}
use Rattle.hierarchies_to_sql.proofs.rule_selects.rule_id.Goals as goal

characters : (bytes : List ℕ) (n : ℕ) → n < 2 ^ 64 → bytes ≡ decimal n → chars bytes ≡ decimal n
characters bytes n small is = ap chars is ∙ chars-IsAscii (decimal n) (IsAscii-decimal n small)

pub returns-in_ok-text-in-None : goal.returns-in_ok-text-in-None
returns-in_ok-text-in-None c =
    let fits = c.ranges.number.fits in
    IfOk-weaker c.new.result _ _
    (λ t e. e ∙ characters c.deref.result.now c.args.number (omega (arith, fits)) (c.deref.ensures ∙ c.in_ok-text-in-None.ensures.ok) ∙ sym (ap (rule_id c.args.number) c.in-None.is)) c.new.ensures
