use Rattle.std.proofs.Common.{◌≡◌, ◌-◌, ◌∙◌, sym, ap, drop, take, length, arith, Bool}
use Rattle.std.specs.Prelude.{◌||◌}
use Rattle.std.proofs.lemmas.Grind.{common_steps}
use Rattle.vtl_decimal.specs.Divided.{has_nonzero}
use Rattle.vtl_decimal.proofs.RestLemmas.{rest_of_lead}
use Rattle.vtl_decimal.proofs.scaling.rest_with_tail.Goals as goal
use Rattle.vtl_decimal.proofs.scaling.rest_with_tail.Goals.{then-any_nonzero, else-any_nonzero}

either : (a b x y r : Bool) → a ≡ x → b ≡ y → r ≡ (a || b) → r ≡ (x || y)
either a b x y r p q e = e ∙ ap (λ v. v || b) p ∙ ap (λ v. x || v) q

pub returns : goal.returns
returns c = λ behind h e.
    let all : take (length c.args.digits.now - 1) (drop 1 c.args.digits.now) ≡ drop 1 c.args.digits.now = grind (arith, common_steps) in
    let tail : c.any_nonzero.result ≡ has_nonzero (drop 1 c.args.digits.now) = c.any_nonzero.ensures ∙ ap has_nonzero all in
    let more : c.if-any_nonzero.more ≡ (c.any_nonzero.result || c.args.more) =
    elim c.if-any_nonzero.branch [
      | then-any_nonzero w ↦ grind arith
      | else-any_nonzero w ↦ grind arith
    ] in
    rest_of_lead c.args.digits.now behind _ _ c.requires.digits h c.requires.some_digit
    (either _ _ _ _ _ tail (sym e) more) c.rest_from_lead.ensures
