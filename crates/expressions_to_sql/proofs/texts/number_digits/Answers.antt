use Rattle.std.proofs.Common.{rules, ◌≡◌, ◌≤◌, ◌∙◌, refl, subst}
use Rattle.std.specs.Prelude.{IfOk, unsigned_abs}
use Rattle.expressions_to_sql.proofs.ConstantTexts.{number_bytes}
use Rattle.expressions_to_sql.proofs.texts.number_digits.Goals as goal

pub text_of-requires : goal.text_of-requires
text_of-requires c =
    (number_bytes c.args.p.now (unsigned_abs c.args.d) c.abs.result _ c.deref.result.now c.is_whole.result
    (subst (λ s. s ≤ 9) c.scale.ensures.value c.scale.ensures.in_range) (search rules) c.abs.ensures
    (rw (c.in_ok-write.ensures.ok, c.new-bytes.ensures.items) refl) (search rules) (c.deref.ensures.value ∙ c.in_ok-push_point.ensures)).1

pub returns-clause-text : goal.returns-clause-text
returns-clause-text c =
    let digits =
    number_bytes c.args.p.now (unsigned_abs c.args.d) c.abs.result _ c.deref.result.now c.is_whole.result
    (subst (λ s. s ≤ 9) c.scale.ensures.value c.scale.ensures.in_range) (search rules) c.abs.ensures
    (rw (c.in_ok-write.ensures.ok, c.new-bytes.ensures.items) refl) (search rules) (c.deref.ensures.value ∙ c.in_ok-push_point.ensures) in
    subst (λ bs. IfOk c.text_of.result (λ t. t ≡ bs)) digits.0 c.text_of.ensures
