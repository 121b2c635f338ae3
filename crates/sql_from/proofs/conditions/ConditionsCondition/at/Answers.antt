use Rattle.std.proofs.Common.{◌≡◌, ◌<◌, ◌++◌, ◌∷◌, [], List, Bool, Err, Ok, ap, get_or, length, rules, subst, ◌∙◌}
use Rattle.sql_from.specs.Tried.{value_of}
use Rattle.sql_from.specs.declared.source_condition.SourceCondition.{SourceCondition}
use Rattle.sql_from.proofs.Turns.{turns_error, turns_false, turns_on}
use Rattle.sql_from.proofs.conditions.ConditionsCondition.at.Goals as goal

pub loop-part-preserved : goal.loop-part-preserved
loop-part-preserved c =
    let x = c.args.front.now ++ c.args.last ∷ [] in
    let part = c.part-item.result in
    let i = c.loop-part.part-index in
    let same = c.deref-part-items.ensures.value in
    let within = subst (λ (l : List SourceCondition). i < length l) same c.loop-part-test.true in
    let at = subst (λ (l : List SourceCondition). part ≡ get_or l i part) same c.part-item.is in
    turns_on value_of c.args.self.now.parts.items x i part part within at c.loop-part.invariant (c.in_ok-at.ensures ∙ ap (λ (b : Bool). Ok b) c.if-not-branch.false)

pub returns-then-not-branch : goal.returns-then-not-branch
returns-then-not-branch c =
    let x = c.args.front.now ++ c.args.last ∷ [] in
    let part = c.part-item.result in
    let i = c.loop-part.part-index in
    let same = c.deref-part-items.ensures.value in
    let within = subst (λ (l : List SourceCondition). i < length l) same c.loop-part-test.true in
    let at = subst (λ (l : List SourceCondition). part ≡ get_or l i part) same c.part-item.is in
    turns_false value_of c.args.self.now.parts.items x i part part within at c.loop-part.invariant (c.in_ok-at.ensures ∙ ap (λ (b : Bool). Ok b) c.if-not-branch.true)

pub returns-in_err-at : goal.returns-in_err-at
returns-in_err-at c =
    let x = c.args.front.now ++ c.args.last ∷ [] in
    let part = c.part-item.result in
    let i = c.loop-part.part-index in
    let same = c.deref-part-items.ensures.value in
    let within = subst (λ (l : List SourceCondition). i < length l) same c.loop-part-test.true in
    let at = subst (λ (l : List SourceCondition). part ≡ get_or l i part) same c.part-item.is in
    let passed : c.from_residual.result ≡ Err c.in_err-at.field-0.0 = search rules in
    rw passed (turns_error value_of c.args.self.now.parts.items x i part part within at c.loop-part.invariant c.in_err-at.field-0.0 c.in_err-at.ensures)
