use Rattle.std.proofs.Common.{◌∙◌, ◌*◌, ◌<◌, ◌≤◌, ℕ, Some, sym, ap, subst}
use Rattle.vtl_time.specs.Periods.{parts_in_year, period_at}
use Rattle.vtl_time.proofs.PeriodLemmas.{IsShifted, sum_is, no_sum, shift_of-some, shift_of-past, shift_back, shift_order}
use Rattle.vtl_time.proofs.periods.shift.Goals as goal

pub returns-in_err-index-clause-value : goal.returns-in_err-index-clause-value
returns-in_err-index-clause-value c =
    c.from_residual.ensures ∙ sym (no_sum c.args.p c.args.n c.index.result c.ranges.n c.index.ensures.value c.index.ensures.valid c.in_err-index.ensures)

pub returns-then-index-end : goal.returns-then-index-end
returns-then-index-end c =
    let p = c.args.p in
    let i = c.in_ok-index.index in
    let shifted : IsShifted p c.at_index.result c.args.n i = record {
      sum = sum_is p c.args.n c.index.result c.ranges.n c.index.ensures.value i c.in_ok-index.ensures.0 c.in_ok-index.ensures.1;
      below = subst (λ (k : ℕ). i < 10000 * k) (c.from-end.ensures ∙ c.parts.ensures ∙ ap parts_in_year c.frequency.ensures) c.if-index-end.true;
      period = c.at_index.ensures ∙ ap (λ f. period_at f i) c.frequency-then-index-end.ensures;
    } in
    record {
      value = sym (shift_of-some p c.args.n i c.index.ensures.valid shifted.sum shifted.below ∙ ap Some (sym shifted.period));
      back = shift_back p c.at_index.result c.args.n i c.index.ensures.valid shifted;
      order = shift_order p c.at_index.result c.args.n i c.index.ensures.valid shifted;
    }

pub returns-else-index-end-clause-value : goal.returns-else-index-end-clause-value
returns-else-index-end-clause-value c =
    let p = c.args.p in
    let i = c.in_ok-index.index in
    sym (shift_of-past p c.args.n i c.index.ensures.valid
    (sum_is p c.args.n c.index.result c.ranges.n c.index.ensures.value i c.in_ok-index.ensures.0 c.in_ok-index.ensures.1)
    (subst (λ (k : ℕ). 10000 * k ≤ i) (c.from-end.ensures ∙ c.parts.ensures ∙ ap parts_in_year c.frequency.ensures) c.if-index-end.false))
