use Rattle.std.proofs.Common.{◌≡◌, ◌∙◌, ◌+◌, ◌/◌, ◌%◌, ℕ, true, sym, subst}
use Rattle.vtl_time.specs.Periods.{is_year_part}
use Rattle.vtl_time.proofs.PeriodLemmas.{period_at_is}
use Rattle.vtl_time.proofs.periods.Period.at_index.Goals as goal

pub invariant_of-result : goal.invariant_of-result
invariant_of-result c =
    let i = c.args.index in
    subst (λ (k : ℕ). is_year_part c.args.frequency (i / k) (i % k + 1) ≡ true) (sym (c.from-parts.ensures ∙ c.parts.ensures)) (period_at_is c.args.frequency i c.requires)
