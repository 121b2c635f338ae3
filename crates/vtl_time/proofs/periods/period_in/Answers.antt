use Rattle.std.proofs.Common.{◌∙◌, drop, sym, ap}
use Rattle.std.specs.Option.{option_and_then}
use Rattle.std.proofs.lemmas.List.{take_rest}
use Rattle.vtl_time.specs.Periods.{behind_year}
use Rattle.vtl_time.proofs.PeriodLemmas.{read_short, read_long}
use Rattle.vtl_time.proofs.periods.period_in.Goals as goal

pub returns-then-bytes-lt4 : goal.returns-then-bytes-lt4
returns-then-bytes-lt4 c = sym (read_short c.args.bytes.now c.if-bytes-lt4.true)

pub returns-in_err-year : goal.returns-in_err-year
returns-in_err-year c =
    let bs = c.args.bytes.now in
    c.from_residual.ensures ∙ sym (read_long bs c.if-bytes-lt4.false ∙ ap (option_and_then (λ y. behind_year y (drop 4 bs))) (sym c.in_err-year.ensures.value))

pub returns : goal.returns
returns c =
    let bs = c.args.bytes.now in
    c.rest_in.ensures ∙ ap (behind_year c.in_ok-year.year) (take_rest bs 4)
    ∙ sym (read_long bs c.if-bytes-lt4.false ∙ ap (option_and_then (λ y. behind_year y (drop 4 bs))) (sym c.in_ok-year.ensures.value))
