use Rattle.std.proofs.Common.{◌∙◌, sym, ap}
use Rattle.std.proofs.lemmas.List.{take_rest}
use Rattle.vtl_time.specs.Numerals.{number_in_digits}
use Rattle.vtl_time.proofs.DayLemmas.{shape_of, has_shape, read_shapeless, read_no_year, read_no_month, read_no_day, read_numbers}
use Rattle.vtl_time.proofs.days.day_in.Goals as goal
use Rattle.vtl_time.proofs.days.day_in.Goals.{then-bytes-ne10-via-then-bytes-ne10, then-bytes-ne10-via-else-bytes-ne10+then-bytes-ne45, then-bytes-ne10-via-else-bytes-ne10+else-bytes-ne45+then-bytes-ne45-2}

pub returns-then-bytes-ne10 : goal.returns-then-bytes-ne10
returns-then-bytes-ne10 c =
    let bs = c.args.bytes.now in
    elim c.then-bytes-ne10.branch [
      | then-bytes-ne10-via-then-bytes-ne10 w ↦ sym (read_shapeless bs (λ h. w.if-bytes-ne10.true (shape_of bs h).0))
      | then-bytes-ne10-via-else-bytes-ne10+then-bytes-ne45 w ↦ sym (read_shapeless bs (λ h. w.if-bytes-ne45.true (shape_of bs h).1))
      | then-bytes-ne10-via-else-bytes-ne10+else-bytes-ne45+then-bytes-ne45-2 w ↦ sym (read_shapeless bs (λ h. w.if-bytes-ne45-2.true (shape_of bs h).2))
    ]

pub returns-in_err-year : goal.returns-in_err-year
returns-in_err-year c =
    let bs = c.args.bytes.now in
    let shape = has_shape bs c.if-bytes-ne10.false c.if-bytes-ne45.false c.if-bytes-ne45-2.false in
    c.from_residual.ensures ∙ sym (read_no_year bs shape (sym c.in_err-year.ensures.value))

pub returns-in_err-month : goal.returns-in_err-month
returns-in_err-month c =
    let bs = c.args.bytes.now in
    let shape = has_shape bs c.if-bytes-ne10.false c.if-bytes-ne45.false c.if-bytes-ne45-2.false in
    c.from_residual-in_err-month.ensures ∙ sym (read_no_month bs shape c.in_ok-year.year (sym c.in_ok-year.ensures.value) (sym c.in_err-month.ensures.value))

pub returns-in_err-day : goal.returns-in_err-day
returns-in_err-day c =
    let bs = c.args.bytes.now in
    let shape = has_shape bs c.if-bytes-ne10.false c.if-bytes-ne45.false c.if-bytes-ne45-2.false in
    c.from_residual-in_err-day.ensures
    ∙ sym (read_no_day bs shape c.in_ok-year.year c.in_ok-month.month (sym c.in_ok-year.ensures.value) (sym c.in_ok-month.ensures.value) (sym (c.in_err-day.ensures.value ∙ ap number_in_digits (take_rest bs 8))))

pub returns : goal.returns
returns c =
    let bs = c.args.bytes.now in
    let shape = has_shape bs c.if-bytes-ne10.false c.if-bytes-ne45.false c.if-bytes-ne45-2.false in
    c.make_day.ensures
    ∙ sym (read_numbers bs shape c.in_ok-year.year c.in_ok-month.month c.in_ok-day.day (sym c.in_ok-year.ensures.value) (sym c.in_ok-month.ensures.value) (sym (c.in_ok-day.ensures.value ∙ ap number_in_digits (take_rest bs 8))))
