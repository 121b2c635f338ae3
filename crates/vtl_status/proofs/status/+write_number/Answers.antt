use Rattle.vtl_lists.proofs.Tests.{on_err}
use Rattle.vtl_status.proofs.NumberText.{digit_front, digit_whole, digits_front, digits_start, digits_whole}
use Rattle.vtl_status.proofs.status.+write_number.Goals as goal

pub returns-then-number-lt10-clause-whole : goal.returns-then-number-lt10-clause-whole
returns-then-number-lt10-clause-whole g t c =
    let taken = g.O.Sink.taken in
    digit_whole c.write_digit.result (taken c.args.out.now) (taken c.write_digit.new.out) c.args.number c.if-number-lt10.true c.write_digit.ensures.whole

pub returns-then-number-lt10-clause-front : goal.returns-then-number-lt10-clause-front
returns-then-number-lt10-clause-front g t c =
    let taken = g.O.Sink.taken in
    digit_front c.write_digit.result (taken c.args.out.now) (taken c.write_digit.new.out) c.args.number c.if-number-lt10.true c.write_digit.ensures.front

pub returns-in_err-write_number-clause-front : goal.returns-in_err-write_number-clause-front
returns-in_err-write_number-clause-front g t c =
    let taken = g.O.Sink.taken in
    on_err c.from_residual.result (digits_start c.args.number c.if-number-lt10.false c.ranges.number.fits (taken c.args.out.now) (taken c.write_number.new.out) c.in_err-write_number.ensures.front)

pub returns-clause-whole : goal.returns-clause-whole
returns-clause-whole g t c =
    let taken = g.O.Sink.taken in
    digits_whole c.args.number c.if-number-lt10.false c.ranges.number.fits c.write_digit-2.result (taken c.args.out.now) (taken c.write_number.new.out) (taken c.write_digit-2.new.out) c.in_ok-write_number.ensures.whole c.write_digit-2.ensures.whole

pub returns-clause-front : goal.returns-clause-front
returns-clause-front g t c =
    let taken = g.O.Sink.taken in
    digits_front c.args.number c.if-number-lt10.false c.ranges.number.fits c.write_digit-2.result (taken c.args.out.now) (taken c.write_number.new.out) (taken c.write_digit-2.new.out) c.in_ok-write_number.ensures.whole c.write_digit-2.ensures.front
