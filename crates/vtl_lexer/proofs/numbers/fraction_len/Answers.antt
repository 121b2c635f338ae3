use Rattle.std.proofs.Common.{ap, arith, length}
use Rattle.std.specs.Char.{is_ascii_digit}
use Rattle.vtl_lexer.proofs.NumberLemmas.{fraction-found, fraction-none, point-splits}
use Rattle.vtl_lexer.proofs.SearchLemmas.{run-from_prefix}
use Rattle.vtl_lexer.proofs.numbers.fraction_len.Goals as goal

pub returns-then-digits-eq0 : goal.returns-then-digits-eq0
returns-then-digits-eq0 c =
    let rest = c.in_ok-strip_prefix.field-0.now in
    let run = run-from_prefix is_ascii_digit rest c.digits_len-digits.result c.digits_len-digits.ensures in
    fraction-none c.args.text.now rest c.digits_len-digits.result (point-splits c.args.text.now rest c.in_ok-strip_prefix.ensures.cases.0 c.in_ok-strip_prefix.ensures.cases.1) run c.if-digits-eq0.true

pub overflow_add-result : goal.overflow_add-result
overflow_add-result c =
    let rest = c.in_ok-strip_prefix.field-0.now in
    let run = run-from_prefix is_ascii_digit rest c.digits_len-digits.result c.digits_len-digits.ensures in
    omega (arith, run.within, ap length (point-splits c.args.text.now rest c.in_ok-strip_prefix.ensures.cases.0 c.in_ok-strip_prefix.ensures.cases.1))

pub returns : goal.returns
returns c =
    let rest = c.in_ok-strip_prefix.field-0.now in
    let run = run-from_prefix is_ascii_digit rest c.digits_len-digits.result c.digits_len-digits.ensures in
    fraction-found c.args.text.now rest c.digits_len-digits.result (point-splits c.args.text.now rest c.in_ok-strip_prefix.ensures.cases.0 c.in_ok-strip_prefix.ensures.cases.1) run c.if-digits-eq0.false
