use Rattle.std.proofs.Common.{◌≡◌, ◌≤◌, ◌<◌, ℕ, List, chars, length, length-append, ap, subst, arith, refl}
use Rattle.std.proofs.lemmas.Bool.Decides.{nat_tests}
use Rattle.sql_lexer.specs.Front.{IsFoundIn, Run}
use Rattle.sql_lexer.specs.Lexed.{is_white_space}
use Rattle.sql_lexer.proofs.LexedParts.{ends-there, faults-there, starts-there, token-goes_on, token-read}
use Rattle.sql_lexer.proofs.RunParts.{run-utf8, white-ascii}
use Rattle.sql_lexer.proofs.lexing.lex.Goals as goal

run-fits : (text front rest : List ℕ) → Run is_white_space text front rest → length rest ≤ length text
run-fits text front rest run = omega (arith, ap length run.split, length-append front rest)

pub loop-rest-init : goal.loop-rest-init
loop-rest-init c =
    let text = c.args.text.now in
    let gap = c.split_white_space.result.0.now in
    let rest = c.split_white_space.result.1.now in
    let run = c.split_white_space.ensures in
    record {
      utf8 = run-utf8 is_white_space white-ascii text gap rest c.utf8.text run;
      fits = run-fits text gap rest run;
      dark = run.stops;
      goes_on = starts-there text gap rest c.new-tokens.result.items c.new-tokens.ensures.items run;
    }

pub returns-in_default : goal.returns-in_default
returns-in_default c =
    let rest = c.loop-rest.rest.now in
    let none = subst (IsFoundIn (chars rest)) c.in_default.is c.in_ok-kind.ensures in
    let some : 0 < length rest = grind (arith, nat_tests) in
    rw c.of.ensures (faults-there c.args.text.now rest c.loop-rest.tokens.items some c.loop-rest.invariant.utf8 c.loop-rest.invariant.dark none c.loop-rest.invariant.goes_on)

pub overflow_sub-end : goal.overflow_sub-end
overflow_sub-end c =
    let rest = c.loop-rest.rest.now in
    let found = subst (IsFoundIn (chars rest)) c.in-Some.is c.in_ok-kind.ensures in
    let read = token-read rest c.in-Some.behind.now c.in-Some.kind c.loop-rest.invariant.utf8 found.utf8 found.token in
    omega (arith, read.shorter, c.loop-rest.invariant.fits)

pub loop-rest-smaller : goal.loop-rest-smaller
loop-rest-smaller c =
    let rest = c.loop-rest.rest.now in
    let found = subst (IsFoundIn (chars rest)) c.in-Some.is c.in_ok-kind.ensures in
    let read = token-read rest c.in-Some.behind.now c.in-Some.kind c.loop-rest.invariant.utf8 found.utf8 found.token in
    omega (arith, read.shorter, run-fits c.in-Some.behind.now c.split_white_space-in-loop-rest.result.0.now c.split_white_space-in-loop-rest.result.1.now c.split_white_space-in-loop-rest.ensures)

pub loop-rest-preserved : goal.loop-rest-preserved
loop-rest-preserved c =
    let text = c.args.text.now in
    let rest = c.loop-rest.rest.now in
    let behind = c.in-Some.behind.now in
    let gap = c.split_white_space-in-loop-rest.result.0.now in
    let left = c.split_white_space-in-loop-rest.result.1.now in
    let run = c.split_white_space-in-loop-rest.ensures in
    let found = subst (IsFoundIn (chars rest)) c.in-Some.is c.in_ok-kind.ensures in
    let read = token-read rest behind c.in-Some.kind c.loop-rest.invariant.utf8 found.utf8 found.token in
    record {
      utf8 = run-utf8 is_white_space white-ascii behind gap left found.utf8 run;
      fits = omega (arith, read.shorter, run-fits behind gap left run, c.loop-rest.invariant.fits);
      dark = run.stops;
      goes_on = rw c.in_ok-push.ensures.items
          (token-goes_on text rest behind gap left c.in-Some.kind c.loop-rest.tokens.items _ c.loop-rest.invariant.fits c.loop-rest.invariant.utf8 found.utf8 c.loop-rest.invariant.goes_on found.token run refl);
    }

pub returns : goal.returns
returns c =
    let rest = c.loop-rest.rest.now in
    let none : length rest ≡ 0 = grind (arith, nat_tests) in
    rw c.of-2.ensures (ends-there c.args.text.now rest c.loop-rest.tokens.items none c.loop-rest.invariant.goes_on)
