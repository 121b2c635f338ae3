use Rattle.std.proofs.Common.{◌≤◌, ◌∙◌, length, sym, ap, arith}
use Rattle.std.proofs.lemmas.List.{take_all}
use Rattle.vtl_lexer.specs.Parts.{without_returns}
use Rattle.vtl_lexer.proofs.ReturnLemmas.{content-last, content-none, content-step}
use Rattle.vtl_lexer.proofs.gaps.content_len.Goals as goal

pub loop-size-init : goal.loop-size-init
loop-size-init c =
    let gap = c.args.gap.now in
    record { within = omega arith; same = ap without_returns (sym (take_all (length gap) gap (omega arith))) }

pub loop-size-preserved : goal.loop-size-preserved
loop-size-preserved c = record {
  within = omega (arith, c.loop-size.invariant.within);
  same = content-step c.args.gap.now c.loop-size.size c.loop-size-test.true c.loop-size.invariant.within c.if-gap-size-ne13.false c.loop-size.invariant.same;
}

pub returns-then-gap-size-ne13 : goal.returns-then-gap-size-ne13
returns-then-gap-size-ne13 c = content-last c.args.gap.now c.loop-size.size c.loop-size-test.true c.loop-size.invariant.within c.if-gap-size-ne13.true c.loop-size.invariant.same

pub returns : goal.returns
returns c = content-none c.args.gap.now c.loop-size.size c.loop-size-test.false c.loop-size.invariant.same
