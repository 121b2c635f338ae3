use Rattle.std.proofs.Common.{rules, length, ◌∙◌, ◌+◌, ◌-◌, sym, ap, arith}
use Rattle.vtl_grammar.specs.Faults.{kinds}
use Rattle.vtl_grammar.specs.ReadStatements.{more_signed}
use Rattle.vtl_grammar.proofs.UniqueLemmas.{kinds-length}
use Rattle.vtl_parser.proofs.SignedTurns.{more_signed-ends, more_signed-full, more_signed-stops, more_signed-turn}
use Rattle.vtl_parser.proofs.hier_rules.more_signed.Goals.{else-loop-test, then-loop-test+in_default}
use Rattle.vtl_parser.proofs.hier_rules.more_signed.Goals as goal

pub loop-init : goal.loop-init
loop-init c = ap (λ n. more_signed n c.args.items.items (kinds c.args.tokens.now)) (omega (arith, kinds-length c.args.tokens.now))

pub returns-in_err-item : goal.returns-in_err-item
returns-in_err-item c = let h = c.in_err-item.ensures in let f = c.from_residual.ensures in let i = c.loop.invariant in let t = c.loop-test.true in grind (arith, more_signed-stops)

pub loop-preserved : goal.loop-preserved
loop-preserved c = let p = c.in_ok-push.ensures.items in
    rw p (sym (more_signed-turn (length c.args.tokens.now - c.loop.index) (length c.args.tokens.now - (c.loop.index + 1)) c.loop.items.items (kinds c.loop.rest.now) (kinds c.in-Some.sign.rest.now) c.in-Some.sign.part c.in_ok-item.item.part (kinds c.in_ok-item.item.rest.now) (omega (arith, c.loop-test.true)) (search rules) (search rules)) ∙ c.loop.invariant)

pub returns : goal.returns
returns c = let o = c.of.ensures in elim c.loop-test.branch [
  | else-loop-test w ↦ let t = w.loop-test.false in
      rw (o, ← c.loop.invariant) (more_signed-full (length c.args.tokens.now - c.loop.index) c.loop.items.items (kinds c.loop.rest.now) (omega (arith, t)))
  | then-loop-test+in_default w ↦ rw (o, ← c.loop.invariant) (more_signed-ends (length c.args.tokens.now - c.loop.index) c.loop.items.items (kinds c.loop.rest.now) (search rules))
]
