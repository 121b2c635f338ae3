use Rattle.std.proofs.Common.{rules, length, ◌∙◌, ◌+◌, ◌-◌, sym, ap, arith}
use Rattle.vtl_grammar.specs.Faults.{kinds}
use Rattle.vtl_grammar.specs.Reading.{more_items}
use Rattle.vtl_grammar.proofs.UniqueLemmas.{kinds-length}
use Rattle.read_parts.proofs.Turns.{more_items-ends, more_items-full, more_items-stops, more_items-turn}
use Rattle.read_parts.proofs.lists.more.Goals.{else-loop-test, then-loop-test+in_default}
use Rattle.read_parts.proofs.lists.more.Goals as goal

pub loop-init : goal.loop-init
loop-init g c = ap (λ n. more_items g.I.Item.reads n c.args.items.items (kinds c.args.tokens.now)) (omega (arith, kinds-length c.args.tokens.now))

pub returns-in_err-next : goal.returns-in_err-next
returns-in_err-next g c = let h = c.in_err-next.ensures in let f = c.from_residual.ensures in let i = c.loop.invariant in let t = c.loop-test.true in grind (arith, more_items-stops)

pub loop-preserved : goal.loop-preserved
loop-preserved g c = let h = c.in_ok-next.ensures in let p = c.in_ok-push.ensures.items in
    rw p (sym (more_items-turn g.I.Item.reads (length c.args.tokens.now - c.loop.index) (length c.args.tokens.now - (c.loop.index + 1)) c.loop.items.items (kinds c.loop.rest.now) (kinds c.in-Some.after.now) c.in_ok-next.next.part (kinds c.in_ok-next.next.rest.now) (omega (arith, c.loop-test.true)) (search rules) (search rules)) ∙ c.loop.invariant)

pub returns : goal.returns
returns g c = let o = c.of.ensures in elim c.loop-test.branch [
  | else-loop-test w ↦ let t = w.loop-test.false in
      rw o (sym c.loop.invariant ∙ more_items-full g.I.Item.reads (length c.args.tokens.now - c.loop.index) c.loop.items.items (kinds c.loop.rest.now) (omega (arith, t)))
  | then-loop-test+in_default w ↦ rw o (sym c.loop.invariant ∙ more_items-ends g.I.Item.reads (length c.args.tokens.now - c.loop.index) c.loop.items.items (kinds c.loop.rest.now) (search rules))
]
