use Rattle.std.proofs.Common.{rules, length, map, ◌+◌, ◌-◌, [], ◌∷◌, ap, arith}
use Rattle.std.proofs.lemmas.List.{map-append}
use Rattle.vtl_grammar.specs.Faults.{kinds}
use Rattle.vtl_grammar.specs.ReadStatements.{more_rules}
use Rattle.vtl_grammar.proofs.UniqueLemmas.{kinds-length}
use Rattle.vtl_parser.proofs.RuleTurns.{more_rules-ends, more_rules-full, more_rules-last, more_rules-stops, more_rules-turn}
use Rattle.vtl_parser.proofs.rules.more_rules.Goals.{else-loop-test, then-loop-test+in_default}
use Rattle.vtl_parser.proofs.rules.more_rules.Goals as goal

pub loop-init : goal.loop-init
loop-init g c = ap (λ n. more_rules g.R.Rule.reads n (map g.R.Rule.view c.args.found.items) (kinds c.args.tokens.now)) (omega (arith, kinds-length c.args.tokens.now))

pub returns-then-ends_rules : goal.returns-then-ends_rules
returns-then-ends_rules g c = let o = c.of.ensures in
    rw (o, ← c.loop.invariant) (more_rules-last g.R.Rule.reads (length c.args.tokens.now - c.loop.index) (map g.R.Rule.view c.loop.found.items) (kinds c.loop.rest.now) (kinds c.in-Some.after.now) (omega (arith, c.loop-test.true)) (search rules) (search rules))

pub returns-in_err-next : goal.returns-in_err-next
returns-in_err-next g c = let h = c.in_err-next.ensures in let f = c.from_residual.ensures in let i = c.loop.invariant in let t = c.loop-test.true in grind (arith, more_rules-stops)

pub loop-preserved : goal.loop-preserved
loop-preserved g c = let p = c.in_ok-push.ensures.items in
    rw (p, map-append g.R.Rule.view c.loop.found.items (c.in_ok-next.next.part ∷ []), ← (more_rules-turn g.R.Rule.reads (length c.args.tokens.now - c.loop.index) (length c.args.tokens.now - (c.loop.index + 1)) (map g.R.Rule.view c.loop.found.items) (kinds c.loop.rest.now) (kinds c.in-Some.after.now) (g.R.Rule.view c.in_ok-next.next.part) (kinds c.in_ok-next.next.rest.now) (omega (arith, c.loop-test.true)) (search rules) (search rules) (search rules))) c.loop.invariant

pub returns : goal.returns
returns g c = let o = c.of-2.ensures in elim c.loop-test.branch [
  | else-loop-test w ↦ let t = w.loop-test.false in
      rw (o, ← c.loop.invariant) (more_rules-full g.R.Rule.reads (length c.args.tokens.now - c.loop.index) (map g.R.Rule.view c.loop.found.items) (kinds c.loop.rest.now) (omega (arith, t)))
  | then-loop-test+in_default w ↦ rw (o, ← c.loop.invariant) (more_rules-ends g.R.Rule.reads (length c.args.tokens.now - c.loop.index) (map g.R.Rule.view c.loop.found.items) (kinds c.loop.rest.now) (search rules))
]
