use Rattle.std.proofs.Common.{rules, length, ◌∙◌, ◌+◌, ◌-◌, sym, ap, arith}
use Rattle.std.specs.Prelude.{map}
use Rattle.vtl_grammar.specs.Faults.{kinds}
use Rattle.vtl_grammar.specs.ReadExpressions.{read}
use Rattle.vtl_grammar.specs.Reading.{more_got}
use Rattle.vtl_grammar.specs.declared.levels.Level.TheVariants as level
use Rattle.vtl_grammar.proofs.UniqueLemmas.{kinds-length}
use Rattle.read_expressions.proofs.ListTurns.{more_got-ends, more_got-full, more_got-stops, more_got-turn, map-push}
use Rattle.read_expressions.proofs.grammar.Grammar.more.Goals.{else-loop-test, then-loop-test+in_default}
use Rattle.read_expressions.proofs.grammar.Grammar.more.Goals as goal

pub loop-init : goal.loop-init
loop-init g c = ap (λ n. more_got (g.P.Nested.reads (read c.args.self.now.budget level.Expression)) n (map g.P.Nested.view c.args.items.items) c.args.spare (kinds c.args.tokens.now)) (omega (arith, kinds-length c.args.tokens.now))

pub returns-in_err-next : goal.returns-in_err-next
returns-in_err-next g c = let h = c.in_err-next.ensures in let f = c.from_residual.ensures in let i = c.loop.invariant in let t = c.loop-test.true in grind (arith, more_got-stops)

pub loop-preserved : goal.loop-preserved
loop-preserved g c =
    let turn = more_got-turn (g.P.Nested.reads (read c.args.self.now.budget level.Expression)) (length c.args.tokens.now - c.loop.index) (length c.args.tokens.now - (c.loop.index + 1)) (map g.P.Nested.view c.loop.items.items) c.loop.least (kinds c.loop.rest.now) (kinds c.in-Some.after.now) (g.P.Nested.view c.in_ok-next.next.tree) c.in_ok-next.next.spare (kinds c.in_ok-next.next.rest.now) (omega (arith, c.loop-test.true)) (search rules) (search rules) in
    rw (c.in_ok-push.ensures.items, map-push g.P.Nested.view c.loop.items.items c.in_ok-next.next.tree, c.min-least.ensures) (sym turn ∙ c.loop.invariant)

pub returns : goal.returns
returns g c = elim c.loop-test.branch [
  | else-loop-test w ↦ let t = w.loop-test.false in
      sym c.loop.invariant ∙ more_got-full (g.P.Nested.reads (read c.args.self.now.budget level.Expression)) (length c.args.tokens.now - c.loop.index) (map g.P.Nested.view c.loop.items.items) c.loop.least (kinds c.loop.rest.now) (omega (arith, t))
  | then-loop-test+in_default w ↦ sym c.loop.invariant ∙ more_got-ends (g.P.Nested.reads (read c.args.self.now.budget level.Expression)) (length c.args.tokens.now - c.loop.index) (map g.P.Nested.view c.loop.items.items) c.loop.least (kinds c.loop.rest.now) (search rules)
]
