use Rattle.std.proofs.Common.{length, ◌∙◌, ◌+◌, ◌-◌, sym, ap, arith, map, refl, max, ◌++◌, ◌∷◌, [], Ok}
use Rattle.grammar_forms.specs.Forms.{deep, deep_added, turns}
use Rattle.sql_parser_parts.specs.Answers.{kinds}
use Rattle.sql_parser.specs.Depths.{deep_view}
use Rattle.sql_parser_parts.proofs.Turns.{kinds-length, map-push, optional-none, optional-some, turns-ends, turns-full, turns-turn}
use Rattle.sql_parser.proofs.grammar.Grammar.items.Goals.{else-loop-test, then-loop-test+in_ok-next+in_default}
use Rattle.sql_parser.proofs.grammar.Grammar.items.Goals as goal

pub loop-init : goal.loop-init
loop-init g c = ap (λ n. turns (g.K.DeepKind.step c.args.self.now.budget) deep_added n (deep (map g.K.DeepKind.view c.args.items.items) c.args.depth) (kinds c.args.tokens.now)) (omega (arith, kinds-length c.args.tokens.now))

pub loop-preserved : goal.loop-preserved
loop-preserved g c =
    let step = g.K.DeepKind.step c.args.self.now.budget in
    let before = map g.K.DeepKind.view c.loop.items.items in
    let next = c.in-Some.next in
    let is_next = optional-some (deep_view g.K.DeepKind.view) (step (kinds c.loop.rest.now)) c.step.result next c.step.ensures (sym c.optional.ensures ∙ c.in_ok-next.was ∙ ap Ok c.in-Some.is) in
    let turn = turns-turn step deep_added (length c.args.tokens.now - c.loop.index) (length c.args.tokens.now - (c.loop.index + 1)) (deep before c.loop.deepest) (deep (before ++ g.K.DeepKind.view next.part.tree ∷ []) (max c.loop.deepest next.part.depth)) (kinds c.loop.rest.now) (kinds next.rest.now) (deep (g.K.DeepKind.view next.part.tree) next.part.depth) (omega (arith, c.loop-test.true)) is_next refl in
    rw (c.in_ok-push.ensures.items, map-push g.K.DeepKind.view c.loop.items.items next.part.tree, c.max-deepest.ensures) (sym turn ∙ c.loop.invariant)

pub returns : goal.returns
returns g c = elim c.loop-test.branch [
  | else-loop-test w ↦ let t = w.loop-test.false in
      sym c.loop.invariant ∙ turns-full (g.K.DeepKind.step c.args.self.now.budget) deep_added (length c.args.tokens.now - c.loop.index) (deep (map g.K.DeepKind.view c.loop.items.items) c.loop.deepest) (kinds c.loop.rest.now) (omega (arith, t))
  | then-loop-test+in_ok-next+in_default w ↦
      let absent = optional-none (deep_view g.K.DeepKind.view) (g.K.DeepKind.step c.args.self.now.budget (kinds c.loop.rest.now)) w.step.result w.step.ensures (sym w.optional.ensures ∙ w.in_ok-next.was ∙ ap Ok w.in_default.is) in
      sym c.loop.invariant ∙ turns-ends (g.K.DeepKind.step c.args.self.now.budget) deep_added (length c.args.tokens.now - c.loop.index) (deep (map g.K.DeepKind.view c.loop.items.items) c.loop.deepest) (kinds c.loop.rest.now) absent
]
