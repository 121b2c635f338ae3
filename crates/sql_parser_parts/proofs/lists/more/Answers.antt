use Rattle.std.proofs.Common.{length, ◌∙◌, ◌+◌, ◌-◌, sym, ap, arith, map, refl, ◌++◌, ◌∷◌, [], Ok}
use Rattle.grammar_forms.specs.Forms.{added, turns}
use Rattle.sql_parser_parts.specs.Answers.{kinds}
use Rattle.sql_parser_parts.proofs.Turns.{kinds-length, map-push, optional-none, optional-some, turns-ends, turns-full, turns-turn}
use Rattle.sql_parser_parts.proofs.lists.more.Goals.{else-loop-test, then-loop-test+in_ok-next+in_default}
use Rattle.sql_parser_parts.proofs.lists.more.Goals as goal

pub loop-init : goal.loop-init
loop-init g c = ap (λ n. turns g.L.ListKind.step added n (map g.L.ListKind.view c.args.items.items) (kinds c.args.tokens.now)) (omega (arith, kinds-length c.args.tokens.now))

pub loop-preserved : goal.loop-preserved
loop-preserved g c =
    let before = map g.L.ListKind.view c.loop.items.items in
    let next = c.in-Some.next in
    let is_next = optional-some g.L.ListKind.view (g.L.ListKind.step (kinds c.loop.rest.now)) c.step.result next c.step.ensures (sym c.optional.ensures ∙ c.in_ok-next.was ∙ ap Ok c.in-Some.is) in
    let turn = turns-turn g.L.ListKind.step added (length c.args.tokens.now - c.loop.index) (length c.args.tokens.now - (c.loop.index + 1)) before (before ++ g.L.ListKind.view next.part ∷ []) (kinds c.loop.rest.now) (kinds next.rest.now) (g.L.ListKind.view next.part) (omega (arith, c.loop-test.true)) is_next refl in
    rw (c.in_ok-push.ensures.items, map-push g.L.ListKind.view c.loop.items.items next.part) (sym turn ∙ c.loop.invariant)

pub returns : goal.returns
returns g c = elim c.loop-test.branch [
  | else-loop-test w ↦ let t = w.loop-test.false in
      sym c.loop.invariant ∙ turns-full g.L.ListKind.step added (length c.args.tokens.now - c.loop.index) (map g.L.ListKind.view c.loop.items.items) (kinds c.loop.rest.now) (omega (arith, t))
  | then-loop-test+in_ok-next+in_default w ↦
      let absent = optional-none g.L.ListKind.view (g.L.ListKind.step (kinds c.loop.rest.now)) w.step.result w.step.ensures (sym w.optional.ensures ∙ w.in_ok-next.was ∙ ap Ok w.in_default.is) in
      sym c.loop.invariant ∙ turns-ends g.L.ListKind.step added (length c.args.tokens.now - c.loop.index) (map g.L.ListKind.view c.loop.items.items) (kinds c.loop.rest.now) absent
]
