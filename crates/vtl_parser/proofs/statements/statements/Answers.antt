use Rattle.std.proofs.Common.{Some, length, map, ◌∙◌, ◌+◌, ◌-◌, [], ◌∷◌, sym, ap, arith}
use Rattle.std.proofs.lemmas.List.{map-append}
use Rattle.vtl_grammar.proofs.CompleteStatements.{statements_stop}
use Rattle.vtl_grammar.specs.Faults.{kinds}
use Rattle.vtl_grammar.proofs.UniqueLemmas.{kinds-length}
use Rattle.vtl_syntax.specs.View.{statement_tree}
use Rattle.vtl_parser.proofs.StatementTurns.{script_read-turns, statements_read-full, statements_read-turn}
use Rattle.vtl_parser.proofs.statements.statements.Goals.{else-loop-test, then-loop-test+in-Err-Absent}
use Rattle.vtl_parser.proofs.statements.statements.Goals as goal

pub loop-init : goal.loop-init
loop-init c = let n = c.new-found.ensures.items in
    rw n (script_read-turns (length c.args.tokens.now - 0) (kinds c.args.tokens.now) (omega (arith, kinds-length c.args.tokens.now)))

pub loop-preserved : goal.loop-preserved
loop-preserved c = let p = c.in_ok-push-in-Ok.ensures.items in
    rw (p, map-append statement_tree c.loop.found.items (c.in-Ok.next.part ∷ [])) (sym (statements_read-turn (length c.args.tokens.now - c.loop.index) (length c.args.tokens.now - (c.loop.index + 1)) (map statement_tree c.loop.found.items) (kinds c.loop.rest.now) (statement_tree c.in-Ok.next.part) (kinds c.in-Ok.next.rest.now) (omega (arith, c.loop-test.true)) c.in-Ok.ensures) ∙ c.loop.invariant)

pub returns : goal.returns
returns c = let o = c.of.ensures in elim c.loop-test.branch [
  | else-loop-test w ↦ let t = w.loop-test.false in
      rw o (ap Some (sym c.loop.invariant ∙ statements_read-full (length c.args.tokens.now - c.loop.index) (map statement_tree c.loop.found.items) (kinds c.loop.rest.now) (omega (arith, t))))
  | then-loop-test+in-Err-Absent w ↦
      rw o (ap Some (sym c.loop.invariant ∙ statements_stop (length c.args.tokens.now - c.loop.index) (map statement_tree c.loop.found.items) (kinds c.loop.rest.now) (rw w.in-Err-Absent.field-0-is at w.in-Err-Absent.ensures)))
]
