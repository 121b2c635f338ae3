use Rattle.std.proofs.Common.{Some, Ok, map, ◌∙◌, ◌+◌, ◌-◌, [], ◌∷◌, ◌++◌, ◌≡◌, suc, sym, ap, arith}
use Rattle.grammar_forms.specs.Scripts.{ahead, script_reads}
use Rattle.grammar_forms.proofs.Scripts.{ahead-full, ahead-stop, ahead-turn}
use Rattle.sql_parser_parts.specs.Answers.{kinds}
use Rattle.sql_tree.specs.Grammar.{statement, statement_at}
use Rattle.sql_tree.specs.View.{statement_tree}
use Rattle.sql_parser.proofs.Told.{statement-behind}
use Rattle.sql_parser_parts.proofs.Turns.{map-push, optional-none, optional-some}
use Rattle.sql_parser.proofs.scripts.statements.Goals.{else-loop-test, then-loop-test+in_ok-next+in_default}
use Rattle.sql_parser.proofs.scripts.statements.Goals as goal

pub loop-init : goal.loop-init
loop-init c = rw c.new-found.ensures.items (ap (λ n. script_reads statement_at n 1 (kinds c.args.tokens.now)) (omega arith))

pub loop-preserved : goal.loop-preserved
loop-preserved c =
    let before = map statement_tree c.loop.found.items in
    let next = c.in-Some.next in
    let is_next = optional-some statement_tree (statement.reads (kinds c.loop.rest.now)) c.statement.result next c.statement.ensures (sym c.optional.ensures ∙ c.in_ok-next.was ∙ ap Ok c.in-Some.is) in
    let turn = ahead-turn statement_at (c.args.most - c.loop.counter) (c.args.most - (c.loop.counter + 1)) (suc c.loop.counter) before (kinds c.loop.rest.now) (statement_tree next.part) (kinds next.rest.now) (omega (arith, c.loop-test.true)) (statement-behind c.loop.counter (kinds c.loop.rest.now) ∙ is_next) in
    let place : suc (c.loop.counter + 1) ≡ suc (suc c.loop.counter) = omega arith in
    rw (c.in_ok-push.ensures.items, map-push statement_tree c.loop.found.items next.part) (ap (λ j. ahead (before ++ statement_tree next.part ∷ []) (script_reads statement_at (c.args.most - (c.loop.counter + 1)) j (kinds next.rest.now))) place ∙ sym turn ∙ c.loop.invariant)

pub returns : goal.returns
returns c = elim c.loop-test.branch [
  | else-loop-test w ↦ let t = w.loop-test.false in
      ap Some (sym c.loop.invariant ∙ ahead-full statement_at (c.args.most - c.loop.counter) (suc c.loop.counter) (map statement_tree c.loop.found.items) (kinds c.loop.rest.now) (omega (arith, t)))
  | then-loop-test+in_ok-next+in_default w ↦
      let absent = optional-none statement_tree (statement.reads (kinds c.loop.rest.now)) w.statement.result w.statement.ensures (sym w.optional.ensures ∙ w.in_ok-next.was ∙ ap Ok w.in_default.is) in
      ap Some (sym c.loop.invariant ∙ ahead-stop statement_at (c.args.most - c.loop.counter) (suc c.loop.counter) (map statement_tree c.loop.found.items) (kinds c.loop.rest.now) (statement-behind c.loop.counter (kinds c.loop.rest.now) ∙ absent))
]
