use Rattle.std.proofs.Common.{length, ◌∙◌, ◌+◌, ◌-◌, Some, sym, ap, arith}
use Rattle.vtl_grammar.specs.Faults.{kinds}
use Rattle.vtl_grammar.specs.ReadExpressions.{in_turns, postfix_step, read}
use Rattle.vtl_grammar.specs.declared.levels.Level.TheVariants as level
use Rattle.vtl_grammar.proofs.UniqueLemmas.{kinds-length}
use Rattle.read_expressions.specs.Reads.{box_tree, got_of}
use Rattle.read_expressions.proofs.StepTurns.{turns-full, turns-end, turns-stop, turns-more}
use Rattle.read_expressions.proofs.grammar.Grammar.more_postfix.Goals as goal

pub loop-init : goal.loop-init
loop-init g c =
    ap (λ k. in_turns (postfix_step c.args.self.now.budget (read c.args.self.now.budget level.Expression)) k (got_of box_tree c.args.operand)) (omega (arith, kinds-length c.args.operand.rest.now))

pub returns-in_err-next : goal.returns-in_err-next
returns-in_err-next g c = let h = c.in_err-next.ensures in let f = c.from_residual.ensures in let i = c.loop.invariant in let t = c.loop-test.true in grind (arith, turns-stop)

pub returns-in-End : goal.returns-in-End
returns-in-End g c =
    let h = rw c.in-End.is at c.in_ok-next.ensures in
    sym c.loop.invariant ∙ turns-end (postfix_step c.args.self.now.budget (read c.args.self.now.budget level.Expression)) (length c.args.operand.rest.now - c.loop.index) (got_of box_tree c.loop.read) h.0 ∙ ap (λ x. Some x) h.1

pub loop-preserved : goal.loop-preserved
loop-preserved g c =
    let h = rw c.in-More.is at c.in_ok-next.ensures in
    sym (turns-more (postfix_step c.args.self.now.budget (read c.args.self.now.budget level.Expression)) (length c.args.operand.rest.now - c.loop.index) (length c.args.operand.rest.now - (c.loop.index + 1)) (got_of box_tree c.loop.read) (got_of box_tree c.in-More.next) (omega (arith, c.loop-test.true)) h) ∙ c.loop.invariant

pub returns : goal.returns
returns g c = sym c.loop.invariant ∙ turns-full (postfix_step c.args.self.now.budget (read c.args.self.now.budget level.Expression)) (length c.args.operand.rest.now - c.loop.index) (got_of box_tree c.loop.read) (omega (arith, c.loop-test.false))
