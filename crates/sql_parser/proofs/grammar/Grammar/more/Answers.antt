use Rattle.std.proofs.Common.{length, suc, ◌∙◌, ◌+◌, ◌-◌, Some, sym, ap, arith}
use Rattle.grammar_forms.specs.Forms.{deep, then_reads, turns}
use Rattle.sql_parser_parts.specs.Answers.{kinds}
use Rattle.sql_parser.specs.Depths.{box_tree}
use Rattle.sql_tree.specs.Grammar.{joined_by, of_table}
use Rattle.sql_parser_parts.proofs.Turns.{kinds-length, turns-full}
use Rattle.sql_parser.proofs.Steps.{turn-end, turn-more, turn-stop}
use Rattle.sql_parser.proofs.grammar.Grammar.more.Goals as goal

pub loop-init : goal.loop-init
loop-init g c = ap (λ k. turns (then_reads (of_table g.L.Level.ops).reads (g.L.Level.operand c.args.self.now.budget)) (joined_by (suc c.args.self.now.budget)) k (deep (box_tree c.args.left.part.tree) c.args.left.part.depth) (kinds c.args.left.rest.now)) (omega (arith, kinds-length c.args.left.rest.now))

pub returns-in_err-next : goal.returns-in_err-next
returns-in_err-next g c = let h = c.in_err-next.ensures in let f = c.from_residual.ensures in let i = c.loop.invariant in let t = c.loop-test.true in grind (arith, turn-stop)

pub returns-in-End : goal.returns-in-End
returns-in-End g c =
    let h = rw c.in-End.is at c.in_ok-next.ensures in
    sym c.loop.invariant ∙ turn-end (then_reads (of_table g.L.Level.ops).reads (g.L.Level.operand c.args.self.now.budget)) (joined_by (suc c.args.self.now.budget)) (length c.args.left.rest.now - c.loop.index) (deep (box_tree c.loop.read.part.tree) c.loop.read.part.depth) (kinds c.loop.read.rest.now) h.0 ∙ ap (λ x. Some x) h.1

pub loop-preserved : goal.loop-preserved
loop-preserved g c =
    let h = rw c.in-More.is at c.in_ok-next.ensures in
    sym (turn-more (then_reads (of_table g.L.Level.ops).reads (g.L.Level.operand c.args.self.now.budget)) (joined_by (suc c.args.self.now.budget)) (length c.args.left.rest.now - c.loop.index) (length c.args.left.rest.now - (c.loop.index + 1)) (deep (box_tree c.loop.read.part.tree) c.loop.read.part.depth) (deep (box_tree c.in-More.next.part.tree) c.in-More.next.part.depth) (kinds c.loop.read.rest.now) (kinds c.in-More.next.rest.now) (omega (arith, c.loop-test.true)) h) ∙ c.loop.invariant

pub returns : goal.returns
returns g c = sym c.loop.invariant ∙ turns-full (then_reads (of_table g.L.Level.ops).reads (g.L.Level.operand c.args.self.now.budget)) (joined_by (suc c.args.self.now.budget)) (length c.args.left.rest.now - c.loop.index) (deep (box_tree c.loop.read.part.tree) c.loop.read.part.depth) (kinds c.loop.read.rest.now) (omega (arith, c.loop-test.false))
