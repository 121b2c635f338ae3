use Rattle.std.proofs.Common.{length, suc, ◌≡◌, ◌-◌}
use Rattle.grammar_forms.specs.Forms.{deep, then_reads, turns}
use Rattle.sql_parser_parts.specs.Answers.{kinds}
use Rattle.sql_parser.specs.Depths.{box_tree}
use Rattle.sql_tree.specs.Grammar.{joined_by, of_table}
use Rattle.sql_parser.proofs.grammar.Grammar.more.Given as goal

abbrev pub invariant-loop : goal.invariant-loop
invariant-loop g l =
    turns (then_reads (of_table g.L.Level.ops).reads (g.L.Level.operand l.fn.self.budget)) (joined_by (suc l.fn.self.budget)) (length l.fn.left.rest.now - l.index) (deep (box_tree l.read.part.tree) l.read.part.depth) (kinds l.read.rest.now)
    ≡ turns (then_reads (of_table g.L.Level.ops).reads (g.L.Level.operand l.fn.self.budget)) (joined_by (suc l.fn.self.budget)) (length (kinds l.fn.left.rest.now)) (deep (box_tree l.fn.left.part.tree) l.fn.left.part.depth) (kinds l.fn.left.rest.now)
