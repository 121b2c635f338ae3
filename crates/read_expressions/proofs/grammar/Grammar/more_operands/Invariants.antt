use Rattle.std.proofs.Common.{length, ◌≡◌, ◌-◌}
use Rattle.vtl_grammar.specs.Faults.{kinds}
use Rattle.vtl_grammar.specs.ReadExpressions.{in_turns, operand_step, read}
use Rattle.read_expressions.specs.Reads.{box_tree, got_of}
use Rattle.read_expressions.proofs.grammar.Grammar.more_operands.Given as goal

abbrev pub invariant-loop : goal.invariant-loop
invariant-loop g l =
    in_turns (operand_step l.fn.level (read l.fn.self.budget l.fn.right)) (length l.fn.left.rest.now - l.index) (got_of box_tree l.read)
    ≡ in_turns (operand_step l.fn.level (read l.fn.self.budget l.fn.right)) (length (kinds l.fn.left.rest.now)) (got_of box_tree l.fn.left)
