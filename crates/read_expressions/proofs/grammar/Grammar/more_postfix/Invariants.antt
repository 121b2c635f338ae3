use Rattle.std.proofs.Common.{length, ◌≡◌, ◌-◌}
use Rattle.vtl_grammar.specs.Faults.{kinds}
use Rattle.vtl_grammar.specs.ReadExpressions.{in_turns, postfix_step, read}
use Rattle.vtl_grammar.specs.declared.levels.Level.TheVariants as level
use Rattle.read_expressions.specs.Reads.{box_tree, got_of}
use Rattle.read_expressions.proofs.grammar.Grammar.more_postfix.Given as goal

abbrev pub invariant-loop : goal.invariant-loop
invariant-loop g l =
    in_turns (postfix_step l.fn.self.budget (read l.fn.self.budget level.Expression)) (length l.fn.operand.rest.now - l.index) (got_of box_tree l.read)
    ≡ in_turns (postfix_step l.fn.self.budget (read l.fn.self.budget level.Expression)) (length (kinds l.fn.operand.rest.now)) (got_of box_tree l.fn.operand)
