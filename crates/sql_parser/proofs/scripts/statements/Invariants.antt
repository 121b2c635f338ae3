use Rattle.std.proofs.Common.{suc, map, ◌≡◌, ◌-◌}
use Rattle.grammar_forms.specs.Scripts.{ahead, script_reads}
use Rattle.sql_parser_parts.specs.Answers.{kinds}
use Rattle.sql_tree.specs.Grammar.{statement_at}
use Rattle.sql_tree.specs.View.{statement_tree}
use Rattle.sql_parser.proofs.scripts.statements.Given as goal

abbrev pub invariant-loop : goal.invariant-loop
invariant-loop l =
    ahead (map statement_tree l.found.items) (script_reads statement_at (l.fn.most - l.counter) (suc l.counter) (kinds l.rest)) ≡ script_reads statement_at l.fn.most 1 (kinds l.fn.tokens)
