use Rattle.std.proofs.Common.{length, map, ◌≡◌, ◌-◌}
use Rattle.vtl_grammar.specs.Faults.{kinds}
use Rattle.vtl_grammar.specs.ReadStatements.{script_read, statements_read}
use Rattle.vtl_syntax.specs.View.{statement_tree}
use Rattle.vtl_parser.proofs.statements.statements.Given as goal

abbrev pub invariant-loop : goal.invariant-loop
invariant-loop l =
    statements_read (length l.fn.tokens - l.index) (map statement_tree l.found.items) (kinds l.rest) ≡ script_read (kinds l.fn.tokens)
