use Rattle.std.proofs.Common.{length, ◌≡◌, ◌-◌}
use Rattle.vtl_grammar.specs.Faults.{kinds}
use Rattle.vtl_grammar.specs.ReadStatements.{more_signed}
use Rattle.vtl_parser.proofs.hier_rules.more_signed.Given as goal

abbrev pub invariant-loop : goal.invariant-loop
invariant-loop l =
    more_signed (length l.fn.tokens - l.index) l.items.items (kinds l.rest) ≡ more_signed (length (kinds l.fn.tokens)) l.fn.items.items (kinds l.fn.tokens)
