use Rattle.std.proofs.Common.{length, map, ◌≡◌, ◌-◌}
use Rattle.vtl_grammar.specs.Faults.{kinds}
use Rattle.vtl_grammar.specs.ReadStatements.{more_rules}
use Rattle.vtl_parser.proofs.rules.more_rules.Given as goal

abbrev pub invariant-loop : goal.invariant-loop
invariant-loop g l =
    more_rules g.R.Rule.reads (length l.fn.tokens - l.index) (map g.R.Rule.view l.found.items) (kinds l.rest) ≡ more_rules g.R.Rule.reads (length (kinds l.fn.tokens)) (map g.R.Rule.view l.fn.found.items) (kinds l.fn.tokens)
