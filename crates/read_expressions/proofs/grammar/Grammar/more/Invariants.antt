use Rattle.std.proofs.Common.{length, ◌≡◌, ◌-◌}
use Rattle.std.specs.Prelude.{map}
use Rattle.vtl_grammar.specs.Faults.{kinds}
use Rattle.vtl_grammar.specs.ReadExpressions.{read}
use Rattle.vtl_grammar.specs.Reading.{more_got}
use Rattle.vtl_grammar.specs.declared.levels.Level.TheVariants as level
use Rattle.read_expressions.proofs.grammar.Grammar.more.Given as goal

abbrev pub invariant-loop : goal.invariant-loop
invariant-loop g l =
    more_got (g.P.Nested.reads (read l.fn.self.budget level.Expression)) (length l.fn.tokens - l.index) (map g.P.Nested.view l.items.items) l.least (kinds l.rest)
    ≡ more_got (g.P.Nested.reads (read l.fn.self.budget level.Expression)) (length (kinds l.fn.tokens)) (map g.P.Nested.view l.fn.items.items) l.fn.spare (kinds l.fn.tokens)
