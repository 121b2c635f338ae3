use Rattle.std.proofs.Common.{length, ◌≡◌, ◌-◌}
use Rattle.std.specs.Prelude.{map}
use Rattle.grammar_forms.specs.Forms.{deep, deep_added, turns}
use Rattle.sql_parser_parts.specs.Answers.{kinds}
use Rattle.sql_parser.proofs.grammar.Grammar.items.Given as goal

abbrev pub invariant-loop : goal.invariant-loop
invariant-loop g l =
    turns (g.K.DeepKind.step l.fn.self.budget) deep_added (length l.fn.tokens - l.index) (deep (map g.K.DeepKind.view l.items.items) l.deepest) (kinds l.rest)
    ≡ turns (g.K.DeepKind.step l.fn.self.budget) deep_added (length (kinds l.fn.tokens)) (deep (map g.K.DeepKind.view l.fn.items.items) l.fn.depth) (kinds l.fn.tokens)
