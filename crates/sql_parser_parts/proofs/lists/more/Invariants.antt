use Rattle.std.proofs.Common.{length, ◌≡◌, ◌-◌, map}
use Rattle.grammar_forms.specs.Forms.{added, turns}
use Rattle.sql_parser_parts.specs.Answers.{kinds}
use Rattle.sql_parser_parts.proofs.lists.more.Given as goal

abbrev pub invariant-loop : goal.invariant-loop
invariant-loop g l =
    turns g.L.ListKind.step added (length l.fn.tokens - l.index) (map g.L.ListKind.view l.items.items) (kinds l.rest) ≡ turns g.L.ListKind.step added (length (kinds l.fn.tokens)) (map g.L.ListKind.view l.fn.items.items) (kinds l.fn.tokens)
