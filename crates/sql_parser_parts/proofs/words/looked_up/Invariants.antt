use Rattle.std.proofs.Common.{◌≡◌, drop}
use Rattle.grammar_forms.specs.Forms.{lookup}
use Rattle.sql_parser_parts.specs.Answers.{by_places}
use Rattle.sql_parser_parts.proofs.words.looked_up.Given as goal

abbrev pub invariant-loop-word : goal.invariant-loop-word
invariant-loop-word g l = lookup (by_places (drop l.word-index l.table)) l.class ≡ lookup (by_places l.table) l.class
