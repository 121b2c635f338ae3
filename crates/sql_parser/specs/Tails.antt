-- What follows an operand.
use Rattle.std.specs.Prelude.{ℕ, List, Option, Some}
use Rattle.vtl_lists.specs.Options.{◌>>=◌}
use Rattle.grammar_forms.specs.Forms.{Deep, Reads, gives, then_reads}
use Rattle.sql_lexer.specs.declared.token.TokenKind.{TokenKind}
use Rattle.sql_tree.specs.Grammar as grammar
use Rattle.sql_tree.specs.Grammar.{of_table, compare_ops_table, with_tail}
use Rattle.sql_tree.specs.Trees.{Exp}
use Rattle.sql_parser.specs.Depths.{box_tree, deep_view}
use Rattle.sql_parser.specs.declared.expressions.Tail.{Tail}
use Rattle.sql_parser.specs.declared.expressions.Tail.TheVariants as t

abbrev pub tail_view : Tail → grammar.Tail
tail_view (t.Compared op right) = grammar.Compared op (deep_view box_tree right)
tail_view (t.IsNull negated) = grammar.IsNull negated
tail_view (t.Among negated literals) = grammar.Among negated literals.items

-- a comparison and its right operand
abbrev pub compared_reads : Reads TokenKind (Deep Exp) → Reads TokenKind grammar.Tail
compared_reads operand ts = then_reads (of_table compare_ops_table).reads operand ts >>= (λ p. Some (grammar.Compared p.0.0 p.0.1) >>= (λ b. gives b p.1))

-- an operand with what follows it
abbrev pub tailed_reads : ℕ → Deep Exp → grammar.Tail → List TokenKind → Option (Deep Exp × List TokenKind)
tailed_reads n left tail rest = with_tail n (left, Some tail) >>= (λ g. gives g rest)
