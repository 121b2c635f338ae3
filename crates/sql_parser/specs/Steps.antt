-- Chains, step by step.
use Rattle.std.specs.Prelude.{◌≡◌, List, Option, None, Some, Result, Ok, Err}
use Rattle.vtl_lists.specs.Options.{given, ◌>>=◌}
use Rattle.grammar_forms.specs.Forms.{Deep, Reads}
use Rattle.sql_lexer.specs.declared.token.TokenKind.{TokenKind}
use Rattle.sql_tree.specs.Trees.{Exp}
use Rattle.sql_parser_parts.specs.Answers.{front_view}
use Rattle.sql_parser.specs.Depths.{box_tree, deep_view}
use Rattle.sql_parser_parts.specs.declared.front.Unread.{Unread}
use Rattle.sql_parser_parts.specs.declared.front.Unread.TheVariants as u
use Rattle.sql_parser.specs.declared.levels.Turn.{Turn}
use Rattle.sql_parser.specs.declared.levels.Turn.TheVariants as t

abbrev pub turned : {T A : Type 0} → List T → A → Option (Option (A × List T))
turned ts a = Some (Some (a, ts))

-- one step more, or none since none stands there; and no answer where the step does not join
abbrev pub turn_reads : {T A S : Type 0} → Reads T S → (A → S → Option A) → A → List T → Option (Option (A × List T))
turn_reads step join a ts = given (step ts) (λ s. join a s.0 >>= (λ b. turned s.1 b)) (Some None)

-- the answer of one turn at what was read so far
abbrev pub AnswersTurn : Option (Option (Deep Exp × List TokenKind)) → Deep Exp × List TokenKind → Result Turn Unread → Type 0
AnswersTurn turn p (Ok (t.More next)) = turn ≡ Some (Some (front_view (deep_view box_tree) next))
AnswersTurn turn p (Ok (t.End last)) = (turn ≡ Some None) × (p ≡ front_view (deep_view box_tree) last)
AnswersTurn turn p (Err u.Absent) = turn ≡ None
AnswersTurn turn p (Err u.OutOfMemory) = Unit {0}
