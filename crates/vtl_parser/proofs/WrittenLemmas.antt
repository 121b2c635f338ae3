-- What is read is written.
use Rattle.std.proofs.Common.{ℕ, List, Option, subst}
use Rattle.std.specs.List.{AllByRecursion}
use Rattle.vtl_grammar.specs.Faults.{kinds}
use Rattle.vtl_grammar.specs.Written.{IsSpelled, Written}
use Rattle.vtl_lexer.specs.Lexed.{Lexes, mark_len, at_end, at_fault, behind_gap, behind_token}
use Rattle.vtl_lexer.specs.declared.token.Token.{Token}
use Rattle.vtl_parser.specs.Parsed.{IsScript}
use Rattle.vtl_syntax.specs.Trees.{ScriptTree}

tokens_spelled : (at : ℕ) (text : List ℕ) (tokens : List Token) (bad : Option ℕ) → Lexes at text tokens bad → AllByRecursion IsSpelled (kinds tokens)
unfolding kinds
tokens_spelled at text tokens bad (at_end _) = tt
tokens_spelled at text tokens bad (behind_gap _ _ bytes rest _ _ is gap more) = tokens_spelled _ rest tokens bad more
tokens_spelled at text _ bad (behind_token _ _ bytes rest token tokens _ is starts from to more) = ((bytes, starts.spelled), tokens_spelled _ rest tokens bad more)
tokens_spelled at text tokens bad (at_fault _ _ some no_gap no_token) = tt

pub script_written : (text : List ℕ) (script : ScriptTree) → IsScript text script → Written script
script_written text script s = record {
  each = s.whole.spelled.each;
  spelled = subst (AllByRecursion IsSpelled) s.whole.spelled.is (tokens_spelled (mark_len text) _ s.tokens s.bad s.lexed);
}
