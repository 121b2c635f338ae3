-- Joins behind a source, read as a list.
use Rattle.std.proofs.Common.{◌≡◌, ℕ, zero, suc, List, [], ◌∷◌, ◌++◌, ◌∙◌, Option, None, Some, refl, ap}
use Rattle.std.specs.Prelude.{option_map}
use Rattle.vtl_lists.specs.Options.{given, ◌>>=◌}
use Rattle.grammar_forms.specs.Forms.{Reads, added, gives, turns}
use Rattle.sql_lexer.specs.declared.token.TokenKind.{TokenKind}
use Rattle.sql_tree.specs.Grammar.{join_added}
use Rattle.sql_tree.specs.Trees.{JoinTree}
use Rattle.sql_tree.specs.declared.parts.Source.{Source}

behind_source : Source → List JoinTree × List TokenKind → (Source × List JoinTree) × List TokenKind
behind_source s p = ((s, p.0), p.1)

joins-step : (step : Reads TokenKind JoinTree) (n : ℕ) (s : Source) (js : List JoinTree) (ts : List TokenKind)
    → ((next : List JoinTree) (us : List TokenKind) → turns step join_added n (s, next) us ≡ option_map (behind_source s) (turns step added n next us))
    → (r : Option (JoinTree × List TokenKind)) → given r (λ j. join_added (s, js) j.0 >>= (λ b. turns step join_added n b j.1)) (gives (s, js) ts) ≡ option_map (behind_source s) (given r (λ j. added js j.0 >>= (λ b. turns step added n b j.1)) (gives js ts))
unfolding behind_source
joins-step step n s js ts more None = refl
joins-step step n s js ts more (Some j) = more (js ++ j.0 ∷ []) j.1

turns-joins : (step : Reads TokenKind JoinTree) (n : ℕ) (s : Source) (js : List JoinTree) (ts : List TokenKind) → turns step join_added n (s, js) ts ≡ option_map (behind_source s) (turns step added n js ts)
unfolding behind_source
turns-joins step zero s js ts = refl
turns-joins step (suc n) s js ts = joins-step step n s js ts (λ next us. turns-joins step n s next us) (step ts)

-- the joins that were read as a list are those of the source
pub turns_joins : (step : Reads TokenKind JoinTree) (n : ℕ) (s : Source) (js found : List JoinTree) (ts rest : List TokenKind) → turns step added n js ts ≡ Some (found, rest) → turns step join_added n (s, js) ts ≡ Some ((s, found), rest)
unfolding behind_source
turns_joins step n s js found ts rest e = turns-joins step n s js ts ∙ ap (option_map (behind_source s)) e

pub turns_no_joins : (step : Reads TokenKind JoinTree) (n : ℕ) (s : Source) (js : List JoinTree) (ts : List TokenKind) → turns step added n js ts ≡ None → turns step join_added n (s, js) ts ≡ None
unfolding behind_source
turns_no_joins step n s js ts e = turns-joins step n s js ts ∙ ap (option_map (behind_source s)) e

pub ruleset joins = (turns_joins, turns_no_joins)
