-- Expressions without a bound on their depth: some tokens, the tree that they mean and the depth of how it is written. A leaf has depth 1; each operator, call, CASE and pair of brackets has one more than its deepest part.
use Rattle.std.specs.Prelude.{ℕ}
use Rattle.grammar_forms.specs.Forms.{deep}
use Rattle.sql_tree.specs.Grammar.{Place, Whole, Tokens, expr_at}
use Rattle.sql_tree.specs.Trees.{Exp}

-- for a bound that is great enough
pub record SpelledAt (p : Place) (ts : Tokens) (e : Exp) (depth : ℕ) : Type 0 where
  pub bound : ℕ
  pub spelled : (expr_at bound p).spells ts (deep e depth)

abbrev pub Spelled : Tokens → Exp → ℕ → Type 0
Spelled ts e depth = SpelledAt Whole ts e depth
