-- One turn of the loop over the statements of a script.
use Rattle.std.proofs.Common.{◌≡◌, ℕ, zero, suc, [], ◌∷◌, ◌++◌, length, Some, refl, ap, arith}
use Rattle.vtl_grammar.specs.Grammar.{Tokens}
use Rattle.vtl_grammar.specs.ReadStatements.{script_read, statement_read, statements_read}
use Rattle.vtl_syntax.specs.Trees.{ScriptTree, StatementTree}

pub statements_read-full : (n : ℕ) (script : ScriptTree) (ts : Tokens) → n ≡ 0 → statements_read n script ts ≡ (script, ts)
unfolding statements_read
statements_read-full zero script ts e = refl
statements_read-full (suc n) script ts e = absurd (omega (arith, e))

pub statements_read-turn : (n m : ℕ) (script : ScriptTree) (ts : Tokens) (s : StatementTree) (rest : Tokens) → n ≡ suc m → statement_read ts ≡ Some (s, rest) → statements_read n script ts ≡ statements_read m (script ++ s ∷ []) rest
unfolding statements_read
statements_read-turn n m script ts s rest is e = rw (is, e) refl

pub script_read-turns : (n : ℕ) (ts : Tokens) → n ≡ length ts → statements_read n [] ts ≡ script_read ts
unfolding script_read
script_read-turns n ts e = ap (λ m. statements_read m [] ts) e
