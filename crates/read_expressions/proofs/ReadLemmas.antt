-- Reading at a budget.
use Rattle.std.proofs.Common.{◌≡◌, ℕ, zero, suc, None, refl, arith}
use Rattle.vtl_grammar.specs.Grammar.{Tokens}
use Rattle.vtl_grammar.specs.ReadExpressions.{read, read_level}
use Rattle.vtl_grammar.specs.declared.levels.Level.{Level}

pub read-nothing : (n : ℕ) (l : Level) (ts : Tokens) → n ≡ 0 → read n l ts ≡ None
unfolding read
read-nothing zero l ts e = refl
read-nothing (suc n) l ts e = absurd (omega (arith, e))

pub read-at : (n m : ℕ) (l : Level) (ts : Tokens) → n ≡ suc m → read n l ts ≡ read_level m (read m) l ts
unfolding read
read-at n m l ts e = rw e refl
