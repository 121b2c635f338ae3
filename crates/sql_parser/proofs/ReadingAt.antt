-- Reading at a budget.
use Rattle.std.proofs.Common.{◌≡◌, ℕ, zero, suc, None, refl, arith}
use Rattle.sql_tree.specs.Grammar.{Place, Tokens, at_place, expr_at, inner}

pub read-nothing : (n : ℕ) (p : Place) (ts : Tokens) → n ≡ 0 → (expr_at n p).reads ts ≡ None
unfolding inner
read-nothing zero p ts e = refl
read-nothing (suc n) p ts e = absurd (omega (arith, e))

pub read-at : (n m : ℕ) (p : Place) (ts : Tokens) → n ≡ suc m → (expr_at n p).reads ts ≡ (at_place (suc m) (expr_at m) p).reads ts
unfolding inner
read-at n m p ts e = rw e refl
