-- One turn of a loop over the items of a list. The number of turns that are left is the number of tokens less the turns that were taken.
use Rattle.std.proofs.Common.{◌≡◌, ℕ, zero, suc, ◌<◌, List, [], ◌∷◌, ◌++◌, None, Some, refl, arith}
use Rattle.vtl_lexer.specs.declared.token.Sign.TheVariants as sign
use Rattle.vtl_grammar.specs.Grammar.{Tokens}
use Rattle.vtl_grammar.specs.Reading.{Reads, after_sign, more_items}

pub more_items-ends : {A : Type 0} (item : Reads A) (n : ℕ) (items : List A) (ts : Tokens) → after_sign sign.Comma ts ≡ None → more_items item n items ts ≡ Some (items, ts)
more_items-ends item zero items ts e = refl
more_items-ends item (suc n) items ts e = rw e refl

pub more_items-full : {A : Type 0} (item : Reads A) (n : ℕ) (items : List A) (ts : Tokens) → n ≡ 0 → more_items item n items ts ≡ Some (items, ts)
more_items-full item zero items ts e = refl
more_items-full item (suc n) items ts e = absurd (omega (arith, e))

pub more_items-stops : {A : Type 0} (item : Reads A) (n : ℕ) (items : List A) (ts after : Tokens) → 0 < n → after_sign sign.Comma ts ≡ Some after → item after ≡ None → more_items item n items ts ≡ None
more_items-stops item zero items ts after some e f = absurd (omega (arith, some))
more_items-stops item (suc n) items ts after some e f = rw (e, f) refl

pub more_items-turn : {A : Type 0} (item : Reads A) (n m : ℕ) (items : List A) (ts after : Tokens) (x : A) (rest : Tokens) → n ≡ suc m → after_sign sign.Comma ts ≡ Some after → item after ≡ Some (x, rest)
    → more_items item n items ts ≡ more_items item m (items ++ x ∷ []) rest
more_items-turn item n m items ts after x rest is e f = rw (is, e, f) refl
