-- One turn of the loop over the items of a list. The number of turns that are left is the number of tokens less the turns that were taken.
use Rattle.std.proofs.Common.{◌≡◌, ℕ, zero, suc, ◌<◌, ◌≤◌, true, false, List, [], ◌∷◌, ◌++◌, length, None, Some, refl, ap, arith}
use Rattle.std.proofs.lemmas.Bool.Decides.{nat_tests}
use Rattle.std.specs.Prelude.{min, map, nat_le}
use Rattle.vtl_lexer.specs.declared.token.Sign.TheVariants as sign
use Rattle.vtl_grammar.specs.Grammar.{Tokens}
use Rattle.vtl_grammar.specs.Reading.{Gets, got, after_sign, more_got}

pub more_got-ends : {A : Type 0} (item : Gets A) (n : ℕ) (items : List A) (spare : ℕ) (ts : Tokens) → after_sign sign.Comma ts ≡ None → more_got item n items spare ts ≡ Some (got items spare ts)
more_got-ends item zero items spare ts e = refl
more_got-ends item (suc n) items spare ts e = rw e refl

pub more_got-full : {A : Type 0} (item : Gets A) (n : ℕ) (items : List A) (spare : ℕ) (ts : Tokens) → n ≡ 0 → more_got item n items spare ts ≡ Some (got items spare ts)
more_got-full item zero items spare ts e = refl
more_got-full item (suc n) items spare ts e = absurd (omega (arith, e))

pub more_got-stops : {A : Type 0} (item : Gets A) (n : ℕ) (items : List A) (spare : ℕ) (ts after : Tokens) → 0 < n → after_sign sign.Comma ts ≡ Some after → item after ≡ None → more_got item n items spare ts ≡ None
more_got-stops item zero items spare ts after some e f = absurd (omega (arith, some))
more_got-stops item (suc n) items spare ts after some e f = rw (e, f) refl

pub more_got-turn : {A : Type 0} (item : Gets A) (n m : ℕ) (items : List A) (spare : ℕ) (ts after : Tokens) (x : A) (left : ℕ) (rest : Tokens) → n ≡ suc m → after_sign sign.Comma ts ≡ Some after → item after ≡ Some (got x left rest)
    → more_got item n items spare ts ≡ more_got item m (items ++ x ∷ []) (min spare left) rest
more_got-turn item n m items spare ts after x left rest is e f = rw (is, e, f) refl

pub map-push : {A B : Type 0} (f : A → B) (xs : List A) (x : A) → map f (xs ++ x ∷ []) ≡ map f xs ++ f x ∷ []
map-push f [] x = refl
map-push f (y ∷ ys) x = ap (λ zs. f y ∷ zs) (map-push f ys x)

pub map-two : {A B : Type 0} (f : A → B) (xs : List A) → 2 ≤ length xs → nat_le 2 (length (map f xs)) ≡ true
map-two f [] h = absurd (omega (arith, h))
map-two f (x ∷ []) h = absurd (omega (arith, h))
map-two f (x ∷ y ∷ xs) h = grind (arith, nat_tests)

-- fewer than two items are refused
pub map-few : {A B : Type 0} (f : A → B) (xs : List A) → length xs < 2 → nat_le 2 (length (map f xs)) ≡ false
map-few f [] h = refl
map-few f (x ∷ []) h = refl
map-few f (x ∷ y ∷ xs) h = absurd (omega (arith, h))
