-- One step of a loop. The number of steps that are left is the number of tokens less those that were taken.
use Rattle.std.proofs.Common.{◌≡◌, ℕ, zero, suc, List, [], ◌∷◌, ◌++◌, map, length, Option, None, Some, Result, Ok, Err, refl, sym, ap, arith}
use Rattle.grammar_forms.specs.Forms.{Reads, gives, turns}
use Rattle.sql_lexer.specs.declared.token.Token.{Token}
use Rattle.sql_lexer.specs.declared.token.TokenKind.{TokenKind}
use Rattle.sql_parser_parts.specs.Answers.{AnswersBy, front_view, kinds, optional_of}
use Rattle.sql_parser_parts.specs.declared.front.Front.{Front}
use Rattle.sql_parser_parts.specs.declared.front.Unread.{Unread}
use Rattle.sql_parser_parts.specs.declared.front.Unread.TheVariants as u

pub kinds-length : (ts : List Token) → length (kinds ts) ≡ length ts
unfolding kinds
kinds-length [] = refl
kinds-length (t ∷ ts) = ap suc (kinds-length ts)

pub turns-ends : {T A S : Type 0} (step : Reads T S) (join : A → S → Option A) (n : ℕ) (a : A) (ts : List T) → step ts ≡ None → turns step join n a ts ≡ gives a ts
turns-ends step join zero a ts e = refl
turns-ends step join (suc n) a ts e = rw e refl

pub turns-full : {T A S : Type 0} (step : Reads T S) (join : A → S → Option A) (n : ℕ) (a : A) (ts : List T) → n ≡ 0 → turns step join n a ts ≡ gives a ts
turns-full step join zero a ts e = refl
turns-full step join (suc n) a ts e = absurd (omega (arith, e))

pub turns-turn : {T A S : Type 0} (step : Reads T S) (join : A → S → Option A) (n m : ℕ) (a b : A) (ts us : List T) (s : S) → n ≡ suc m → step ts ≡ Some (s, us) → join a s ≡ Some b → turns step join n a ts ≡ turns step join m b us
turns-turn step join n m a b ts us s is e f = rw (is, e, f) refl

pub map-push : {A B : Type 0} (f : A → B) (xs : List A) (x : A) → map f (xs ++ x ∷ []) ≡ map f xs ++ f x ∷ []
map-push f [] x = refl
map-push f (y ∷ ys) x = ap (λ zs. f y ∷ zs) (map-push f ys x)

-- ---- a step that may be there

pub optional-some : {A B : Type 0} (view : A → B) (reading : Option (B × List TokenKind)) (read : Result (Front A) Unread) (front : Front A) → AnswersBy view reading read → optional_of read ≡ Ok (Some front) → reading ≡ Some (front_view view front)
optional-some view reading (Ok f) front h e = let same : f ≡ front = cc in rw (sym same) h
optional-some view reading (Err u.Absent) front h e = cc
optional-some view reading (Err u.OutOfMemory) front h e = cc

pub optional-none : {A B : Type 0} (view : A → B) (reading : Option (B × List TokenKind)) (read : Result (Front A) Unread) → AnswersBy view reading read → optional_of read ≡ Ok None → reading ≡ None
optional-none view reading (Ok f) h e = cc
optional-none view reading (Err u.Absent) h e = h
optional-none view reading (Err u.OutOfMemory) h e = cc
