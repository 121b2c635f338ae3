-- Classes of tokens, tested by computation.
use Rattle.std.proofs.Common.{◌≡◌, ℕ, Bool, true, false, List, [], ◌∷◌, ◌++◌, refl, subst}
use borrow.Author.Tests.{eqb-true}
use Rattle.std.specs.Prelude.{nat_eq, if◌then◌else◌}
use Rattle.std.proofs.lemmas.Bool.{false_from_ne_true}
use Rattle.grammar_forms.specs.Forms.{has, apart, among}

pub clash : (b : Bool) → b ≡ true → b ≡ false → ⊥
clash true e f = cc
clash false e f = cc

same : (m n : ℕ) → nat_eq m n ≡ true → m ≡ n
same m n e = eqb-true m n e

skip : (b : Bool) (x y : Bool) → (x ≡ true → y ≡ true) → (if b then true else x) ≡ true → (if b then true else y) ≡ true
skip true x y f h = refl
skip false x y f h = f h

pub has-left : (xs ys : List ℕ) (n : ℕ) → has xs n ≡ true → has (xs ++ ys) n ≡ true
has-left [] ys n h = cc
has-left (x ∷ xs) ys n h = skip (nat_eq x n) (has xs n) (has (xs ++ ys) n) (has-left xs ys n) h

skip-all : (b : Bool) (x : Bool) → x ≡ true → (if b then true else x) ≡ true
skip-all true x h = refl
skip-all false x h = h

pub has-right : (xs ys : List ℕ) (n : ℕ) → has ys n ≡ true → has (xs ++ ys) n ≡ true
has-right [] ys n h = h
has-right (x ∷ xs) ys n h = skip-all (nat_eq x n) (has (xs ++ ys) n) (has-right xs ys n h)

pub lacks-left : (xs ys : List ℕ) (n : ℕ) → has (xs ++ ys) n ≡ false → has xs n ≡ false
lacks-left xs ys n h = false_from_ne_true (has xs n) (λ e. clash (has (xs ++ ys) n) (has-left xs ys n e) h)

pub lacks-right : (xs ys : List ℕ) (n : ℕ) → has (xs ++ ys) n ≡ false → has ys n ≡ false
lacks-right xs ys n h = false_from_ne_true (has ys n) (λ e. clash (has (xs ++ ys) n) (has-right xs ys n e) h)

-- the first of a list is the one, or another is
at_head : (b : Bool) (x n : ℕ) (xs : List ℕ) (P : ℕ → Type 0) → nat_eq x n ≡ b → P x → (has xs n ≡ true → P n) → (if b then true else has xs n) ≡ true → P n
at_head true x n xs P e p k h = subst P (same x n e) p
at_head false x n xs P e p k h = k h

head_out : (b r : Bool) → (if b then false else r) ≡ true → (b ≡ false) × (r ≡ true)
head_out true r h = cc
head_out false r h = (refl, h)

head_in : (b r : Bool) → (if b then r else false) ≡ true → (b ≡ true) × (r ≡ true)
head_in true r h = (refl, h)
head_in false r h = cc

-- a class in one list is not in a list that is apart
pub apart-lacks : (xs ys : List ℕ) (n : ℕ) → apart xs ys ≡ true → has xs n ≡ true → has ys n ≡ false
apart-lacks [] ys n a h = cc
apart-lacks (x ∷ xs) ys n a h = let p = head_out (has ys x) (apart xs ys) a in at_head (nat_eq x n) x n xs (λ m. has ys m ≡ false) refl p.0 (apart-lacks xs ys n p.1) h

pub apart-lacks' : (xs ys : List ℕ) (n : ℕ) → apart xs ys ≡ true → has ys n ≡ true → has xs n ≡ false
apart-lacks' xs ys n a h = false_from_ne_true (has xs n) (λ e. clash (has ys n) h (apart-lacks xs ys n a e))

pub among-has : (xs ys : List ℕ) (n : ℕ) → among xs ys ≡ true → has xs n ≡ true → has ys n ≡ true
among-has [] ys n a h = cc
among-has (x ∷ xs) ys n a h = let p = head_in (has ys x) (among xs ys) a in at_head (nat_eq x n) x n xs (λ m. has ys m ≡ true) refl p.0 (among-has xs ys n p.1) h

pub among-lacks : (xs ys : List ℕ) (n : ℕ) → among xs ys ≡ true → has ys n ≡ false → has xs n ≡ false
among-lacks xs ys n a h = false_from_ne_true (has xs n) (λ e. clash (has ys n) (among-has xs ys n a e) h)

either_out : (b x : Bool) → (if b then true else x) ≡ false → (b ≡ false) × (x ≡ false)
either_out true x h = cc
either_out false x h = (refl, h)

either_in : (b x : Bool) → b ≡ false → x ≡ false → (if b then true else x) ≡ false
either_in b x e h = rw e h

pub lacks-both : (xs ys : List ℕ) (n : ℕ) → has xs n ≡ false → has ys n ≡ false → has (xs ++ ys) n ≡ false
lacks-both [] ys n a b = b
lacks-both (x ∷ xs) ys n a b = let p = either_out (nat_eq x n) (has xs n) a in either_in (nat_eq x n) (has (xs ++ ys) n) p.0 (lacks-both xs ys n p.1 b)
