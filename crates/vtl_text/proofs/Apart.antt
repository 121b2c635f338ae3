-- A text is put behind texts that are apart, or it is one of them.
use Rattle.std.proofs.Common.{◌≡◌, ℕ, zero, suc, ◌<◌, ◌+◌, Bool, true, false, not, ◌&&◌, ◌||◌, List, [], ◌∷◌, ◌++◌, length, get_or, take, refl, sym, ap, ◌∙◌, arith}
use Rattle.std.specs.List.{list_any}
use Rattle.std.proofs.lemmas.Bool.{and_parts, and_from}
use Rattle.std.proofs.lemmas.List.Folds.{list_any-append}
use Rattle.std.proofs.lemmas.List.{take_more}
use Rattle.std.specs.Cmp.Lexicographic.{nat_list_eq_equiv}
use Rattle.vtl_lists.specs.Apart.{all_apart}
use Rattle.vtl_text.specs.Texts.{same_text}

-- a name that is not there yet goes behind those that are apart
pub apart_push : (names : List (List ℕ)) (name : List ℕ) → all_apart same_text names ≡ true → list_any (same_text name) names ≡ false → all_apart same_text (names ++ name ∷ []) ≡ true
apart_push [] name h e = refl
apart_push (x ∷ xs) name h e =
    let parts = and_parts (not (list_any (same_text x) xs)) (all_apart same_text xs) h in
    let other = or_parts (same_text name x) (list_any (same_text name) xs) e in
    let one : (not (list_any (same_text x) (xs ++ name ∷ [])) ≡ true) = ap not (list_any-append (same_text x) xs (name ∷ []) ∙ ap (λ b. list_any (same_text x) xs || (b || false)) (nat_list_eq_equiv.symm x name ∙ other.0)) ∙ or_false (list_any (same_text x) xs) parts.0 in
    and_from (not (list_any (same_text x) (xs ++ name ∷ []))) (all_apart same_text (xs ++ name ∷ [])) one (apart_push xs name parts.1 other.1)
  where
    or_parts : (a b : Bool) → (a || b) ≡ false → (a ≡ false) × (b ≡ false)
    or_parts true b e = cc
    or_parts false b e = (refl, e)

    or_false : (a : Bool) → not a ≡ true → not (a || (false || false)) ≡ true
    or_false true e = cc
    or_false false e = refl

any_at : (p : List ℕ → Bool) (xs : List (List ℕ)) (i : ℕ) (x : List ℕ) → i < length xs → x ≡ get_or xs i x → p x ≡ true → list_any p xs ≡ true
any_at p [] i x h e t = absurd (omega (arith, h))
any_at p (y ∷ ys) zero x h e t = ap (λ b. b || list_any p ys) (ap p (sym e) ∙ t)
any_at p (y ∷ ys) (suc i) x h e t = ap (λ b. p y || b) (any_at p ys i x (omega (arith, h)) e t) ∙ or_true (p y)
  where
    or_true : (b : Bool) → (b || true) ≡ true
    or_true true = refl
    or_true false = refl

-- a text that stands before is repeated
pub repeated : (xs : List (List ℕ)) (i : ℕ) (x : List ℕ) → i < length xs → x ≡ get_or xs i x → list_any (same_text x) (take i xs) ≡ true → false ≡ all_apart same_text xs
repeated [] i x h e t = absurd (omega (arith, h))
repeated (y ∷ ys) zero x h e t = cc
repeated (y ∷ ys) (suc i) x h e t = go (same_text x y) refl t (repeated ys i x (omega (arith, h)) e)
  where
    at : same_text x y ≡ true → list_any (same_text y) ys ≡ true
    at s = any_at (same_text y) ys i x (omega (arith, h)) e (nat_list_eq_equiv.symm y x ∙ s)

    and_false : (b : Bool) → false ≡ (b && false)
    and_false true = refl
    and_false false = refl

    go : (b : Bool) → same_text x y ≡ b → (b || list_any (same_text x) (take i ys)) ≡ true → (list_any (same_text x) (take i ys) ≡ true → false ≡ all_apart same_text ys)
        → false ≡ (not (list_any (same_text y) ys) && all_apart same_text ys)
    go true s q ih = ap (λ b. not b && all_apart same_text ys) (sym (at s))
    go false s q ih = and_false (not (list_any (same_text y) ys)) ∙ ap (λ b. not (list_any (same_text y) ys) && b) (ih q)

-- one more text, which does not stand before
pub one_more : (xs seen : List (List ℕ)) (i : ℕ) (x : List ℕ) → i < length xs → x ≡ get_or xs i x → seen ≡ take i xs → all_apart same_text seen ≡ true → list_any (same_text x) seen ≡ false
    → (seen ++ x ∷ [] ≡ take (i + 1) xs) × (all_apart same_text (seen ++ x ∷ []) ≡ true)
one_more xs seen i x h e s a t =
    (ap (λ l. l ++ x ∷ []) s ∙ ap (λ y. take i xs ++ y ∷ []) e ∙ sym (take_more xs i x h), apart_push seen x a t)

-- without the last name, which is none of the others
pub apart_popped : (names : List (List ℕ)) (name : List ℕ) → all_apart same_text (names ++ name ∷ []) ≡ true → (all_apart same_text names ≡ true) × (list_any (same_text name) names ≡ false)
apart_popped [] name h = (refl, refl)
apart_popped (x ∷ xs) name h =
    let parts = and_parts (not (list_any (same_text x) (xs ++ name ∷ []))) (all_apart same_text (xs ++ name ∷ [])) h in
    let rest = apart_popped xs name parts.1 in
    let one = neither (list_any (same_text x) xs) (same_text x name) (sym (ap not (list_any-append (same_text x) xs (name ∷ []))) ∙ parts.0) in
    (and_from (not (list_any (same_text x) xs)) (all_apart same_text xs) one.0 rest.0, ap (λ b. b || list_any (same_text name) xs) (nat_list_eq_equiv.symm name x ∙ one.1) ∙ rest.1)
  where
    neither : (a b : Bool) → not (a || (b || false)) ≡ true → (not a ≡ true) × (b ≡ false)
    neither true b e = cc
    neither false true e = cc
    neither false false e = (refl, refl)
