-- Slots of a bucket, of which the first free one is filled.
use Rattle.std.proofs.Common.{◌≡◌, ℕ, zero, suc, ◌<◌, Bool, true, false, cond, ◌||◌, List, [], ◌∷◌, length, find, get_or, set, take, Some, refl, sym, ap, ◌∙◌, subst, arith, true≢false}
use Rattle.std.specs.List.{list_any}
use Rattle.std.proofs.lemmas.Bool.{or_parts}
use Rattle.vtl_index.specs.Buckets.{filled, is_free}
use Rattle.vtl_index.specs.declared.bucket.Slot.{Slot}

-- a search that finds one that passes
abbrev pub Found : (Slot → Bool) → List Slot → Type 0
Found p xs = (x : Slot) × (find p xs ≡ Some x) × (p x ≡ true)

pub found_filled : (p : Slot → Bool) (slot : Slot) (ss : List Slot) → list_any is_free ss ≡ true → p slot ≡ true → Found p (filled slot ss)
found_filled p slot [] any h = absurd (true≢false (sym any))
found_filled p slot (s ∷ ss) any h = by_free (is_free s) refl (λ e. found_filled p slot ss e h)
  where
    by_test : (b : Bool) → p s ≡ b → Found p (filled slot ss) → Found p (s ∷ filled slot ss)
    by_test true e rest = (s, ap (λ c. cond c (Some s) (find p (filled slot ss))) e, e)
    by_test false e rest = (rest.0, ap (λ c. cond c (Some s) (find p (filled slot ss))) e ∙ rest.1, rest.2)

    by_free : (b : Bool) → is_free s ≡ b → (list_any is_free ss ≡ true → Found p (filled slot ss)) → Found p (filled slot (s ∷ ss))
    by_free true e rest = subst (λ c. Found p (cond c (slot ∷ ss) (s ∷ filled slot ss))) (sym e) (slot, ap (λ c. cond c (Some slot) (find p ss)) h, h)
    by_free false e rest = subst (λ c. Found p (cond c (slot ∷ ss) (s ∷ filled slot ss))) (sym e) (by_test (p s) refl (rest (sym (ap (λ c. c || list_any is_free ss) e) ∙ any)))

-- a slot that does not pass is put where none passed
pub find_filled : (p : Slot → Bool) (slot : Slot) (ss : List Slot) → p slot ≡ false → ((s : Slot) → is_free s ≡ true → p s ≡ false) → find p (filled slot ss) ≡ find p ss
find_filled p slot [] h k = refl
find_filled p slot (s ∷ ss) h k = by_free (is_free s) refl (find_filled p slot ss h k)
  where
    by_free : (b : Bool) → is_free s ≡ b → find p (filled slot ss) ≡ find p ss → find p (filled slot (s ∷ ss)) ≡ find p (s ∷ ss)
    by_free true e rest =
        ap (λ c. find p (cond c (slot ∷ ss) (s ∷ filled slot ss))) e ∙ ap (λ c. cond c (Some slot) (find p ss)) h ∙ sym (ap (λ c. cond c (Some s) (find p ss)) (k s e))
    by_free false e rest =
        ap (λ c. find p (cond c (slot ∷ ss) (s ∷ filled slot ss))) e ∙ ap (λ o. cond (p s) (Some s) o) rest

-- a full bucket stays
pub filled_full : (slot : Slot) (ss : List Slot) → list_any is_free ss ≡ false → filled slot ss ≡ ss
filled_full slot [] h = refl
filled_full slot (s ∷ ss) h =
    let both = or_parts (is_free s) (list_any is_free ss) h in
    ap (λ c. cond c (slot ∷ ss) (s ∷ filled slot ss)) both.0 ∙ ap (λ l. s ∷ l) (filled_full slot ss both.1)

pub filled_here : (slot : Slot) (ss : List Slot) (i : ℕ) (d : Slot) → i < length ss → list_any is_free (take i ss) ≡ false → is_free (get_or ss i d) ≡ true → set ss i slot ≡ filled slot ss
filled_here slot [] i d h none free = absurd (omega arith)
filled_here slot (s ∷ ss) zero d h none free = sym (ap (λ c. cond c (slot ∷ ss) (s ∷ filled slot ss)) free)
filled_here slot (s ∷ ss) (suc i) d h none free =
    let both = or_parts (is_free s) (list_any is_free (take i ss)) none in
    ap (λ l. s ∷ l) (filled_here slot ss i d (omega arith) both.1 free) ∙ sym (ap (λ c. cond c (slot ∷ ss) (s ∷ filled slot ss)) both.0)
