-- What seeking finds.
use Rattle.std.proofs.Common.{◌≡◌, ℕ, Bool, true, false, cond, ◌&&◌, ◌==◌, ◌^◌, ◌-◌, List, [], ◌∷◌, find, Option, Some, None, option_map, refl, sym, ap, ◌∙◌, subst, eqb-true, eq-eqb}
use Rattle.std.proofs.lemmas.Option.{none-some}
use Rattle.std.specs.List.{list_any}
use Rattle.std.specs.Option.{option_or}
use Rattle.std.proofs.lemmas.Bool.{and_parts, and_right}
use Rattle.vtl_cell.specs.Row.{Row}
use Rattle.vtl_index.specs.Buckets.{filled, in_slots, is_free, is_match, slots_at}
use Rattle.vtl_index.specs.Keys.{key_hash}
use Rattle.vtl_index.specs.Places.{Others, other_place, passing, seek}
use Rattle.vtl_index.specs.declared.bucket.Bucket.{Bucket}
use Rattle.vtl_index.specs.declared.bucket.Slot.{Slot}
use Rattle.vtl_index.proofs.Slots.{find_filled, found_filled, Found}

pub some_same : (a b : ℕ) → Some a ≡ Some b → a ≡ b
some_same a b e = cc

-- seeking among these slots and at this place of the map
abbrev pub sought : (ℕ → Bool) → ℕ → List Slot → Option ℕ → Option ℕ
sought passes hash slots other = option_or (in_slots passes hash slots) (cond (list_any is_free slots) None (passing passes other))

-- what is found passes
pub find_passes : (p : Slot → Bool) (ss : List Slot) (x : Slot) → find p ss ≡ Some x → p x ≡ true
find_passes p [] x e = absurd (none-some x e)
find_passes p (s ∷ ss) x e = by_test (p s) refl (find_passes p ss x)
  where
    by_test : (b : Bool) → p s ≡ b → (find p ss ≡ Some x → p x ≡ true) → p x ≡ true
    by_test true h rest = let same : Some s ≡ Some x = sym (ap (λ c. cond c (Some s) (find p ss)) h) ∙ e in let is : s ≡ x = cc in subst (λ z. p z ≡ true) is h
    by_test false h rest = rest (sym (ap (λ c. cond c (Some s) (find p ss)) h) ∙ e)

in_slots_passes : (passes : ℕ → Bool) (hash : ℕ) (ss : List Slot) (e : ℕ) → in_slots passes hash ss ≡ Some e → passes e ≡ true
in_slots_passes passes hash ss e h = go (find (is_match passes hash) ss) refl
  where
    go : (o : Option Slot) → find (is_match passes hash) ss ≡ o → passes e ≡ true
    go None f = absurd (none-some e (sym (ap (option_map (λ s. s.place)) f) ∙ h))
    go (Some s) f =
        let at : Some s.place ≡ Some e = sym (ap (option_map (λ z. z.place)) f) ∙ h in
        subst (λ z. passes z ≡ true) (some_same s.place e at) (and_parts (s.hash == hash) (passes s.place) (find_passes (is_match passes hash) ss s f)).1

passing_passes : (passes : ℕ → Bool) (o : Option ℕ) (e : ℕ) → passing passes o ≡ Some e → passes e ≡ true
passing_passes passes None e h = absurd (none-some e h)
passing_passes passes (Some x) e h = go (passes x) refl
  where
    go : (b : Bool) → passes x ≡ b → passes e ≡ true
    go true f = let at : Some x ≡ Some e = sym (ap (λ c. cond c (Some x) None) f) ∙ h in subst (λ z. passes z ≡ true) (some_same x e at) f
    go false f = let at : None ≡ Some e = sym (ap (λ c. cond c (Some x) None) f) ∙ h in absurd (none-some e at)

sought_passes : (passes : ℕ → Bool) (hash : ℕ) (ss : List Slot) (o : Option ℕ) (e : ℕ) → sought passes hash ss o ≡ Some e → passes e ≡ true
sought_passes passes hash ss o e h = go (in_slots passes hash ss) refl
  where
    others : (b : Bool) → cond b None (passing passes o) ≡ Some e → passes e ≡ true
    others true k = absurd (none-some e k)
    others false k = passing_passes passes o e k

    go : (r : Option ℕ) → in_slots passes hash ss ≡ r → passes e ≡ true
    go None f = others (list_any is_free ss) (sym (ap (λ r. option_or r (cond (list_any is_free ss) None (passing passes o))) f) ∙ h)
    go (Some x) f =
        let at : Some x ≡ Some e = sym (ap (λ r. option_or r (cond (list_any is_free ss) None (passing passes o))) f) ∙ h in
        in_slots_passes passes hash ss e (f ∙ at)

pub seek_passes : (passes : ℕ → Bool) (key : Row) (buckets : List Bucket) (others : Others) (e : ℕ) → seek passes key buckets others ≡ Some e → passes e ≡ true
seek_passes passes key buckets others e h = sought_passes passes (key_hash key) (slots_at buckets (key_hash key)) (other_place key others) e h

-- ---- what a filled slot changes of a search
pub sought_filled : (passes : ℕ → Bool) (hash : ℕ) (slot : Slot) (ss : List Slot) (o : Option ℕ) → passes slot.place ≡ false → passes (2 ^ 64 - 1) ≡ false → list_any is_free ss ≡ true → o ≡ None → sought passes hash (filled slot ss) o ≡ sought passes hash ss o
sought_filled passes hash slot ss o h test free none =
    ap (λ r. option_or (option_map (λ s. s.place) r) (cond (list_any is_free (filled slot ss)) None (passing passes o))) same
    ∙ ap (option_or (in_slots passes hash ss)) (nothing (list_any is_free (filled slot ss)) ∙ sym (nothing (list_any is_free ss)))
  where
    unfit : (s : Slot) → is_free s ≡ true → is_match passes hash s ≡ false
    unfit s e = and_right (s.hash == hash) (passes s.place) (ap passes (eqb-true s.place (2 ^ 64 - 1) e) ∙ test)

    same : find (is_match passes hash) (filled slot ss) ≡ find (is_match passes hash) ss
    same = find_filled (is_match passes hash) slot ss (and_right (slot.hash == hash) (passes slot.place) h) unfit

    nothing : (b : Bool) → cond b None (passing passes o) ≡ None
    nothing true = refl
    nothing false = ap (passing passes) none

-- the slot is found, where no other place passes
pub sought_taken : (passes : ℕ → Bool) (slot : Slot) (ss : List Slot) (o : Option ℕ) → list_any is_free ss ≡ true → passes slot.place ≡ true → ((e : ℕ) → passes e ≡ true → e ≡ slot.place) → sought passes slot.hash (filled slot ss) o ≡ Some slot.place
sought_taken passes slot ss o free h one =
    ap (λ r. option_or (option_map (λ s. s.place) r) (cond (list_any is_free (filled slot ss)) None (passing passes o))) found.1
    ∙ ap Some (one found.0.place (and_parts (found.0.hash == slot.hash) (passes found.0.place) found.2).1)
  where
    fits : is_match passes slot.hash slot ≡ true
    fits = ap (λ b. b && passes slot.place) (eq-eqb slot.hash slot.hash refl) ∙ h

    found : Found (is_match passes slot.hash) (filled slot ss)
    found = found_filled (is_match passes slot.hash) slot ss free fits

-- ---- full slots, and the map
pub sought_other : (passes : ℕ → Bool) (hash : ℕ) (ss : List Slot) (place : ℕ) → list_any is_free ss ≡ false → passes place ≡ true → ((e : ℕ) → passes e ≡ true → e ≡ place) → sought passes hash ss (Some place) ≡ Some place
sought_other passes hash ss place full h one = go (in_slots passes hash ss) refl
  where
    rest : cond (list_any is_free ss) None (passing passes (Some place)) ≡ Some place
    rest = ap (λ b. cond b None (passing passes (Some place))) full ∙ ap (λ b. cond b (Some place) None) h

    go : (r : Option ℕ) → in_slots passes hash ss ≡ r → sought passes hash ss (Some place) ≡ Some place
    go None f = ap (λ r. option_or r (cond (list_any is_free ss) None (passing passes (Some place)))) f ∙ rest
    go (Some x) f = ap (λ r. option_or r (cond (list_any is_free ss) None (passing passes (Some place)))) f ∙ ap Some (one x (in_slots_passes passes hash ss x f))

pub sought_unfit : (passes : ℕ → Bool) (hash : ℕ) (ss : List Slot) (place : ℕ) (o : Option ℕ) → passes place ≡ false → sought passes hash ss o ≡ None → sought passes hash ss (Some place) ≡ None
sought_unfit passes hash ss place o h none = go (in_slots passes hash ss) refl
  where
    nothing : (b : Bool) → cond b None (passing passes (Some place)) ≡ None
    nothing true = refl
    nothing false = ap (λ b. cond b (Some place) None) h

    go : (r : Option ℕ) → in_slots passes hash ss ≡ r → sought passes hash ss (Some place) ≡ None
    go None f = ap (λ r. option_or r (cond (list_any is_free ss) None (passing passes (Some place)))) f ∙ nothing (list_any is_free ss)
    go (Some x) f =
        let some : Some x ≡ None = sym (ap (λ r. option_or r (cond (list_any is_free ss) None (passing passes o))) f) ∙ none in
        absurd (none-some x (sym some))
