-- Numbers that rise, and those at which a table is held.
use Rattle.std.proofs.Common.{◌≡◌, ℕ, zero, suc, ◌≤◌, ◌<◌, Bool, true, false, cond, not, ◌||◌, ◌≢◌, ◌⊎◌, List, [], ◌∷◌, ◌++◌, map, take, drop, length, eqb, slice_get, Option, None, Some, is_some, filter, refl, sym, ap, ◌∙◌, subst, arith}
use mathlib.Core.Logic.{inl, inr}
use Rattle.std.specs.List.{AllByRecursion}
use Rattle.std.proofs.lemmas.Bool.Decides.{eqb_tells}
use Rattle.vtl_rows.specs.Tables.{Listed}
use Rattle.rerun_laws.specs.Depends.{is_one}
use Rattle.vtl_rerun.specs.Operands.{held_at}
use Rattle.vtl_rerun.specs.Sessions.{AreHeld, fresh_in}

-- ---- lists of numbers
-- from a number on, each greater than those before it
abbrev pub Rise : ℕ → List ℕ → Type 0
Rise b [] = Unit {0}
Rise b (k ∷ ks) = (b ≤ k) × Rise (suc k) ks

pub rise_from : (b c : ℕ) (ks : List ℕ) → b ≤ c → Rise c ks → Rise b ks
rise_from b c [] h r = tt
rise_from b c (k ∷ ks) h r = (omega (arith, h, r.0), r.1)

other : (j k : ℕ) → suc k ≤ j → eqb j k ≡ false
other j k h = go (eqb_tells j k)
  where
    go : ((eqb j k ≡ true) × (j ≡ k)) ⊎ ((eqb j k ≡ false) × (j ≢ k)) → eqb j k ≡ false
    go (inl p) = absurd (omega (arith, h, p.1))
    go (inr p) = p.0

pub itself : (k : ℕ) → eqb k k ≡ true
itself k = go (eqb_tells k k)
  where
    go : ((eqb k k ≡ true) × (k ≡ k)) ⊎ ((eqb k k ≡ false) × (k ≢ k)) → eqb k k ≡ true
    go (inl p) = p.0
    go (inr p) = absurd (p.1 refl)

pub skipped : (j k : ℕ) (ks : List ℕ) → suc k ≤ j → is_one j (k ∷ ks) ≡ is_one j ks
skipped j k ks h = ap (λ b. b || is_one j ks) (other j k h)

pub at_head : (k : ℕ) (ks : List ℕ) → is_one k (k ∷ ks) ≡ true
at_head k ks = ap (λ b. b || is_one k ks) (itself k)

pub none_below : (j b : ℕ) (ks : List ℕ) → j < b → Rise b ks → is_one j ks ≡ false
none_below j b [] h r = refl
none_below j b (k ∷ ks) h r = ap (λ c. c || is_one j ks) (less (eqb_tells j k)) ∙ none_below j (suc k) ks (omega (arith, h, r.0)) r.1
  where
    less : ((eqb j k ≡ true) × (j ≡ k)) ⊎ ((eqb j k ≡ false) × (j ≢ k)) → eqb j k ≡ false
    less (inl p) = absurd (omega (arith, h, r.0, p.1))
    less (inr p) = p.0

more_one : (j k : ℕ) (ks : List ℕ) → is_one j ks ≡ true → is_one j (k ∷ ks) ≡ true
more_one j k ks h = ap (λ b. eqb j k || b) h ∙ or_true (eqb j k)
  where
    or_true : (b : Bool) → (b || true) ≡ true
    or_true true = refl
    or_true false = refl

-- ---- where tables are held
pub fresh_rise : (b : ℕ) (ks : List ℕ) (rs : List (Option Listed)) → Rise b ks → Rise b (fresh_in ks rs)
fresh_rise b [] rs r = tt
fresh_rise b (k ∷ ks) [] r = tt
fresh_rise b (k ∷ ks) (None ∷ rs) r = rise_from b (suc k) (fresh_in ks rs) (omega (arith, r.0)) (fresh_rise (suc k) ks rs r.1)
fresh_rise b (k ∷ ks) (Some t ∷ rs) r = (r.0, fresh_rise (suc k) ks rs r.1)

-- a test that finds exactly the numbers at which a table is held
abbrev pub Marks : (ℕ → Bool) → List ℕ → List (Option Listed) → Type 0
Marks p [] [] = Unit {0}
Marks p (k ∷ ks) (r ∷ rs) = (p k ≡ is_some r) × Marks p ks rs
Marks p ks rs = ⊥

pub marked : (p : ℕ → Bool) (ks : List ℕ) (rs : List (Option Listed)) → Marks p ks rs → filter p ks ≡ fresh_in ks rs
marked p [] [] m = refl
marked p [] (r ∷ rs) m = absurd m
marked p (k ∷ ks) [] m = absurd m
marked p (k ∷ ks) (None ∷ rs) m = ap (λ b. cond b (k ∷ filter p ks) (filter p ks)) m.0 ∙ marked p ks rs m.1
marked p (k ∷ ks) (Some t ∷ rs) m = ap (λ b. cond b (k ∷ filter p ks) (filter p ks)) m.0 ∙ ap (λ l. k ∷ l) (marked p ks rs m.1)

pub marks_alike : (p q : ℕ → Bool) (b : ℕ) (ks : List ℕ) (rs : List (Option Listed)) → ((j : ℕ) → b ≤ j → p j ≡ q j) → Rise b ks → Marks p ks rs → Marks q ks rs
marks_alike p q b [] [] same r m = tt
marks_alike p q b [] (x ∷ rs) same r m = m
marks_alike p q b (k ∷ ks) [] same r m = m
marks_alike p q b (k ∷ ks) (x ∷ rs) same r m = (sym (same k r.0) ∙ m.0, marks_alike p q (suc k) ks rs (λ j h. same j (omega (arith, h, r.0))) r.1 m.1)

pub fresh_marks : (b : ℕ) (ks : List ℕ) (rs : List (Option Listed)) → length ks ≡ length rs → Rise b ks → Marks (λ j. is_one j (fresh_in ks rs)) ks rs
fresh_marks b [] [] e r = tt
fresh_marks b [] (x ∷ rs) e r = cc
fresh_marks b (k ∷ ks) [] e r = cc
fresh_marks b (k ∷ ks) (None ∷ rs) e r =
    (none_below k (suc k) (fresh_in ks rs) (omega arith) (fresh_rise (suc k) ks rs r.1), fresh_marks (suc k) ks rs (omega (arith, e)) r.1)
fresh_marks b (k ∷ ks) (Some t ∷ rs) e r =
    (at_head k (fresh_in ks rs), marks_alike (λ j. is_one j (fresh_in ks rs)) (λ j. is_one j (k ∷ fresh_in ks rs)) (suc k) ks rs (λ j h. sym (skipped j k (fresh_in ks rs) h)) r.1 (fresh_marks (suc k) ks rs (omega (arith, e)) r.1))

-- ---- where none is held
abbrev pub stale_in : List ℕ → List (Option Listed) → List ℕ
stale_in (k ∷ ks) (None ∷ rs) = k ∷ stale_in ks rs
stale_in (k ∷ ks) (Some t ∷ rs) = stale_in ks rs
stale_in ks rs = []

stale_marked : (p : ℕ → Bool) (ks : List ℕ) (rs : List (Option Listed)) → Marks p ks rs → filter (λ j. not (p j)) ks ≡ stale_in ks rs
stale_marked p [] [] m = refl
stale_marked p [] (r ∷ rs) m = absurd m
stale_marked p (k ∷ ks) [] m = absurd m
stale_marked p (k ∷ ks) (None ∷ rs) m = ap (λ b. cond (not b) (k ∷ filter (λ j. not (p j)) ks) (filter (λ j. not (p j)) ks)) m.0 ∙ ap (λ l. k ∷ l) (stale_marked p ks rs m.1)
stale_marked p (k ∷ ks) (Some t ∷ rs) m = ap (λ b. cond (not b) (k ∷ filter (λ j. not (p j)) ks) (filter (λ j. not (p j)) ks)) m.0 ∙ stale_marked p ks rs m.1

pub stale_are : (b : ℕ) (ks : List ℕ) (rs : List (Option Listed)) → length ks ≡ length rs → Rise b ks → filter (λ j. not (is_one j (fresh_in ks rs))) ks ≡ stale_in ks rs
stale_are b ks rs e r = stale_marked (λ j. is_one j (fresh_in ks rs)) ks rs (fresh_marks b ks rs e r)

-- one place more
pub stale_next : (n k : ℕ) (ks : List ℕ) (rs : List (Option Listed)) → slice_get ks n ≡ Some k → n < length rs → held_at rs n ≡ None → stale_in (take (suc n) ks) (take (suc n) rs) ≡ stale_in (take n ks) (take n rs) ++ k ∷ []
stale_next n k [] rs e h none = cc
stale_next n k (j ∷ ks) [] e h none = absurd (omega (arith, h))
stale_next zero k (j ∷ ks) (None ∷ rs) e h none = let s : j ≡ k = cc in ap (λ x. x ∷ []) s
stale_next zero k (j ∷ ks) (Some t ∷ rs) e h none = cc
stale_next (suc n) k (j ∷ ks) (None ∷ rs) e h none = ap (λ l. j ∷ l) (stale_next n k ks rs e (omega (arith, h)) none)
stale_next (suc n) k (j ∷ ks) (Some t ∷ rs) e h none = stale_next n k ks rs e (omega (arith, h)) none

pub stale_kept : (n : ℕ) (ks : List ℕ) (rs : List (Option Listed)) (t : Listed) → held_at rs n ≡ Some t → stale_in (take (suc n) ks) (take (suc n) rs) ≡ stale_in (take n ks) (take n rs)
stale_kept n [] rs t e = go n
  where
    go : (n : ℕ) → stale_in (take (suc n) []) (take (suc n) rs) ≡ stale_in (take n []) (take n rs)
    go zero = refl
    go (suc n) = refl
stale_kept n (j ∷ ks) [] t e = cc
stale_kept zero (j ∷ ks) (None ∷ rs) t e = cc
stale_kept zero (j ∷ ks) (Some u ∷ rs) t e = refl
stale_kept (suc n) (j ∷ ks) (None ∷ rs) t e = ap (λ l. j ∷ l) (stale_kept n ks rs t e)
stale_kept (suc n) (j ∷ ks) (Some u ∷ rs) t e = stale_kept n ks rs t e

-- ---- behind a fault
pub fault_marks : (n b : ℕ) (ks : List ℕ) (old now : List (Option Listed)) → length ks ≡ length now → length ks ≡ length old → Rise b ks → AreHeld (take n now) → drop n now ≡ drop n old
    → Marks (λ j. is_one j (take n ks) || is_one j (fresh_in ks old)) ks now
fault_marks zero b ks old now e f r held same = subst (λ l. Marks (λ j. is_one j (fresh_in ks old)) ks l) (sym same) (fresh_marks b ks old f r)
fault_marks (suc n) b [] old [] e f r held same = tt
fault_marks (suc n) b [] old (x ∷ now) e f r held same = cc
fault_marks (suc n) b (k ∷ ks) old [] e f r held same = cc
fault_marks (suc n) b (k ∷ ks) [] (x ∷ now) e f r held same = cc
fault_marks (suc n) b (k ∷ ks) (o ∷ old) (x ∷ now) e f r held same = (
  ap (λ c. c || is_one k (fresh_in (k ∷ ks) (o ∷ old))) (at_head k (take n ks)) ∙ sym held.0,
  marks_alike (λ j. is_one j (take n ks) || is_one j (fresh_in ks old)) (λ j. is_one j (k ∷ take n ks) || is_one j (fresh_in (k ∷ ks) (o ∷ old))) (suc k) ks now (alike o) r.1
      (fault_marks n (suc k) ks old now (omega (arith, e)) (omega (arith, f)) r.1 held.1 same),
)
  where
    alike : (o : Option Listed) (j : ℕ) → suc k ≤ j → (is_one j (take n ks) || is_one j (fresh_in ks old)) ≡ (is_one j (k ∷ take n ks) || is_one j (fresh_in (k ∷ ks) (o ∷ old)))
    alike None j h = ap (λ c. c || is_one j (fresh_in ks old)) (sym (skipped j k (take n ks) h))
    alike (Some t) j h = ap (λ c. c || is_one j (fresh_in ks old)) (sym (skipped j k (take n ks) h)) ∙ ap (λ c. is_one j (k ∷ take n ks) || c) (sym (skipped j k (fresh_in ks old) h))

-- ---- where memory ran out
abbrev IsMore : Option Listed → Option Listed → Type 0
IsMore None r = Unit {0}
IsMore (Some t) r = is_some r ≡ true

abbrev AreMore : List (Option Listed) → List (Option Listed) → Type 0
AreMore [] [] = Unit {0}
AreMore (o ∷ old) (r ∷ now) = IsMore o r × AreMore old now
AreMore old now = ⊥

more_same : (old : List (Option Listed)) → AreMore old old
more_same [] = tt
more_same (None ∷ old) = (tt, more_same old)
more_same (Some t ∷ old) = (refl, more_same old)

more_behind : (n : ℕ) (old now : List (Option Listed)) → length old ≡ length now → AreHeld (take n now) → drop n now ≡ drop n old → AreMore old now
more_behind zero old now e held same = subst (λ l. AreMore old l) (sym same) (more_same old)
more_behind (suc n) [] [] e held same = tt
more_behind (suc n) [] (r ∷ now) e held same = cc
more_behind (suc n) (o ∷ old) [] e held same = cc
more_behind (suc n) (o ∷ old) (r ∷ now) e held same = (one o, more_behind n old now (omega (arith, e)) held.1 same)
  where
    one : (o : Option Listed) → IsMore o r
    one None = tt
    one (Some t) = held.0

weaker : (k : ℕ) (ks js : List ℕ) → AllByRecursion (λ j. is_one j ks ≡ true) js → AllByRecursion (λ j. is_one j (k ∷ ks) ≡ true) js
weaker k ks [] h = tt
weaker k ks (j ∷ js) h = (more_one j k ks h.0, weaker k ks js h.1)

stay : (ks : List ℕ) (old now : List (Option Listed)) → AreMore old now → AllByRecursion (λ j. is_one j (fresh_in ks now) ≡ true) (fresh_in ks old)
stay [] old now more = tt
stay (k ∷ ks) [] now more = tt
stay (k ∷ ks) (o ∷ old) [] more = absurd more
stay (k ∷ ks) (None ∷ old) (None ∷ now) more = stay ks old now more.1
stay (k ∷ ks) (None ∷ old) (Some t ∷ now) more = weaker k (fresh_in ks now) (fresh_in ks old) (stay ks old now more.1)
stay (k ∷ ks) (Some t ∷ old) (None ∷ now) more = cc (more.0)
stay (k ∷ ks) (Some t ∷ old) (Some u ∷ now) more = (at_head k (fresh_in ks now), weaker k (fresh_in ks now) (fresh_in ks old) (stay ks old now more.1))

pub fresh_stay : (n : ℕ) (ks : List ℕ) (old now : List (Option Listed)) → length old ≡ length now → AreHeld (take n now) → drop n now ≡ drop n old → AllByRecursion (λ j. is_one j (fresh_in ks now) ≡ true) (fresh_in ks old)
fresh_stay n ks old now e held same = stay ks old now (more_behind n old now e held same)

more_held : (old now : List (Option Listed)) → length old ≡ length now → AreHeld now → AreMore old now
more_held [] [] e held = tt
more_held [] (r ∷ now) e held = cc
more_held (o ∷ old) [] e held = cc
more_held (None ∷ old) (r ∷ now) e held = (tt, more_held old now (omega (arith, e)) held.1)
more_held (Some t ∷ old) (r ∷ now) e held = (held.0, more_held old now (omega (arith, e)) held.1)

pub stay_held : (ks : List ℕ) (old now : List (Option Listed)) → length old ≡ length now → AreHeld now → AllByRecursion (λ j. is_one j (fresh_in ks now) ≡ true) (fresh_in ks old)
stay_held ks old now e held = stay ks old now (more_held old now e held)

-- ---- all, and none
pub all_fresh : (ks : List ℕ) (rs : List (Option Listed)) → length ks ≡ length rs → AreHeld rs → fresh_in ks rs ≡ ks
all_fresh [] rs e held = refl
all_fresh (k ∷ ks) [] e held = cc
all_fresh (k ∷ ks) (None ∷ rs) e held = cc (held.0)
all_fresh (k ∷ ks) (Some t ∷ rs) e held = ap (λ l. k ∷ l) (all_fresh ks rs (omega (arith, e)) held.1)

pub none_fresh : {X : Type 0} (ks : List ℕ) (xs : List X) → fresh_in ks (map (λ x. None) xs) ≡ []
none_fresh [] xs = refl
none_fresh (k ∷ ks) [] = refl
none_fresh (k ∷ ks) (x ∷ xs) = none_fresh ks xs

-- ---- fewer
abbrev TrimsOne : (ℕ → Bool) → ℕ → Option Listed → Option Listed → Type 0
TrimsOne p k None w = is_some w ≡ false
TrimsOne p k (Some t) w = is_some w ≡ p k

-- the test finds which of the tables are still held
abbrev pub Trims : (ℕ → Bool) → List ℕ → List (Option Listed) → List (Option Listed) → Type 0
Trims p [] [] [] = Unit {0}
Trims p (k ∷ ks) (r ∷ rs) (w ∷ ws) = TrimsOne p k r w × Trims p ks rs ws
Trims p ks rs ws = ⊥

pub trimmed : (p : ℕ → Bool) (ks : List ℕ) (rs ws : List (Option Listed)) → Trims p ks rs ws → filter p (fresh_in ks rs) ≡ fresh_in ks ws
trimmed p [] rs ws m = refl
trimmed p (k ∷ ks) [] ws m = absurd m
trimmed p (k ∷ ks) (r ∷ rs) [] m = absurd m
trimmed p (k ∷ ks) (None ∷ rs) (None ∷ ws) m = trimmed p ks rs ws m.1
trimmed p (k ∷ ks) (None ∷ rs) (Some u ∷ ws) m = cc (m.0)
trimmed p (k ∷ ks) (Some t ∷ rs) (None ∷ ws) m = ap (λ b. cond b (k ∷ filter p (fresh_in ks rs)) (filter p (fresh_in ks rs))) (sym m.0) ∙ trimmed p ks rs ws m.1
trimmed p (k ∷ ks) (Some t ∷ rs) (Some u ∷ ws) m = ap (λ b. cond b (k ∷ filter p (fresh_in ks rs)) (filter p (fresh_in ks rs))) (sym m.0) ∙ ap (λ l. k ∷ l) (trimmed p ks rs ws m.1)

pub trims_alike : (p q : ℕ → Bool) (b : ℕ) (ks : List ℕ) (rs ws : List (Option Listed)) → ((j : ℕ) → b ≤ j → p j ≡ q j) → Rise b ks → Trims p ks rs ws → Trims q ks rs ws
trims_alike p q b [] [] [] same r m = tt
trims_alike p q b [] [] (w ∷ ws) same r m = m
trims_alike p q b [] (x ∷ rs) ws same r m = absurd m
trims_alike p q b (k ∷ ks) [] ws same r m = absurd m
trims_alike p q b (k ∷ ks) (x ∷ rs) [] same r m = absurd m
trims_alike p q b (k ∷ ks) (x ∷ rs) (w ∷ ws) same r m = (one x m.0, trims_alike p q (suc k) ks rs ws (λ j h. same j (omega (arith, h, r.0))) r.1 m.1)
  where
    one : (x : Option Listed) → TrimsOne p k x w → TrimsOne q k x w
    one None e = e
    one (Some t) e = e ∙ same k r.0
