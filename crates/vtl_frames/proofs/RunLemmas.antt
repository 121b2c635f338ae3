-- Where stretches begin and end, by the list of their starts.
use Rattle.std.proofs.Common.{◌≡◌, ℕ, zero, suc, ◌+◌, ◌<◌, ◌≤◌, ◌⊎◌, inl, inr, List, [], ◌∷◌, length, get_or, take, drop, ◌++◌, ◌-◌, map, Bool, true, false, cond, refl, sym, ap, ◌∙◌, arith, true≢false, subst, append-nil, append_assoc}
use Rattle.std.specs.Prelude.{filter}
use Rattle.std.specs.List.{concat, range_with_len}
use Rattle.std.proofs.lemmas.List.{get_or_past, length-map, map-append, take_all, take_more}
use Rattle.std.proofs.lemmas.List.Folds.{concat-append}
use Rattle.std.proofs.lemmas.List.FromFn.{get_or-map-range_with_len, length-range_with_len}
use Rattle.std.proofs.lemmas.Bool.{cases_lt}
use Rattle.vtl_rows.specs.Runs.{is_start}
use Rattle.vtl_rows.specs.declared.column.SortKey.{SortKey}
use Rattle.vtl_cell.specs.Row.{Row}
use Rattle.vtl_frames.specs.Stretches.{AreStarts, cut_at, start_at, stretch_at, stretches_of}
use Rattle.vtl_frames.proofs.StretchLemmas.{IsStretch}

module _ (p : ℕ → Bool) where
  -- the first number from one on that passes, or the end
  pub record IsNext (a m e : ℕ) : Type 0 where
    pub low : a ≤ e
    pub high : e ≤ m
    pub none : (k : ℕ) → a ≤ k → k < e → p k ≡ false
    pub start : e < m → p e ≡ true

  pub next_is : (a n m : ℕ) → a + n ≡ m → IsNext a m (get_or (filter p (range_with_len a n)) 0 m)
  next_is a zero m h = record {
    low = omega (arith, h);
    high = omega arith;
    none = λ k l q. absurd (omega (arith, h, l, q));
    start = λ l. absurd (omega (arith, l));
  }
  next_is a (suc n) m h = go (p a) refl (next_is (a + 1) n m (omega (arith, h)))
    where
      rest : List ℕ
      rest = filter p (range_with_len (a + 1) n)

      one_more : (e : ℕ) → IsNext (a + 1) m e → p a ≡ false → (k : ℕ) → a ≤ k → k < e → (a < k) ⊎ (k ≤ a) → p k ≡ false
      one_more e x f k l q (inl above) = x.none k (omega (arith, above)) q
      one_more e x f k l q (inr at) =
          let one : k ≡ a = omega (arith, l, at) in
          ap p one ∙ f

      go : (b : Bool) → p a ≡ b → IsNext (a + 1) m (get_or rest 0 m) → IsNext a m (get_or (cond b (a ∷ rest) rest) 0 m)
      go true f x = record {
        low = omega arith;
        high = omega (arith, h);
        none = λ k l q. absurd (omega (arith, l, q));
        start = λ l. f;
      }
      go false f x = record {
        low = let l = x.low in omega (arith, l);
        high = x.high;
        none = λ k l q. one_more (get_or rest 0 m) x f k l q (cases_lt a k);
        start = x.start;
      }

  -- from a number that passes up to the next one
  pub record IsCut (m s e : ℕ) : Type 0 where
    pub some : s < e
    pub within : e ≤ m
    pub start : p s ≡ true
    pub inner : (k : ℕ) → s < k → k < e → p k ≡ false
    pub end : e < m → p e ≡ true

  pub cut_is : (a n m i : ℕ) → a + n ≡ m → i < length (filter p (range_with_len a n)) → IsCut m (get_or (filter p (range_with_len a n)) i m) (get_or (filter p (range_with_len a n)) (suc i) m)
  cut_is a zero m i h l = absurd (omega (arith, l))
  cut_is a (suc n) m i h l = go (p a) refl i l (λ j k. cut_is (a + 1) n m j (omega (arith, h)) k)
    where
      rest : List ℕ
      rest = filter p (range_with_len (a + 1) n)

      go : (b : Bool) → p a ≡ b → (j : ℕ) → j < length (cond b (a ∷ rest) rest) → ((k : ℕ) → k < length rest → IsCut m (get_or rest k m) (get_or rest (suc k) m))
          → IsCut m (get_or (cond b (a ∷ rest) rest) j m) (get_or (cond b (a ∷ rest) rest) (suc j) m)
      go true f zero k ih =
          let x = next_is (a + 1) n m (omega (arith, h)) in
          record {
            some = let low = x.low in omega (arith, low);
            within = x.high;
            start = f;
            inner = λ j q r. x.none j (omega (arith, q)) r;
            end = x.start;
          }
      go true f (suc j) k ih = ih j (omega (arith, k))
      go false f j k ih = ih j k

abbrev nothing : (X : Type 0) → List X
nothing X = []

take_nothing : {X : Type 0} (n : ℕ) → take n (nothing X) ≡ nothing X
take_nothing zero = refl
take_nothing (suc n) = refl

-- a front and a part behind it are a front
pub cut_take : {X : Type 0} (s e : ℕ) (xs : List X) → s ≤ e → take s xs ++ take (e - s) (drop s xs) ≡ take e xs
cut_take zero e xs h =
    let all : e - 0 ≡ e = omega arith in
    ap (λ n. take n xs) all
cut_take (suc s) zero xs h = absurd (omega (arith, h))
cut_take (suc s) (suc e) [] h = take_nothing (suc e - suc s)
cut_take (suc s) (suc e) (x ∷ xs) h =
    let same : suc e - suc s ≡ e - s = omega arith in
    ap (λ n. x ∷ (take s xs ++ take n (drop s xs))) same ∙ ap (λ l. x ∷ l) (cut_take s e xs (omega (arith, h)))

-- ---- cuts at starts
pub cut_many : (numbers found : List ℕ) → length (cut_at numbers found) ≡ length found
cut_many numbers found = length-map (range_with_len 0 (length found)) (stretch_at numbers found) ∙ length-range_with_len 0 (length found)

pub cut_place : (numbers found : List ℕ) (i : ℕ) → i < length found → get_or (cut_at numbers found) i [] ≡ stretch_at numbers found i
cut_place numbers found i h = get_or-map-range_with_len (stretch_at numbers found) 0 (length found) i i [] h (omega arith)

-- ---- stretches of rows
-- a stretch, from a place to before another
pub record IsOne (keys : List SortKey) (rows : List Row) (places run : List ℕ) : Type 0 where
  pub start : ℕ
  pub end : ℕ
  pub is : run ≡ take (end - start) (drop start places)
  pub cut : IsStretch keys rows places start end

module _ (keys : List SortKey) (rows : List Row) (places : List ℕ) where
  abbrev pub starts : List ℕ
  starts = filter (is_start keys rows places) (range_with_len 0 (length places))

  abbrev first_of : ℕ → ℕ
  first_of i = start_at starts (length places) i

  -- the first one begins at once
  none_before : first_of 0 ≡ 0
  none_before = go (first_of 0) (next_is (is_start keys rows places) 0 (length places) (length places) (omega arith))
    where
      go : (e : ℕ) → IsNext (is_start keys rows places) 0 (length places) e → e ≡ 0
      go zero x = refl
      go (suc e) x = absurd (true≢false (x.none 0 (omega arith) (omega arith)))

  is_stretch : (i : ℕ) → i < length starts → IsStretch keys rows places (first_of i) (first_of (i + 1))
  is_stretch i h =
      let x = cut_is (is_start keys rows places) 0 (length places) (length places) i (omega arith) h in
      let next : suc i ≡ i + 1 = omega arith in
      subst (λ j. IsStretch keys rows places (first_of i) (first_of j)) next
      (record { some = x.some; within = x.within; start = x.start; inner = x.inner; end = x.end })

  pub are_starts : AreStarts places starts
  are_starts = record {
    rise = λ i h. let s = (is_stretch i h).some in omega (arith, s);
    within = λ i h. (is_stretch i h).within;
  }

  abbrev all : List (List ℕ)
  all = stretches_of keys rows places

  many : length all ≡ length starts
  many = cut_many places starts

  at_place : (i : ℕ) → i < length starts → get_or all i [] ≡ stretch_at places starts i
  at_place = cut_place places starts

  -- each is one
  one_of : (i : ℕ) → i < length all → IsOne keys rows places (get_or all i [])
  one_of i h =
      let inside : i < length starts = omega (arith, h, many) in
      record { start = first_of i; end = first_of (i + 1); is = at_place i inside; cut = is_stretch i inside }

  joined_to : (i : ℕ) → i ≤ length starts → concat (take i all) ≡ take (first_of i) places
  joined_to zero h = sym (ap (λ k. take k places) none_before)
  joined_to (suc i) h =
      let inside : i < length starts = omega (arith, h) in
      let next : suc i ≡ i + 1 = omega arith in
      let up = (is_stretch i inside).some in
      ap (λ j. concat (take j all)) next ∙ ap concat (take_more all i [] (omega (arith, inside, many))) ∙ concat-append (take i all) (get_or all i [] ∷ [])
      ∙ ap (λ l. l ++ (get_or all i [] ++ [])) (joined_to i (omega (arith, h))) ∙ ap (λ l. take (first_of i) places ++ l) (append-nil (get_or all i []) ∙ at_place i inside)
      ∙ cut_take (first_of i) (first_of (i + 1)) places (omega (arith, up)) ∙ ap (λ j. take (first_of j) places) (sym next)

  -- and together they are all
  pub joined : concat all ≡ places
  joined =
      ap concat (sym (take_all (length all) all (omega arith))) ∙ ap (λ n. concat (take n all)) many ∙ joined_to (length starts) (omega arith)
      ∙ ap (λ n. take n places) (get_or_past starts (length starts) (length places) (omega arith)) ∙ take_all (length places) places (omega arith)

-- one of the stretches that were found
pub one_found : (keys : List SortKey) (rows : List Row) (places : List ℕ) (found : List (List ℕ)) (i : ℕ) → found ≡ stretches_of keys rows places → i < length found → IsOne keys rows places (get_or found i [])
one_found keys rows places found i same h = subst (λ l. IsOne keys rows places (get_or l i [])) (sym same) (one_of keys rows places i (subst (λ l. i < length l) same h))

-- ---- values put behind others, stretch by stretch
pub one_more : {Y : Type 0} (f : ℕ → Y) (xss : List (List ℕ)) (i : ℕ) (old now then : List Y) → i < length xss
    → now ≡ old ++ map f (concat (take i xss)) → then ≡ now ++ map f (get_or xss i []) → then ≡ old ++ map f (concat (take (i + 1) xss))
one_more f xss i old now then h before more =
    let x = get_or xss i [] in
    let joined = ap concat (take_more xss i [] h) ∙ concat-append (take i xss) (x ∷ []) ∙ ap (λ l. concat (take i xss) ++ l) (append-nil x) in
    more ∙ ap (λ l. l ++ map f x) before ∙ append_assoc old (map f (concat (take i xss))) (map f x)
    ∙ ap (λ l. old ++ l) (sym (map-append f (concat (take i xss)) x)) ∙ ap (λ l. old ++ map f l) (sym joined)
