-- A rank by the starts of rows that tie is one more than the number of rows that stand before.
use Rattle.std.proofs.Common.{◌≡◌, ℕ, zero, suc, ◌+◌, ◌-◌, ◌<◌, ◌≤◌, ◌⊎◌, inl, inr, List, [], ◌∷◌, length, get_or, map, Bool, true, false, not, cond, max, fold, refl, sym, ap, ◌∙◌, arith, true≢false, subst}
use Rattle.std.specs.Prelude.{count_by, filter, nat_le, ◌||◌, ◌==◌}
use Rattle.std.specs.Cmp.{IsTotalOrder}
use Rattle.std.specs.List.{range_with_len}
use Rattle.std.specs.Ordering.{is_eq, is_gt, is_lt, ordering_reverse}
use Rattle.std.specs.declared.cmp.Ordering.{Ordering}
use Rattle.std.specs.declared.cmp.Ordering.TheVariants.{Less, Equal, Greater}
use Rattle.std.proofs.lemmas.Cmp.{upto}
use Rattle.std.proofs.lemmas.List.Sums.{length-filter, sum_by-cons}
use Rattle.std.proofs.lemmas.Bool.{cases_lt}
use Rattle.vtl_lists.specs.Perm.{Perm}
use Rattle.vtl_cell.specs.Outcome.{Outcome}
use Rattle.vtl_cell.specs.Row.{Row}
use Rattle.vtl_cell.specs.declared.cell.Cell.{Cell}
use Rattle.vtl_decimal.specs.Settings.{Settings}
use Rattle.vtl_cell.specs.Sorted.{Key, by_keys, row_rank}
use Rattle.vtl_lists.specs.Sorting.{le_by}
use Rattle.vtl_cell.proofs.Keys.{by_keys_total}
use Rattle.vtl_lists.proofs.Perms.{Perm-filter, length-Perm}
use Rattle.vtl_rows.specs.Keys.{key_of}
use Rattle.vtl_rows.specs.Places.{row_at}
use Rattle.vtl_rows.specs.Runs.{is_start, last_start, rank_at}
use Rattle.vtl_rows.specs.declared.column.SortKey.{SortKey}
use Rattle.vtl_frames.specs.Ranked.{AreInOrder, count_in, ranks_in}
use Rattle.vtl_frames.proofs.ListLemmas.{listed, map_same, rises_get}

-- ---- orders
module _ {X : Type 0} {R : X → X → Ordering} (o : IsTotalOrder R) where
  turned : (r : Ordering) → not (is_lt (ordering_reverse r)) ≡ not (is_gt r)
  turned Less = refl
  turned Equal = refl
  turned Greater = refl

  le_is : (x y : X) → le_by R x y ≡ not (is_gt (R x y))
  le_is x y = ap (λ r. not (is_lt r)) (o.antisymm y x) ∙ turned (R x y)

  not_so : (b : Bool) → not b ≡ true → b ≡ false
  not_so true e = sym e
  not_so false e = refl

  pub le_trans : (x y z : X) → le_by R x y ≡ true → le_by R y z ≡ true → le_by R x z ≡ true
  le_trans x y z e h =
      le_is x z ∙ ap not (upto o x y z (not_so (is_gt (R x y)) (sym (le_is x y) ∙ e)) (not_so (is_gt (R y z)) (sym (le_is y z) ∙ h)))

  both_ways : (r : Ordering) → not (is_gt r) ≡ true → not (is_lt r) ≡ true → is_eq r ≡ true
  both_ways Less e h = absurd (true≢false (sym h))
  both_ways Equal e h = refl
  both_ways Greater e h = absurd (true≢false (sym e))

  pub le_ties : (x y : X) → le_by R x y ≡ true → le_by R y x ≡ true → is_eq (R x y) ≡ true
  le_ties x y e h = both_ways (R x y) (sym (le_is x y) ∙ e) h

  tied_back : (r : Ordering) → is_eq r ≡ true → not (is_lt r) ≡ true
  tied_back Less e = absurd (true≢false (sym e))
  tied_back Equal e = refl
  tied_back Greater e = refl

  pub tie_le : (x y : X) → is_eq (R x y) ≡ true → le_by R y x ≡ true
  tie_le x y e = tied_back (R x y) e

-- ---- counts
pub count_cons : {X : Type 0} (p : X → Bool) (x : X) (xs : List X) → count_by p (x ∷ xs) ≡ cond (p x) 1 0 + count_by p xs
count_cons p x xs = sum_by-cons (λ y. cond (p y) 1 0) x xs

pub count_by-Perm : {X : Type 0} (t : X → Bool) {xs ys : List X} → Perm xs ys → count_by t xs ≡ count_by t ys
count_by-Perm t {xs} {ys} p = sym (length-filter t xs) ∙ length-Perm (Perm-filter t p) ∙ length-filter t ys

-- the items up to a place pass, and none behind it
pub count_front : {X : Type 0} (p : X → Bool) (xs : List X) (s : ℕ) (d : X) → s ≤ length xs → ((k : ℕ) → k < s → p (get_or xs k d) ≡ true) → ((k : ℕ) → s ≤ k → k < length xs → p (get_or xs k d) ≡ false) → count_by p xs ≡ s
count_front p [] s d h all none = omega (arith, h)
count_front p (x ∷ xs) zero d h all none =
    count_cons p x xs ∙ ap (λ b. cond b 1 0 + count_by p xs) (none 0 (omega arith) (omega arith))
    ∙ ap (λ n. 0 + n) (count_front p xs 0 d (omega arith) (λ k l. absurd (omega (arith, l))) (λ k l m. none (suc k) (omega arith) (omega (arith, m))))
count_front p (x ∷ xs) (suc s) d h all none =
    let rest = count_front p xs s d (omega (arith, h)) (λ k l. all (suc k) (omega (arith, l))) (λ k l m. none (suc k) (omega (arith, l)) (omega (arith, m))) in
    count_cons p x xs ∙ ap (λ b. cond b 1 0 + count_by p xs) (all 0 (omega arith)) ∙ omega (arith, rest)

-- ---- the last start
module _ (p : ℕ → Bool) (i s : ℕ) (here : s ≤ i) (start : p s ≡ true) (none : (k : ℕ) → s < k → k ≤ i → p k ≡ false) where
  abbrev kept_to : ℕ → List ℕ → ℕ
  kept_to m ks = fold max m (filter (λ k. nat_le k i) ks)

  past : (a n m : ℕ) → s < a → kept_to m (filter p (range_with_len a n)) ≡ m
  past a zero m h = refl
  past a (suc n) m h = go (p a) refl (past (a + 1) n m (omega (arith, h)))
    where
      behind' : (t : Bool) → nat_le a i ≡ t → p a ≡ true → kept_to m (filter p (range_with_len (a + 1) n)) ≡ m → fold max m (cond t (a ∷ filter (λ k. nat_le k i) (filter p (range_with_len (a + 1) n))) (filter (λ k. nat_le k i) (filter p (range_with_len (a + 1) n)))) ≡ m
      behind' true e h' ih = absurd (true≢false (sym h' ∙ none a h (grind (arith, e))))
      behind' false e h' ih = ih

      go : (b : Bool) → p a ≡ b → kept_to m (filter p (range_with_len (a + 1) n)) ≡ m → kept_to m (cond b (a ∷ filter p (range_with_len (a + 1) n)) (filter p (range_with_len (a + 1) n))) ≡ m
      go true e ih = behind' (nat_le a i) refl e ih
      go false e ih = ih

  up_to_start : (a n m : ℕ) → a ≤ s → s < a + n → m ≤ s → kept_to m (filter p (range_with_len a n)) ≡ s
  up_to_start a zero m h l k = absurd (omega (arith, h, l))
  up_to_start a (suc n) m h l k = go (cases_lt a s) (p a) refl (λ j e f. up_to_start (a + 1) n j e (omega (arith, l)) f)
    where
      among : nat_le a i ≡ true
      among = grind (arith, h, here)

      rest : List ℕ
      rest = filter (λ j. nat_le j i) (filter p (range_with_len (a + 1) n))

      go : (a < s) ⊎ (s ≤ a) → (b : Bool) → p a ≡ b → ((j : ℕ) → a + 1 ≤ s → j ≤ s → kept_to j (filter p (range_with_len (a + 1) n)) ≡ s) → kept_to m (cond b (a ∷ filter p (range_with_len (a + 1) n)) (filter p (range_with_len (a + 1) n))) ≡ s
      go (inl below) true e ih =
          ap (λ t. fold max m (cond t (a ∷ filter (λ j. nat_le j i) (filter p (range_with_len (a + 1) n))) (filter (λ j. nat_le j i) (filter p (range_with_len (a + 1) n))))) among
          ∙ ih (max m a) (omega (arith, below)) (omega (arith, below, k))
      go (inl below) false e ih = ih m (omega (arith, below)) k
      go (inr at) true e ih =
          let top : max m a ≡ s = omega (arith, at, h, k) in
          ap (λ t. fold max m (cond t (a ∷ filter (λ j. nat_le j i) (filter p (range_with_len (a + 1) n))) (filter (λ j. nat_le j i) (filter p (range_with_len (a + 1) n))))) among
          ∙ past (a + 1) n (max m a) (omega (arith, at, h)) ∙ top
      go (inr at) false e ih =
          let one : s ≡ a = omega (arith, at, h) in
          absurd (true≢false (sym start ∙ ap p one ∙ e))

  last_is : (n : ℕ) → s < n → last_start (filter p (range_with_len 0 n)) i ≡ s
  last_is n h = up_to_start 0 n 0 (omega arith) (omega (arith, h)) (omega arith)

-- the last place up to one that passes, where the first does
record Last (p : ℕ → Bool) (i : ℕ) : Type 0 where
  at : ℕ
  here : at ≤ i
  start : p at ≡ true
  none : (k : ℕ) → at < k → k ≤ i → p k ≡ false

last_of : (p : ℕ → Bool) → p 0 ≡ true → (i : ℕ) → Last p i
last_of p first zero = record { at = 0; here = omega arith; start = first; none = λ k h l. absurd (omega (arith, h, l)) }
last_of p first (suc i) = go (p (suc i)) refl (last_of p first i)
  where
    one_more : (x : Last p i) → p (suc i) ≡ false → (k : ℕ) → x.at < k → k ≤ suc i → (k < suc i) ⊎ (suc i ≤ k) → p k ≡ false
    one_more x e k h l (inl below) = x.none k h (omega (arith, below))
    one_more x e k h l (inr at) =
        let one : k ≡ suc i = omega (arith, l, at) in
        ap p one ∙ e

    go : (b : Bool) → p (suc i) ≡ b → Last p i → Last p (suc i)
    go true e x = record { at = suc i; here = omega arith; start = e; none = λ k h l. absurd (omega (arith, h, l)) }
    go false e x = record { at = x.at; here = omega (arith, x.here); start = x.start; none = λ k h l. one_more x e k h l (cases_lt k (suc i)) }

-- ---- ranks
-- a rank is one whatever order the rows stand in
pub row_rank-Perm : (p : Settings) (keys : List Key) (r : Row) {xs ys : List Row} → Perm xs ys → row_rank p keys r xs ≡ row_rank p keys r ys
row_rank-Perm p keys r perm = ap (λ n. count_in p (n + 1)) (count_by-Perm (λ q. is_lt (by_keys keys q r)) perm)

pub count_map : {X Y : Type 0} (q : Y → Bool) (f : X → Y) (xs : List X) → count_by q (map f xs) ≡ count_by (λ x. q (f x)) xs
count_map q f [] = refl
count_map q f (x ∷ xs) = count_cons q (f x) (map f xs) ∙ ap (λ n. cond (q (f x)) 1 0 + n) (count_map q f xs) ∙ sym (count_cons (λ y. q (f y)) x xs)

module _ (keys : List SortKey) (rows : List Row) (run : List ℕ) (order : AreInOrder keys rows run) where
  abbrev pub R : Row → Row → Ordering
  R = by_keys (map key_of keys)

  abbrev pub at : ℕ → Row
  at k = row_at rows (get_or run k 0)

  pub total : IsTotalOrder (by_keys (map key_of keys))
  total = by_keys_total (map key_of keys)

  self_le : (r : Ordering) → r ≡ ordering_reverse r → not (is_lt r) ≡ true
  self_le Less e = cc
  self_le Equal e = refl
  self_le Greater e = refl

  le_self : (r : Row) → le_by R r r ≡ true
  le_self r = self_le (R r r) (total.antisymm r r)

  pub le_at : (j k : ℕ) → j ≤ k → k < length run → le_by R (at j) (at k) ≡ true
  le_at j k h l = go (cases_lt j k)
    where
      go : (j < k) ⊎ (k ≤ j) → le_by R (at j) (at k) ≡ true
      go (inl below) = rises_get (λ a b. le_by R (row_at rows a) (row_at rows b)) run j k 0 below l order
      go (inr above) =
          let one : k ≡ j = omega (arith, above, h) in
          ap (λ m. le_by R (at j) (at m)) one ∙ le_self (at j)

  no_start : (t : Bool) → (false || not t) ≡ false → t ≡ true
  no_start true e = refl
  no_start false e = absurd (true≢false e)

  pub tied_with_last : (k : ℕ) → is_start keys rows run (suc k) ≡ false → is_eq (R (at k) (at (suc k))) ≡ true
  tied_with_last k e =
      let zero_not : (suc k == 0) ≡ false = grind arith in
      let back : suc k - 1 ≡ k = omega arith in
      no_start (is_eq (R (at k) (at (suc k))))
      (ap (λ j. false || not (is_eq (R (at j) (at (suc k))))) (sym back) ∙ ap (λ b. b || not (is_eq (R (at (suc k - 1)) (at (suc k))))) (sym zero_not) ∙ e)

  pub starts_apart : (k : ℕ) → is_start keys rows run (suc k) ≡ true → is_eq (R (at k) (at (suc k))) ≡ false
  starts_apart k e = go (is_eq (R (at k) (at (suc k)))) refl
    where
      back : suc k - 1 ≡ k
      back = omega arith

      zero_not : (suc k == 0) ≡ false
      zero_not = grind arith

      go : (b : Bool) → is_eq (R (at k) (at (suc k))) ≡ b → b ≡ false
      go true h =
          absurd (true≢false (sym e ∙ ap (λ b. b || not (is_eq (R (at (suc k - 1)) (at (suc k))))) zero_not ∙ ap (λ j. not (is_eq (R (at j) (at (suc k))))) back ∙ ap not h))
      go false h = refl

  -- from a start on rows tie up to the next
  chain : (i k m : ℕ) (x : Last (is_start keys rows run) i) → x.at ≤ k → k + m ≤ i → le_by R (at (k + m)) (at k) ≡ true
  chain i k zero x h l =
      let same : k + 0 ≡ k = omega arith in
      ap (λ j. le_by R (at j) (at k)) same ∙ le_self (at k)
  chain i k (suc m) x h l =
      let next : k + suc m ≡ suc (k + m) = omega arith in
      let tie = tied_with_last (k + m) (x.none (suc (k + m)) (omega (arith, h)) (omega (arith, l))) in
      ap (λ j. le_by R (at j) (at k)) next
      ∙ le_trans total (at (suc (k + m))) (at (k + m)) (at k) (tie_le total (at (k + m)) (at (suc (k + m))) tie) (chain i k m x h (omega (arith, l)))

  not_lt : (b : Bool) → not b ≡ true → b ≡ false
  not_lt true e = sym e
  not_lt false e = refl

  stands_before : (i k s : ℕ) → s ≤ i → i < length run → is_start keys rows run s ≡ true → k < s → is_lt (R (at k) (at i)) ≡ true
  stands_before i k zero h l e m = absurd (omega (arith, m))
  stands_before i k (suc s) h l e m = go (is_lt (R (at k) (at i))) refl
    where
      go : (b : Bool) → is_lt (R (at k) (at i)) ≡ b → b ≡ true
      go true f = refl
      go false f =
          let back : le_by R (at i) (at k) ≡ true = ap not f in
          let far = le_trans total (at (suc s)) (at i) (at k) (le_at (suc s) i h l) back in
          let near = le_trans total (at (suc s)) (at k) (at s) far (le_at k s (omega (arith, m)) (omega (arith, h, l))) in
          let tie = le_ties total (at s) (at (suc s)) (le_at s (suc s) (omega arith) (omega (arith, h, l))) near in
          absurd (true≢false (sym tie ∙ starts_apart s e))

  stands_behind : (i k : ℕ) (x : Last (is_start keys rows run) i) → i < length run → x.at ≤ k → k < length run → is_lt (R (at k) (at i)) ≡ false
  stands_behind i k x l h m = not_lt (is_lt (R (at k) (at i))) (go (cases_lt k i))
    where
      go : (k < i) ⊎ (i ≤ k) → le_by R (at i) (at k) ≡ true
      go (inl below) =
          let rest : k + (i - k) ≡ i = omega (arith, below) in
          subst (λ j. le_by R (at j) (at k) ≡ true) rest (chain i k (i - k) x h (omega (arith, rest)))
      go (inr above) = le_at i k above m

  pub rank_is : (i : ℕ) → i < length run → rank_at (0 ∷ []) (filter (is_start keys rows run) (range_with_len 0 (length run))) i ≡ count_by (λ q. is_lt (R q (at i))) (map (row_at rows) run) + 1
  rank_is i h =
      let first : is_start keys rows run 0 ≡ true = refl in
      let x = last_of (is_start keys rows run) first i in
      let none : nat_le 0 i ≡ true = grind arith in
      let start : last_start (0 ∷ []) i ≡ 0 = ap (λ b. fold max 0 (cond b (0 ∷ []) [])) none in
      let last = last_is (is_start keys rows run) i x.at x.here x.start x.none (length run) (omega (arith, h, x.here)) in
      let count : count_by (λ k. is_lt (R (row_at rows k) (at i))) run ≡ x.at = count_front (λ k. is_lt (R (row_at rows k) (at i))) run x.at 0 (omega (arith, h, x.here)) (λ k l. stands_before i k x.at x.here h x.start l) (λ k l m. stands_behind i k x h l m) in
      omega (arith, start, last, count, count_map (λ q. is_lt (R q (at i))) (row_at rows) run)

counts_at : (p : Settings) (f : ℕ → ℕ) (is : List ℕ) → map (count_in p) (map f is) ≡ map (λ i. count_in p (f i)) is
counts_at p f [] = refl
counts_at p f (i ∷ is) = ap (λ l. count_in p (f i) ∷ l) (counts_at p f is)

pub rank_values : (p : Settings) (keys : List SortKey) (rows : List Row) (run : List ℕ) → AreInOrder keys rows run
    → map (count_in p) (map (rank_at (0 ∷ []) (filter (is_start keys rows run) (range_with_len 0 (length run)))) (range_with_len 0 (length run))) ≡ ranks_in p keys rows run
rank_values p keys rows run order =
    let rank : ℕ → Outcome Cell = λ k. row_rank p (map key_of keys) (row_at rows k) (map (row_at rows) run) in
    counts_at p (rank_at (0 ∷ []) (filter (is_start keys rows run) (range_with_len 0 (length run)))) (range_with_len 0 (length run))
    ∙ map_same (λ i. count_in p (rank_at (0 ∷ []) (filter (is_start keys rows run) (range_with_len 0 (length run))) i)) (λ i. rank (get_or run i 0)) (length run) (length run) refl
    (λ i h. ap (count_in p) (rank_is keys rows run order i h))
    ∙ listed rank run 0
