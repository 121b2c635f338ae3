-- The place of a row in a window is the number of rows before it, and there the partition in order has it.
use Rattle.std.specs.Prelude.{count_by, filter}
use Rattle.std.specs.List.{AllByRecursion}
use Rattle.std.specs.Ordering.{is_lt}
use Rattle.std.proofs.Common.{◌≡◌, ℕ, zero, suc, ◌+◌, ◌<◌, ◌≤◌, Bool, true, false, not, cond, List, [], ◌∷◌, length, get_or, take, drop, refl, sym, ap, ◌∙◌, subst, ◌⊎◌, inl, inr, true≢false, arith}
use Rattle.std.proofs.lemmas.List.Sums.{count_by-le-length, sum_by-cons}
use Rattle.vtl_lists.specs.Sorting.{IsOrder, Rises, le_by}
use Rattle.vtl_lists.proofs.Sorts.{Perm-sorted_by, Rises-sorted_by}
use Rattle.vtl_cell.specs.Row.{Row, same_row}
use Rattle.vtl_cell.specs.Sorted.{Key, in_order, window_cmp}
use Rattle.vtl_cell.proofs.Keys.{window_order}
use Rattle.vtl_cell.proofs.Rows.{same_row-is, same_row-refl}
use Rattle.vtl_rows.specs.Tables.{cells_at}
use Rattle.sql_meaning.specs.Windows.{place_within}
use Rattle.sql_meaning.proofs.UpToOrder.{count_by-Perm}
use Rattle.sql_meaning_laws.specs.Places.{partition_at, row_at, rows_before, told_at}

-- ---- counts

abbrev bit : Bool → ℕ
bit b = cond b 1 0

count_cons : {X : Type 0} (p : X → Bool) (x : X) (xs : List X) → count_by p (x ∷ xs) ≡ bit (p x) + count_by p xs
count_cons p x xs = sum_by-cons (λ y. cond (p y) 1 0) x xs

-- what passes one of two tests, where nothing passes both
both_counts : {X : Type 0} (p q t : X → Bool) → ((x : X) → bit (p x) ≡ bit (q x) + bit (t x)) → (xs : List X) → count_by p xs ≡ count_by q xs + count_by t xs
both_counts p q t h [] = refl
both_counts p q t h (x ∷ xs) = omega (arith, count_cons p x xs, count_cons q x xs, count_cons t x xs, h x, both_counts p q t h xs)

-- what passes is counted among what a wider test keeps
count_kept : {X : Type 0} (p q : X → Bool) → ((x : X) → p x ≡ true → q x ≡ true) → (xs : List X) → count_by p (filter q xs) ≡ count_by p xs
count_kept p q h [] = refl
count_kept p q h (x ∷ xs) = go (q x) refl (p x) refl (count_kept p q h xs)
  where
    go : (a : Bool) → q x ≡ a → (b : Bool) → p x ≡ b → count_by p (filter q xs) ≡ count_by p xs → count_by p (cond a (x ∷ filter q xs) (filter q xs)) ≡ count_by p (x ∷ xs)
    go true e b f ih = count_cons p x (filter q xs) ∙ ap (λ n. bit (p x) + n) ih ∙ sym (count_cons p x xs)
    go false e true f ih = absurd (true≢false (sym (h x f) ∙ e))
    go false e false f ih = omega (arith, ih, count_cons p x xs, ap bit f)

-- before an item, the item, and behind it
count_split : {X : Type 0} (p : X → Bool) (xs : List X) (i : ℕ) (d : X) → i < length xs → p (get_or xs i d) ≡ true → count_by p xs ≡ count_by p (take i xs) + (1 + count_by p (drop (suc i) xs))
count_split p [] i d h e = absurd (omega arith)
count_split p (x ∷ xs) zero d h e = omega (arith, count_cons p x xs, ap bit e)
count_split p (x ∷ xs) (suc i) d h e = omega (arith, count_cons p x xs, count_cons p x (take i xs), count_split p xs i d (omega (arith, h)) e)

-- ---- an order

module _ (le : Row → Row → Bool) (o : IsOrder le) where
  itself : (x : Row) → le x x ≡ true
  itself x = either (o.total x x)
    where
      either : (le x x ≡ true) ⊎ (le x x ≡ true) → le x x ≡ true
      either (inl h) = h
      either (inr h) = h

  -- what is not above a row is below it, or the same
  below_or_same : (r q : Row) → bit (le q r) ≡ bit (not (le r q)) + bit (same_row r q)
  below_or_same r q = go (le q r) refl (le r q) refl (same_row r q) refl
    where
      go : (a : Bool) → le q r ≡ a → (b : Bool) → le r q ≡ b → (s : Bool) → same_row r q ≡ s → bit a ≡ bit (not b) + bit s
      go true e true f true g = refl
      go true e true f false g = absurd (true≢false (sym (same_row-refl r) ∙ ap (same_row r) (o.antisym r q f e) ∙ g))
      go true e false f true g = absurd (true≢false (sym (itself r) ∙ ap (le r) (same_row-is r q g) ∙ f))
      go true e false f false g = refl
      go false e true f true g = absurd (true≢false (sym (itself r) ∙ ap (λ z. le z r) (same_row-is r q g) ∙ e))
      go false e true f false g = refl
      go false e false f s g = absurd (either (o.total r q))
        where
          either : (le r q ≡ true) ⊎ (le q r ≡ true) → ⊥
          either (inl h) = true≢false (sym h ∙ f)
          either (inr h) = true≢false (sym h ∙ e)

  none_at_most : (x r : Row) → le x r ≡ false → (xs : List Row) → AllByRecursion (λ q. le x q ≡ true) xs → count_by (λ q. le q r) xs ≡ 0
  none_at_most x r e [] all = refl
  none_at_most x r e (q ∷ xs) all = omega (arith, count_cons (λ z. le z r) q xs, ap bit (above (le q r) refl), none_at_most x r e xs all.1)
    where
      above : (b : Bool) → le q r ≡ b → le q r ≡ false
      above true f = absurd (true≢false (sym (o.trans x q r all.0 f) ∙ e))
      above false f = f

  none_below : (r : Row) (xs : List Row) → AllByRecursion (λ q. le r q ≡ true) xs → count_by (λ q. not (le r q)) xs ≡ 0
  none_below r [] all = refl
  none_below r (q ∷ xs) all = omega (arith, count_cons (λ z. not (le r z)) q xs, ap (λ b. bit (not b)) all.0, none_below r xs all.1)

  -- in a list in order a row stands at each place between the rows below it and those that are not above it
  at_place : (xs : List Row) (r : Row) (n : ℕ) → Rises le xs → count_by (λ q. not (le r q)) xs ≤ n → n < count_by (λ q. le q r) xs → get_or xs n [] ≡ r
  at_place [] r n rises low high = absurd (omega (arith, high))
  at_place (x ∷ xs) r n rises low high = go (le x r) refl (le r x) refl n low high (λ k. at_place xs r k rises.1)
    where
      go : (a : Bool) → le x r ≡ a → (b : Bool) → le r x ≡ b → (k : ℕ) → count_by (λ q. not (le r q)) (x ∷ xs) ≤ k → k < count_by (λ q. le q r) (x ∷ xs)
          → ((m : ℕ) → count_by (λ q. not (le r q)) xs ≤ m → m < count_by (λ q. le q r) xs → get_or xs m [] ≡ r) → get_or (x ∷ xs) k [] ≡ r
      go false e b f k low high ih = absurd (omega (arith, high, count_cons (λ q. le q r) x xs, ap bit e, none_at_most x r e xs rises.0))
      go true e true f zero low high ih = o.antisym x r e f
      go true e true f (suc k) low high ih =
          let none = none_below r xs (subst (λ z. AllByRecursion (λ q. le z q ≡ true) xs) (o.antisym x r e f) rises.0) in
          ih k (omega (arith, none)) (omega (arith, high, count_cons (λ q. le q r) x xs, ap bit e))
      go true e false f zero low high ih = absurd (omega (arith, low, count_cons (λ q. not (le r q)) x xs, ap (λ b. bit (not b)) f))
      go true e false f (suc k) low high ih =
          ih k (omega (arith, low, count_cons (λ q. not (le r q)) x xs, ap (λ b. bit (not b)) f)) (omega (arith, high, count_cons (λ q. le q r) x xs, ap bit e))

-- ---- rows as windows see them

pub row_is : (rows : List Row) (i : ℕ) → (told_at rows i).0 ≡ row_at rows i
row_is [] i = refl
row_is (r ∷ rows) zero = refl
row_is (r ∷ rows) (suc i) = row_is rows i

told_is : (rows : List Row) (i : ℕ) → i < length rows → told_at rows i ≡ (row_at rows i, count_by (same_row (row_at rows i)) (drop (suc i) rows))
told_is [] i h = absurd (omega arith)
told_is (r ∷ rows) zero h = refl
told_is (r ∷ rows) (suc i) h = told_is rows i (omega (arith, h))

not_not : (b : Bool) → b ≡ not (not b)
not_not true = refl
not_not false = refl

module _ (keys : List Key) (places : List ℕ) (rows : List Row) (i : ℕ) (h : i < length rows) where
  abbrev r : Row
  r = row_at rows i

  abbrev partition : List Row
  partition = partition_at places rows i

  abbrev le : Row → Row → Bool
  le = le_by (window_cmp keys [])

  lower : count_by (λ q. is_lt (window_cmp keys [] q r)) partition ≡ count_by (λ q. not (le r q)) partition
  lower = λ j. count_by (λ q. not_not (is_lt (window_cmp keys [] q r)) j) partition

  -- all that are the same stand in the partition
  same : count_by (same_row r) partition ≡ count_by (same_row r) rows
  same = count_kept (same_row r) (λ q. same_row (cells_at places q) (cells_at places r))
      (λ q e. ap (λ z. same_row (cells_at places z) (cells_at places r)) (sym (same_row-is r q e)) ∙ same_row-refl (cells_at places r)) rows

  whole : count_by (λ q. le q r) partition ≡ rows_before keys partition (take i rows) r + (1 + count_by (same_row r) (drop (suc i) rows))
  whole = omega (arith, both_counts (λ q. le q r) (λ q. not (le r q)) (same_row r) (below_or_same le (window_order keys []) r) partition, lower, same, count_split (same_row r) rows i [] h (same_row-refl r))

  pub place_is : place_within keys partition (told_at rows i) ≡ rows_before keys partition (take i rows) r
  place_is = ap (place_within keys partition) (told_is rows i h) ∙ omega (arith, whole)

  pub place_within_partition : rows_before keys partition (take i rows) r < length partition
  place_within_partition = omega (arith, whole, count_by-le-length (λ q. le q r) partition)

  pub row_there : get_or (in_order keys [] partition) (rows_before keys partition (take i rows) r) [] ≡ r
  row_there =
      let order = window_order keys [] in
      let ordered = in_order keys [] partition in
      let below = count_by-Perm (λ q. not (le r q)) (Perm-sorted_by order partition) in
      let most = count_by-Perm (λ q. le q r) (Perm-sorted_by order partition) in
      at_place le order ordered r (rows_before keys partition (take i rows) r) (Rises-sorted_by order partition) (omega (arith, below, lower)) (omega (arith, most, whole))
