-- Among the places of rows in order, the least later one of two neighbours that tie is that of the first repeat.
use Rattle.std.proofs.Common.{All, ◌≡◌, ℕ, zero, suc, ◌+◌, ◌<◌, ◌≤◌, ◌⊎◌, inl, inr, None, List, Bool, true, false, not, ◌&&◌, map, length, get_or, ltb, ltb-true, ltb-false, lt-ltb, cond, arith, refl, sym, ap, ◌∙◌, subst, true≢false}
use Rattle.std.specs.List.{range_with_len}
use Rattle.std.specs.Cmp.{Equal-is, nat_cmp_is}
use Rattle.std.specs.Ordering.{is_eq, is_lt, nat_cmp, on, ordering_then, then_cmp}
use Rattle.std.specs.declared.cmp.Ordering.{Ordering}
use Rattle.std.specs.declared.cmp.Ordering.TheVariants.{Less, Equal, Greater}
use Rattle.std.proofs.lemmas.Bool.{cases_eq, cases_order, and_parts}
use Rattle.std.proofs.lemmas.List.{get_or_default}
use Rattle.std.proofs.lemmas.List.FromFn.{get_or-range_with_len, length-range_with_len}
use Rattle.std.proofs.lemmas.List.MinMax.{ranks_by}
use Rattle.std.proofs.lemmas.List.Sorted.{All-permutation, IsPermutation-sym, sorted_far}
use Rattle.vtl_lists.specs.Sorting.{le_by}
use Rattle.vtl_cell.proofs.Keys.{by_keys_total}
use Rattle.vtl_cell.specs.Row.{Row}
use Rattle.vtl_cell.specs.Sorted.{by_keys}
use Rattle.vtl_rows.specs.declared.column.SortKey.{SortKey}
use Rattle.vtl_rows.specs.Keys.{FindsSame, IsFirstSame, key_of, tie_by}
use Rattle.vtl_rows.specs.Places.{IsOrderOf, row_at, ties_before}
use Rattle.vtl_rows.specs.Seen.{Repeats}
use Rattle.vtl_rows.proofs.Firsts.{all_before, all_rows, first_same}
use Rattle.vtl_rows.proofs.Stable.{first_not_less, placed_total}
use Rattle.vtl_rows.proofs.Ties.{ties_between, ties_turn}

-- the later one of the first pairs of neighbours that tie is not below a number
abbrev pub IsBelow : List SortKey → List Row → List ℕ → ℕ → ℕ → Type 0
IsBelow keys rows places n least = (k : ℕ) → k < n → k + 1 < length places → ties_before keys rows (get_or places k 0) (get_or places (k + 1) 0) ≡ true → least ≤ get_or places (k + 1) 0

-- the least one, or the number of rows
pub record IsLeast (keys : List SortKey) (rows : List Row) (places : List ℕ) (n least : ℕ) : Type 0 where
  pub few : least ≤ length rows
  pub one : least < length rows → Repeats keys rows least
  pub below : IsBelow keys rows places n least

module _ (keys : List SortKey) (rows : List Row) (places : List ℕ) where
  abbrev at : ℕ → ℕ
  at k = get_or places k 0

  pub none_yet : IsLeast keys rows places 0 (length rows)
  none_yet = record { few = omega arith; one = λ h. absurd (omega arith); below = λ k h. absurd (omega arith) }

  -- one more pair
  module _ (n least x y : ℕ) (before : IsLeast keys rows places n least) (h : n + 1 < length places) (first : x ≡ get_or places n 0) (second : y ≡ get_or places (n + 1) 0) where
    less : y < least → ties_before keys rows x y ≡ true → IsLeast keys rows places (n + 1) y
    less l t = record { few = let f = before.few in omega (arith, f, l); one = λ w. one; below = below }
      where
        one : Repeats keys rows y
        one = let both = and_parts (ltb x y) (tie_by keys (row_at rows x) (row_at rows y)) t in (x, ltb-true x y both.0, both.1)

        below : IsBelow keys rows places (n + 1) y
        below k hk w tie = elim (cases_eq k n) [
          | inl same ↦ let s : y ≡ at (k + 1) = subst (λ m. y ≡ at (m + 1)) (sym same) second in omega (arith, s)
          | inr ne ↦ let b = before.below k (omega (arith, hk, ne)) w tie in omega (arith, b, l)
        ]

    not_less : least ≤ y → IsLeast keys rows places (n + 1) least
    not_less l = record { few = before.few; one = before.one; below = below }
      where
        below : IsBelow keys rows places (n + 1) least
        below k hk w tie = elim (cases_eq k n) [
          | inl same ↦ let s : y ≡ at (k + 1) = subst (λ m. y ≡ at (m + 1)) (sym same) second in omega (arith, s, l)
          | inr ne ↦ before.below k (omega (arith, hk, ne)) w tie
        ]

    no_tie : ties_before keys rows x y ≡ false → IsLeast keys rows places (n + 1) least
    no_tie t = record { few = before.few; one = before.one; below = below }
      where
        tied : ties_before keys rows (at n) (at (n + 1)) ≡ true → ⊥
        tied e = true≢false (sym e ∙ ap (λ m. ties_before keys rows m (at (n + 1))) (sym first) ∙ ap (λ m. ties_before keys rows x m) (sym second) ∙ t)

        below : IsBelow keys rows places (n + 1) least
        below k hk w tie = elim (cases_eq k n) [
          | inl same ↦ absurd (tied (subst (λ m. ties_before keys rows (at m) (at (m + 1)) ≡ true) same tie))
          | inr ne ↦ before.below k (omega (arith, hk, ne)) w tie
        ]

    pub one_more : IsLeast keys rows places (n + 1) (cond (ltb y least && ties_before keys rows x y) y least)
    one_more = by_less (ltb y least) refl
      where
        by_tie : y < least → (b : Bool) → ties_before keys rows x y ≡ b → IsLeast keys rows places (n + 1) (cond b y least)
        by_tie l true e = less l e
        by_tie l false e = no_tie e

        by_less : (b : Bool) → ltb y least ≡ b → IsLeast keys rows places (n + 1) (cond (b && ties_before keys rows x y) y least)
        by_less true e = by_tie (ltb-true y least e) (ties_before keys rows x y) refl
        by_less false e = not_less (ltb-false y least e)

  -- ---- all pairs
  module _ (order : IsOrderOf keys rows places) where
    far : (p q : ℕ) → p ≤ q → q < length places → is_lt (then_cmp (on (row_at rows) (by_keys (map key_of keys))) nat_cmp (at q) (at p)) ≡ false
    far p q le h = sorted_far (λ a b. is_lt (then_cmp (on (row_at rows) (by_keys (map key_of keys))) nat_cmp a b)) (ranks_by (placed_total (row_at rows) (by_keys_total (map key_of keys))) (λ a. a)) places order.placed p q 0 le h

    rows_rise : (p q : ℕ) → p ≤ q → q < length places → le_by (by_keys (map key_of keys)) (row_at rows (at p)) (row_at rows (at q)) ≡ true
    rows_rise p q le h = ap not (first_not_less (by_keys (map key_of keys) (row_at rows (at q)) (row_at rows (at p))) (nat_cmp (at q) (at p)) (far p q le h))

    second_not_less : (r s : Ordering) → is_eq r ≡ true → is_lt (ordering_then r s) ≡ false → is_lt s ≡ false
    second_not_less Less s t e = cc
    second_not_less Equal s t e = e
    second_not_less Greater s t e = cc

    numbers_rise : (p q : ℕ) → p ≤ q → q < length places → tie_by keys (row_at rows (at p)) (row_at rows (at q)) ≡ true → at p ≤ at q
    numbers_rise p q le h t =
        let back = sym (ties_turn (by_keys_total (map key_of keys)) (row_at rows (at p)) (row_at rows (at q))) ∙ t in
        let up = second_not_less (by_keys (map key_of keys) (row_at rows (at q)) (row_at rows (at p))) (nat_cmp (at q) (at p)) back (far p q le h) in
        elim (cases_order (at q) (at p)) [
          | inl same ↦ omega (arith, same)
          | inr away ↦ elim away [
            | inl less ↦ absurd (true≢false (ap is_lt (nat_cmp_is (at q) (at p) Less less) ∙ up))
            | inr more ↦ omega (arith, more)
          ]
        ]

    module _ (least : ℕ) (all : IsLeast keys rows places (length places) least) where
      same_place : (p q : ℕ) → p ≡ q → at p < at q → ⊥
      same_place p q e l = let s : at p ≡ at q = ap at e in absurd (omega (arith, s, l))

      run : (n p q : ℕ) → q ≤ p + n → p ≤ q → q < length places → at p < at q → at q < least → tie_by keys (row_at rows (at p)) (row_at rows (at q)) ≡ true → ⊥
      run zero p q few le h l w t = same_place p q (omega (arith, few, le)) l
      run (suc n) p q few le h l w t = elim (cases_eq p q) [
        | inl same ↦ same_place p q same l
        | inr ne ↦
            let up : p + 1 ≤ q = omega (arith, ne, le) in
            let within : p + 1 < length places = omega (arith, up, h) in
            let step : p ≤ p + 1 = omega arith in
            let one = ties_between (by_keys_total (map key_of keys)) (row_at rows (at p)) (row_at rows (at (p + 1))) (row_at rows (at q)) (rows_rise p (p + 1) step within) (rows_rise (p + 1) q up h) t in
            let tied = (by_keys_total (map key_of keys)).congr (row_at rows (at p)) (row_at rows (at (p + 1))) (row_at rows (at q)) ((Equal-is (by_keys (map key_of keys) (row_at rows (at p)) (row_at rows (at (p + 1))))).0 one) in
            let two : tie_by keys (row_at rows (at (p + 1))) (row_at rows (at q)) ≡ true = ap is_eq (sym tied) ∙ t in
            let low = numbers_rise p (p + 1) step within one in
            let high = numbers_rise (p + 1) q up h two in
            elim (cases_eq (at p) (at (p + 1))) [
              | inl equal ↦ run n (p + 1) q (omega (arith, few)) up h (omega (arith, equal, l)) w two
              | inr other ↦
                  let strict : at p < at (p + 1) = omega (arith, low, other) in
                  let least_is = all.below p (omega (arith, within)) within (ap (λ b. b && tie_by keys (row_at rows (at p)) (row_at rows (at (p + 1)))) (lt-ltb (at p) (at (p + 1)) strict) ∙ one) in
                  absurd (omega (arith, least_is, high, w))
            ]
      ]

      abbrev IsThere : ℕ → Type 0
      IsThere j = (k : ℕ) × (k < length places) × (at k ≡ j)

      place_of : (j : ℕ) → j < length rows → IsThere j
      place_of j h =
          let every : All IsThere (range_with_len 0 (length rows)) = All-permutation IsThere places (range_with_len 0 (length rows)) (IsPermutation-sym (range_with_len 0 (length rows)) places order.all) (λ k d w. (k, w, sym (get_or_default places k d 0 w))) in
          let long = length-range_with_len 0 (length rows) in
          let is : get_or (range_with_len 0 (length rows)) j 0 ≡ j = get_or-range_with_len 0 (length rows) j 0 h ∙ omega arith in
          subst IsThere is (every j 0 (omega (arith, long, h)))

      no_pair : (j i : ℕ) → j < i → i < least → tie_by keys (row_at rows j) (row_at rows i) ≡ false
      no_pair j i l w = go (tie_by keys (row_at rows j) (row_at rows i)) refl
        where
          p : IsThere j
          p = let few = all.few in place_of j (omega (arith, l, w, few))

          q : IsThere i
          q = let few = all.few in place_of i (omega (arith, w, few))

          tied : tie_by keys (row_at rows j) (row_at rows i) ≡ true → tie_by keys (row_at rows (at p.0)) (row_at rows (at q.0)) ≡ true
          tied e = ap (λ n. tie_by keys (row_at rows n) (row_at rows (at q.0))) p.2 ∙ ap (λ n. tie_by keys (row_at rows j) (row_at rows n)) q.2 ∙ e

          none : tie_by keys (row_at rows (at p.0)) (row_at rows (at q.0)) ≡ true → (p.0 ≡ q.0) ⊎ ((p.0 < q.0) ⊎ (q.0 < p.0)) → ⊥
          none t (inl same) = same_place p.0 q.0 same (let a = p.2 in let b = q.2 in omega (arith, a, b, l))
          none t (inr (inl less)) = run q.0 p.0 q.0 (omega arith) (omega (arith, less)) q.1 (let a = p.2 in let b = q.2 in omega (arith, a, b, l)) (let b = q.2 in omega (arith, b, w)) t
          none t (inr (inr more)) =
              let back = sym (ties_turn (by_keys_total (map key_of keys)) (row_at rows (at p.0)) (row_at rows (at q.0))) ∙ t in
              let up = numbers_rise q.0 p.0 (omega (arith, more)) p.1 back in
              let a = p.2 in let b = q.2 in absurd (omega (arith, up, a, b, l))

          go : (b : Bool) → tie_by keys (row_at rows j) (row_at rows i) ≡ b → tie_by keys (row_at rows j) (row_at rows i) ≡ false
          go true e = absurd (none (tied e) (cases_order p.0 q.0))
          go false e = e

      pub found : least < length rows → IsFirstSame (tie_by keys) rows least
      found h = let r = all.one h in first_same (tie_by keys) rows least r.0 h (all_before (tie_by keys) rows least all.few no_pair) r.1 r.2

      pub none_found : length rows ≤ least → FindsSame (tie_by keys) rows None
      none_found h = all_rows (tie_by keys) rows least h (all_before (tie_by keys) rows least all.few no_pair)

  -- the last pair
  pub all_pairs : (n least : ℕ) → length places ≤ n + 1 → IsLeast keys rows places n least → IsLeast keys rows places (length places) least
  all_pairs n least h some = record { few = some.few; one = some.one; below = λ k w within t. some.below k (omega (arith, h, within)) within t }
