-- Keys in order, cell by cell, and rows in the order of their keys.
use Rattle.std.proofs.Common.{All, ◌≡◌, ℕ, ◌+◌, ◌-◌, ◌<◌, ◌≤◌, inl, inr, List, [], ◌∷◌, ◌++◌, Bool, true, false, min, map, length, get_or, drop, arith, refl, sym, ap, ◌∙◌, true≢false}
use Rattle.std.specs.List.{Contains, range_with_len}
use Rattle.std.specs.List.Sorted.{IsNonDecreasingBy, IsPartitionedBy, IsPartitionPoint, IsSortedBy}
use Rattle.std.specs.Ordering.{is_eq, is_lt, nat_cmp, on, ordering_index, ordering_then, then_cmp}
use Rattle.std.specs.Cmp.{Equal-is, IsStrictWeakOrder, nat_cmp_is, nat_cmp_total, tied_itself}
use Rattle.std.specs.Cmp.Lexicographic.{lists_ties}
use Rattle.std.specs.declared.cmp.Ordering.{Ordering}
use Rattle.std.specs.declared.cmp.Ordering.TheVariants.{Less, Equal, Greater}
use Rattle.std.proofs.lemmas.Bool.{cases_lt}
use Rattle.std.proofs.lemmas.Cmp.{on_total, then_total}
use Rattle.std.proofs.lemmas.List.{drop_more, get_or_default, length-drop, map-id}
use Rattle.std.proofs.lemmas.List.FromFn.{get_or-range_with_len, length-range_with_len, map-range_with_len_more}
use Rattle.std.proofs.lemmas.List.Sorted.{All-permutation, Contains-permutation, ranks_by, searchable_from_sorted, sorted_far}
use Rattle.vtl_cell.specs.Order.{cell_cmp, same_cell}
use Rattle.vtl_cell.specs.Row.{Row, row_cmp, same_row}
use Rattle.vtl_cell.specs.declared.cell.Cell.{Cell}
use Rattle.vtl_cell.proofs.Rows.{row_cmp_total, same_row-is, same_row-refl}
use Rattle.vtl_index.specs.FirstRows.{IsFirst, IsKeyOrder}

-- ---- two keys
pub ties_same : (a b : Row) → is_eq (row_cmp a b) ≡ same_row a b
ties_same a b = sym (lists_ties {E = same_cell} cell_cmp (λ x y. refl) a b)

-- ---- a comparison along two lists of columns
module _ {X : Type 0} (f g : X → Cell) where
  -- what is left of two keys from a column on
  abbrev pub left_cmp : List X → List X → ℕ → Ordering
  left_cmp xs ys i = row_cmp (map f (drop i xs)) (map g (drop i ys))

  pub compare_more : (xs ys : List X) (i : ℕ) (x y : X) → i < length xs → i < length ys → x ≡ get_or xs i x → y ≡ get_or ys i y → left_cmp xs ys i ≡ ordering_then (cell_cmp (f x) (g y)) (left_cmp xs ys (i + 1))
  compare_more xs ys i x y h k at_x at_y =
      ap (λ l. row_cmp (map f l) (map g (drop i ys))) (drop_more xs i x h)
      ∙ ap (λ l. row_cmp (f (get_or xs i x) ∷ map f (drop (i + 1) xs)) (map g l)) (drop_more ys i y k)
      ∙ ap (λ z. ordering_then (cell_cmp (f z) (g (get_or ys i y))) (left_cmp xs ys (i + 1))) (sym at_x)
      ∙ ap (λ z. ordering_then (cell_cmp (f x) (g z)) (left_cmp xs ys (i + 1))) (sym at_y)

  ended : (xs ys : List X) (m n i : ℕ) → length xs ≡ m - i → length ys ≡ n - i → i ≡ min m n → row_cmp (map f xs) (map g ys) ≡ nat_cmp m n
  ended [] [] m n i h k e = let same : m ≡ n = omega (arith, h, k, e) in nat_cmp_is m n Equal same
  ended [] (y ∷ ys) m n i h k e = let less : m < n = omega (arith, h, k, e) in nat_cmp_is m n Less less
  ended (x ∷ xs) [] m n i h k e = let more : n < m = omega (arith, h, k, e) in nat_cmp_is m n Greater more
  ended (x ∷ xs) (y ∷ ys) m n i h k e = absurd (omega (arith, h, k, e))

  pub compare_ended : (xs ys : List X) (i : ℕ) → i ≡ min (length xs) (length ys) → left_cmp xs ys i ≡ nat_cmp (length xs) (length ys)
  compare_ended xs ys i e = ended (drop i xs) (drop i ys) (length xs) (length ys) i (length-drop i xs) (length-drop i ys) e

-- ---- rows in the order of their keys
pub one_number_more : (n : ℕ) → range_with_len 0 n ++ n ∷ [] ≡ range_with_len 0 (n + 1)
one_number_more n =
    let z : 0 + n ≡ n = omega arith in
    ap (λ l. l ++ n ∷ []) (sym (map-id (range_with_len 0 n))) ∙ sym (map-range_with_len_more (λ i. i) 0 n n z) ∙ map-id (range_with_len 0 (n + 1))

is_equal : (o : Ordering) → is_eq o ≡ true → o ≡ Equal
is_equal o e = (Equal-is o).0 e

first_not_less : (r s : Ordering) → is_lt (ordering_then r s) ≡ false → is_lt r ≡ false
first_not_less Less s e = e
first_not_less Equal s e = refl
first_not_less Greater s e = refl

lowest : (r : Ordering) → is_lt r ≡ true → ordering_index r ≡ 0
lowest Less e = refl
lowest Equal e = absurd (true≢false (sym e))
lowest Greater e = absurd (true≢false (sym e))

is_lowest : (r : Ordering) → ordering_index r ≤ 0 → is_lt r ≡ true
is_lowest Less h = refl
is_lowest Equal h = absurd (omega (arith, h))
is_lowest Greater h = absurd (omega (arith, h))

-- not less, and no higher than a tie
is_tie : (r : Ordering) → is_lt r ≡ false → ordering_index r ≤ 1 → is_eq r ≡ true
is_tie Less e h = absurd (true≢false e)
is_tie Equal e h = refl
is_tie Greater e h = absurd (omega (arith, h))

module _ (keys : ℕ → Row) where
  abbrev pub placed : ℕ → ℕ → Ordering
  placed = then_cmp (on keys row_cmp) nat_cmp

  pub placed_ranks : IsStrictWeakOrder (λ i j. is_lt (placed i j))
  placed_ranks = ranks_by (then_total (on_total keys row_cmp_total) nat_cmp_total) (λ i. i)

  module _ (n : ℕ) (order : List ℕ) (is : IsKeyOrder keys n order) where
    by_keys : IsSortedBy (λ i j. is_lt (row_cmp (keys i) (keys j))) order
    by_keys k d low h = first_not_less (row_cmp (keys (get_or order (k + 1) d)) (keys (get_or order k d))) (nat_cmp (get_or order (k + 1) d) (get_or order k d)) (is.sorted k d low h)

    rises : (key : Row) → IsNonDecreasingBy (λ i. ordering_index (row_cmp (keys i) key)) order
    rises key = searchable_from_sorted row_cmp_total keys order key by_keys

    pub parted : (key : Row) → IsPartitionedBy (λ i. is_lt (row_cmp (keys i) key)) order
    parted key i j d le lt up =
        let high = lowest (row_cmp (keys (get_or order j d)) key) up in
        let low = rises key i j d le lt in
        is_lowest (row_cmp (keys (get_or order i d)) key) (omega (arith, high, low))

    -- every row has a place in the order
    pub place_of : (j : ℕ) → j < n → Contains order j
    place_of j h =
        let l = length-range_with_len 0 n in
        Contains-permutation (range_with_len 0 n) order j is.all (j, omega (arith, l, h), get_or-range_with_len 0 n j j h ∙ (let z : 0 + j ≡ j = omega arith in z))

    pub within : (q : ℕ) → q < length order → get_or order q 0 < n
    within q h = All-permutation (λ i. i < n) (range_with_len 0 n) order is.all below q 0 h
      where
        below : All (λ i. i < n) (range_with_len 0 n)
        below k d h =
            let l = length-range_with_len 0 n in
            let k' : k < n = omega (arith, l, h) in
            let e = get_or-range_with_len 0 n k d k' in
            omega (arith, e, k')

    module _ (key : Row) (place : ℕ) (point : IsPartitionPoint (λ i. is_lt (row_cmp (keys i) key) ≡ true) (λ i. is_lt (row_cmp (keys i) key) ≡ false) order place) where
      -- a row that has the key stands at the point or behind it
      behind : (q : ℕ) → same_row (keys (get_or order q 0)) key ≡ true → place ≤ q
      behind q same = elim (cases_lt q place) [
        | inl less ↦
            let up : is_lt (row_cmp (keys (get_or order q 0)) key) ≡ true = point.0 q 0 (omega arith) less in
            let tie = is_equal (row_cmp (keys (get_or order q 0)) key) (ties_same (keys (get_or order q 0)) key ∙ same) in
            absurd (true≢false (sym up ∙ ap is_lt tie))
        | inr more ↦ more
      ]

      -- where the row at the point has the key, it is the first
      pub found_there : place < length order → same_row (keys (get_or order place 0)) key ≡ true → IsFirst keys n key (get_or order place 0)
      found_there h here = record { within = within place h; here = here; before = before }
        where
          first : ℕ
          first = get_or order place 0

          before : (j : ℕ) → j < get_or order place 0 → same_row (keys j) key ≡ false
          before j less = go (same_row (keys j) key) refl
            where
              go : (b : Bool) → same_row (keys j) key ≡ b → same_row (keys j) key ≡ false
              go false e = e
              go true e =
                  let bound = within place h in
                  let at = place_of j (omega (arith, less, bound)) in
                  let is_j : get_or order at.0 0 ≡ j = get_or_default order at.0 0 j at.1 ∙ at.2 in
                  let after = behind at.0 (ap (λ i. same_row (keys i) key) is_j ∙ e) in
                  let far = sorted_far (λ x y. is_lt (placed x y)) placed_ranks order is.sorted place at.0 0 after at.1 in
                  let one : keys j ≡ keys (get_or order place 0) = same_row-is (keys j) key e ∙ sym (same_row-is (keys (get_or order place 0)) key here) in
                  let tie : row_cmp (keys j) (keys (get_or order place 0)) ≡ Equal = ap (λ k. row_cmp k (keys (get_or order place 0))) one ∙ tied_itself row_cmp_total (keys (get_or order place 0)) in
                  let lower : Less ≡ nat_cmp j (get_or order place 0) = nat_cmp_is j (get_or order place 0) Less less in
                  let low : is_lt (placed j (get_or order place 0)) ≡ true = ap (λ r. is_lt (ordering_then r (nat_cmp j (get_or order place 0)))) tie ∙ ap is_lt (sym lower) in
                  absurd (true≢false (sym low ∙ sym (ap (λ i. is_lt (placed i (get_or order place 0))) is_j) ∙ far))

      -- where it has not, or there is none, no row has
      pub found_nowhere : (place < length order → same_row (keys (get_or order place 0)) key ≡ false) → (j : ℕ) → j < n → same_row (keys j) key ≡ false
      found_nowhere unlike j h = go (same_row (keys j) key) refl
        where
          go : (b : Bool) → same_row (keys j) key ≡ b → same_row (keys j) key ≡ false
          go false e = e
          go true e =
              let at = place_of j h in
              let is_j : get_or order at.0 0 ≡ j = get_or_default order at.0 0 j at.1 ∙ at.2 in
              let same : same_row (keys (get_or order at.0 0)) key ≡ true = ap (λ i. same_row (keys i) key) is_j ∙ e in
              let after = behind at.0 same in
              let short : place < length order = omega (arith, after, at.1) in
              let level = rises key place at.0 0 after at.1 in
              let tie = is_equal (row_cmp (keys (get_or order at.0 0)) key) (ties_same (keys (get_or order at.0 0)) key ∙ same) in
              let one : ordering_index (row_cmp (keys (get_or order at.0 0)) key) ≡ 1 = ap ordering_index tie in
              let tied = is_tie (row_cmp (keys (get_or order place 0)) key) (point.1 place 0 (omega arith) short) (omega (arith, level, one)) in
              absurd (true≢false (sym (sym (ties_same (keys (get_or order place 0)) key) ∙ tied) ∙ unlike short))

    -- ---- a row whose key is not that of the row in front of it
    module _ (place : ℕ) (h : place < length order) (apart : (q : ℕ) → place ≡ q + 1 → same_row (keys (get_or order q 0)) (keys (get_or order place 0)) ≡ false) where
      level_here : ordering_index (row_cmp (keys (get_or order place 0)) (keys (get_or order place 0))) ≡ 1
      level_here = ap ordering_index (tied_itself row_cmp_total (keys (get_or order place 0)))

      level_front : (q : ℕ) → place ≡ q + 1 → is_lt (row_cmp (keys (get_or order q 0)) (keys (get_or order place 0))) ≡ true
      level_front q e = go (is_lt (row_cmp (keys (get_or order q 0)) (keys (get_or order place 0)))) refl
        where
          go : (b : Bool) → is_lt (row_cmp (keys (get_or order q 0)) (keys (get_or order place 0))) ≡ b → is_lt (row_cmp (keys (get_or order q 0)) (keys (get_or order place 0))) ≡ true
          go true up = up
          go false up =
              let level = rises (keys (get_or order place 0)) q place 0 (omega (arith, e)) h in
              let tied = is_tie (row_cmp (keys (get_or order q 0)) (keys (get_or order place 0))) up (omega (arith, level, level_here)) in
              absurd (true≢false (sym (sym (ties_same (keys (get_or order q 0)) (keys (get_or order place 0))) ∙ tied) ∙ apart q e))

      less_before : (q : ℕ) → q < place → is_lt (row_cmp (keys (get_or order q 0)) (keys (get_or order place 0))) ≡ true
      less_before q less =
          let e : place ≡ place - 1 + 1 = omega (arith, less) in
          let low = lowest (row_cmp (keys (get_or order (place - 1) 0)) (keys (get_or order place 0))) (level_front (place - 1) e) in
          let level = rises (keys (get_or order place 0)) q (place - 1) 0 (omega (arith, less)) (omega (arith, h, less)) in
          is_lowest (row_cmp (keys (get_or order q 0)) (keys (get_or order place 0))) (omega (arith, low, level))

      not_less_from : (q : ℕ) → place ≤ q → q < length order → is_lt (row_cmp (keys (get_or order q 0)) (keys (get_or order place 0))) ≡ false
      not_less_from q le lt = go (is_lt (row_cmp (keys (get_or order q 0)) (keys (get_or order place 0)))) refl
        where
          go : (b : Bool) → is_lt (row_cmp (keys (get_or order q 0)) (keys (get_or order place 0))) ≡ b → is_lt (row_cmp (keys (get_or order q 0)) (keys (get_or order place 0))) ≡ false
          go false up = up
          go true up =
              let low = lowest (row_cmp (keys (get_or order q 0)) (keys (get_or order place 0))) up in
              let level = rises (keys (get_or order place 0)) place q 0 le lt in
              absurd (omega (arith, low, level, level_here))

      -- it is the first that has its key
      pub starts_key : IsFirst keys n (keys (get_or order place 0)) (get_or order place 0)
      starts_key =
          found_there (keys (get_or order place 0)) place (λ q d from to. any_default_less q d to, λ q d from to. any_default_not q d from to) h (same_row-refl (keys (get_or order place 0)))
        where
          any_default_less : (q d : ℕ) → q < place → is_lt (row_cmp (keys (get_or order q d)) (keys (get_or order place 0))) ≡ true
          any_default_less q d less = ap (λ i. is_lt (row_cmp (keys i) (keys (get_or order place 0)))) (get_or_default order q d 0 (omega (arith, less, h))) ∙ less_before q less

          any_default_not : (q d : ℕ) → place ≤ q → q < length order → is_lt (row_cmp (keys (get_or order q d)) (keys (get_or order place 0))) ≡ false
          any_default_not q d le lt = ap (λ i. is_lt (row_cmp (keys i) (keys (get_or order place 0)))) (get_or_default order q d 0 lt) ∙ not_less_from q le lt
