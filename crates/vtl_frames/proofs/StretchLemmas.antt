-- A stretch of rows that tie by the columns of a partition is a partition.
use Rattle.std.proofs.Common.{◌≡◌, ℕ, zero, suc, ◌+◌, ◌-◌, ◌<◌, ◌≤◌, List, [], ◌∷◌, length, drop, take, get_or, map, Bool, true, false, cond, refl, sym, ap, ◌∙◌, arith, true≢false, subst}
use Rattle.std.specs.Prelude.{filter}
use Rattle.std.specs.Ordering.{is_eq}
use Rattle.vtl_cell.specs.Row.{Row, same_row}
use Rattle.vtl_cell.specs.Sorted.{by_keys, rising}
use Rattle.vtl_cell.proofs.Rows.{same_row-is, same_row-refl}
use Rattle.vtl_rows.specs.Keys.{agree, key_of}
use Rattle.vtl_rows.specs.Places.{row_at}
use Rattle.vtl_rows.specs.Runs.{is_start}
use Rattle.vtl_rows.specs.Tables.{cells_at}
use Rattle.vtl_rows.specs.declared.column.SortKey.{SortKey}
use Rattle.vtl_rows.proofs.Ties.{ties_agree, ties_between}
use Rattle.vtl_frames.specs.Ranked.{AreInOrder}
use Rattle.vtl_frames.proofs.RankLemmas.{le_at, starts_apart, tied_with_last, total}

-- ---- cuts
filter_cut : {X : Type 0} (q : X → Bool) (xs : List X) (s e : ℕ) (d : X) → s ≤ e → e ≤ length xs → ((k : ℕ) → k < s → q (get_or xs k d) ≡ false) → ((k : ℕ) → s ≤ k → k < e → q (get_or xs k d) ≡ true) → ((k : ℕ) → e ≤ k → k < length xs → q (get_or xs k d) ≡ false)
    → filter q xs ≡ take (e - s) (drop s xs)
filter_cut q [] zero zero d h l before inside behind' = refl
filter_cut q [] zero (suc e) d h l before inside behind' = absurd (omega (arith, l))
filter_cut q [] (suc s) e d h l before inside behind' = absurd (omega (arith, h, l))
filter_cut q (x ∷ xs) zero zero d h l before inside behind' =
    ap (λ b. cond b (x ∷ filter q xs) (filter q xs)) (behind' 0 (omega arith) (omega arith))
    ∙ filter_cut q xs 0 0 d (omega arith) (omega arith) (λ k m. absurd (omega (arith, m))) (λ k m n. absurd (omega (arith, n))) (λ k m n. behind' (suc k) (omega arith) (omega (arith, n)))
filter_cut q (x ∷ xs) zero (suc e) d h l before inside behind' =
    let more : suc (e - 0) ≡ suc e - 0 = omega arith in
    ap (λ b. cond b (x ∷ filter q xs) (filter q xs)) (inside 0 (omega arith) (omega arith))
    ∙ ap (λ ys. x ∷ ys) (filter_cut q xs 0 e d (omega arith) (omega (arith, l)) (λ k m. absurd (omega (arith, m))) (λ k m n. inside (suc k) (omega arith) (omega (arith, n))) (λ k m n. behind' (suc k) (omega (arith, m)) (omega (arith, n))))
    ∙ ap (λ n. take n (x ∷ xs)) more
filter_cut q (x ∷ xs) (suc s) zero d h l before inside behind' = absurd (omega (arith, h))
filter_cut q (x ∷ xs) (suc s) (suc e) d h l before inside behind' =
    let same : e - s ≡ suc e - suc s = omega arith in
    ap (λ b. cond b (x ∷ filter q xs) (filter q xs)) (before 0 (omega arith))
    ∙ filter_cut q xs s e d (omega (arith, h)) (omega (arith, l)) (λ k m. before (suc k) (omega (arith, m))) (λ k m n. inside (suc k) (omega (arith, m)) (omega (arith, n))) (λ k m n. behind' (suc k) (omega (arith, m)) (omega (arith, n)))
    ∙ ap (λ n. take n (drop s xs)) same

-- ---- stretches
pub record IsStretch (keys : List SortKey) (rows : List Row) (places : List ℕ) (s e : ℕ) : Type 0 where
  pub some : s < e
  pub within : e ≤ length places
  pub start : is_start keys rows places s ≡ true
  pub inner : (k : ℕ) → s < k → k < e → is_start keys rows places k ≡ false
  pub end : e < length places → is_start keys rows places e ≡ true

module _ (pl : List ℕ) (keys : List SortKey) (named : map key_of keys ≡ map rising pl) (rows : List Row) (places : List ℕ) (order : AreInOrder keys rows places) (s e : ℕ) (h : IsStretch keys rows places s e) where
  abbrev pub x : ℕ → Row
  x k = row_at rows (get_or places k 0)

  tie_is : (q r : Row) → is_eq (by_keys (map key_of keys) q r) ≡ agree pl q r
  tie_is q r = ap (λ ks. is_eq (by_keys ks q r)) named ∙ ties_agree pl q r

  same_cells : (q r : Row) → agree pl q r ≡ true → cells_at pl q ≡ cells_at pl r
  same_cells q r t = same_row-is (cells_at pl q) (cells_at pl r) t

  from_cells : (q r : Row) → cells_at pl q ≡ cells_at pl r → agree pl q r ≡ true
  from_cells q r t = ap (same_row (cells_at pl q)) (sym t) ∙ same_row-refl (cells_at pl q)

  inside_from : (m : ℕ) → s + m < e → cells_at pl (x (s + m)) ≡ cells_at pl (x s)
  inside_from zero l =
      let same : s + 0 ≡ s = omega arith in
      ap (λ k. cells_at pl (x k)) same
  inside_from (suc m) l =
      let next : s + suc m ≡ suc (s + m) = omega arith in
      let tie = tied_with_last keys rows places order (s + m) (h.inner (suc (s + m)) (omega arith) (omega (arith, l))) in
      ap (λ k. cells_at pl (x k)) next ∙ sym (same_cells (x (s + m)) (x (suc (s + m))) (sym (tie_is (x (s + m)) (x (suc (s + m)))) ∙ tie)) ∙ inside_from m (omega (arith, l))

  pub inside : (k : ℕ) → s ≤ k → k < e → cells_at pl (x k) ≡ cells_at pl (x s)
  inside k l m =
      let there : s + (k - s) ≡ k = omega (arith, l) in
      subst (λ j. cells_at pl (x j) ≡ cells_at pl (x s)) there (inside_from (k - s) (omega (arith, there, m)))

  pub no_tie : (q r : Row) → (agree pl q r ≡ true → ⊥) → agree pl q r ≡ false
  no_tie q r none = go (agree pl q r) refl
    where
      go : (b : Bool) → agree pl q r ≡ b → b ≡ false
      go true t = absurd (none t)
      go false t = refl

  apart_at : (k : ℕ) → is_start keys rows places (suc k) ≡ true → cells_at pl (x k) ≡ cells_at pl (x (suc k)) → ⊥
  apart_at k t same = true≢false (sym (from_cells (x k) (x (suc k)) same) ∙ sym (tie_is (x k) (x (suc k))) ∙ starts_apart keys rows places order k t)

  before_at : (t k : ℕ) → t ≡ s → k < t → cells_at pl (x k) ≡ cells_at pl (x s) → ⊥
  before_at zero k one l same = omega (arith, l)
  before_at (suc t) k one l same =
      let tie = tie_is (x k) (x (suc t)) ∙ from_cells (x k) (x (suc t)) (same ∙ ap (λ j. cells_at pl (x j)) (sym one)) in
      let between = ties_between (total keys rows places order) (x k) (x t) (x (suc t)) (le_at keys rows places order k t (omega (arith, l)) (omega (arith, one, h.some, h.within))) (le_at keys rows places order t (suc t) (omega arith) (omega (arith, one, h.some, h.within))) tie in
      let cells = same_cells (x k) (x t) (sym (tie_is (x k) (x t)) ∙ between) in
      apart_at t (ap (is_start keys rows places) one ∙ h.start) (sym cells ∙ same ∙ ap (λ j. cells_at pl (x j)) (sym one))

  pub behind_at : (t k : ℕ) → t ≡ e → t ≤ k → k < length places → cells_at pl (x k) ≡ cells_at pl (x s) → ⊥
  behind_at zero k one l m same = omega (arith, one, h.some)
  behind_at (suc t) k one l m same =
      let last = inside t (omega (arith, one, h.some)) (omega (arith, one)) in
      let tie = tie_is (x t) (x k) ∙ from_cells (x t) (x k) (last ∙ sym same) in
      let between = ties_between (total keys rows places order) (x t) (x (suc t)) (x k) (le_at keys rows places order t (suc t) (omega arith) (omega (arith, l, m))) (le_at keys rows places order (suc t) k l m) tie in
      apart_at t (ap (is_start keys rows places) one ∙ h.end (omega (arith, one, l, m))) (same_cells (x t) (x (suc t)) (sym (tie_is (x t) (x (suc t))) ∙ between))

  -- the rows that agree with one of the stretch are those of the stretch
  pub stretch_is : (r : Row) → cells_at pl r ≡ cells_at pl (x s) → filter (λ k. agree pl (row_at rows k) r) places ≡ take (e - s) (drop s places)
  stretch_is r one =
      filter_cut (λ k. agree pl (row_at rows k) r) places s e 0 (omega (arith, h.some)) h.within
      (λ k l. no_tie (x k) r (λ t. before_at s k refl l (same_cells (x k) r t ∙ one)))
      (λ k l m. from_cells (x k) r (inside k l m ∙ sym one))
      (λ k l m. no_tie (x k) r (λ t. behind_at e k refl l m (same_cells (x k) r t ∙ one)))
