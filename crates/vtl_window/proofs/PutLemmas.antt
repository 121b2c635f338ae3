-- Cells that are put at their places.
use Rattle.std.proofs.Common.{◌≡◌, ℕ, zero, suc, ◌<◌, ◌⊎◌, inl, inr, List, [], ◌∷◌, length, get_or, set, map, Option, None, Some, Global, refl, sym, ap, ◌∙◌, arith, subst, All}
use Rattle.std.specs.Prelude.{IsPermutation, unwrap_or}
use Rattle.std.specs.List.{AllByRecursion, range_with_len}
use Rattle.std.specs.Vec.Iter.{into_iter_items, into_iter_len, into_iter_steps}
use Rattle.std.specs.declared.vec.IntoIter.{IntoIter}
use Rattle.std.proofs.lemmas.Bool.{cases_order}
use Rattle.std.proofs.lemmas.List.{get_or-set_other, get_or-set_same, length-set}
use Rattle.std.proofs.lemmas.List.Elements.{recursion_from_All}
use Rattle.std.proofs.lemmas.List.FromFn.{fill_by_all, get_or-range_with_len, length-range_with_len}
use Rattle.vtl_decimal.specs.declared.number.Fault.{Fault}
use Rattle.vtl_cell.specs.Outcome.{Outcome, fault_in, join}
use Rattle.vtl_cell.specs.declared.cell.Cell.{Cell}
use Rattle.vtl_cell.specs.declared.cell.Cell.TheVariants as c
use Rattle.vtl_lists.proofs.Perms.{AllByRecursion-Perm, Perm-from_IsPermutation, Perm-sym, length-Perm}
use Rattle.vtl_lists.proofs.Alls.{all_get}
use Rattle.vtl_tree.proofs.Faults.{faults_by-Perm, join_assoc}
use Rattle.vtl_meaning.specs.Points.{cell_or_null}
use Rattle.vtl_window.specs.Analyses.{cells_by, faults_of}

-- ---- cells put at places
module _ (f : ℕ → Cell) where
  -- at each of these places its cell
  abbrev pub put_each : List ℕ → List Cell → List Cell
  put_each [] cells = cells
  put_each (k ∷ ks) cells = put_each ks (set cells k (f k))

  length-put_each : (ks : List ℕ) (cells : List Cell) → length (put_each ks cells) ≡ length cells
  length-put_each [] cells = refl
  length-put_each (k ∷ ks) cells = length-put_each ks (set cells k (f k)) ∙ length-set cells k (f k)

  one_put : (cells : List Cell) (j k : ℕ) → j < length cells → get_or cells j c.Null ≡ f j → (j ≡ k) ⊎ ((j < k) ⊎ (k < j)) → get_or (set cells k (f k)) j c.Null ≡ f j
  one_put cells j k h old (inl same) = ap (λ i. get_or (set cells i (f i)) j c.Null) (sym same) ∙ get_or-set_same cells j (f j) c.Null h
  one_put cells j k h old (inr (inl less)) = get_or-set_other cells k j (f k) c.Null (λ s. absurd (omega (arith, less, s))) ∙ old
  one_put cells j k h old (inr (inr more)) = get_or-set_other cells k j (f k) c.Null (λ s. absurd (omega (arith, more, s))) ∙ old

  -- a cell that stands at its place stays
  stays : (ks : List ℕ) (cells : List Cell) (j : ℕ) → j < length cells → get_or cells j c.Null ≡ f j → get_or (put_each ks cells) j c.Null ≡ f j
  stays [] cells j h old = old
  stays (k ∷ ks) cells j h old = stays ks (set cells k (f k)) j (subst (λ n. j < n) (sym (length-set cells k (f k))) h) (one_put cells j k h old (cases_order j k))

  each_put : (ks : List ℕ) (cells : List Cell) → AllByRecursion (λ k. k < length cells) ks → AllByRecursion (λ k. get_or (put_each ks cells) k c.Null ≡ f k) ks
  each_put [] cells h = tt
  each_put (k ∷ ks) cells h =
      let n = sym (length-set cells k (f k)) in (
        stays ks (set cells k (f k)) k (subst (λ m. k < m) n h.0) (get_or-set_same cells k (f k) c.Null h.0),
        each_put ks (set cells k (f k)) (subst (λ m. AllByRecursion (λ j. j < m) ks) n h.1),
      )

  -- all places have theirs
  pub all_put : (places : List ℕ) (cells : List Cell) → IsPermutation (range_with_len 0 (length places)) places → All (λ i. i < length places) places → length cells ≡ length places → put_each places cells ≡ map f (range_with_len 0 (length places))
  all_put places cells all within many =
      let inside = subst (λ m. AllByRecursion (λ k. k < m) places) (sym many) (recursion_from_All (λ i. i < length places) places within) in
      let each = AllByRecursion-Perm (λ k. get_or (put_each places cells) k c.Null ≡ f k) (Perm-sym (Perm-from_IsPermutation (range_with_len 0 (length places)) places all)) (each_put places cells inside) in
      fill_by_all f (put_each places cells) (length places) c.Null (length-put_each places cells ∙ many)
      (λ k l. ap (λ j. get_or (put_each places cells) j c.Null) (sym (number k l)) ∙ all_get (λ j. get_or (put_each places cells) j c.Null ≡ f j) (range_with_len 0 (length places)) k 0 (let m = length-range_with_len 0 (length places) in omega (arith, l, m)) each ∙ ap f (number k l))
    where
      number : (k : ℕ) → k < length places → get_or (range_with_len 0 (length places)) k 0 ≡ k
      number k l = get_or-range_with_len 0 (length places) k 0 l ∙ omega arith

-- ---- values put back one after the other
-- What is left to be put, and that it makes these cells and these faults of the ones so far.
pub record IsPutBack (value : Outcome Cell → Outcome Cell) (f : ℕ → Outcome Cell) (places : List ℕ) (rest : List (Outcome Cell)) (cells : List Cell) (seen : Option Fault) (made : List Cell) (faults : Option Fault) : Type 0 where
  pub left : rest ≡ map f places
  pub put : put_each (λ k. cell_or_null (value (f k))) places cells ≡ made
  pub noted : join seen (faults_of (λ k. value (f k)) places) ≡ faults

pub begins : (value : Outcome Cell → Outcome Cell) (f : ℕ → Outcome Cell) (places : List ℕ) (cells : List Cell) (seen : Option Fault) (sorted : List (Outcome Cell))
    → IsPermutation (range_with_len 0 (length places)) places → All (λ i. i < length places) places → length cells ≡ length places → sorted ≡ map f places
    → IsPutBack value f places sorted cells seen (cells_by (λ k. value (f k)) (range_with_len 0 (length places))) (join seen (faults_of (λ k. value (f k)) (range_with_len 0 (length places))))
begins value f places cells seen sorted all within many e = record {
  left = e;
  put = all_put (λ k. cell_or_null (value (f k))) places cells all within many;
  noted = ap (join seen) (sym (faults_by-Perm (λ k. fault_in (value (f k))) (Perm-from_IsPermutation (range_with_len 0 (length places)) places all)));
}

-- the next value is taken, and put as a cell at its place
pub goes_on : (value : Outcome Cell → Outcome Cell) (f : ℕ → Outcome Cell) (k : ℕ) (ks : List ℕ) (x : Outcome Cell) (cell : Cell) (rest others : List (Outcome Cell)) (cells then made : List Cell) (seen with_this faults : Option Fault)
    → ((first : Outcome Cell) (behind : List (Outcome Cell)) → rest ≡ first ∷ behind → (x ≡ first) × (others ≡ behind))
    → then ≡ set cells k cell → cell ≡ cell_or_null (value x) → with_this ≡ join seen (fault_in (value x))
    → IsPutBack value f (k ∷ ks) rest cells seen made faults → IsPutBack value f ks others then with_this made faults
goes_on value f k ks x cell rest others cells then made seen with_this faults taken is_put is_cell is_noted h =
    let both = taken (f k) (map f ks) h.left in
    record {
      left = both.1;
      put = ap (put_each (λ j. cell_or_null (value (f j))) ks) (is_put ∙ ap (set cells k) (is_cell ∙ ap (λ y. cell_or_null (value y)) both.0)) ∙ h.put;
      noted =
          ap (λ s. join s (faults_of (λ j. value (f j)) ks)) (is_noted ∙ ap (λ y. join seen (fault_in (value y))) both.0)
          ∙ join_assoc seen (fault_in (value (f k))) (faults_of (λ j. value (f j)) ks) ∙ h.noted;
    }

-- what an iterator gives where a value is left
pub taken_next : {X : Type 0} (it then : IntoIter X Global) (r : Option X) (d x : X) (xs : List X) → into_iter_len it ≡ length (into_iter_items it) → into_iter_steps it r then → into_iter_items it ≡ x ∷ xs → (unwrap_or r d ≡ x) × (into_iter_items then ≡ xs)
taken_next it then None d x xs n steps e = let some = ap length e in absurd (omega (arith, n, steps.0, some))
taken_next it then (Some y) d x xs n steps e = let s = steps.0 in (cc, cc)

-- ---- as many values as points
pub places_many : (n : ℕ) (places : List ℕ) → IsPermutation (range_with_len 0 n) places → length places ≡ n
places_many n places all = sym (length-Perm (Perm-from_IsPermutation (range_with_len 0 n) places all)) ∙ length-range_with_len 0 n
