-- Rows that differ in one column of a key are no repeats of each other.
use Rattle.std.proofs.Common.{◌≡◌, ℕ, zero, suc, ◌+◌, ◌<◌, inl, inr, ℤ, List, [], ◌∷◌, Bool, true, false, ◌&&◌, Option, None, Some, length, get_or, set, arith, refl, sym, ap, ◌∙◌, subst, true≢false, ◌≢◌}
use Rattle.std.proofs.lemmas.Bool.{cases_eq, cases_order}
use Rattle.std.proofs.lemmas.List.{get_or-set_same, get_or-set_other}
use Rattle.vtl_lists.specs.Apart.{all_apart}
use Rattle.vtl_lists.proofs.Tests.{and_false}
use Rattle.vtl_cell.specs.Order.{same_cell}
use Rattle.vtl_cell.specs.Row.{Row, column_of}
use Rattle.vtl_cell.specs.declared.cell.Cell.{Cell}
use Rattle.vtl_cell.proofs.Cells.{same_cell-is}
use Rattle.vtl_rows.specs.Keys.{agree}
use Rattle.vtl_rows.specs.Places.{row_at}
use Rattle.vtl_rows.proofs.Firsts.{all_before, all_rows}
use Rattle.vtl_csv.specs.Distinct.{AreDistinct, distance_of}

-- ---- keys
differ : (keys : List ℕ) (m : ℕ) (r s : Row) → m < length keys → same_cell (column_of (get_or keys m 0) r) (column_of (get_or keys m 0) s) ≡ false → agree keys r s ≡ false
differ [] m r s h e = absurd (omega (arith, h))
differ (k ∷ ks) zero r s h e = ap (λ b. b && agree ks r s) e
differ (k ∷ ks) (suc m) r s h e = ap (λ b. same_cell (column_of k r) (column_of k s) && b) (differ ks m r s (omega (arith, h)) e) ∙ and_false (same_cell (column_of k r) (column_of k s))

pub distinct_is_apart : (keys : List ℕ) (m : ℕ) (rows : List Row) → m < length keys → AreDistinct (get_or keys m 0) rows (length rows) → all_apart (agree keys) rows ≡ true
distinct_is_apart keys m rows h apart =
    all_rows (agree keys) rows (length rows) (omega arith)
    (all_before (agree keys) rows (length rows) (omega arith) (λ j i k l. differ keys m (row_at rows j) (row_at rows i) h (apart j i k l)))

-- ---- distances that were met
below : (j i : ℕ) → j < i + 1 → j ≢ i → j < i
below j i h ne = elim (cases_order j i) [
  | inl e ↦ absurd (ne e)
  | inr (inl l) ↦ l
  | inr (inr l) ↦ absurd (omega (arith, h, l))
]

some_is : (x y : ℕ) → Some x ≡ Some y → x ≡ y
some_is x y e = ap (λ (o : Option ℕ). number o) e
  where
    number : Option ℕ → ℕ
    number None = 0
    number (Some n) = n

abbrev pub AreMet : ℤ → ℕ → List Row → List Bool → ℕ → Type 0
AreMet from column rows met i = (j k : ℕ) → j < i → distance_of from (column_of column (row_at rows j)) ≡ Some k → get_or met k false ≡ true

abbrev pub DistinctUpTo : ℤ → ℕ → List Row → List Bool → ℕ → Type 0
DistinctUpTo from column rows met i = AreDistinct column rows i × AreMet from column rows met i

pub none_yet : (from : ℤ) (column : ℕ) (rows : List Row) (met : List Bool) → DistinctUpTo from column rows met 0
none_yet from column rows met = ((λ j k h l. absurd (omega (arith, l))), (λ j k h e. absurd (omega (arith, h))))

module _ (from : ℤ) (column : ℕ) (rows : List Row) (met : List Bool) (i place : ℕ)
    (before : DistinctUpTo from column rows met i)
    (here : distance_of from (column_of column (row_at rows i)) ≡ Some place) (within : place < length met) (new : get_or met place false ≡ false) where
  abbrev cell : ℕ → Cell
  cell j = column_of column (row_at rows j)

  stays_met : (k : ℕ) → get_or met k false ≡ true → get_or (set met place true) k false ≡ true
  stays_met k e = elim (cases_eq k place) [
    | inl q ↦ subst (λ z. get_or (set met place true) z false ≡ true) (sym q) (get_or-set_same met place true false within)
    | inr ne ↦ get_or-set_other met place k true false ne ∙ e
  ]

  differs : (j : ℕ) → j < i → same_cell (cell j) (cell i) ≡ false
  differs j h = go (same_cell (cell j) (cell i)) refl
    where
      go : (b : Bool) → same_cell (cell j) (cell i) ≡ b → same_cell (cell j) (cell i) ≡ false
      go false q = q
      go true q = absurd (true≢false (sym (before.1 j place h (ap (distance_of from) (same_cell-is (cell j) (cell i) q) ∙ here)) ∙ new))

  pub one_more : DistinctUpTo from column rows (set met place true) (i + 1)
  one_more = (distinct, are_met)
    where
      distinct : AreDistinct column rows (i + 1)
      distinct j k h l = elim (cases_eq k i) [
        | inl e ↦ subst (λ z. same_cell (cell j) (cell z) ≡ false) (sym e) (differs j (omega (arith, h, e)))
        | inr ne ↦ before.0 j k h (below k i l ne)
      ]

      are_met : AreMet from column rows (set met place true) (i + 1)
      are_met j k h e = elim (cases_eq j i) [
        | inl q ↦
            let same = some_is k place (sym e ∙ ap (λ z. distance_of from (cell z)) q ∙ here) in
            subst (λ z. get_or (set met place true) z false ≡ true) (sym same) (get_or-set_same met place true false within)
        | inr ne ↦ stays_met k (before.1 j k (below j i h ne) e)
      ]

-- the distance of a row that is given in another way
pub distance_moves : (from : ℤ) (column : ℕ) (r s : Row) (o : Option ℕ) (k : ℕ) → o ≡ distance_of from (column_of column r) → o ≡ Some k → r ≡ s → distance_of from (column_of column s) ≡ Some k
distance_moves from column r s o k e h q = ap (λ x. distance_of from (column_of column x)) (sym q) ∙ sym e ∙ h
