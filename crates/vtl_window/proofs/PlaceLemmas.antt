-- In a list in order, whose rows are apart, as many rows stand before one as its place says.
use Rattle.std.proofs.Common.{◌≡◌, ℕ, zero, suc, ◌<◌, ◌≤◌, ◌⊎◌, inl, inr, List, [], ◌∷◌, length, take, get_or, Bool, true, false, not, refl, sym, ap, ◌∙◌, arith, true≢false}
use Rattle.std.specs.Prelude.{count_by}
use Rattle.std.specs.Ordering.{is_lt}
use Rattle.std.proofs.lemmas.Bool.{cases_lt}
use Rattle.vtl_lists.specs.Apart.{all_apart}
use Rattle.vtl_cell.specs.Row.{Row, same_key, same_row}
use Rattle.vtl_cell.specs.Sorted.{Key, window_cmp}
use Rattle.vtl_lists.specs.Sorting.{Rises, le_by}
use Rattle.vtl_lists.proofs.Aparts.{apart_parts}
use Rattle.vtl_lists.proofs.Alls.{all_get}
use Rattle.vtl_cell.proofs.Keys.{window_order}
use Rattle.vtl_cell.proofs.Rows.{same_row-is, same_row-refl}
use Rattle.vtl_frames.proofs.ListLemmas.{rises_get}
use Rattle.vtl_frames.proofs.RankLemmas.{count_front}

-- ---- rows that are apart

key_apart : (n : ℕ) (r q : Row) → same_key n r q ≡ false → same_row r q ≡ false
key_apart n r q h = go (same_row r q) refl
  where
    go : (b : Bool) → same_row r q ≡ b → b ≡ false
    go true e = absurd (true≢false (sym (same_row-refl (take n r)) ∙ ap (same_key n r) (same_row-is r q e) ∙ h))
    go false e = refl

pub apart_at : (same : Row → Row → Bool) (rows : List Row) (j k : ℕ) → j < k → k < length rows → all_apart same rows ≡ true → same (get_or rows j []) (get_or rows k []) ≡ false
apart_at same [] j k h l e = absurd (omega (arith, l))
apart_at same (r ∷ rows) j zero h l e = absurd (omega (arith, h))
apart_at same (r ∷ rows) zero (suc k) h l e = all_get (λ q. same r q ≡ false) rows k [] (omega (arith, l)) (apart_parts same r rows e).0
apart_at same (r ∷ rows) (suc j) (suc k) h l e = apart_at same rows j k (omega (arith, h)) (omega (arith, l)) (apart_parts same r rows e).1

-- ---- places
module _ (keys : List Key) (columns : List ℕ) (rows : List Row) (rises : Rises (le_by (window_cmp keys columns)) rows) (apart : all_apart same_row rows ≡ true) where
  abbrev at : ℕ → Row
  at k = get_or rows k []

  abbrev le : Row → Row → Bool
  le = le_by (window_cmp keys columns)

  itself : (r : Row) → le r r ≡ true
  itself r = elim ((window_order keys columns).total r r) [ inl e ↦ e | inr e ↦ e ]

  not_false : (b : Bool) → not b ≡ true → b ≡ false
  not_false true e = sym e
  not_false false e = refl

  before : (i k : ℕ) → k < i → i < length rows → is_lt (window_cmp keys columns (at k) (at i)) ≡ true
  before i k h l = go (is_lt (window_cmp keys columns (at k) (at i))) refl
    where
      go : (b : Bool) → is_lt (window_cmp keys columns (at k) (at i)) ≡ b → b ≡ true
      go true e = refl
      go false e =
          let one : at k ≡ at i = (window_order keys columns).antisym (at k) (at i) (rises_get le rows k i [] h l rises) (ap not e) in
          absurd (true≢false (sym (ap (same_row (at k)) (sym one) ∙ same_row-refl (at k)) ∙ apart_at same_row rows k i h l apart))

  behind : (i k : ℕ) → i ≤ k → k < length rows → is_lt (window_cmp keys columns (at k) (at i)) ≡ false
  behind i k h l = not_false (is_lt (window_cmp keys columns (at k) (at i))) (go (cases_lt i k))
    where
      go : (i < k) ⊎ (k ≤ i) → le (at i) (at k) ≡ true
      go (inl below) = rises_get le rows i k [] below l rises
      go (inr above) =
          let one : k ≡ i = omega (arith, h, above) in
          ap (λ j. le (at i) (at j)) one ∙ itself (at i)

  pub place_in : (i : ℕ) → i < length rows → count_by (λ q. is_lt (window_cmp keys columns q (at i))) rows ≡ i
  place_in i h = count_front (λ q. is_lt (window_cmp keys columns q (at i))) rows i [] (omega (arith, h)) (λ k l. before i k l h) (behind i)
