-- The first row that is the same as one before it.
use Rattle.std.proofs.Common.{◌≡◌, ℕ, zero, suc, ◌+◌, ◌<◌, ◌≤◌, List, [], ◌∷◌, ◌++◌, Bool, true, false, not, ◌&&◌, ◌||◌, Option, Some, None, is_none, length, drop, take, arith, refl, sym, ap, ◌∙◌, true≢false}
use Rattle.std.specs.List.{list_any}
use Rattle.std.proofs.lemmas.List.{take_more, take_all, take-append-drop}
use Rattle.std.proofs.lemmas.List.Folds.{list_any-append}
use Rattle.vtl_lists.specs.Apart.{all_apart}
use Rattle.vtl_lists.proofs.Aparts.{apart_parts, apart_more}
use Rattle.vtl_lists.proofs.Alls.{all_front}
use Rattle.vtl_lists.proofs.Tests.{or_true}
use Rattle.vtl_cell.specs.Row.{Row}
use Rattle.vtl_rows.specs.Keys.{IsFirstSame, FindsSame}
use Rattle.vtl_rows.specs.Places.{row_at}

-- ---- lists that are apart
shuffle : (a b s c : Bool) → (not (a || (s || false)) && (b && not c)) ≡ ((not a && b) && not (s || c))
shuffle true b s c = refl
shuffle false true true c = refl
shuffle false false true c = refl
shuffle false b false c = refl

pub apart_push : {X : Type 0} (same : X → X → Bool) (xs : List X) (y : X) → all_apart same (xs ++ y ∷ []) ≡ (all_apart same xs && not (list_any (λ x. same x y) xs))
apart_push same [] y = refl
apart_push same (x ∷ xs) y =
    ap (λ b. not b && all_apart same (xs ++ y ∷ [])) (list_any-append (same x) xs (y ∷ []))
    ∙ ap (λ b. not (list_any (same x) xs || (same x y || false)) && b) (apart_push same xs y)
    ∙ shuffle (list_any (same x) xs) (all_apart same xs) (same x y) (list_any (λ z. same z y) xs)

pub apart_front : {X : Type 0} (same : X → X → Bool) (xs ys : List X) → all_apart same (xs ++ ys) ≡ true → all_apart same xs ≡ true
apart_front same [] ys e = refl
apart_front same (x ∷ xs) ys e =
    let h = apart_parts same x (xs ++ ys) e in
    apart_more same x xs (all_front (λ y. same x y ≡ false) xs ys h.0) (apart_front same xs ys h.1)

-- ---- the rows before a place
none_among : (p : Row → Bool) (rows : List Row) (i : ℕ) → i ≤ length rows → ((j : ℕ) → j < i → p (row_at rows j) ≡ false) → list_any p (take i rows) ≡ false
none_among p [] zero h none = refl
none_among p [] (suc i) h none = absurd (omega (arith, h))
none_among p (x ∷ xs) zero h none = refl
none_among p (x ∷ xs) (suc i) h none = ap (λ b. b || list_any p (take i xs)) (none 0 (omega arith)) ∙ none_among p xs i (omega (arith, h)) (λ j k. none (suc j) (omega (arith, k)))

one_among : (p : Row → Bool) (rows : List Row) (i j : ℕ) → i ≤ length rows → j < i → p (row_at rows j) ≡ true → list_any p (take i rows) ≡ true
one_among p [] i j h k e = absurd (omega (arith, h, k))
one_among p (x ∷ xs) zero j h k e = absurd (omega (arith, k))
one_among p (x ∷ xs) (suc i) zero h k e = ap (λ b. b || list_any p (take i xs)) e
one_among p (x ∷ xs) (suc i) (suc j) h k e = ap (λ b. p x || b) (one_among p xs i j (omega (arith, h)) (omega (arith, k)) e) ∙ or_true (p x)

module _ (same : Row → Row → Bool) (rows : List Row) where
  -- the row at a place is put behind those before it
  pushed : (i : ℕ) → i < length rows → all_apart same (take (i + 1) rows) ≡ (all_apart same (take i rows) && not (list_any (λ x. same x (row_at rows i)) (take i rows)))
  pushed i h = ap (all_apart same) (take_more rows i [] h) ∙ apart_push same (take i rows) (row_at rows i)

  pub one_apart : (i : ℕ) → i < length rows → all_apart same (take i rows) ≡ true → ((j : ℕ) → j < i → same (row_at rows j) (row_at rows i) ≡ false) → all_apart same (take (i + 1) rows) ≡ true
  one_apart i h before none =
      pushed i h ∙ ap (λ b. b && not (list_any (λ x. same x (row_at rows i)) (take i rows))) before
      ∙ ap not (none_among (λ x. same x (row_at rows i)) rows i (omega (arith, h)) none)

  not_both : (b : Bool) → (b && false) ≡ false
  not_both true = refl
  not_both false = refl

  pub first_same : (i j : ℕ) → i < length rows → all_apart same (take i rows) ≡ true → j < i → same (row_at rows j) (row_at rows i) ≡ true → IsFirstSame same rows i
  first_same i j h before less e =
      let next : suc i ≡ i + 1 = omega arith in
      record {
        within = h;
        before = before;
        there =
            ap (λ n. all_apart same (take n rows)) next ∙ pushed i h
            ∙ ap (λ b. all_apart same (take i rows) && not b) (one_among (λ x. same x (row_at rows i)) rows i j (omega (arith, h)) less e) ∙ not_both (all_apart same (take i rows));
      }

  -- no row up to a place is the same as one before it
  pub all_before : (n : ℕ) → n ≤ length rows → ((j i : ℕ) → j < i → i < n → same (row_at rows j) (row_at rows i) ≡ false) → all_apart same (take n rows) ≡ true
  all_before zero h none = none_taken rows
    where
      none_taken : (l : List Row) → all_apart same (take 0 l) ≡ true
      none_taken [] = refl
      none_taken (x ∷ xs) = refl
  all_before (suc n) h none =
      let next : suc n ≡ n + 1 = omega arith in
      ap (λ k. all_apart same (take k rows)) next
      ∙ one_apart n (omega (arith, h)) (all_before n (omega (arith, h)) (λ j i k l. none j i k (omega (arith, l)))) (λ j k. none j n k (omega arith))

  pub all_rows : (n : ℕ) → length rows ≤ n → all_apart same (take n rows) ≡ true → all_apart same rows ≡ true
  all_rows n h e = ap (all_apart same) (sym (take_all n rows h)) ∙ e

pub found_or_apart : (same : Row → Row → Bool) (rows : List Row) (found : Option ℕ) → FindsSame same rows found → is_none found ≡ all_apart same rows
found_or_apart same rows None e = sym e
found_or_apart same rows (Some place) first = go (all_apart same rows) refl
  where
    go : (b : Bool) → all_apart same rows ≡ b → false ≡ all_apart same rows
    go true e = absurd (true≢false (sym (apart_front same (take (suc place) rows) (drop (suc place) rows) (ap (all_apart same) (take-append-drop (suc place) rows) ∙ e)) ∙ first.there))
    go false e = sym e
