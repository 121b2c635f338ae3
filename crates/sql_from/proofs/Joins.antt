-- What becomes of the left tuples, and of the rows that none of them meets, is the join.
use Rattle.std.proofs.Common.{◌≡◌, ◌≢◌, ℕ, zero, suc, ◌+◌, ◌<◌, ◌≤◌, List, [], ◌∷◌, ◌++◌, Bool, true, false, cond, not, ◌||◌, map, length, get_or, replicate, refl, sym, ap, ◌∙◌, arith, length-append, ◌⊎◌, inl, inr}
use Rattle.std.specs.Prelude.{◌==◌}
use Rattle.std.specs.List.{filter, flat_map, list_any, range_with_len}
use Rattle.std.proofs.lemmas.List.Folds.{list_any-append}
use Rattle.std.proofs.lemmas.Bool.{cases_eq}
use Rattle.std.proofs.lemmas.List.{append-nil, get_or-replicate, length-replicate}
use Rattle.sql_tree.specs.declared.word_groups.JoinKind.{JoinKind}
use Rattle.sql_tree.specs.declared.word_groups.JoinKind.TheVariants as joining
use Rattle.sql_meaning.specs.From.{is_met, or_alone, unmet}
use Rattle.sql_from.specs.Gains.{AreMarked}
use Rattle.sql_from.specs.Joins.{Test, from_left, joined_tuples, keeps_left, keeps_right, numbers_to, pairs_with, partner_numbers, passes, unmarked, unmarked_to, with_number}
use Rattle.sql_from.proofs.Marks.{other_number, same_number}

-- a number is among those that pass exactly where it passes
none_above : (p : ℕ → Bool) (j a n : ℕ) → j < a → list_any (λ i. i == j) (filter p (range_with_len a n)) ≡ false
none_above p j a zero h = refl
none_above p j a (suc n) h = go (p a) (none_above p j (a + 1) n (omega arith))
  where
    go : (b : Bool) → list_any (λ i. i == j) (filter p (range_with_len (a + 1) n)) ≡ false → list_any (λ i. i == j) (cond b (a ∷ filter p (range_with_len (a + 1) n)) (filter p (range_with_len (a + 1) n))) ≡ false
    go true e = ap (λ c. c || list_any (λ i. i == j) (filter p (range_with_len (a + 1) n))) (other_number a j (λ s. omega arith)) ∙ e
    go false e = e

among : (p : ℕ → Bool) (j a n : ℕ) → a ≤ j → j < a + n → list_any (λ i. i == j) (filter p (range_with_len a n)) ≡ p j
among p j a zero h k = absurd (omega arith)
among p j a (suc n) h k = go (p a) refl (cases_eq a j) (λ up. among p j (a + 1) n up (omega arith))
  where
    go : (b : Bool) → p a ≡ b → (a ≡ j) ⊎ (a ≢ j) → (a + 1 ≤ j → list_any (λ i. i == j) (filter p (range_with_len (a + 1) n)) ≡ p j)
        → list_any (λ i. i == j) (cond b (a ∷ filter p (range_with_len (a + 1) n)) (filter p (range_with_len (a + 1) n))) ≡ p j
    go true e (inl s) ih = ap (λ c. c || list_any (λ i. i == j) (filter p (range_with_len (a + 1) n))) (same_number a j s) ∙ sym e ∙ ap p s
    go false e (inl s) ih = none_above p j (a + 1) n (omega arith) ∙ sym e ∙ ap p s
    go true e (inr s) ih = ap (λ c. c || list_any (λ i. i == j) (filter p (range_with_len (a + 1) n))) (other_number a j s) ∙ ih (above s)
      where
        above : a ≢ j → a + 1 ≤ j
        above s = omega arith
    go false e (inr s) ih = ih (above s)
      where
        above : a ≢ j → a + 1 ≤ j
        above s = omega arith

-- the rows that the left tuples mark are those that are met
partners_among : (f : Test) (count j : ℕ) → j < count → (xs : List (List ℕ)) → list_any (λ i. i == j) (partner_numbers f count xs) ≡ is_met (passes f) xs j
partners_among f count j h [] = refl
partners_among f count j h (x ∷ xs) =
    list_any-append (λ i. i == j) (filter (passes f x) (numbers_to count)) (partner_numbers f count xs)
    ∙ (λ i. among (passes f x) j 0 count (omega arith) (omega arith) i || partners_among f count j h xs i)

lefts_fewer : (f : Test) (count : ℕ) (xs : List (List ℕ)) → length (flat_map (pairs_with f count) xs) ≤ length (flat_map (from_left true f count) xs)
lefts_fewer f count [] = omega arith
lefts_fewer f count (x ∷ xs) =
    let one = length-append (pairs_with f count x) (flat_map (pairs_with f count) xs) in
    let two = length-append (from_left true f count x) (flat_map (from_left true f count) xs) in
    let here = padded (pairs_with f count x) (with_number x count) in
    let rest = lefts_fewer f count xs in
    omega (arith, one, two, here, rest)
  where
    padded : (l : List (List ℕ)) (z : List ℕ) → length l ≤ length (or_alone l z)
    padded [] z = omega arith
    padded (y ∷ l) z = omega arith

filter_range : (p q : ℕ → Bool) (a n : ℕ) → ((j : ℕ) → j < a + n → p j ≡ q j) → filter p (range_with_len a n) ≡ filter q (range_with_len a n)
filter_range p q a zero h = refl
filter_range p q a (suc n) h = λ i. cond (h a (omega arith) i) (a ∷ filter_range p q (a + 1) n (λ j k. h j (omega arith)) i) (filter_range p q (a + 1) n (λ j k. h j (omega arith)) i)

nothing_unmarked : (marks : List ℕ) (met : List Bool) → length met ≡ 0 → unmarked marks met ≡ []
nothing_unmarked marks met e = ap (unmarked_to marks met) e

unmet_is : (f : Test) (marks : List ℕ) (count : ℕ) (xs : List (List ℕ)) (met : List Bool) → AreMarked (partner_numbers f count xs) (replicate count false) met → unmet (passes f) (with_number marks) xs (numbers_to count) ≡ unmarked marks met
unmet_is f marks count xs met marked =
    let many : length met ≡ count = marked.many ∙ length-replicate count false in
    ap (map (with_number marks)) (filter_range (λ j. not (is_met (passes f) xs j)) (λ j. not (get_or met j false)) 0 count (λ j h. ap not (sym (met_is j (omega arith)))))
    ∙ ap (unmarked_to marks met) (sym many)
  where
    met_is : (j : ℕ) → j < count → get_or met j false ≡ is_met (passes f) xs j
    met_is j h =
        let many = length-replicate count false in
        marked.marks j (omega (arith, many)) ∙ ap (λ b. b || list_any (λ i. i == j) (partner_numbers f count xs)) (get_or-replicate count j false false h) ∙ partners_among f count j h xs

pub joined_made : (kind : JoinKind) (f : Test) (marks : List ℕ) (count : ℕ) (xs : List (List ℕ)) (met : List Bool) → AreMarked (partner_numbers f count xs) (replicate (cond (keeps_right kind) count 0) false) met
    → flat_map (from_left (keeps_left kind) f count) xs ++ unmarked marks met ≡ joined_tuples kind f marks count xs
joined_made joining.Inner f marks count xs met marked = ap (λ l. flat_map (from_left false f count) xs ++ l) (nothing_unmarked marks met (marked.many ∙ length-replicate 0 false)) ∙ append-nil (flat_map (from_left false f count) xs)
joined_made joining.Left f marks count xs met marked = ap (λ l. flat_map (from_left true f count) xs ++ l) (nothing_unmarked marks met (marked.many ∙ length-replicate 0 false)) ∙ append-nil (flat_map (from_left true f count) xs)
joined_made joining.Full f marks count xs met marked = ap (λ l. flat_map (from_left true f count) xs ++ l) (sym (unmet_is f marks count xs met marked))

-- a join gives all pairs
pub pairs_fewer : (kind : JoinKind) (f : Test) (marks : List ℕ) (count : ℕ) (xs : List (List ℕ)) → length (flat_map (pairs_with f count) xs) ≤ length (joined_tuples kind f marks count xs)
pairs_fewer joining.Inner f marks count xs = omega arith
pairs_fewer joining.Left f marks count xs = lefts_fewer f count xs
pairs_fewer joining.Full f marks count xs =
    let left = lefts_fewer f count xs in
    let all = length-append (flat_map (from_left true f count) xs) (unmet (passes f) (with_number marks) xs (numbers_to count)) in
    omega (arith, left, all)
