-- The first join before which a part may be tried is that of its last source, or the first behind the last FULL join.
use Rattle.std.proofs.Common.{◌≡◌, ◌≤◌, ℕ, zero, suc, ◌+◌, max, Bool, true, false, cond, ◌&&◌, List, [], ◌∷◌, take, drop, length, Option, Some, None, refl, sym, ap, ◌∙◌, arith}
use Rattle.std.specs.Prelude.{find, nat_le, nat_lt, option_and_then}
use Rattle.std.specs.List.{list_all, range_with_len}
use Rattle.std.proofs.lemmas.Bool.Decides.{nat_tests}
use Rattle.std.proofs.lemmas.List.{take-map}
use Rattle.vtl_lists.proofs.Tests.{and_false}
use Rattle.sql_tree.specs.Trees.{Exp, SelectTree, Text}
use Rattle.sql_tree.specs.declared.parts.Column.{Column}
use Rattle.sql_check_parts.specs.Scopes.{Named, is_among, value_among}
use Rattle.sql_meaning.specs.Early.{aliases_left, columns_in, join_alias}
use Rattle.sql_plan.specs.EarlyChosen.{first_join, is_lasting, may_precede, names_only}
use Rattle.sql_plan.specs.Reach.{ArePlaces, aliases_of, below, reach}
use Rattle.sql_plan.proofs.Places.{among_first, within}

-- ---- numbers

both_below : (m p n : ℕ) → (nat_le m n && nat_le p n) ≡ nat_le (max m p) n
both_below m p n = grind (arith, nat_tests)

grouped : (a b d : Bool) → (a && (b && d)) ≡ ((a && b) && d)
grouped true b d = refl
grouped false b d = refl

-- the first number from a bound on
find_none : (a m : ℕ) → find (λ n. within n None) (range_with_len a m) ≡ None
find_none a zero = refl
find_none a (suc m) = find_none (a + 1) m

find_from : (k a m : ℕ) → a ≤ k → find (λ n. within n (Some k)) (range_with_len a m) ≡ cond (nat_lt k (a + m)) (Some k) None
find_from k a zero h = let past : nat_lt k (a + 0) ≡ false = grind (arith, nat_tests) in ap (λ b. cond b (Some k) None) (sym past)
find_from k a (suc m) h = go (nat_le k a) refl (find_from k (a + 1) m)
  where
    go : (b : Bool) → nat_le k a ≡ b → (a + 1 ≤ k → find (λ n. within n (Some k)) (range_with_len (a + 1) m) ≡ cond (nat_lt k (a + 1 + m)) (Some k) None)
        → cond b (Some a) (find (λ n. within n (Some k)) (range_with_len (a + 1) m)) ≡ cond (nat_lt k (a + suc m)) (Some k) None
    go true e ih =
        let low : k ≤ a = grind (arith, nat_tests) in
        let same : a ≡ k = omega arith in
        let there : nat_lt k (a + suc m) ≡ true = grind (arith, nat_tests) in
        ap (λ (n : ℕ). Some n) same ∙ ap (λ b. cond b (Some k) None) (sym there)
    go false e ih =
        let high : a + 1 ≤ k = grind (arith, nat_tests) in
        let same : a + 1 + m ≡ a + suc m = omega arith in
        ih high ∙ ap (λ n. cond (nat_lt k n) (Some k) None) same

find_first : (m : ℕ) (o : Option ℕ) → find (λ n. within n o) (range_with_len 0 m) ≡ below m o
find_first m None = find_none 0 m
find_first m (Some k) = let same : 0 + m ≡ m = omega arith in find_from k 0 m (omega arith) ∙ ap (λ n. cond (nat_lt k n) (Some k) None) same

-- ---- columns

module _ (names : List Text) (places : Named ℕ) (are : ArePlaces names places) where
  -- all of them stand in the first sources where the last of them does
  names_within : (m n : ℕ) (xs : List Column) → (nat_le m n && list_all (λ x. is_among x.source (take (suc n) names)) xs) ≡ within n (reach places m xs)
  names_within m n [] = and_true (nat_le m n)
    where
      and_true : (a : Bool) → (a && true) ≡ a
      and_true true = refl
      and_true false = refl
  names_within m n (x ∷ xs) =
      ap (λ b. nat_le m n && (b && list_all (λ y. is_among y.source (take (suc n) names)) xs)) (among_first x.source n names ∙ ap (within n) (sym (are x.source)))
      ∙ go (value_among places x.source) (λ p. names_within (max m p) n xs)
    where
      go : (o : Option ℕ) → ((p : ℕ) → (nat_le (max m p) n && list_all (λ y. is_among y.source (take (suc n) names)) xs) ≡ within n (reach places (max m p) xs))
          → (nat_le m n && (within n o && list_all (λ y. is_among y.source (take (suc n) names)) xs)) ≡ within n (option_and_then (λ p. reach places (max m p) xs) o)
      go None ih = and_false (nat_le m n)
      go (Some p) ih = grouped (nat_le m n) (nat_le p n) (list_all (λ y. is_among y.source (take (suc n) names)) xs) ∙ ap (λ b. b && list_all (λ y. is_among y.source (take (suc n) names)) xs) (both_below m p n) ∙ ih p

pub first_same : (s : SelectTree) (places : Named ℕ) (lasting m : ℕ) → ArePlaces (aliases_of s) places → ((n : ℕ) → is_lasting (drop n s.joins) ≡ nat_le lasting n) → m ≡ length s.joins
    → (e : Exp) → below m (reach places lasting (columns_in e)) ≡ first_join s e
first_same s places lasting m are lasts is e =
    sym (find_first m (reach places lasting (columns_in e))) ∙ ap (λ n. find (λ k. within k (reach places lasting (columns_in e))) (range_with_len 0 n)) is
    ∙ (λ i. find (λ n. each n i) (range_with_len 0 (length s.joins)))
  where
    left : (n : ℕ) → take (suc n) (aliases_of s) ≡ aliases_left s n
    left n = ap (λ l. s.source.alias ∷ l) (take-map join_alias n s.joins)

    each : (n : ℕ) → within n (reach places lasting (columns_in e)) ≡ may_precede s e n
    each n = sym (names_within (aliases_of s) places are lasting n (columns_in e)) ∙ ap (λ b. b && names_only (take (suc n) (aliases_of s)) e) (sym (lasts n)) ∙ ap (λ l. is_lasting (drop n s.joins) && names_only l e) (left n)
