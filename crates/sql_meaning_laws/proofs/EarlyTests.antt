-- The tests of a plan and what is asked of its entries say the same.
use Rattle.std.specs.List.{AllByRecursion, list_all}
use Rattle.std.proofs.Common.{◌≡◌, ℕ, zero, suc, ◌<◌, Bool, true, false, not, ◌&&◌, List, [], ◌∷◌, drop, length, refl, ap, ◌∙◌, arith}
use Rattle.std.proofs.lemmas.Bool.{and_parts}
use Rattle.vtl_lists.proofs.Alls.{all_from_test, test_from_all}
use Rattle.sql_tree.specs.Trees.{Exp, JoinTree, SelectTree}
use Rattle.sql_check_parts.specs.Scopes.{is_among}
use Rattle.sql_meaning.specs.Early.{MayBeEarly, aliases_left, columns_in, is_full, is_safe_condition, is_safe_join}
use Rattle.sql_meaning.specs.Plans.{IsAt, IsFirst, conjuncts_of}
use Rattle.sql_meaning.specs.declared.plan.Early.{Early}
use Rattle.sql_meaning.proofs.Lists.{under}
use Rattle.sql_plan.specs.EarlyChosen.{is_lasting, is_safe_select, may_precede, names_only}
use Rattle.sql_plan.proofs.Entries.{is_there}

-- ---- tests of all items

turned : (a b : Bool) → not a ≡ b → a ≡ not b
turned true b e = ap not e
turned false b e = ap not e

-- ---- the item at a place

first_more : {A : Type 0} {P Q : A → Type 0} → ((x : A) → P x → Q x) → (xs : List A) → IsFirst P xs → IsFirst Q xs
first_more f [] h = h
first_more f (x ∷ xs) h = f x h

first_says : {A : Type 0} {R : Type 0} → (xs : List A) → IsFirst (λ x. R) xs → R
first_says [] h = absurd h
first_says (x ∷ xs) h = h

is_within : {A : Type 0} (n : ℕ) (xs : List A) → IsAt (λ x. Unit {0}) n xs → n < length xs
is_within zero [] h = absurd h
is_within zero (x ∷ xs) h = omega arith
is_within (suc n) [] h = absurd h
is_within (suc n) (x ∷ xs) h = let rest = is_within n xs h in omega (arith, rest)

-- ---- parts of WHERE

module _ (s : SelectTree) (e : Early) where
  abbrev later : List JoinTree
  later = drop e.join s.joins

  lasting : is_lasting later ≡ true → AllByRecursion (λ j. is_full j ≡ false) later
  lasting h = under {P = λ (j : JoinTree). not (is_full j) ≡ true} {Q = λ (j : JoinTree). is_full j ≡ false} (λ j f. turned (is_full j) true f) later (all_from_test (λ j. not (is_full j)) later h)

  lasts : AllByRecursion (λ j. is_full j ≡ false) later → is_lasting later ≡ true
  lasts h = test_from_all (λ j. not (is_full j)) later (under {P = λ (j : JoinTree). is_full j ≡ false} {Q = λ (j : JoinTree). not (is_full j) ≡ true} (λ j f. ap not f) later h)

  pub may_be : is_safe_select s ≡ true → e.join < length s.joins → IsAt (λ x. may_precede s x e.join ≡ true) e.conjunct (conjuncts_of s.condition) → MayBeEarly s e
  may_be safe there h =
      let both = and_parts (list_all is_safe_join s.joins) (is_safe_condition s.condition) safe in
      let parts : (x : Exp) → may_precede s x e.join ≡ true → (is_lasting later ≡ true) × (names_only (aliases_left s e.join) x ≡ true) = λ x f. and_parts (is_lasting later) (names_only (aliases_left s e.join) x) f in
      let here = drop e.conjunct (conjuncts_of s.condition) in
      record {
        safe = record { joins = all_from_test is_safe_join s.joins both.0; condition = both.1 };
        lasting = lasting (first_says here (first_more (λ x f. (parts x f).0) here h));
        join = is_there e.join s.joins there;
        conjunct = first_more (λ x f. all_from_test (λ y. is_among y.source (aliases_left s e.join)) (columns_in x) (parts x f).1) here h;
      }

  pub is_tested : MayBeEarly s e → (is_safe_select s ≡ true) × (e.join < length s.joins) × IsAt (λ x. may_precede s x e.join ≡ true) e.conjunct (conjuncts_of s.condition)
  is_tested h =
      let here = drop e.conjunct (conjuncts_of s.condition) in (
        ap (λ b. b && is_safe_condition s.condition) (test_from_all is_safe_join s.joins h.safe.joins) ∙ h.safe.condition,
        is_within e.join s.joins h.join,
        first_more (λ x f. ap (λ b. b && names_only (aliases_left s e.join) x) (lasts h.lasting) ∙ test_from_all (λ y. is_among y.source (aliases_left s e.join)) (columns_in x) f) here h.conjunct,
      )
