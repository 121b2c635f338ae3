-- A data set with itself, and the parts of a data set.
use Rattle.std.specs.List.{AllByRecursion, filter, list_any}
use Rattle.std.proofs.Common.{◌≡◌, ℕ, Bool, true, false, not, ◌&&◌, ◌||◌, List, [], ◌∷◌, ◌++◌, refl, ap, ◌∙◌, take}
use Rattle.std.proofs.lemmas.List.{append-nil}
use Rattle.std.proofs.lemmas.List.Sorted.{IsPermutation-filter_both}
use Rattle.std.proofs.lemmas.Bool.{or_right}
use Rattle.vtl_lists.specs.Perm.{Perm}
use Rattle.vtl_lists.proofs.Perms.{Perm-from_IsPermutation, Perm-sym}
use Rattle.vtl_lists.proofs.Alls.{all_more}
use Rattle.vtl_lists.proofs.Filters.{filter_all, filter_none}
use Rattle.vtl_cell.specs.Row.{Row, same_key}
use Rattle.vtl_cell.proofs.Rows.{same_row-refl}
use Rattle.vtl_tree.specs.DataSet.{Distinct, IsDataSet}
use Rattle.vtl_tree.specs.Environment.{DataSet}
use Rattle.vtl_tree.specs.Structure.{key_width}
use Rattle.vtl_tree.specs.declared.structure.Structure.{Structure}
use Rattle.vtl_tuples.specs.Keys.{each_once}
use Rattle.vtl_tuples.proofs.Onces.{once_already, once_more}
use Rattle.vtl_meaning.specs.Made.{IsCombined}
use Rattle.vtl_meaning.specs.Operators.{left_of}
use Rattle.vtl_meaning.specs.Sets.{difference_of, has_point, intersected, intersection_of, reduced, symmetric_difference_of, union_of, united}
use Rattle.vtl_meaning.proofs.SetsKept.{first_shown, has_any}

-- ---- each point among all
pub each_there : {X : Type 0} (same : X → X → Bool) → ((x : X) → same x x ≡ true) → (xs : List X) → AllByRecursion (λ x. list_any (λ y. same y x) xs ≡ true) xs
each_there same self [] = tt
each_there same self (x ∷ xs) = (
  ap (λ b. b || list_any (λ y. same y x) xs) (self x),
  all_more (λ z. list_any (λ y. same y z) xs ≡ true) (λ z. list_any (λ y. same y z) (x ∷ xs) ≡ true) (λ z e. or_right (same x z) (list_any (λ y. same y z) xs) e) xs (each_there same self xs),
)

own_keys : (n : ℕ) (d : List Row) → AllByRecursion (λ r. list_any (λ q. same_key n q r) d ≡ true) d
own_keys n d = each_there (same_key n) (λ r. same_row-refl (take n r)) d

own_points : (n : ℕ) (d : List Row) → AllByRecursion (λ r. has_point n d r ≡ true) d
own_points n d = all_more (λ r. list_any (λ q. same_key n q r) d ≡ true) (λ r. has_point n d r ≡ true) (λ r e. has_any n d r ∙ e) d (own_keys n d)

-- ---- with itself
united_twice : (n : ℕ) (d : List Row) → Distinct n d → united n (d ∷ d ∷ []) ≡ d
united_twice n d apart =
    let same = same_key n in
    let new : Row → Bool = λ r. not (list_any (λ q. same q r) d) in
    ap (λ l. each_once same (d ++ l)) (append-nil d) ∙ once_more same d d ∙ ap (λ l. l ++ filter new l) (once_already same d apart)
    ∙ ap (λ l. d ++ l) (filter_none new d (all_more (λ r. list_any (λ q. same q r) d ≡ true) (λ r. new r ≡ false) (λ r e. ap not e) d (own_keys n d)))
    ∙ append-nil d

intersected_twice : (n : ℕ) (d : List Row) → intersected n d (d ∷ []) ≡ d
intersected_twice n d = filter_all (λ r. has_point n d r && true) d (all_more (λ r. has_point n d r ≡ true) (λ r. (has_point n d r && true) ≡ true) (λ r e. ap (λ b. b && true) e) d (own_points n d))

reduced_twice : (n : ℕ) (d : List Row) → reduced n d d ≡ []
reduced_twice n d = filter_none (λ r. not (has_point n d r)) d (all_more (λ r. has_point n d r ≡ true) (λ r. not (has_point n d r) ≡ false) (λ r e. ap not e) d (own_points n d))

pub union_twice : (d : DataSet) (s : Structure) → IsCombined d.structure (d.structure ∷ []) s → IsDataSet d.structure d.points → union_of (d ∷ d ∷ []) s ≡ left_of d s
union_twice d s i h = united_twice (key_width s) (left_of d s) (first_shown d d s i h h).distinct

pub intersection_twice : (d : DataSet) (s : Structure) → intersection_of (d ∷ d ∷ []) s ≡ left_of d s
intersection_twice d s = intersected_twice (key_width s) (left_of d s)

pub difference_twice : (d : DataSet) (s : Structure) → difference_of d d s ≡ []
difference_twice d s = reduced_twice (key_width s) (left_of d s)

pub symmetric_difference_twice : (d : DataSet) (s : Structure) → symmetric_difference_of d d s ≡ []
symmetric_difference_twice d s = ap (λ l. l ++ l) (reduced_twice (key_width s) (left_of d s))

-- ---- what a test keeps and what it does not
pub parts_of_all : {X : Type 0} (p q : X → Bool) → ((x : X) → q x ≡ not (p x)) → (xs : List X) → Perm (filter p xs ++ filter q xs) xs
parts_of_all p q other xs = Perm-sym (Perm-from_IsPermutation xs (filter p xs ++ filter q xs) (IsPermutation-filter_both p q other xs))

pub parts_of_first : (d e : DataSet) (s : Structure) → Perm (difference_of d e s ++ intersection_of (d ∷ e ∷ []) s) (left_of d s)
parts_of_first d e s =
    let n = key_width s in
    let there : Row → Bool = λ r. has_point n (left_of e s) r in
    parts_of_all (λ r. not (there r)) (λ r. there r && true) (λ r. turned (there r)) (left_of d s)
  where
    turned : (b : Bool) → (b && true) ≡ not (not b)
    turned true = refl
    turned false = refl
