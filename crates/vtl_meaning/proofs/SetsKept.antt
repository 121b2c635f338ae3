-- Set operators and `exists_in` give data sets.
use Rattle.std.specs.Prelude.{is_some}
use Rattle.std.specs.List.{AllByRecursion, filter, flat_map, list_all, list_any}
use Rattle.std.proofs.Common.{◌≡◌, ℕ, Bool, true, false, not, cond, ◌||◌, List, [], ◌∷◌, ◌++◌, map, take, Some, refl, sym, ap, ◌∙◌, subst}
use Rattle.std.proofs.lemmas.Bool.{not-true}
use Rattle.vtl_cell.specs.Row.{Row, same_key}
use Rattle.vtl_cell.specs.declared.cell.Cell.TheVariants as c
use Rattle.vtl_lists.proofs.Aparts.{all_apart-filter, none_same}
use Rattle.vtl_lists.proofs.Sorts.{AllByRecursion-filter}
use Rattle.vtl_lists.proofs.Alls.{all_append, all_filtered, all_more}
use Rattle.vtl_lists.proofs.Filters.{filter_true}
use Rattle.vtl_rows.specs.Tables.{fits_kinds}
use Rattle.vtl_syntax.specs.declared.word_groups.Retain.{Retain}
use Rattle.vtl_tree.specs.DataSet.{IsDataSet, is_point, look}
use Rattle.vtl_tree.specs.Environment.{DataSet}
use Rattle.vtl_tree.specs.Structure.{IsStructure, columns_of, key_width, same_name}
use Rattle.vtl_tree.specs.declared.structure.Structure.{Structure}
use Rattle.vtl_tuples.proofs.Onces.{once_apart, once_hold}
use Rattle.vtl_meaning.specs.Agreement.{has_agreeing}
use Rattle.vtl_tree.specs.Columns.{identifiers_of, measures_of, others_of, place_of}
use Rattle.vtl_meaning.specs.Joined.{structures_of}
use Rattle.vtl_meaning.specs.Made.{AreAmong, AreCombined, IsAlternative, IsColumnAt, IsCombined, IsExistence}
use Rattle.vtl_meaning.specs.Operators.{left_of}
use Rattle.vtl_meaning.specs.Points.{with_points}
use Rattle.vtl_meaning.specs.Sets.{all_left_of, difference_of, either_only, existence_of, has_point, intersection_of, is_retained, reduced, symmetric_difference_of, union_of, united, with_answer}
use Rattle.vtl_meaning.proofs.Drawn.{Keeps, mapped_kept}
use Rattle.vtl_meaning.proofs.JoinKept.{apart_append}
use Rattle.vtl_meaning.proofs.JoinParts.{AreSets}
use Rattle.vtl_meaning.proofs.Kept.{Tells, told_kept}
use Rattle.vtl_meaning.proofs.OwnColumns.{among_front, column_any}
use Rattle.vtl_meaning.proofs.Places.{are_others, columns_split, joined_point_is, key_for, key_of_joined, key_of_point}

-- ---- an operand in the result's columns
-- the result's columns, of which the identifiers stand first
abbrev pub IsKeyed : Structure → Type 0
IsKeyed s = IsStructure s × (columns_of s ≡ identifiers_of s ++ measures_of s)

pub alternative_tells : (b s : Structure) → IsKeyed s → IsAlternative s b s → Tells [] b s
alternative_tells b s w i = record {
  well_formed = w.0;
  columns = subst (λ ys. AreAmong ys (columns_of b)) (sym w.1) (all_append (λ y. IsColumnAt (place_of y.name (columns_of b)) y.name y.kind (columns_of b)) (identifiers_of s) (measures_of s) identifiers i.measures);
  left = i.back;
  identifiers =
      all_more (λ x. IsColumnAt (place_of x.name (identifiers_of s)) x.name x.kind (identifiers_of s)) (λ x. (list_any (λ y. same_name y.name x.name) (identifiers_of s) || false) ≡ true)
      (λ x h. ap (λ z. z || false) (column_any (place_of x.name (identifiers_of s)) x.name x.kind (identifiers_of s) h)) (identifiers_of b) i.there;
}
  where
    identifiers : AreAmong (identifiers_of s) (columns_of b)
    identifiers = subst (AreAmong (identifiers_of s)) (sym (columns_split b)) (among_front (identifiers_of s) (identifiers_of b) (others_of b) i.back)

pub shown_kept : (b : DataSet) (s : Structure) → IsKeyed s → IsAlternative s b.structure s → IsDataSet b.structure b.points → IsDataSet s (left_of b s)
shown_kept b s w i h = subst (λ l. IsDataSet s (left_of (with_points b.structure l) s)) (filter_true b.points) (told_kept [] b s (alternative_tells b.structure s w i) h)

pub all_shown_kept : (ds : List DataSet) (s : Structure) → IsKeyed s → AllByRecursion (λ b. IsAlternative s b s) (structures_of ds) → AreSets ds → AllByRecursion (IsDataSet s) (all_left_of ds s)
all_shown_kept [] s w i h = tt
all_shown_kept (d ∷ ds) s w i h = (shown_kept d s w i.0 h.0, all_shown_kept ds s w i.1 h.1)

pub combined_is : (a : Structure) (bs : List Structure) (s : Structure) → IsCombined a bs s → IsKeyed s
combined_is a bs s i = (i.well_formed, i.no_attributes)

-- ---- union
pub all_flat : {X : Type 0} (P : X → Type 0) (xss : List (List X)) → AllByRecursion (AllByRecursion P) xss → AllByRecursion P (flat_map (λ xs. xs) xss)
all_flat P [] all = tt
all_flat P (xs ∷ xss) all = all_append P xs (flat_map (λ ys. ys) xss) all.0 (all_flat P xss all.1)

pub united_kept : (s : Structure) (ds : List (List Row)) → IsStructure s → AllByRecursion (IsDataSet s) ds → IsDataSet s (united (key_width s) ds)
united_kept s ds w all =
    let P : Row → Type 0 = λ r. is_point (columns_of s) r ≡ true in record {
      well_formed = w;
      typed = once_hold P (same_key (key_width s)) (flat_map (λ d. d) ds) (all_flat P ds (all_more (IsDataSet s) (AllByRecursion P) (λ d h. h.typed) ds all));
      distinct = once_apart (same_key (key_width s)) (flat_map (λ d. d) ds);
    }

pub union_kept : (ds : List DataSet) (s : Structure) → AreCombined (structures_of ds) s → AreSets ds → IsDataSet s (union_of ds s)
union_kept [] s i h = absurd i
union_kept (d ∷ ds) s i h = united_kept s (all_left_of (d ∷ ds) s) i.well_formed (all_shown_kept (d ∷ ds) s (combined_is d.structure (structures_of ds) s i) i.operands h)

-- ---- some of the points
pub some_kept : (s : Structure) (p : Row → Bool) (d : List Row) → IsDataSet s d → IsDataSet s (filter p d)
some_kept s p d h = record {
  well_formed = h.well_formed;
  typed = AllByRecursion-filter (λ r. is_point (columns_of s) r ≡ true) p d h.typed;
  distinct = all_apart-filter (same_key (key_width s)) p d h.distinct;
}

pub intersection_kept : (ds : List DataSet) (s : Structure) → AreCombined (structures_of ds) s → AreSets ds → IsDataSet s (intersection_of ds s)
intersection_kept [] s i h = absurd i
intersection_kept (d ∷ ds) s i h =
    some_kept s (λ r. list_all (λ e. has_point (key_width s) e r) (all_left_of ds s)) (left_of d s) (shown_kept d s (combined_is d.structure (structures_of ds) s i) i.operands.0 h.0)

-- the two operands of a set operator in the result's columns
module _ (d e : DataSet) (s : Structure) (i : IsCombined d.structure (e.structure ∷ []) s) (h : IsDataSet d.structure d.points) (k : IsDataSet e.structure e.points) where
  pub first_shown : IsDataSet s (left_of d s)
  first_shown = shown_kept d s (combined_is d.structure (e.structure ∷ []) s i) i.operands.0 h

  pub second_shown : IsDataSet s (left_of e s)
  second_shown = shown_kept e s (combined_is d.structure (e.structure ∷ []) s i) i.operands.1.0 k

pub reduced_kept : (s : Structure) (d e : List Row) → IsDataSet s d → IsDataSet s (reduced (key_width s) d e)
reduced_kept s d e h = some_kept s (λ r. not (has_point (key_width s) e r)) d h

pub difference_kept : (d e : DataSet) (s : Structure) → IsCombined d.structure (e.structure ∷ []) s → IsDataSet d.structure d.points → IsDataSet e.structure e.points → IsDataSet s (difference_of d e s)
difference_kept d e s i h k = reduced_kept s (left_of d s) (left_of e s) (first_shown d e s i h k)

-- ---- the points of one of two alone
-- a point with the key of another is there where one has it
pub has_any : (n : ℕ) (d : List Row) (r : Row) → has_point n d r ≡ list_any (λ q. same_key n q r) d
has_any n [] r = refl
has_any n (q ∷ d) r = go (same_key n q r) (has_any n d r)
  where
    go : (b : Bool) → has_point n d r ≡ list_any (λ z. same_key n z r) d → is_some (cond b (Some q) (look n d (take n r))) ≡ (b || list_any (λ z. same_key n z r) d)
    go true ih = refl
    go false ih = ih

-- each of the first apart from each of the others, where none of these has a point of the first
keys_apart : (n : ℕ) (d e : List Row) → AllByRecursion (λ r. AllByRecursion (λ q. same_key n q r ≡ false) d) e → AllByRecursion (λ q. AllByRecursion (λ r. same_key n q r ≡ false) e) d
keys_apart n [] e all = tt
keys_apart n (q ∷ d) e all = (
  all_more (λ r. AllByRecursion (λ z. same_key n z r ≡ false) (q ∷ d)) (λ r. same_key n q r ≡ false) (λ r h. h.0) e all,
  keys_apart n d e (all_more (λ r. AllByRecursion (λ z. same_key n z r ≡ false) (q ∷ d)) (λ r. AllByRecursion (λ z. same_key n z r ≡ false) d) (λ r h. h.1) e all),
)

-- what is left of the second when the keys of the first are taken from it
lacking : (n : ℕ) (d e : List Row) → AllByRecursion (λ r. AllByRecursion (λ q. same_key n q r ≡ false) d) (reduced n e d)
lacking n d e =
    all_more (λ r. not (has_point n d r) ≡ true) (λ r. AllByRecursion (λ q. same_key n q r ≡ false) d)
    (λ r h. none_same (λ q. same_key n q r) d (sym (has_any n d r) ∙ not-true (has_point n d r) h)) (reduced n e d) (all_filtered (λ r. not (has_point n d r)) e)

pub either_only_kept : (s : Structure) (d e : List Row) → IsDataSet s d → IsDataSet s e → IsDataSet s (either_only (key_width s) d e)
either_only_kept s d e h i =
    let n = key_width s in
    let P : Row → Type 0 = λ r. is_point (columns_of s) r ≡ true in
    let first = reduced_kept s d e h in
    let second = reduced_kept s e d i in
    let apart = keys_apart n d (reduced n e d) (lacking n d e) in record {
      well_formed = h.well_formed;
      typed = all_append P (reduced n d e) (reduced n e d) first.typed second.typed;
      distinct =
          apart_append (same_key n) (reduced n d e) (reduced n e d) first.distinct second.distinct
          (AllByRecursion-filter (λ q. AllByRecursion (λ r. same_key n q r ≡ false) (reduced n e d)) (λ r. not (has_point n e r)) d apart);
    }

pub symmetric_difference_kept : (d e : DataSet) (s : Structure) → IsCombined d.structure (e.structure ∷ []) s → IsDataSet d.structure d.points → IsDataSet e.structure e.points → IsDataSet s (symmetric_difference_of d e s)
symmetric_difference_kept d e s i h k = either_only_kept s (left_of d s) (left_of e s) (first_shown d e s i h k) (second_shown d e s i h k)

-- ---- `exists_in`
pub answer_keeps : (a : Structure) (b : DataSet) (s : Structure) (r : Row) → IsExistence a b.structure s → is_point (columns_of a) r ≡ true → Keeps s (key_width a) r (with_answer a b r)
answer_keeps a b s r i h =
    let key = take (key_width a) r in
    let answer : Row = c.Bool (has_agreeing a b r) ∷ [] in
    let own = key_for s a key i.identifiers (key_of_point a r h) in
    let fits : fits_kinds (map (λ x. x.kind) (others_of s)) answer ≡ true = ap (λ ks. fits_kinds ks answer) i.truth in
    (joined_point_is s (others_of s) key answer (columns_split s) (are_others s) own fits, key_of_joined s key answer own)

pub existence_kept : (a b : DataSet) (kept : Retain) (s : Structure) → IsExistence a.structure b.structure s → IsDataSet a.structure a.points → IsDataSet s (existence_of a b kept)
existence_kept a b kept s i h =
    let ours = a.structure in
    let test : Row → Bool = λ r. is_retained kept (has_agreeing ours b r) in
    let left = some_kept ours test a.points h in
    mapped_kept s (key_width ours) (with_answer ours b) (filter test a.points) i.well_formed
    (all_more (λ r. is_point (columns_of ours) r ≡ true) (λ r. Keeps s (key_width ours) r (with_answer ours b r)) (λ r k. answer_keeps ours b s r i k) (filter test a.points) left.typed)
    left.distinct
