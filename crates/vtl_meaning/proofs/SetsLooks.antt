-- Set operators by look-up.
use Rattle.std.specs.Prelude.{is_some, option_map}
use Rattle.std.specs.List.{filter, flat_map, list_all}
use Rattle.std.specs.Option.{option_or}
use Rattle.std.proofs.Common.{◌≡◌, ℕ, Bool, true, false, not, cond, List, [], ◌∷◌, ◌++◌, take, Option, Some, None, refl, sym, ap, ◌∙◌, length, subst}
use Rattle.std.proofs.lemmas.List.{length-map}
use Rattle.vtl_lists.proofs.Alls.{all_more}
use Rattle.vtl_lists.proofs.Filters.{filter_true}
use Rattle.vtl_cell.specs.Row.{Row, column_of, same_key, same_row}
use Rattle.vtl_cell.specs.declared.cell.Cell.TheVariants as c
use Rattle.vtl_cell.specs.declared.kind.Kind.{Kind}
use Rattle.vtl_cell.proofs.Rows.{same_row-is}
use Rattle.vtl_syntax.specs.declared.word_groups.Retain.{Retain}
use Rattle.vtl_tree.specs.DataSet.{Distinct, IsDataSet, is_point, look}
use Rattle.vtl_tree.specs.Environment.{DataSet}
use Rattle.vtl_tree.specs.Kept.{kept_row}
use Rattle.vtl_tree.specs.Structure.{IsStructure, columns_of, key_width, same_name}
use Rattle.vtl_tree.specs.declared.structure.Component.{Component}
use Rattle.vtl_tree.specs.declared.structure.Structure.{Structure}
use Rattle.vtl_tree.proofs.LookUps.{look-filter}
use Rattle.vtl_tuples.specs.Keys.{each_once}
use Rattle.vtl_meaning.specs.Agreement.{has_agreeing}
use Rattle.vtl_tree.specs.Columns.{identifiers_of, measures_of, others_of, place_of}
use Rattle.vtl_meaning.specs.LookUps.{part_for, value_named, values_named}
use Rattle.vtl_meaning.specs.Made.{AreAmong, IsAlternative, IsColumnAt, IsExistence}
use Rattle.vtl_meaning.specs.Operators.{left_of}
use Rattle.vtl_meaning.specs.Points.{with_points}
use Rattle.vtl_meaning.specs.Sets.{either_only, existence_of, has_point, intersected, is_retained, leftmost, reduced, united, with_answer}
use Rattle.vtl_meaning.proofs.LookUps.{named_cells, sub_look, whole_key}
use Rattle.vtl_meaning.proofs.Looks.{found_map, look-map, look_key}
use Rattle.vtl_meaning.proofs.Places.{place_here, place_later, same_name-is}
use Rattle.vtl_meaning.proofs.SetsKept.{alternative_tells, answer_keeps, some_kept}

-- ---- lists behind each other
pub look-append : (n : ℕ) (d e : List Row) (k : Row) → look n (d ++ e) k ≡ option_or (look n d k) (look n e k)
look-append n [] e k = refl
look-append n (r ∷ d) e k = go (same_row (take n r) k) (look-append n d e k)
  where
    go : (b : Bool) → look n (d ++ e) k ≡ option_or (look n d k) (look n e k) → cond b (Some r) (look n (d ++ e) k) ≡ option_or (cond b (Some r) (look n d k)) (look n e k)
    go true ih = refl
    go false ih = ih

look-flat : (n : ℕ) (ds : List (List Row)) (k : Row) → look n (flat_map (λ d. d) ds) k ≡ leftmost n ds k
look-flat n [] k = refl
look-flat n (d ∷ ds) k = look-append n d (flat_map (λ e. e) ds) k ∙ ap (option_or (look n d k)) (look-flat n ds k)

-- ---- union
-- points with another key may go
look_without : (n : ℕ) (x : Row) (d : List Row) (k : Row) → same_row (take n x) k ≡ false → look n (filter (λ y. not (same_key n x y)) d) k ≡ look n d k
look_without n x [] k e = refl
look_without n x (y ∷ d) k e = go (same_key n x y) refl (look_without n x d k e)
  where
    rest : List Row
    rest = filter (λ z. not (same_key n x z)) d

    go : (b : Bool) → same_key n x y ≡ b → look n rest k ≡ look n d k → look n (cond (not b) (y ∷ rest) rest) k ≡ cond (same_row (take n y) k) (Some y) (look n d k)
    go true f ih = ih ∙ sym (ap (λ b. cond b (Some y) (look n d k)) (ap (λ z. same_row z k) (sym (same_row-is (take n x) (take n y) f)) ∙ e))
    go false f ih = ap (cond (same_row (take n y) k) (Some y)) ih

pub once_look : (n : ℕ) (d : List Row) (k : Row) → look n (each_once (same_key n) d) k ≡ look n d k
once_look n [] k = refl
once_look n (x ∷ d) k = go (same_row (take n x) k) refl (once_look n d k)
  where
    go : (b : Bool) → same_row (take n x) k ≡ b → look n (each_once (same_key n) d) k ≡ look n d k → cond b (Some x) (look n (filter (λ y. not (same_key n x y)) (each_once (same_key n) d)) k) ≡ cond b (Some x) (look n d k)
    go true e ih = refl
    go false e ih = look_without n x (each_once (same_key n) d) k e ∙ ih

pub united_look : (n : ℕ) (ds : List (List Row)) (k : Row) → look n (united n ds) k ≡ leftmost n ds k
united_look n ds k = once_look n (flat_map (λ d. d) ds) k ∙ look-flat n ds k

-- ---- points that are kept by their keys
kept_by_key : (n : ℕ) (p : Row → Bool) (q : Bool) (d : List Row) (k : Row) → Distinct n d → ((r : Row) → take n r ≡ k → p r ≡ q) → look n (filter p d) k ≡ cond q (look n d k) None
kept_by_key n p q d k h same = look-filter n p d k h ∙ go (look n d k) refl q same
  where
    go : (o : Option Row) → look n d k ≡ o → (b : Bool) → ((r : Row) → take n r ≡ k → p r ≡ b) → kept_row p o ≡ cond b o None
    go None e true f = refl
    go None e false f = refl
    go (Some r) e b f = ap (λ z. cond z (Some r) None) (f r (look_key n d k r e))

abbrev pub has_at : ℕ → Row → List Row → Bool
has_at n k e = is_some (look n e k)

pub intersected_look : (n : ℕ) (d : List Row) (es : List (List Row)) (k : Row) → Distinct n d → look n (intersected n d es) k ≡ cond (list_all (has_at n k) es) (look n d k) None
intersected_look n d es k h = kept_by_key n (λ r. list_all (λ e. has_point n e r) es) (list_all (has_at n k) es) d k h (λ r f. ap (λ j. list_all (has_at n j) es) f)

pub reduced_look : (n : ℕ) (d e : List Row) (k : Row) → Distinct n d → look n (reduced n d e) k ≡ cond (has_at n k e) None (look n d k)
reduced_look n d e k h = kept_by_key n (λ r. not (has_point n e r)) (not (has_at n k e)) d k h (λ r f. ap (λ j. not (has_at n j e)) f) ∙ turned (has_at n k e) (look n d k)
  where
    turned : (b : Bool) (o : Option Row) → cond (not b) o None ≡ cond b None o
    turned true o = refl
    turned false o = refl

pub either_only_look : (n : ℕ) (d e : List Row) (k : Row) → Distinct n d → Distinct n e → look n (either_only n d e) k ≡ option_or (cond (has_at n k e) None (look n d k)) (cond (has_at n k d) None (look n e k))
either_only_look n d e k h i = look-append n (reduced n d e) (reduced n e d) k ∙ ap (λ o. option_or o (look n (reduced n e d) k)) (reduced_look n d e k h) ∙ ap (option_or (cond (has_at n k e) None (look n d k))) (reduced_look n e d k i)

-- ---- an operand in the result's columns
-- a value among values that are taken by name
value_of_values : (xs ys : List Component) (k : Row) (name : List ℕ) (kind : Kind) → IsColumnAt (place_of name ys) name kind ys → value_named ys (values_named xs ys k) name ≡ value_named xs k name
value_of_values xs [] k name kind i = absurd i
value_of_values xs (y ∷ ys) k name kind i = go (same_name y.name name) refl (value_of_values xs ys k name kind)
  where
    vs : Row
    vs = values_named xs (y ∷ ys) k

    go : (b : Bool) → same_name y.name name ≡ b → (IsColumnAt (place_of name ys) name kind ys → value_named ys (values_named xs ys k) name ≡ value_named xs k name) → value_named (y ∷ ys) vs name ≡ value_named xs k name
    go true e ih = ap (λ n. column_of n vs) (place_here name y ys e) ∙ ap (value_named xs k) (same_name-is y.name name e)
    go false e ih =
        let later = place_later name y ys e in
        ap (λ n. column_of n vs) later ∙ ih (subst (λ n. IsColumnAt n name kind (y ∷ ys)) later i)

-- a tuple of identifiers, in the order of another structure and back
part_back : (s b : Structure) (k : Row) → IsStructure s → AreAmong (identifiers_of s) (identifiers_of b) → length k ≡ key_width s → part_for b s (part_for s b k) ≡ k
part_back s b k w all len = each_back (identifiers_of s) all ∙ sym (named_cells (identifiers_of s) (identifiers_of s) k) ∙ whole_key s w k len
  where
    each_back : (ys : List Component) → AreAmong ys (identifiers_of b) → values_named (identifiers_of b) ys (part_for s b k) ≡ values_named (identifiers_of s) ys k
    each_back [] i = refl
    each_back (y ∷ ys) i =
        ap (λ v. v ∷ values_named (identifiers_of b) ys (part_for s b k)) (value_of_values (identifiers_of s) (identifiers_of b) k y.name y.kind i.0)
        ∙ ap (λ l. value_named (identifiers_of s) k y.name ∷ l) (each_back ys i.1)

pub shown_look : (b : DataSet) (s : Structure) (k : Row) → IsStructure s → columns_of s ≡ identifiers_of s ++ measures_of s → IsAlternative s b.structure s → IsDataSet b.structure b.points → length k ≡ key_width s
    → look (key_width s) (left_of b s) k ≡ option_map (λ r. k ++ values_named (columns_of b.structure) (others_of s) r) (look (key_width b.structure) b.points (part_for s b.structure k))
shown_look b s k w n i h len =
    let theirs = b.structure in
    let j = part_for s theirs k in
    let found = sub_look [] theirs s (alternative_tells theirs s (w, n) i) tt h.well_formed b.points h j (length-map (identifiers_of theirs) (λ y. value_named (identifiers_of s) k y.name)) refl in
    subst (λ z. look (key_width s) (left_of b s) z ≡ option_map (λ r. z ++ values_named (columns_of theirs) (others_of s) r) (look (key_width theirs) b.points j)) (part_back s theirs k w i.back len)
    (ap (λ l. look (key_width s) (left_of (with_points theirs l) s) (part_for theirs s j)) (sym (filter_true b.points)) ∙ found)

-- ---- `exists_in`
pub existence_look : (a b : DataSet) (kept : Retain) (s : Structure) (k : Row) → IsExistence a.structure b.structure s → IsDataSet a.structure a.points
    → look (key_width s) (existence_of a b kept) k ≡ option_map (λ r. k ++ c.Bool (has_agreeing a.structure b r) ∷ []) (kept_row (λ r. is_retained kept (has_agreeing a.structure b r)) (look (key_width a.structure) a.points k))
existence_look a b kept s k i h =
    let ours = a.structure in
    let n = key_width ours in
    let test : Row → Bool = λ r. is_retained kept (has_agreeing ours b r) in
    let P : Row → Type 0 = λ r. is_point (columns_of ours) r ≡ true in
    let left = some_kept ours test a.points h in
    look-map n (key_width s) (with_answer ours b) (filter test a.points) k k (all_more P (λ r. same_row (take (key_width s) (with_answer ours b r)) k ≡ same_row (take n r) k) (λ r w. ap (λ z. same_row z k) (answer_keeps ours b s r i w).1) (filter test a.points) left.typed)
    ∙ found_map P n (filter test a.points) k (with_answer ours b) (λ r. k ++ c.Bool (has_agreeing ours b r) ∷ []) left.typed (λ r w key. ap (λ z. z ++ c.Bool (has_agreeing ours b r) ∷ []) key)
    ∙ ap (option_map (λ r. k ++ c.Bool (has_agreeing ours b r) ∷ [])) (look-filter n test a.points k h.distinct)
