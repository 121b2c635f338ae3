-- The parts of a join's tuples are found by look-up at their identifiers.
use Rattle.std.proofs.Common.{◌≡◌, ℕ, zero, suc, Bool, true, List, [], ◌∷◌, cond, length, map, take, Some, refl, sym, ap, ◌∙◌}
use Rattle.std.specs.List.{AllByRecursion, filter, find}
use Rattle.vtl_lists.proofs.Alls.{all_more}
use Rattle.vtl_lists.proofs.Tests.{same_tests}
use Rattle.vtl_cell.specs.Row.{Row, column_of, same_row}
use Rattle.vtl_cell.specs.declared.cell.Cell.{Cell}
use Rattle.vtl_cell.specs.declared.kind.Kind.{Kind}
use Rattle.vtl_cell.proofs.Rows.{same_row-is, same_row-refl}
use Rattle.vtl_tree.specs.DataSet.{IsDataSet, is_point, look}
use Rattle.vtl_tree.specs.Environment.{DataSet}
use Rattle.vtl_tree.specs.Structure.{IsStructure, columns_of, key_width}
use Rattle.vtl_tree.specs.declared.structure.Component.{Component}
use Rattle.vtl_tree.specs.declared.structure.Structure.{Structure}
use Rattle.vtl_tree.specs.Columns.{common_identifiers, has_identifier, identifiers_of, place_of}
use Rattle.vtl_meaning.specs.Agreement.{first_agreeing, key_of, values_in}
use Rattle.vtl_meaning.specs.JoinWords.{IsWithin, looked_tuple, point_with}
use Rattle.vtl_meaning.specs.Joined.{part_of, tuple_at, tuple_beside}
use Rattle.vtl_meaning.specs.LookUps.{part_for, value_named, values_named}
use Rattle.vtl_meaning.specs.Made.{AreAmong, IsColumnAt}
use Rattle.vtl_meaning.proofs.Agreements.{found_by_key, own_values}
use Rattle.vtl_meaning.proofs.JoinAgreements.{covers, own_names}
use Rattle.vtl_meaning.proofs.LookUps.{among_within, named_cells, parts_named, whole_key}

-- ---- identifiers of one structure among those of another
-- the values of identifiers are those in the key
named_in_key : (ys : List Component) (a : Structure) (q : Row) → AreAmong ys (identifiers_of a) → values_in a ys q ≡ values_named (identifiers_of a) ys (key_of a q)
named_in_key ys a q all = parts_named a ys q (among_within ys (identifiers_of a) all)

-- the value of a name among the values of all
read_back : (f : List ℕ → Cell) (place : ℕ) (name : List ℕ) (kind : Kind) (xs : List Component) → IsColumnAt place name kind xs → column_of place (map (λ x. f x.name) xs) ≡ f name
read_back f place name kind [] i = absurd i
read_back f zero name kind (x ∷ xs) i = ap f i.0
read_back f (suc place) name kind (x ∷ xs) i = read_back f place name kind xs i

all_read_back : (f : List ℕ → Cell) (xs ys : List Component) → AreAmong ys xs → values_named xs ys (map (λ x. f x.name) xs) ≡ map (λ y. f y.name) ys
all_read_back f xs [] all = refl
all_read_back f xs (y ∷ ys) all =
    ap (λ v. v ∷ values_named xs ys (map (λ x. f x.name) xs)) (read_back f (place_of y.name xs) y.name y.kind xs all.0) ∙ ap (λ l. f y.name ∷ l) (all_read_back f xs ys all.1)

-- the values of all identifiers in a key are the key
whole_key_named : (a : Structure) (k : Row) → IsStructure a → length k ≡ key_width a → values_named (identifiers_of a) (identifiers_of a) k ≡ k
whole_key_named a k w l = sym (named_cells (identifiers_of a) (identifiers_of a) k) ∙ whole_key a w k l

-- ---- the point that agrees
pub all_pass : (p : Component → Bool) (xs : List Component) → AllByRecursion (λ x. p x ≡ true) xs → filter p xs ≡ xs
all_pass p [] all = refl
all_pass p (x ∷ xs) all = ap (λ b. cond b (x ∷ filter p xs) (filter p xs)) all.0 ∙ ap (λ l. x ∷ l) (all_pass p xs all.1)

common_within : (a b : Structure) → AreAmong (identifiers_of b) (identifiers_of a) → common_identifiers a b ≡ identifiers_of b
common_within a b within = all_pass (λ i. has_identifier a i.name) (identifiers_of b) (all_more (λ i. has_identifier b i.name ≡ true) (λ i. has_identifier a i.name ≡ true) (λ i h. covers a b within i.name h) (identifiers_of b) (own_names b))

own_keys : (d : DataSet) → IsDataSet d.structure d.points → AllByRecursion (λ t. values_in d.structure (identifiers_of d.structure) t ≡ take (key_width d.structure) t) d.points
own_keys d h = all_more (λ t. is_point (columns_of d.structure) t ≡ true) (λ t. values_in d.structure (identifiers_of d.structure) t ≡ take (key_width d.structure) t) (λ t w. own_values d.structure t h.well_formed w) d.points h.typed

agreeing_looked : (a : Structure) (d : DataSet) (q : Row) → IsWithin a d → first_agreeing a d q ≡ look (key_width d.structure) d.points (part_for a d.structure (key_of a q))
agreeing_looked a d q j =
    let b = d.structure in
    ap (λ xs. find (λ t. same_row (values_in b xs t) (values_in a xs q)) d.points) (common_within a b j.within)
    ∙ found_by_key (key_width b) (values_in b (identifiers_of b)) d.points (values_in a (identifiers_of b) q) (own_keys d j.kept)
    ∙ ap (look (key_width b) d.points) (named_in_key (identifiers_of b) a q j.within)

pub beside_looked : (a : Structure) (ds : List DataSet) (q : Row) → AllByRecursion (IsWithin a) ds → tuple_beside a ds q ≡ looked_tuple a ds (key_of a q)
beside_looked a ds q all = ap (λ ps. record { identifiers = key_of a q; parts = ps }) (each_part ds all)
  where
    each_part : (es : List DataSet) → AllByRecursion (IsWithin a) es → map (λ d. part_of d (first_agreeing a d q)) es ≡ map (λ d. part_of d (look (key_width d.structure) d.points (part_for a d.structure (key_of a q)))) es
    each_part [] joins = refl
    each_part (e ∷ es) joins =
        ap (λ o. part_of e o ∷ map (λ d. part_of d (first_agreeing a d q)) es) (agreeing_looked a e q joins.0)
        ∙ ap (λ l. part_of e (look (key_width e.structure) e.points (part_for a e.structure (key_of a q))) ∷ l) (each_part es joins.1)

-- ---- the point with given values of identifiers
find_same : (p q : Row → Bool) (d : List Row) → AllByRecursion (λ t. p t ≡ q t) d → find p d ≡ find q d
find_same p q [] all = refl
find_same p q (t ∷ d) all = ap (λ b. cond b (Some t) (find p d)) all.0 ∙ ap (λ o. cond (q t) (Some t) o) (find_same p q d all.1)

-- the identifiers of the reference and no others
pub record HasThose (a : Structure) (d : DataSet) : Type 0 where
  pub inside : IsWithin a d
  pub back : AreAmong (identifiers_of a) (identifiers_of d.structure)

module _ (a : Structure) (d : DataSet) (k : Row) (w : IsStructure a) (l : length k ≡ key_width a) (j : HasThose a d) where
  abbrev theirs : Structure
  theirs = d.structure

  -- a point has these values exactly if its key is their part
  value_test : (t : Row) → is_point (columns_of theirs) t ≡ true → same_row (values_in theirs (identifiers_of a) t) k ≡ same_row (take (key_width theirs) t) (part_for a theirs k)
  value_test t h = same_tests (same_row (values_in theirs (identifiers_of a) t) k) (same_row (take (key_width theirs) t) (part_for a theirs k)) there back
    where
      f : List ℕ → Cell
      f = value_named (columns_of theirs) t

      g : List ℕ → Cell
      g = value_named (identifiers_of a) k

      there : same_row (values_in theirs (identifiers_of a) t) k ≡ true → same_row (take (key_width theirs) t) (part_for a theirs k) ≡ true
      there e =
          let key : take (key_width theirs) t ≡ part_for a theirs k =
          sym (own_values theirs t j.inside.kept.well_formed h) ∙ sym (all_read_back f (identifiers_of a) (identifiers_of theirs) j.inside.within)
          ∙ ap (values_named (identifiers_of a) (identifiers_of theirs)) (same_row-is (values_in theirs (identifiers_of a) t) k e) in
          ap (λ r. same_row r (part_for a theirs k)) key ∙ same_row-refl (part_for a theirs k)

      back : same_row (take (key_width theirs) t) (part_for a theirs k) ≡ true → same_row (values_in theirs (identifiers_of a) t) k ≡ true
      back e =
          let values : values_in theirs (identifiers_of a) t ≡ k =
          named_in_key (identifiers_of a) theirs t j.back
          ∙ ap (values_named (identifiers_of theirs) (identifiers_of a)) (same_row-is (take (key_width theirs) t) (part_for a theirs k) e)
          ∙ all_read_back g (identifiers_of theirs) (identifiers_of a) j.back
          ∙ whole_key_named a k w l in
          ap (λ r. same_row r k) values ∙ same_row-refl k

  point_looked : point_with (identifiers_of a) d k ≡ look (key_width theirs) d.points (part_for a theirs k)
  point_looked =
      find_same (λ t. same_row (values_in theirs (identifiers_of a) t) k) (λ t. same_row (values_in theirs (identifiers_of theirs) t) (part_for a theirs k)) d.points
      (all_more (λ t. is_point (columns_of theirs) t ≡ true) (λ t. same_row (values_in theirs (identifiers_of a) t) k ≡ same_row (values_in theirs (identifiers_of theirs) t) (part_for a theirs k))
      (λ t h. value_test t h ∙ ap (λ r. same_row r (part_for a theirs k)) (sym (own_values theirs t j.inside.kept.well_formed h))) d.points j.inside.kept.typed)
      ∙ found_by_key (key_width theirs) (values_in theirs (identifiers_of theirs)) d.points (part_for a theirs k) (own_keys d j.inside.kept)

pub at_looked : (a : Structure) (ds : List DataSet) (k : Row) → IsStructure a → length k ≡ key_width a → AllByRecursion (HasThose a) ds → tuple_at (identifiers_of a) ds k ≡ looked_tuple a ds k
at_looked a ds k w l all = ap (λ ps. record { identifiers = k; parts = ps }) (each_part ds all)
  where
    each_part : (es : List DataSet) → AllByRecursion (HasThose a) es → map (λ d. part_of d (point_with (identifiers_of a) d k)) es ≡ map (λ d. part_of d (look (key_width d.structure) d.points (part_for a d.structure k))) es
    each_part [] joins = refl
    each_part (e ∷ es) joins =
        ap (λ o. part_of e o ∷ map (λ d. part_of d (point_with (identifiers_of a) d k)) es) (point_looked a e k w l joins.0)
        ∙ ap (λ r. part_of e (look (key_width e.structure) e.points (part_for a e.structure k)) ∷ r) (each_part es joins.1)
