-- Left and full joins as sets of tuples; an inner join as a part of a left one, and that as a part of a full one.
use Rattle.std.specs.Prelude.{is_some, slice_get}
use Rattle.std.specs.List.{AllByRecursion, Contains, filter, find, flat_map, list_any}
use Rattle.std.proofs.Common.{◌≡◌, Bool, true, false, not, cond, ◌||◌, List, [], ◌∷◌, ◌++◌, map, length, take, Option, Some, None, refl, sym, ap, ◌∙◌, subst, true≢false}
use Rattle.std.proofs.lemmas.List.{append-nil, length-take-le}
use Rattle.std.proofs.lemmas.List.Elements.{filter-append}
use Rattle.std.proofs.lemmas.List.Folds.{list_any-append}
use Rattle.vtl_lists.specs.Apart.{all_apart}
use Rattle.vtl_lists.proofs.Aparts.{none_same}
use Rattle.vtl_lists.proofs.Alls.{all_both, all_filtered, all_more}
use Rattle.vtl_lists.proofs.Sorts.{AllByRecursion-map}
use Rattle.vtl_lists.proofs.Filters.{filter_all, filter_none}
use Rattle.vtl_cell.specs.Row.{Row, same_row}
use Rattle.vtl_cell.proofs.Rows.{same_row-is, same_row-refl}
use Rattle.vtl_syntax.specs.declared.word_groups.JoinKind.TheVariants as join
use Rattle.vtl_tree.specs.Columns.{identifiers_of}
use Rattle.vtl_tree.specs.DataSet.{IsDataSet, is_point}
use Rattle.vtl_tree.specs.Environment.{DataSet}
use Rattle.vtl_tree.specs.Structure.{columns_of, key_width}
use Rattle.vtl_tree.specs.declared.structure.Component.{Component}
use Rattle.vtl_tree.specs.declared.structure.Structure.{Structure}
use Rattle.vtl_tuples.specs.Keys.{each_once}
use Rattle.vtl_tuples.proofs.Lists.{filter-map, map-map, map_same}
use Rattle.vtl_tuples.proofs.Onces.{among_once, once_already, once_more}
use Rattle.vtl_meaning.specs.Agreement.{agree_in, first_agreeing, key_of, values_in}
use Rattle.vtl_meaning.specs.JoinWords.{IsWithin, point_with}
use Rattle.vtl_meaning.specs.Joined.{Part, Tuple, all_keys, full_tuples, keys_in, left_tuples, part_of, structures_of, tuple_at, tuple_beside}
use Rattle.vtl_meaning.specs.Made.{AreAmong, GoTogether, IsJoined}
use Rattle.vtl_meaning.proofs.Agreements.{own_values}
use Rattle.vtl_meaning.proofs.JoinAgreements.{agreeing_only, agreeing_own, covers, key_only}
use Rattle.vtl_meaning.proofs.JoinGrows.{alike_rows, own_with}
use Rattle.vtl_meaning.proofs.JoinKept.{apart_map}
use Rattle.vtl_meaning.proofs.JoinLooks.{full_looked}
use Rattle.vtl_meaning.proofs.JoinPartners.{beside_looked}
use Rattle.vtl_meaning.proofs.Places.{all_of_map, key_within}
use Rattle.vtl_meaning_laws.specs.Found.{AgreesWith, AreParts, HasValues, IsFullTuple, IsLeftTuple, begins_whole}
use Rattle.vtl_meaning_laws.proofs.TupleLists.{any_contained, contained_any, contains_map, each_contained, found_is, item_has, none_found, one_is_found}

-- ---- parts that are found
parts_found : (IsPart : DataSet → Option Row → Type 0) (find_in : DataSet → Option Row) → ((d : DataSet) → IsPart d (find_in d)) → (ds : List DataSet) → AreParts IsPart ds (map (λ d. part_of d (find_in d)) ds)
parts_found IsPart find_in all [] = tt
parts_found IsPart find_in all (d ∷ ds) = (refl, all d, parts_found IsPart find_in all ds)

parts_are_found : (IsPart : DataSet → Option Row → Type 0) (find_in : DataSet → Option Row) (ds : List DataSet) → AllByRecursion (λ d. (o : Option Row) → IsPart d o → find_in d ≡ o) ds → (qs : List Part) → AreParts IsPart ds qs
    → map (λ d. part_of d (find_in d)) ds ≡ qs
parts_are_found IsPart find_in [] only [] h = refl
parts_are_found IsPart find_in [] only (q ∷ qs) h = absurd h
parts_are_found IsPart find_in (d ∷ ds) only [] h = absurd h
parts_are_found IsPart find_in (d ∷ ds) only (q ∷ qs) h =
    let own : part_of d (find_in d) ≡ q = λ j. record { structure = (sym h.0) j; point = (only.0 q.point h.1) j } in
    ap (λ p. p ∷ map (λ e. part_of e (find_in e)) ds) own ∙ ap (λ l. q ∷ l) (parts_are_found IsPart find_in ds only.1 qs h.2)

same_tuple : (t u : Tuple) → t.identifiers ≡ u.identifiers → t.parts ≡ u.parts → t ≡ u
same_tuple t u e f = λ j. record { identifiers = e j; parts = f j }

-- ---- `left_join`
module _ (r : DataSet) (ds : List DataSet) (h : AllByRecursion (IsWithin r.structure) (r ∷ ds)) where
  abbrev a : Structure
  a = r.structure

  abbrev beside : Row → Tuple
  beside q = tuple_beside a (r ∷ ds) q

  own : AllByRecursion (λ q. first_agreeing a r q ≡ Some q) r.points
  own = agreeing_own r h.0.kept

  left_tuple : (q : Row) → Contains r.points q → first_agreeing a r q ≡ Some q → IsLeftTuple r ds (beside q)
  left_tuple q c e = record {
    point = q;
    there = c;
    identifiers = refl;
    parts = map (λ d. part_of d (first_agreeing a d q)) ds;
    begins = ap (λ o. part_of r o ∷ map (λ d. part_of d (first_agreeing a d q)) ds) e;
    agree = parts_found (AgreesWith a q) (λ d. first_agreeing a d q) (λ d. found_is (agree_in a d.structure q) d.points) ds;
  }

  pub left_are_tuples : AllByRecursion (IsLeftTuple r ds) (left_tuples r (r ∷ ds))
  left_are_tuples = AllByRecursion-map beside (IsLeftTuple r ds) r.points (all_both (Contains r.points) (λ q. first_agreeing a r q ≡ Some q) (λ q. IsLeftTuple r ds (beside q)) left_tuple r.points (each_contained r.points) own)

  pub left_has_all : (t : Tuple) → IsLeftTuple r ds t → Contains (left_tuples r (r ∷ ds)) t
  left_has_all t i =
      let q = i.point in
      let only : AllByRecursion (λ d. (o : Option Row) → AgreesWith a q d o → first_agreeing a d q ≡ o) ds =
      all_more (IsWithin a) (λ d. (o : Option Row) → AgreesWith a q d o → first_agreeing a d q ≡ o)
      (λ d w o k. one_is_found (agree_in a d.structure q) d.points o (agreeing_only a d q (covers a d.structure w.within) w.kept) k) ds h.1 in
      let parts : (beside q).parts ≡ t.parts =
      ap (λ o. part_of r o ∷ map (λ d. part_of d (first_agreeing a d q)) ds) (item_has (λ x. first_agreeing a r x ≡ Some x) r.points q own i.there)
      ∙ ap (λ l. part_of r (Some q) ∷ l) (parts_are_found (AgreesWith a q) (λ d. first_agreeing a d q) ds only i.parts i.agree) ∙ sym i.begins in
      subst (Contains (left_tuples r (r ∷ ds))) (same_tuple (beside q) t (sym i.identifiers) parts) (contains_map beside r.points q i.there)

-- ---- `full_join`
-- a key of which some operand has a point
some_part : (ids : List Component) (k : Row) (ds : List DataSet) → list_any (λ j. same_row j k) (flat_map (keys_in ids) ds) ≡ true → list_any (λ q. is_some q.point) (map (λ d. part_of d (point_with ids d k)) ds) ≡ true
some_part ids k [] e = absurd (true≢false (sym e))
some_part ids k (d ∷ ds) e = go (list_any (λ j. same_row j k) (keys_in ids d)) refl (sym (list_any-append (λ j. same_row j k) (keys_in ids d) (flat_map (keys_in ids) ds)) ∙ e) (some_part ids k ds)
  where
    rest : List Part
    rest = map (λ x. part_of x (point_with ids x k)) ds

    or_true : (b : Bool) → (b || true) ≡ true
    or_true true = refl
    or_true false = refl

    found : (l : List Row) → list_any (λ j. same_row j k) (map (values_in d.structure ids) l) ≡ true → is_some (find (λ q. same_row (values_in d.structure ids q) k) l) ≡ true
    found [] f = absurd (true≢false (sym f))
    found (q ∷ l) f = one (same_row (values_in d.structure ids q) k) f (found l)
      where
        one : (b : Bool) → (b || list_any (λ j. same_row j k) (map (values_in d.structure ids) l)) ≡ true → (list_any (λ j. same_row j k) (map (values_in d.structure ids) l) ≡ true → is_some (find (λ z. same_row (values_in d.structure ids z) k) l) ≡ true)
            → is_some (cond b (Some q) (find (λ z. same_row (values_in d.structure ids z) k) l)) ≡ true
        one true g ih = refl
        one false g ih = ih g

    go : (b : Bool) → list_any (λ j. same_row j k) (keys_in ids d) ≡ b → (b || list_any (λ j. same_row j k) (flat_map (keys_in ids) ds)) ≡ true → (list_any (λ j. same_row j k) (flat_map (keys_in ids) ds) ≡ true → list_any (λ q. is_some q.point) rest ≡ true)
        → (is_some (point_with ids d k) || list_any (λ q. is_some q.point) rest) ≡ true
    go true f g ih = ap (λ b. b || list_any (λ q. is_some q.point) rest) (found d.points f)
    go false f g ih = ap (λ b. is_some (point_with ids d k) || b) (ih g) ∙ or_true (is_some (point_with ids d k))

-- and where a part is there, its operand has the key
some_key : (ids : List Component) (k : Row) (ds : List DataSet) (qs : List Part) → AreParts (HasValues ids k) ds qs → list_any (λ q. is_some q.point) qs ≡ true → list_any (λ j. same_row j k) (flat_map (keys_in ids) ds) ≡ true
some_key ids k [] [] h e = absurd (true≢false (sym e))
some_key ids k [] (q ∷ qs) h e = absurd h
some_key ids k (d ∷ ds) [] h e = absurd h
some_key ids k (d ∷ ds) (q ∷ qs) h e = list_any-append (λ j. same_row j k) (keys_in ids d) (flat_map (keys_in ids) ds) ∙ go q.point h.1 e (some_key ids k ds qs h.2)
  where
    more : Bool
    more = list_any (λ j. same_row j k) (flat_map (keys_in ids) ds)

    or_true : (b : Bool) → (b || true) ≡ true
    or_true true = refl
    or_true false = refl

    go : (o : Option Row) → HasValues ids k d o → (is_some o || list_any (λ z. is_some z.point) qs) ≡ true → (list_any (λ z. is_some z.point) qs ≡ true → more ≡ true) → (list_any (λ j. same_row j k) (keys_in ids d) || more) ≡ true
    go None i f ih = ap (λ b. list_any (λ j. same_row j k) (keys_in ids d) || b) (ih f) ∙ or_true (list_any (λ j. same_row j k) (keys_in ids d))
    go (Some x) i f ih =
        ap (λ b. b || more) (contained_any (λ j. same_row j k) (keys_in ids d) (values_in d.structure ids x) (contains_map (values_in d.structure ids) d.points x i.0) i.1)

-- the reference's identifiers are those of all operands
module _ (r : DataSet) (ds : List DataSet) (h : AllByRecursion (IsWithin r.structure) ds) where
  abbrev ids : List Component
  ids = identifiers_of r.structure

  abbrev at : Row → Tuple
  at k = tuple_at ids ds k

  pub full_are_tuples : AllByRecursion (IsFullTuple ids ds) (full_tuples r ds)
  full_are_tuples = AllByRecursion-map at (IsFullTuple ids ds) (all_keys ids ds) (all_more (Contains (all_keys ids ds)) (λ k. IsFullTuple ids ds (at k)) one (all_keys ids ds) (each_contained (all_keys ids ds)))
    where
      one : (k : Row) → Contains (all_keys ids ds) k → IsFullTuple ids ds (at k)
      one k c = record {
        some = some_part ids k ds (sym (among_once same_row alike_rows (flat_map (keys_in ids) ds) k) ∙ contained_any (λ j. same_row j k) (all_keys ids ds) k c (same_row-refl k));
        parts = parts_found (HasValues ids k) (λ d. point_with ids d k) (λ d. found_is (λ q. same_row (values_in d.structure ids q) k) d.points) ds;
      }

  pub full_has_all : (t : Tuple) → IsFullTuple ids ds t → Contains (full_tuples r ds) t
  full_has_all t i =
      let k = t.identifiers in
      let only : AllByRecursion (λ d. (o : Option Row) → HasValues ids k d o → point_with ids d k ≡ o) ds =
      all_more (IsWithin r.structure) (λ d. (o : Option Row) → HasValues ids k d o → point_with ids d k ≡ o)
      (λ d w o j. one_is_found (λ q. same_row (values_in d.structure ids q) k) d.points o (key_only r.structure d k (covers r.structure d.structure w.within) w.kept) j) ds h in
      subst (Contains (full_tuples r ds)) (same_tuple (at k) t refl (parts_are_found (HasValues ids k) (λ d. point_with ids d k) ds only t.parts i.parts))
      (contains_map at (all_keys ids ds) k
      (any_contained same_row same_row-is (all_keys ids ds) k (among_once same_row alike_rows (flat_map (keys_in ids) ds) k ∙ some_key ids k ds t.parts i.parts i.some)))

-- ---- what typing tells of the operands
of_first : (P : Structure → Type 0) (r : DataSet) (ds : List DataSet) (reference : Structure) → slice_get (structures_of (r ∷ ds)) 0 ≡ Some reference → P reference → P r.structure
of_first P r ds reference there h =
    let same : r.structure ≡ reference = cc in
    subst P (sym same) h

all_within : (a : Structure) (ds : List DataSet) → AllByRecursion (λ d. IsDataSet d.structure d.points) ds → AllByRecursion (λ b. AreAmong (identifiers_of b) (identifiers_of a)) (structures_of ds) → AllByRecursion (IsWithin a) ds
all_within a [] sets all = tt
all_within a (d ∷ ds) sets all = (record { kept = sets.0; within = all.0 }, all_within a ds sets.1 all.1)

pub left_within : (r : DataSet) (ds : List DataSet) (s : Structure) → IsJoined join.Left (structures_of (r ∷ ds)) s → AllByRecursion (λ d. IsDataSet d.structure d.points) (r ∷ ds) → AllByRecursion (IsWithin r.structure) (r ∷ ds)
left_within r ds s j h = all_within r.structure (r ∷ ds) h (of_first (λ a. GoTogether join.Left a (structures_of (r ∷ ds)) s) r ds j.reference j.there j.identifiers).1

pub full_within : (r : DataSet) (ds : List DataSet) (s : Structure) → IsJoined join.Full (structures_of (r ∷ ds)) s → AllByRecursion (λ d. IsDataSet d.structure d.points) (r ∷ ds) → AllByRecursion (IsWithin r.structure) (r ∷ ds)
full_within r ds s j h =
    let ids = identifiers_of r.structure in
    all_within r.structure (r ∷ ds) h
    (all_more (λ b. AreAmong (identifiers_of b) ids × AreAmong ids (identifiers_of b)) (λ b. AreAmong (identifiers_of b) ids) (λ b both. both.0) (structures_of (r ∷ ds))
    (of_first (λ a. GoTogether join.Full a (structures_of (r ∷ ds)) s) r ds j.reference j.there j.identifiers).1)

-- ---- a left join is the part of a full join with points of the first operand
module _ (r : DataSet) (ds : List DataSet) (s : Structure) (j : IsJoined join.Full (structures_of (r ∷ ds)) s) (h : AllByRecursion (λ d. IsDataSet d.structure d.points) (r ∷ ds)) where
  w : AllByRecursion (IsWithin r.structure) (r ∷ ds)
  w = full_within r ds s j h

  abbrev ours : Structure
  ours = r.structure

  abbrev those : List Component
  those = identifiers_of ours

  abbrev tuple : Row → Tuple
  tuple k = tuple_at those (r ∷ ds) k

  abbrev has_first : Row → Bool
  has_first k = is_some (point_with those r k)

  abbrev new_keys : List Row
  new_keys = filter (λ k. not (list_any (λ i. same_row i k) (keys_in those r))) (each_once same_row (flat_map (keys_in those) ds))

  own_key : (q : Row) → is_point (columns_of ours) q ≡ true → values_in ours those q ≡ key_of ours q
  own_key q i = own_values ours q h.0.well_formed i

  keys_apart : all_apart same_row (keys_in those r) ≡ true
  keys_apart =
      ap (all_apart same_row) (map_same (values_in ours those) (take (key_width ours)) r.points (all_more (λ q. is_point (columns_of ours) q ≡ true) (λ q. values_in ours those q ≡ take (key_width ours) q) own_key r.points h.0.typed))
      ∙ apart_map (take (key_width ours)) same_row r.points ∙ h.0.distinct

  first_keys : all_keys those (r ∷ ds) ≡ keys_in those r ++ new_keys
  first_keys = once_more same_row (keys_in those r) (flat_map (keys_in those) ds) ∙ ap (λ l. l ++ new_keys) (once_already same_row (keys_in those r) keys_apart)

  -- the first operand has its own keys, and no other
  first_there : AllByRecursion (λ k. has_first k ≡ true) (keys_in those r)
  first_there = AllByRecursion-map (values_in ours those) (λ k. has_first k ≡ true) r.points (all_more (λ q. point_with those r (values_in ours those q) ≡ Some q) (λ q. has_first (values_in ours those q) ≡ true) (λ q e. ap is_some e) r.points (own_with ours r h.0 w.0.within))

  others_absent : (ks : List Row) → AllByRecursion (λ k. not (list_any (λ i. same_row i k) (keys_in those r)) ≡ true) ks → AllByRecursion (λ k. has_first k ≡ false) ks
  others_absent ks all = all_more (λ k. not (list_any (λ i. same_row i k) (keys_in those r)) ≡ true) (λ k. has_first k ≡ false) absent ks all
    where
      is_not : (b : Bool) → not b ≡ true → b ≡ false
      is_not true e = sym e
      is_not false e = refl

      absent : (k : Row) → not (list_any (λ i. same_row i k) (keys_in those r)) ≡ true → has_first k ≡ false
      absent k e =
          let none : AllByRecursion (λ i. same_row i k ≡ false) (keys_in those r) = none_same (λ i. same_row i k) (keys_in those r) (is_not (list_any (λ i. same_row i k) (keys_in those r)) e) in
          ap is_some (none_found (λ q. same_row (values_in ours those q) k) r.points (all_of_map (values_in ours those) (λ i. same_row i k ≡ false) r.points none))

  same_as_left : (q : Row) → is_point (columns_of ours) q ≡ true → tuple (values_in ours those q) ≡ tuple_beside ours (r ∷ ds) q
  same_as_left q i =
      ap tuple (own_key q i) ∙ full_looked r ds s (key_of ours q) j h (key_long q i) ∙ sym (beside_looked ours (r ∷ ds) q w)
    where
      key_long : (z : Row) → is_point (columns_of ours) z ≡ true → length (key_of ours z) ≡ key_width ours
      key_long z k = length-take-le (key_width ours) z (key_within ours z k)

  pub left_is_part : filter begins_whole (full_tuples r (r ∷ ds)) ≡ left_tuples r (r ∷ ds)
  left_is_part =
      filter-map begins_whole tuple (all_keys those (r ∷ ds)) ∙ ap (map tuple)
      (ap (filter has_first) first_keys ∙ filter-append has_first (keys_in those r) new_keys
      ∙ ap (λ l. l ++ filter has_first new_keys) (filter_all has_first (keys_in those r) first_there)
      ∙ ap (λ l. keys_in those r ++ l) (filter_none has_first new_keys (others_absent new_keys (all_filtered (λ k. not (list_any (λ i. same_row i k) (keys_in those r))) (each_once same_row (flat_map (keys_in those) ds)))))
      ∙ append-nil (keys_in those r))
      ∙ map-map tuple (values_in ours those) r.points
      ∙ map_same (λ q. tuple (values_in ours those q)) (tuple_beside ours (r ∷ ds)) r.points (all_more (λ q. is_point (columns_of ours) q ≡ true) (λ q. tuple (values_in ours those q) ≡ tuple_beside ours (r ∷ ds) q) same_as_left r.points h.0.typed)
