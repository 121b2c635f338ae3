-- Joins grow by one operand.
use Rattle.std.proofs.Common.{◌≡◌, List, [], ◌∷◌, ◌++◌, Bool, true, false, not, ◌||◌, cond, map, Some, None, refl, sym, ap, ◌∙◌, true≢false}
use Rattle.std.specs.Prelude.{slice_get}
use Rattle.std.specs.List.{AllByRecursion, filter, flat_map, list_any}
use Rattle.std.specs.Option.{option_and_then}
use Rattle.std.proofs.lemmas.Grind.{flat_map-append}
use Rattle.std.proofs.lemmas.List.{append-nil, map-append}
use Rattle.std.proofs.lemmas.List.Folds.{flat_map-map, list_any-append}
use Rattle.vtl_lists.specs.Apart.{all_apart}
use Rattle.vtl_cell.specs.Row.{Row, same_key, same_row}
use Rattle.vtl_lists.proofs.Aparts.{apart_more, apart_parts}
use Rattle.vtl_lists.proofs.Alls.{all_more}
use Rattle.vtl_cell.proofs.Rows.{same_row-is, same_row-refl}
use Rattle.vtl_tree.specs.DataSet.{IsDataSet, is_point}
use Rattle.vtl_tree.specs.Environment.{DataSet}
use Rattle.vtl_tree.specs.Structure.{columns_of, key_width}
use Rattle.vtl_tree.specs.declared.structure.Component.{Component}
use Rattle.vtl_tree.specs.declared.structure.Structure.{Structure}
use Rattle.vtl_tuples.specs.Keys.{each_once, item_at}
use Rattle.vtl_tuples.specs.Tuples.{and_item, combinations, matched_with, matching}
use Rattle.vtl_tuples.proofs.Folds.{combinations_more, matching_more}
use Rattle.vtl_tuples.proofs.Lists.{filter-map, filter_each, flat_map_each, map-flat_map, map-map, map_each, map_same}
use Rattle.vtl_tuples.proofs.Onces.{among_once, once_already, once_more}
use Rattle.vtl_meaning.specs.Agreement.{OperandPoint, first_agreeing, key_of, operand_points, points_agree, values_in}
use Rattle.vtl_tree.specs.Columns.{identifiers_of}
use Rattle.vtl_meaning.specs.JoinWords.{alone, and_crossed, and_part, beside_part, cross_with, full_with, is_there, left_with, point_with}
use Rattle.vtl_meaning.specs.Joined.{Part, Tuple, agreeing, all_keys, cross_tuples, crossed, full_tuples, keys_in, left_tuples, part_of, present, tuple_at, tuple_beside}
use Rattle.vtl_meaning.specs.Made.{AreAmong}
use Rattle.vtl_meaning.proofs.JoinAgreements.{agreeing_own, covers, own_found, values_agree}
use Rattle.vtl_meaning.proofs.JoinKept.{key_at, keys_at}

pub agreeing_more : (ds : List DataSet) (d : DataSet) → agreeing (ds ++ d ∷ []) ≡ matched_with points_agree (agreeing ds) (operand_points d)
agreeing_more ds d = ap (matching points_agree) (map-append operand_points ds (d ∷ [])) ∙ matching_more points_agree (map operand_points ds) (operand_points d)

-- ---- `left_join`
pub left_more : (r : DataSet) (ds : List DataSet) (d : DataSet) → IsDataSet r.structure r.points → left_tuples r (r ∷ ds ++ d ∷ []) ≡ left_with (left_tuples r (r ∷ ds)) d
left_more r ds d h =
    let a = r.structure in
    let before : Row → Tuple = tuple_beside a (r ∷ ds) in
    let step : Tuple → Tuple = λ t. and_part t (part_of d (option_and_then (beside_part d) (slice_get t.parts 0))) in
    map_same (tuple_beside a (r ∷ ds ++ d ∷ [])) (λ q. step (before q)) r.points
    (all_more (λ q. first_agreeing a r q ≡ Some q) (λ q. tuple_beside a (r ∷ ds ++ d ∷ []) q ≡ step (before q)) more r.points (agreeing_own r h))
    ∙ sym (map-map step before r.points)
  where
    more : (q : Row) → first_agreeing r.structure r q ≡ Some q → tuple_beside r.structure (r ∷ ds ++ d ∷ []) q ≡ and_part (tuple_beside r.structure (r ∷ ds) q) (part_of d (option_and_then (first_agreeing r.structure d) (first_agreeing r.structure r q)))
    more q e =
        let a = r.structure in
        let part : DataSet → Part = λ x. part_of x (first_agreeing a x q) in
        ap (λ ps. record { identifiers = key_of a q; parts = ps }) (map-append part (r ∷ ds) (d ∷ []) ∙ ap (λ o. map part (r ∷ ds) ++ part_of d (option_and_then (first_agreeing a d) o) ∷ []) (sym e))

-- ---- `full_join`
-- no point has a key that is not among those of its operand
none_with : (ids : List Component) (e : DataSet) (k : Row) (d : List Row) → list_any (λ j. same_row j k) (map (values_in e.structure ids) d) ≡ false → item_at same_row (values_in e.structure ids) d k ≡ None
none_with ids e k [] h = refl
none_with ids e k (q ∷ d) h = go (same_row (values_in e.structure ids q) k) h (none_with ids e k d)
  where
    go : (b : Bool) → (b || list_any (λ j. same_row j k) (map (values_in e.structure ids) d)) ≡ false
        → (list_any (λ j. same_row j k) (map (values_in e.structure ids) d) ≡ false → item_at same_row (values_in e.structure ids) d k ≡ None) → cond b (Some q) (item_at same_row (values_in e.structure ids) d k) ≡ None
    go true h ih = absurd (true≢false h)
    go false h ih = ih h

all_missing : (ids : List Component) (ds : List DataSet) (k : Row) → list_any (λ j. same_row j k) (flat_map (keys_in ids) ds) ≡ false → map (λ e. part_of e (point_with ids e k)) ds ≡ map (λ e. part_of e None) ds
all_missing ids [] k h = refl
all_missing ids (d ∷ ds) k h =
    let apart = neither (list_any (λ j. same_row j k) (keys_in ids d)) (list_any (λ j. same_row j k) (flat_map (keys_in ids) ds)) (sym (list_any-append (λ j. same_row j k) (keys_in ids d) (flat_map (keys_in ids) ds)) ∙ h) in
    ap (λ o. part_of d o ∷ map (λ e. part_of e (point_with ids e k)) ds) (none_with ids d k d.points apart.0) ∙ ap (λ l. part_of d None ∷ l) (all_missing ids ds k apart.1)
  where
    neither : (a b : Bool) → (a || b) ≡ false → (a ≡ false) × (b ≡ false)
    neither true b e = absurd (true≢false e)
    neither false b e = (refl, e)

-- an operand whose identifiers are all asked for has each tuple of values once
keys_apart : (a : Structure) (d : DataSet) → IsDataSet d.structure d.points → AreAmong (identifiers_of d.structure) (identifiers_of a) → all_apart same_row (keys_in (identifiers_of a) d) ≡ true
keys_apart a d h within = go d.points h.typed h.distinct
  where
    b : Structure
    b = d.structure

    P : Row → Type 0
    P q = is_point (columns_of b) q ≡ true

    one : (q t : Row) → P q → P t → (c : Bool) → same_row (values_in b (identifiers_of a) q) (values_in b (identifiers_of a) t) ≡ c → same_key (key_width b) q t ≡ false → c ≡ false
    one q t i j true e f = absurd (true≢false (sym (values_agree a b q t h.well_formed (covers a b within) i j (same_row-is (values_in b (identifiers_of a) q) (values_in b (identifiers_of a) t) e)) ∙ f))
    one q t i j false e f = refl

    later : (q : Row) (l : List Row) → P q → AllByRecursion P l → AllByRecursion (λ t. same_key (key_width b) q t ≡ false) l → AllByRecursion (λ k. same_row (values_in b (identifiers_of a) q) k ≡ false) (map (values_in b (identifiers_of a)) l)
    later q [] i all apart = tt
    later q (t ∷ l) i all apart = (one q t i all.0 (same_row (values_in b (identifiers_of a) q) (values_in b (identifiers_of a) t)) refl apart.0, later q l i all.1 apart.1)

    go : (l : List Row) → AllByRecursion P l → all_apart (same_key (key_width b)) l ≡ true → all_apart same_row (map (values_in b (identifiers_of a)) l) ≡ true
    go [] all e = refl
    go (q ∷ l) all e =
        let parts = apart_parts (same_key (key_width b)) q l e in
        apart_more same_row (values_in b (identifiers_of a) q) (map (values_in b (identifiers_of a)) l) (later q l all.0 all.1 parts.0) (go l all.1 parts.1)

-- and finds each of its points by these values
pub own_with : (a : Structure) (d : DataSet) → IsDataSet d.structure d.points → AreAmong (identifiers_of d.structure) (identifiers_of a) → AllByRecursion (λ q. point_with (identifiers_of a) d (values_in d.structure (identifiers_of a) q) ≡ Some q) d.points
own_with a d h within =
    let b = d.structure in
    let key : Row → Row = values_in b (identifiers_of a) in
    own_found (λ q. is_point (columns_of b) q ≡ true) (same_key (key_width b)) (λ x y. same_row (key y) (key x)) (λ q i. same_row-refl (key q))
    (λ q t i j e. values_agree a b q t h.well_formed (covers a b within) i j (same_row-is (key q) (key t) e)) d.points h.typed h.distinct

pub alike_rows : (i j k : Row) → same_row k i ≡ true → same_row k j ≡ same_row i j
alike_rows i j k e = ap (λ z. same_row z j) (same_row-is k i e)

-- the identifiers of the tuples are the keys
any_there : (ids : List Component) (ds : List DataSet) (d : DataSet) (q : Row) → is_there ids (map (tuple_at ids ds) (all_keys ids ds)) d q ≡ list_any (λ k. same_row k (values_in d.structure ids q)) (flat_map (keys_in ids) ds)
any_there ids ds d q = go (all_keys ids ds) ∙ among_once same_row alike_rows (flat_map (keys_in ids) ds) (values_in d.structure ids q)
  where
    go : (ks : List Row) → is_there ids (map (tuple_at ids ds) ks) d q ≡ list_any (λ k. same_row k (values_in d.structure ids q)) ks
    go [] = refl
    go (k ∷ ks) = ap (λ b. same_row k (values_in d.structure ids q) || b) (go ks)

module _ (ids : List Component) (ds : List DataSet) (d : DataSet) where
  abbrev key : Row → Row
  key = values_in d.structure ids

  abbrev old_keys : List Row
  old_keys = flat_map (keys_in ids) ds

  abbrev is_new : Row → Bool
  is_new q = not (list_any (λ k. same_row k (key q)) old_keys)

  -- the new keys stand behind the old ones
  keys_more : all_apart same_row (keys_in ids d) ≡ true → all_keys ids (ds ++ d ∷ []) ≡ all_keys ids ds ++ map key (filter is_new d.points)
  keys_more apart =
      ap (each_once same_row) (flat_map-append (keys_in ids) ds (d ∷ []) ∙ ap (λ l. old_keys ++ l) (append-nil (keys_in ids d)))
      ∙ once_more same_row old_keys (keys_in ids d)
      ∙ ap (λ l. each_once same_row old_keys ++ filter (λ j. not (list_any (λ k. same_row k j) old_keys)) l) (once_already same_row (keys_in ids d) apart)
      ∙ ap (λ l. each_once same_row old_keys ++ l) (filter-map (λ j. not (list_any (λ k. same_row k j) old_keys)) key d.points)

  at_old : (k : Row) → tuple_at ids (ds ++ d ∷ []) k ≡ and_part (tuple_at ids ds k) (part_of d (point_with ids d k))
  at_old k = ap (λ ps. record { identifiers = k; parts = ps }) (map-append (λ e. part_of e (point_with ids e k)) ds (d ∷ []))

  at_new : (q : Row) → point_with ids d (key q) ≡ Some q → is_new q ≡ true → tuple_at ids (ds ++ d ∷ []) (key q) ≡ alone ids ds d q
  at_new q own new =
      at_old (key q)
      ∙ ap (λ ps. record { identifiers = key q; parts = ps ++ part_of d (point_with ids d (key q)) ∷ [] }) (all_missing ids ds (key q) (negative (list_any (λ k. same_row k (key q)) old_keys) new))
      ∙ ap (λ o. record { identifiers = key q; parts = map (λ e. part_of e None) ds ++ part_of d o ∷ [] }) own
    where
      negative : (b : Bool) → not b ≡ true → b ≡ false
      negative true e = sym e
      negative false e = refl

  all_new : (l : List Row) → AllByRecursion (λ q. point_with ids d (key q) ≡ Some q) l → AllByRecursion (λ q. tuple_at ids (ds ++ d ∷ []) (key q) ≡ alone ids ds d q) (filter is_new l)
  all_new [] own = tt
  all_new (q ∷ l) own = go (is_new q) refl (all_new l own.1)
    where
      go : (b : Bool) → is_new q ≡ b → AllByRecursion (λ q. tuple_at ids (ds ++ d ∷ []) (key q) ≡ alone ids ds d q) (filter is_new l) → AllByRecursion (λ q. tuple_at ids (ds ++ d ∷ []) (key q) ≡ alone ids ds d q) (cond b (q ∷ filter is_new l) (filter is_new l))
      go true e ih = (at_new q own.0 e, ih)
      go false e ih = ih

  tuples_more : all_apart same_row (keys_in ids d) ≡ true → AllByRecursion (λ q. point_with ids d (key q) ≡ Some q) d.points → map (tuple_at ids (ds ++ d ∷ [])) (all_keys ids (ds ++ d ∷ [])) ≡ full_with ids ds (map (tuple_at ids ds) (all_keys ids ds)) d
  tuples_more apart own =
      let T : Row → Tuple = tuple_at ids (ds ++ d ∷ []) in
      let old : Tuple → Tuple = λ t. and_part t (part_of d (point_with ids d t.identifiers)) in
      let ts = map (tuple_at ids ds) (all_keys ids ds) in
      ap (map T) (keys_more apart) ∙ map-append T (all_keys ids ds) (map key (filter is_new d.points))
      ∙ ap (λ l. l ++ map T (map key (filter is_new d.points))) (map_each T (λ k. old (tuple_at ids ds k)) at_old (all_keys ids ds) ∙ sym (map-map old (tuple_at ids ds) (all_keys ids ds)))
      ∙ ap (λ l. map old ts ++ l)
      (map-map T key (filter is_new d.points) ∙ map_same (λ q. T (key q)) (alone ids ds d) (filter is_new d.points) (all_new d.points own)
      ∙ ap (map (alone ids ds d)) (filter_each is_new (λ q. not (is_there ids ts d q)) (λ q. ap not (sym (any_there ids ds d q))) d.points))

pub full_more : (r : DataSet) (ds : List DataSet) (d : DataSet) → IsDataSet d.structure d.points → AreAmong (identifiers_of d.structure) (identifiers_of r.structure)
    → full_tuples r (ds ++ d ∷ []) ≡ full_with (identifiers_of r.structure) ds (full_tuples r ds) d
full_more r ds d h within = tuples_more (identifiers_of r.structure) ds d (keys_apart r.structure d h within) (own_with r.structure d h within)

-- ---- `cross_join`
keys_append : (t u : List OperandPoint) → keys_at (t ++ u) ≡ keys_at t ++ keys_at u
keys_append t u = flat_map-append key_at t u

pub cross_more : (ds : List DataSet) (d : DataSet) → cross_tuples (ds ++ d ∷ []) ≡ cross_with (cross_tuples ds) d
cross_more ds d =
    let C = combinations (map operand_points ds) in
    let xs = operand_points d in
    ap (λ l. map crossed (combinations l)) (map-append operand_points ds (d ∷ [])) ∙ ap (map crossed) (combinations_more (map operand_points ds) xs)
    ∙ map-flat_map crossed (λ t. map (and_item t) xs) C
    ∙ flat_map_each (λ t. map crossed (map (and_item t) xs)) (λ t. map (and_crossed (crossed t)) xs) (λ t. map-map crossed (and_item t) xs ∙ map_each (λ x. crossed (and_item t x)) (and_crossed (crossed t)) (one t) xs) C
    ∙ sym (flat_map-map (λ t. map (and_crossed t) xs) crossed C)
  where
    one : (t : List OperandPoint) (x : OperandPoint) → crossed (and_item t x) ≡ and_crossed (crossed t) x
    one t x =
        ap (λ k. record { identifiers = k; parts = map present (t ++ x ∷ []) }) (keys_append t (x ∷ []) ∙ ap (λ l. keys_at t ++ l) (append-nil (key_at x)))
        ∙ ap (λ ps. record { identifiers = keys_at t ++ key_at x; parts = ps }) (map-append present t (x ∷ []))
