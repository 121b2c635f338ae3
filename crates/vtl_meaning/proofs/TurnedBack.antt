-- `pivot` undoes `unpivot`.
use Rattle.std.specs.List.{AllByRecursion, filter, flat_map}
use Rattle.std.specs.Option.{option_and_then, option_map_or, option_to_list}
use Rattle.std.proofs.Common.{◌≡◌, ℕ, ◌+◌, ◌<◌, Bool, true, false, not, cond, ◌&&◌, ◌||◌, List, [], ◌∷◌, ◌++◌, map, length, take, Some, None, refl, sym, ap, ◌∙◌, subst, arith, append_assoc, length-append, ◌≤◌}
use Rattle.std.proofs.lemmas.List.{append-nil, length-take-le, map-append}
use Rattle.std.proofs.lemmas.List.Elements.{filter-append}
use Rattle.std.proofs.Math.Seq.{take-append_seam}
use Rattle.vtl_lists.specs.Apart.{all_apart}
use Rattle.vtl_cell.specs.Kinds.{is_null}
use Rattle.vtl_cell.specs.Row.{Row, column_of, same_row}
use Rattle.vtl_cell.specs.declared.cell.Cell.{Cell}
use Rattle.vtl_cell.specs.declared.cell.Cell.TheVariants as c
use Rattle.vtl_lists.proofs.Aparts.{apart_parts}
use Rattle.vtl_lists.proofs.Alls.{all_back, all_both, all_filtered, all_more}
use Rattle.vtl_lists.proofs.Filters.{filter_all}
use Rattle.vtl_cell.proofs.Rows.{same_row-refl}
use Rattle.vtl_rows.specs.Tables.{cells_at}
use Rattle.vtl_tree.specs.DataSet.{IsDataSet, is_point, look}
use Rattle.vtl_tree.specs.Environment.{DataSet}
use Rattle.vtl_tree.specs.Structure.{IsStructure, columns_of, key_width, names_of, same_name, same_role}
use Rattle.vtl_tree.specs.declared.structure.Component.{Component}
use Rattle.vtl_tree.specs.declared.structure.Role.{Role}
use Rattle.vtl_tree.specs.declared.structure.Role.TheVariants as role
use Rattle.vtl_tree.specs.declared.structure.Structure.{Structure}
use Rattle.vtl_tuples.specs.Keys.{each_once}
use Rattle.vtl_tuples.proofs.Lists.{filter_each, flat_map_same, map-flat_map, map-map, map_same}
use Rattle.vtl_tree.specs.Choices.{is_chosen, is_identifier}
use Rattle.vtl_tree.specs.ClauseShapes.{first_kind, names_column}
use Rattle.vtl_tree.specs.Measures.{made}
use Rattle.vtl_tree.specs.Names.{component_of, is_among}
use Rattle.vtl_tree.specs.declared.choices.Choice.TheVariants as choice
use Rattle.vtl_meaning.specs.Agreement.{values_in}
use Rattle.vtl_tree.specs.Columns.{identifiers_of, measures_of, place_of, places_in}
use Rattle.vtl_tree.proofs.NotNullLemmas.{same_itself}
use Rattle.vtl_meaning.specs.LookUps.{value_named, values_named}
use Rattle.vtl_meaning.specs.Made.{IsColumnAt, IsUnpivoted}
use Rattle.vtl_meaning.specs.Points.{with_points}
use Rattle.vtl_meaning.specs.Turned.{coded_value, codes_of, named_point, other_identifiers, pivot_of, pivoted_point, unpivoted_points}
use Rattle.vtl_meaning.proofs.JoinKept.{apart_map}
use Rattle.vtl_meaning.proofs.Kept.{cells_append, column_within}
use Rattle.vtl_meaning.proofs.LookUps.{named_cells}
use Rattle.vtl_meaning.proofs.OwnColumns.{own_identifiers}
use Rattle.vtl_meaning.proofs.Places.{IsIdentifier, are_identifiers, first_cells, identifier_role, identifiers_apart, key_cells, key_within, place_here, place_later, same_name-sym}
use Rattle.vtl_meaning.proofs.SetsFolds.{each_own, own_cells}
use Rattle.vtl_meaning.proofs.TurnedKept.{here_is, points_here, unpivoted_kept}
use Rattle.vtl_meaning.proofs.TurnedLooks.{coded_look, measure_names, unpivoted_look}
use Rattle.vtl_meaning.proofs.JoinLooks.{look_own}

-- ---- each item many times
module _ {X K : Type 0} (same : K → K → Bool) (self : (k : K) → same k k ≡ true) (key : X → K) where
  -- an item that comes again adds nothing
  again_nothing : {Y : Type 0} (k : K) (ys : List Y) (l : List K) → filter (λ j. not (same k j)) (each_once same (map (λ y. k) ys ++ l)) ≡ filter (λ j. not (same k j)) (each_once same l)
  again_nothing k [] l = refl
  again_nothing k (y ∷ ys) l =
      let other : K → Bool = λ j. not (same k j) in
      let rest = each_once same (map (λ z. k) ys ++ l) in
      ap (λ b. cond (not b) (k ∷ filter other (filter other rest)) (filter other (filter other rest))) (self k)
      ∙ filter_all other (filter other rest) (all_filtered other rest) ∙ again_nothing k ys l

  pub once_of_many : {Y : Type 0} (y : Y) (ys : List Y) (xs : List X) → all_apart same (map key xs) ≡ true → each_once same (flat_map (λ x. map (λ z. key x) (y ∷ ys)) xs) ≡ map key xs
  once_of_many y ys [] e = refl
  once_of_many y ys (x ∷ xs) e =
      let other : K → Bool = λ j. not (same (key x) j) in
      let parts = apart_parts same (key x) (map key xs) e in
      ap (λ l. key x ∷ l)
      (again_nothing (key x) ys (flat_map (λ t. map (λ z. key t) (y ∷ ys)) xs) ∙ ap (filter other) (once_of_many y ys xs parts.1)
      ∙ filter_all other (map key xs) (all_more (λ j. same (key x) j ≡ false) (λ j. other j ≡ true) (λ j f. ap not f) (map key xs) parts.0))

-- ---- columns behind others
value_past : (xs ys : List Component) (k r : Row) (name : List ℕ) → length k ≡ length xs → AllByRecursion (λ n. same_name n name ≡ false) (names_of xs) → value_named (xs ++ ys) (k ++ r) name ≡ value_named ys r name
value_past [] ys [] r name e all = refl
value_past [] ys (v ∷ k) r name e all = absurd (omega (arith, e))
value_past (x ∷ xs) ys [] r name e all = absurd (omega (arith, e))
value_past (x ∷ xs) ys (v ∷ k) r name e all = ap (λ n. column_of n (v ∷ k ++ r)) (place_later name x (xs ++ ys) all.0) ∙ value_past xs ys k r name (omega (arith, e)) all.1

-- the names before one that is apart from all
before_differ : (xs : List (List ℕ)) (name : List ℕ) (ys : List (List ℕ)) → all_apart same_name (xs ++ name ∷ ys) ≡ true → AllByRecursion (λ n. same_name n name ≡ false) xs
before_differ [] name ys e = tt
before_differ (n ∷ xs) name ys e =
    let parts = apart_parts same_name n (xs ++ name ∷ ys) e in
    ((all_back (λ j. same_name n j ≡ false) xs (name ∷ ys) parts.0).0, before_differ xs name ys parts.1)

named_behind : (name : List ℕ) (xs ys : List Component) → AllByRecursion (λ n. same_name n name ≡ false) (names_of xs) → component_of name (xs ++ ys) ≡ component_of name ys
named_behind name [] ys all = refl
named_behind name (x ∷ xs) ys all = ap (λ b. cond b (Some x) (component_of name (xs ++ ys))) all.0 ∙ named_behind name xs ys all.1

-- ---- the structure of an unpivoted set
all_chosen : (xs : List Component) → filter (is_chosen choice.Except []) xs ≡ filter is_identifier xs
all_chosen xs = filter_each (is_chosen choice.Except []) is_identifier (λ x. plain (is_identifier x)) xs
  where
    plain : (b : Bool) → (b && true) ≡ b
    plain true = refl
    plain false = refl

by_role : (t r : Role) (xs : List Component) → AllByRecursion IsIdentifier xs → same_role role.Identifier r ≡ false → filter (λ x. same_role x.role r) xs ≡ []
by_role t r [] all e = refl
by_role t r (x ∷ xs) all e = ap (λ z. cond (same_role z r) (x ∷ filter (λ y. same_role y.role r) xs) (filter (λ y. same_role y.role r) xs)) (identifier_role x.role all.0) ∙ ap (λ b. cond b (x ∷ filter (λ y. same_role y.role r) xs) (filter (λ y. same_role y.role r) xs)) e ∙ by_role t r xs all.1 e

module _ (id m : List ℕ) (a s : Structure) (i : IsUnpivoted id m a s) (w : IsStructure a) where
  abbrev ids : List Component
  ids = identifiers_of a

  -- the names of the measures, and their values
  abbrev names : Component
  names = names_column id (measures_of a)

  abbrev values : Component
  values = made m role.Measure (first_kind (measures_of a))

  components : s.components ≡ ids ++ names ∷ values ∷ []
  components = i.shape ∙ ap (λ l. l ++ names ∷ values ∷ []) (all_chosen a.components)

  names_apart : all_apart same_name (names_of ids ++ id ∷ m ∷ []) ≡ true
  names_apart = ap (all_apart same_name) (sym (map-append (λ x. x.name) ids (names ∷ values ∷ []))) ∙ ap (λ l. all_apart same_name (names_of l)) (sym components) ∙ i.well_formed.distinct

  before_id : AllByRecursion (λ n. same_name n id ≡ false) (names_of ids)
  before_id = before_differ (names_of ids) id (m ∷ []) names_apart

  before_m : AllByRecursion (λ n. same_name n m ≡ false) (names_of ids ++ id ∷ [])
  before_m = before_differ (names_of ids ++ id ∷ []) m [] (subst (λ l. all_apart same_name l ≡ true) (sym (append_assoc (names_of ids) (id ∷ []) (m ∷ []))) names_apart)

  columns : columns_of s ≡ ids ++ names ∷ values ∷ []
  columns =
      ap (λ xs. filter is_identifier xs ++ filter (λ x. same_role x.role role.Measure) xs ++ filter (λ x. same_role x.role role.Attribute) xs) components
      ∙ ap (λ l. l ++ filter (λ x. same_role x.role role.Measure) (ids ++ names ∷ values ∷ []) ++ filter (λ x. same_role x.role role.Attribute) (ids ++ names ∷ values ∷ [])) own
      ∙ ap (λ l. (ids ++ names ∷ []) ++ l ++ filter (λ x. same_role x.role role.Attribute) (ids ++ names ∷ values ∷ [])) measure
      ∙ ap (λ l. (ids ++ names ∷ []) ++ (values ∷ []) ++ l) attribute
      ∙ append-nil ((ids ++ names ∷ []) ++ (values ∷ [])) ∙ append_assoc ids (names ∷ []) (values ∷ [])
    where
      of : Role → List Component → List Component
      of r xs = filter (λ x. same_role x.role r) xs

      own : filter is_identifier (ids ++ names ∷ values ∷ []) ≡ ids ++ names ∷ []
      own = filter-append is_identifier ids (names ∷ values ∷ []) ∙ ap (λ l. l ++ names ∷ []) (filter_all is_identifier ids (are_identifiers a))

      measure : filter (λ x. same_role x.role role.Measure) (ids ++ names ∷ values ∷ []) ≡ values ∷ []
      measure = filter-append (λ x. same_role x.role role.Measure) ids (names ∷ values ∷ []) ∙ ap (λ l. l ++ values ∷ []) (by_role role.Measure role.Measure ids (are_identifiers a) refl)

      attribute : filter (λ x. same_role x.role role.Attribute) (ids ++ names ∷ values ∷ []) ≡ []
      attribute = filter-append (λ x. same_role x.role role.Attribute) ids (names ∷ values ∷ []) ∙ ap (λ l. l ++ []) (by_role role.Attribute role.Attribute ids (are_identifiers a) refl)

  identifiers : identifiers_of s ≡ ids ++ names ∷ []
  identifiers = ap (filter is_identifier) components ∙ filter-append is_identifier ids (names ∷ values ∷ []) ∙ ap (λ l. l ++ names ∷ []) (filter_all is_identifier ids (are_identifiers a))

  others : other_identifiers id s ≡ ids
  others =
      ap (filter p) components ∙ filter-append p ids (names ∷ values ∷ []) ∙ ap (λ l. l ++ filter p (names ∷ values ∷ [])) (filter_all p ids (kept ids (are_identifiers a) before_id))
      ∙ ap (λ b. ids ++ cond (not (b || false)) (names ∷ []) []) (same_itself id) ∙ append-nil ids
    where
      p : Component → Bool
      p = is_chosen choice.Except (id ∷ [])

      kept : (xs : List Component) → AllByRecursion IsIdentifier xs → AllByRecursion (λ n. same_name n id ≡ false) (names_of xs) → AllByRecursion (λ x. p x ≡ true) xs
      kept [] all h = tt
      kept (x ∷ xs) all h = (ap (λ b. b && not (same_name id x.name || false)) all.0 ∙ ap (λ b. not (b || false)) (same_name-sym id x.name ∙ h.0), kept xs all.1 h.1)

  codes : codes_of id s ≡ names_of (measures_of a)
  codes =
      ap (λ xs. option_map_or (λ texts. texts) (option_and_then (λ x. x.codes) (component_of id xs)) []) components
      ∙ ap (λ o. option_map_or (λ texts. texts) (option_and_then (λ x. x.codes) o) []) (named_behind id ids (names ∷ values ∷ []) before_id ∙ ap (λ b. cond b (Some names) (component_of id (values ∷ []))) (same_itself id))

  -- ---- the points of a row
  abbrev key_at : Row → Row
  key_at r = take (key_width a) r

  key_length : (r : Row) → is_point (columns_of a) r ≡ true → length (key_at r) ≡ length ids
  key_length r h = length-take-le (key_width a) r (key_within a r h)

  -- the identifiers that were there, and the value
  own_key : (r : Row) (q : Row) → is_point (columns_of a) r ≡ true → values_in s ids (key_at r ++ q) ≡ key_at r
  own_key r q h =
      let len = key_length r h in
      let both = length-append (key_at r) q in
      ap (λ xs. values_named xs ids (key_at r ++ q)) columns ∙ sym (named_cells (ids ++ names ∷ values ∷ []) ids (key_at r ++ q))
      ∙ first_cells ids (names ∷ values ∷ []) (key_at r ++ q) (identifiers_apart a w) (omega (arith, len, both))
      ∙ ap (λ n. take n (key_at r ++ q)) (sym len) ∙ take-append_seam (key_at r) q

  own_value : (r : Row) (n : List ℕ) (v : Cell) → is_point (columns_of a) r ≡ true → value_named (columns_of s) (key_at r ++ c.Text n ∷ v ∷ []) m ≡ v
  own_value r n v h =
      let before : AllByRecursion (λ j. same_name j m ≡ false) (names_of (ids ++ names ∷ [])) = subst (AllByRecursion (λ j. same_name j m ≡ false)) (sym (map-append (λ x. x.name) ids (names ∷ []))) before_m in
      let len : length (key_at r ++ c.Text n ∷ []) ≡ length (ids ++ names ∷ []) = length-append (key_at r) (c.Text n ∷ []) ∙ ap (λ z. z + 1) (key_length r h) ∙ sym (length-append ids (names ∷ [])) in
      ap (λ xs. value_named xs (key_at r ++ c.Text n ∷ v ∷ []) m) (columns ∙ sym (append_assoc ids (names ∷ []) (values ∷ [])))
      ∙ ap (λ q. value_named ((ids ++ names ∷ []) ++ values ∷ []) q m) (sym (append_assoc (key_at r) (c.Text n ∷ []) (v ∷ [])))
      ∙ value_past (ids ++ names ∷ []) (values ∷ []) (key_at r ++ c.Text n ∷ []) (v ∷ []) m len before
      ∙ ap (λ z. column_of z (v ∷ [])) (place_here m values [] (same_itself m))

  within : place_of id (identifiers_of s) < length (identifiers_of s)
  within =
      let P : Component → Type 0 = λ y. IsColumnAt (place_of y.name (identifiers_of s)) y.name y.kind (identifiers_of s) in
      column_within (place_of id (identifiers_of s)) id names.kind (identifiers_of s) (all_back P ids (names ∷ []) (subst (AllByRecursion P) identifiers (own_identifiers s i.well_formed))).0

  module _ (d : List Row) (h : IsDataSet a d) where
    abbrev turned : DataSet
    turned = with_points s (flat_map (unpivoted_points a) d)

    -- no measure is null at a row
    abbrev pub IsFilled : Row → Type 0
    IsFilled r = AllByRecursion (λ x. is_null (value_named (columns_of a) r x.name) ≡ false) (measures_of a)

    -- the value at the name of a measure
    value_at : (r : Row) (x : Component) → is_point (columns_of a) r ≡ true → look (key_width a) d (key_at r) ≡ Some r → is_among x.name (names_of (measures_of a)) ≡ true → is_null (value_named (columns_of a) r x.name) ≡ false
        → coded_value turned id m (key_at r) x.name ≡ value_named (columns_of a) r x.name
    value_at r x t found among filled =
        let v = value_named (columns_of a) r x.name in
        let j = key_at r ++ c.Text x.name ∷ [] in
        let len : length j ≡ key_width s = length-append (key_at r) (c.Text x.name ∷ []) ∙ ap (λ z. z + 1) (key_length r t) ∙ sym (length-append ids (names ∷ [])) ∙ ap length (sym identifiers) in
        let has : value_named (identifiers_of s) j id ≡ c.Text x.name =
        ap (λ xs. value_named xs j id) identifiers ∙ value_past ids (names ∷ []) (key_at r) (c.Text x.name ∷ []) id (key_length r t) before_id ∙ ap (λ z. column_of z (c.Text x.name ∷ [])) (place_here id names [] (same_itself id)) in
        let both = length-append (key_at r) (c.Text x.name ∷ []) in
        let few = key_length r t in
        let key : values_named (identifiers_of s) (other_identifiers id s) j ≡ key_at r =
        ap (λ ys. values_named (identifiers_of s) ys j) others ∙ ap (λ xs. values_named xs ids j) identifiers
        ∙ sym (named_cells (ids ++ names ∷ []) ids j) ∙ first_cells ids (names ∷ []) j (identifiers_apart a w) (omega (arith, few, both)) ∙ ap (λ n. take n j) (sym few) ∙ take-append_seam (key_at r) (c.Text x.name ∷ []) in
        ap (λ k. coded_value turned id m k x.name) (sym key)
        ∙ coded_look id m turned within (unpivoted_kept id m a s i w d h) x.name j len has
        ∙ ap (λ o. option_map_or (λ q. value_named (columns_of s) q m) o c.Null) (unpivoted_look id m a s i w d h (key_at r) x.name among ∙ ap (option_and_then (λ q. named_point a q x.name (value_named (columns_of a) q x.name))) found ∙ ap (λ b. cond b None (Some (key_at r ++ c.Text x.name ∷ v ∷ []))) filled)
        ∙ own_value r x.name v t

    -- the points of a filled row have its key
    row_keys : (r : Row) → is_point (columns_of a) r ≡ true → (xs : List Component) → AllByRecursion (λ x. is_null (value_named (columns_of a) r x.name) ≡ false) xs → map (values_in s ids) (flat_map (points_here id m a s i w r) xs) ≡ map (λ x. key_at r) xs
    row_keys r t [] all = refl
    row_keys r t (x ∷ xs) all =
        let v = value_named (columns_of a) r x.name in
        let point = key_at r ++ c.Text x.name ∷ v ∷ [] in
        let rest = flat_map (points_here id m a s i w r) xs in
        ap (λ b. map (values_in s ids) (option_to_list (cond b None (Some point)) ++ rest)) all.0
        ∙ ap (λ k. k ∷ map (values_in s ids) rest) (own_key r (c.Text x.name ∷ v ∷ []) t) ∙ ap (λ l. key_at r ∷ l) (row_keys r t xs all.1)

    module _ (some : 1 ≤ length (measures_of a)) (filled : AllByRecursion IsFilled d) where
      keys : each_once same_row (map (values_in s (other_identifiers id s)) (flat_map (unpivoted_points a) d)) ≡ map key_at d
      keys =
          let P : Row → Type 0 = λ r. map (values_in s ids) (unpivoted_points a r) ≡ map (λ x. key_at r) (measures_of a) in
          let rows : AllByRecursion P d = all_both (λ r. is_point (columns_of a) r ≡ true) IsFilled P (λ r t f. ap (map (values_in s ids)) (here_is id m a s i w r) ∙ row_keys r t (measures_of a) f) d h.typed filled in
          ap (λ ys. each_once same_row (map (values_in s ys) (flat_map (unpivoted_points a) d))) others
          ∙ ap (each_once same_row) (map-flat_map (values_in s ids) (unpivoted_points a) d ∙ flat_map_same (λ r. map (values_in s ids) (unpivoted_points a r)) (λ r. map (λ x. key_at r) (measures_of a)) d rows)
          ∙ once (measures_of a) some
        where
          once : (ys : List Component) → 1 ≤ length ys → each_once same_row (flat_map (λ r. map (λ x. key_at r) ys) d) ≡ map key_at d
          once [] few = absurd (omega (arith, few))
          once (y ∷ ys) few = once_of_many same_row same_row-refl key_at y ys d (apart_map key_at same_row d ∙ h.distinct)

      pub pivoted_back : pivot_of turned id m ≡ map (λ r. key_at r ++ values_in a (measures_of a) r) d
      pivoted_back =
          let f = pivoted_point turned id m in
          let g : Row → Row = λ r. key_at r ++ values_in a (measures_of a) r in
          let Found : Row → Type 0 = λ r. look (key_width a) d (key_at r) ≡ Some r in
          let Known : Row → Type 0 = λ r. (is_point (columns_of a) r ≡ true) × Found r in
          ap (map f) keys ∙ map-map f key_at d
          ∙ map_same (λ r. f (key_at r)) g d
          (all_both Known IsFilled (λ r. f (key_at r) ≡ g r) (λ r t filled. values_back r t.0 t.1 filled) d (all_both (λ r. is_point (columns_of a) r ≡ true) Found Known (λ r t u. (t, u)) d h.typed (look_own (key_width a) d h.distinct)) filled)
        where
          values_back : (r : Row) → is_point (columns_of a) r ≡ true → look (key_width a) d (key_at r) ≡ Some r → IsFilled r → pivoted_point turned id m (key_at r) ≡ key_at r ++ values_in a (measures_of a) r
          values_back r t found all =
              let code : List ℕ → Cell = coded_value turned id m (key_at r) in
              ap (λ ns. key_at r ++ map code ns) codes
              ∙ ap (λ vs. key_at r ++ vs)
              (map-map code (λ x. x.name) (measures_of a)
              ∙ map_same (λ x. code x.name) (λ x. value_named (columns_of a) r x.name) (measures_of a)
              (all_both (λ x. is_among x.name (names_of (measures_of a)) ≡ true) (λ x. is_null (value_named (columns_of a) r x.name) ≡ false) (λ x. code x.name ≡ value_named (columns_of a) r x.name)
              (λ x among f. value_at r x t found among f) (measures_of a) (measure_names id m a s i w) all))

-- where there are no attributes, these are the points
pub whole_points : (a : Structure) (d : List Row) → columns_of a ≡ identifiers_of a ++ measures_of a → IsDataSet a d → map (λ r. take (key_width a) r ++ values_in a (measures_of a) r) d ≡ d
whole_points a d n h = each_own f d (all_more (λ r. is_point (columns_of a) r ≡ true) (λ r. f r ≡ r) whole d h.typed)
  where
    f : Row → Row
    f r = take (key_width a) r ++ values_in a (measures_of a) r

    whole : (r : Row) → is_point (columns_of a) r ≡ true → f r ≡ r
    whole r w =
        let xs = columns_of a in
        ap (λ k. k ++ values_in a (measures_of a) r) (sym (key_cells a a r h.well_formed (refl, refl) (key_within a r w)))
        ∙ ap (λ vs. cells_at (places_in xs (identifiers_of a)) r ++ vs) (sym (named_cells xs (measures_of a) r))
        ∙ sym (cells_append xs (identifiers_of a) (measures_of a) r) ∙ ap (λ ys. cells_at (places_in xs ys) r) (sym n) ∙ own_cells a r h.well_formed w
