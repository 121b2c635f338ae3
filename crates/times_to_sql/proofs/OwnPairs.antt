-- A data set beside a table of the same identifiers that was made of its points: each point stands beside its own row.
use Rattle.std.proofs.Common.{◌≡◌, ℕ, suc, ◌+◌, ◌<◌, Bool, true, false, ◌||◌, cond, List, [], ◌∷◌, ◌++◌, length, map, take, Ok, Some, None, refl, sym, ap, ◌∙◌, subst, true≢false, arith}
use Rattle.std.specs.Prelude.{option_map}
use Rattle.std.specs.List.{AllByRecursion, filter, flat_map, list_any}
use Rattle.std.specs.Option.{option_to_list}
use Rattle.std.proofs.lemmas.List.{append-nil, get_or-append-add, get_or_append_left, length-map, map-append}
use Rattle.std.proofs.Math.Seq.{take-append_seam}
use Rattle.std.proofs.lemmas.List.Elements.{filter-append}
use Rattle.vtl_lists.specs.Apart.{all_apart}
use Rattle.vtl_lists.specs.Perm.{Perm}
use Rattle.vtl_lists.proofs.Aparts.{all_apart-Perm, apart_parts, list_any-Perm}
use Rattle.vtl_lists.proofs.Perms.{AllByRecursion-Perm, Perm-sym}
use Rattle.vtl_lists.proofs.Alls.{all_append, all_back, all_filtered, all_front, all_more}
use Rattle.vtl_lists.proofs.Filters.{filter_all, filter_none}
use Rattle.vtl_cell.specs.AggregateKinds.{is_number}
use Rattle.vtl_cell.specs.Outcome.{Outcome, fault_in, faults_by, join, unless}
use Rattle.vtl_cell.specs.Row.{Row, column_of, same_key, same_row}
use Rattle.vtl_cell.specs.declared.cell.Cell.{Cell}
use Rattle.vtl_cell.specs.declared.cell.Cell.TheVariants as c
use Rattle.vtl_cell.proofs.Rows.{same_key-sym, same_row-is, same_row-refl}
use Rattle.vtl_decimal.specs.Settings.{Settings}
use Rattle.vtl_rows.specs.Tables.{cells_at}
use Rattle.vtl_tree.specs.Choices.{is_identifier}
use Rattle.vtl_tree.specs.Columns.{columns_named, identifiers_of, measures_of, others_of, place_of, places_in}
use Rattle.vtl_tree.specs.CompExp.{CompExp}
use Rattle.vtl_tree.specs.DataSet.{IsDataSet, is_point, look}
use Rattle.vtl_tree.specs.Measures.{given_measure, is_measure, measures}
use Rattle.vtl_tree.specs.Names.{component_of}
use Rattle.vtl_tree.specs.Structure.{IsStructure, columns_of, key_width, of_role, same_name, same_role}
use Rattle.vtl_tree.specs.Times.{flow_components, flow_gives}
use Rattle.vtl_tree.specs.Value.{value}
use Rattle.vtl_tree.specs.declared.structure.Component.{Component}
use Rattle.vtl_tree.specs.declared.structure.Role.TheVariants as role
use Rattle.vtl_tree.specs.declared.structure.Structure.{Structure}
use Rattle.vtl_meaning.specs.Aggregates.{Made, group_fault}
use Rattle.vtl_meaning.specs.Analytics.{each_point as each_made, point_of as made_point}
use Rattle.vtl_meaning.specs.LookUps.{value_named}
use Rattle.vtl_meaning.specs.Operators.{for_measures}
use Rattle.vtl_meaning.specs.Points.{beside, cell_or_null, each_point, paired, partner, point_fault, point_of, with_points}
use Rattle.vtl_meaning.proofs.AnalyticColumns.{columns_found, identifier_cells}
use Rattle.vtl_meaning.proofs.Places.{place_here, place_later, point_length, columns_split}
use Rattle.vtl_meaning.proofs.AggregateShaped.{no_attribute}
use Rattle.vtl_meaning.proofs.AnalyticShaped.{no_measure}
use Rattle.vtl_timing.specs.Times.{by_measure}
use Rattle.vtl_timing.proofs.FlowsKept.{IsOfMeasure, free, identify, others_are, all_identify}
use Rattle.times_to_sql.proofs.SeriesLists.{own_items}

-- ---- look-up
-- the point that was made of a point is found under its key
pub look_own : (n m : ℕ) (f : Row → Row) (r : Row) (rows : List Row) → AllByRecursion (λ q. take n (f q) ≡ take m q) rows → all_apart (same_key m) rows ≡ true → list_any (same_row r) rows ≡ true → look n (map f rows) (take m r) ≡ Some (f r)
look_own n m f r [] all apart e = absurd (true≢false (sym e))
look_own n m f r (q ∷ rows) all apart e =
    let parts = apart_parts (same_key m) q rows apart in
    ap (λ k. cond (same_row k (take m r)) (Some (f q)) (look n (map f rows) (take m r))) all.0
    ∙ go (same_key m q r) refl (same_row r q) refl e parts.0 (look_own n m f r rows all.1 parts.1)
  where
    other : (ls : List Row) → same_key m q r ≡ true → AllByRecursion (λ z. same_key m q z ≡ false) ls → list_any (same_row r) ls ≡ true → ⊥
    other [] s apart i = true≢false (sym i)
    other (z ∷ ls) s apart i = at (same_row r z) refl i (other ls s apart.1)
      where
        at : (b : Bool) → same_row r z ≡ b → (b || list_any (same_row r) ls) ≡ true → (list_any (same_row r) ls ≡ true → ⊥) → ⊥
        at true t j later = true≢false (sym s ∙ ap (same_key m q) (same_row-is r z t) ∙ apart.0)
        at false t j later = later j

    go : (b : Bool) → same_key m q r ≡ b → (t : Bool) → same_row r q ≡ t → (t || list_any (same_row r) rows) ≡ true → AllByRecursion (λ z. same_key m q z ≡ false) rows → (list_any (same_row r) rows ≡ true → look n (map f rows) (take m r) ≡ Some (f r)) → cond b (Some (f q)) (look n (map f rows) (take m r)) ≡ Some (f r)
    go true s true t i k later = ap (λ z. Some (f z)) (sym (same_row-is r q t))
    go true s false t i k later = absurd (other rows s k i)
    go false s true t i k later = absurd (true≢false (sym (same_row-refl (take m q)) ∙ ap (λ z. same_key m q z) (sym (same_row-is r q t)) ∙ s))
    go false s false t i k later = later i

-- ---- cells
-- a column of a row that a value for each column makes
pub made_cell : (f : Component → Cell) (y : Component) (ys : List Component) → component_of y.name ys ≡ Some y → column_of (place_of y.name ys) (map f ys) ≡ f y
made_cell f y [] e = cc
made_cell f y (z ∷ ys) e = go (same_name z.name y.name) refl e (made_cell f y ys)
  where
    go : (b : Bool) → same_name z.name y.name ≡ b → cond b (Some z) (component_of y.name ys) ≡ Some y → (component_of y.name ys ≡ Some y → column_of (place_of y.name ys) (map f ys) ≡ f y) → column_of (place_of y.name (z ∷ ys)) (f z ∷ map f ys) ≡ f y
    go true t i later =
        let same : z ≡ y = cc in
        ap (λ n. column_of n (f z ∷ map f ys)) (place_here y.name z ys t) ∙ ap f same
    go false t i later = ap (λ n. column_of n (f z ∷ map f ys)) (place_later y.name z ys t) ∙ later i

place_within : (y x : Component) (xs : List Component) → component_of y.name xs ≡ Some x → place_of y.name xs < length xs
place_within y x [] e = cc
place_within y x (z ∷ xs) e = go (same_name z.name y.name) refl e (place_within y x xs)
  where
    go : (b : Bool) → same_name z.name y.name ≡ b → cond b (Some z) (component_of y.name xs) ≡ Some x → (component_of y.name xs ≡ Some x → place_of y.name xs < length xs) → place_of y.name (z ∷ xs) < suc (length xs)
    go true t i later = let here = place_here y.name z xs t in omega (arith, here)
    go false t i later = let next = place_later y.name z xs t in let less = later i in omega (arith, next, less)

-- of two rows one behind the other
pub front_cell : (xs : List Component) (y x : Component) (r q : Row) → component_of y.name xs ≡ Some x → is_point xs r ≡ true → column_of (place_of y.name xs) (r ++ q) ≡ value_named xs r y.name
front_cell xs y x r q e h = let many = point_length xs r h in let less = place_within y x xs e in get_or_append_left r q c.Null (place_of y.name xs) (omega (arith, less, many))

pub back_cell : (xs ys : List Component) (name : List ℕ) (r q : Row) → is_point xs r ≡ true → column_of (length xs + place_of name ys) (r ++ q) ≡ value_named ys q name
back_cell xs ys name r q h = ap (λ n. column_of (n + place_of name ys) (r ++ q)) (sym (point_length xs r h)) ∙ get_or-append-add r q (place_of name ys) c.Null

-- ---- columns
abbrev pub given : Component → Component
given x = given_measure flow_gives None x

are_measures : (ms : List Component) → AllByRecursion (λ y. is_measure y ≡ true) (map given ms)
are_measures [] = tt
are_measures (m ∷ ms) = (refl, are_measures ms)

are_no_attributes : (ms : List Component) → AllByRecursion (λ y. same_role y.role role.Attribute ≡ false) (map given ms)
are_no_attributes [] = tt
are_no_attributes (m ∷ ms) = (refl, are_no_attributes ms)

module _ (a s : Structure) (shape : s.components ≡ flow_components a.components) where
  abbrev ids : List Component
  ids = filter is_identifier a.components

  parts : s.components ≡ ids ++ map given (measures a.components)
  parts = shape ∙ ap (λ l. l ++ map given (measures a.components)) (all_identify a.components)

  pub measures_given : measures_of s ≡ map given (measures_of a)
  measures_given =
      ap (filter is_measure) parts
      ∙ filter-append is_measure ids (map given (measures a.components))
      ∙ (λ i. filter_none is_measure ids (all_more (λ y. is_identifier y ≡ true) (λ y. is_measure y ≡ false) (λ y e. no_measure y.role e) ids (all_filtered is_identifier a.components)) i
      ++ filter_all is_measure (map given (measures a.components)) (are_measures (measures a.components)) i)

  no_attributes : of_role role.Attribute s ≡ []
  no_attributes =
      let is : Component → Bool = λ y. same_role y.role role.Attribute in
      ap (filter is) parts
      ∙ filter-append is ids (map given (measures a.components))
      ∙ (λ i. filter_none is ids (all_more (λ y. is_identifier y ≡ true) (λ y. is y ≡ false) (λ y e. no_attribute y.role e) ids (all_filtered is_identifier a.components)) i
      ++ filter_none is (map given (measures a.components)) (are_no_attributes (measures a.components)) i)

  pub columns_given : columns_of s ≡ identifiers_of s ++ map given (measures_of a)
  columns_given =
      (λ i. (identifiers_of s ++ measures_given i) ++ no_attributes i)
      ∙ append-nil (identifiers_of s ++ map given (measures_of a))

-- ---- expressions at pairs, and values at points
module _ (p : Settings) (made : Made) where
  pub each_by : (es : List CompExp) (ys : List Component) (g : Row → Row) (rows : List Row) → AllByRecursion (λ r. map (λ e. value p e (g r)) es ≡ map (λ y. made y r) ys) rows → each_point p es (map g rows) ≡ each_made made ys rows
  each_by es ys g rows all = λ i. unless (faults rows all i) (points rows all i)
    where
      fault_of : {X : Type 0} (v : X → Outcome Cell) (zs : List X) → faults_by (λ z. fault_in (v z)) zs ≡ faults_by fault_in (map v zs)
      fault_of v [] = refl
      fault_of v (z ∷ zs) = ap (join (fault_in (v z))) (fault_of v zs)

      point_by : {X : Type 0} (v : X → Outcome Cell) (zs : List X) → map (λ z. cell_or_null (v z)) zs ≡ map cell_or_null (map v zs)
      point_by v [] = refl
      point_by v (z ∷ zs) = ap (λ l. cell_or_null (v z) ∷ l) (point_by v zs)

      faults : (rs : List Row) → AllByRecursion (λ r. map (λ e. value p e (g r)) es ≡ map (λ y. made y r) ys) rs → faults_by (point_fault p es) (map g rs) ≡ faults_by (group_fault made ys) rs
      faults [] e = refl
      faults (r ∷ rs) e =
          let same = fault_of (λ z. value p z (g r)) es ∙ ap (faults_by fault_in) e.0 ∙ sym (fault_of (λ y. made y r) ys) in
          λ i. join (same i) (faults rs e.1 i)

      points : (rs : List Row) → AllByRecursion (λ r. map (λ e. value p e (g r)) es ≡ map (λ y. made y r) ys) rs → map (point_of p es) (map g rs) ≡ map (made_point made ys) rs
      points [] e = refl
      points (r ∷ rs) e =
          let same = point_by (λ z. value p z (g r)) es ∙ ap (map cell_or_null) e.0 ∙ sym (point_by (λ y. made y r) ys) in
          λ i. same i ∷ points rs e.1 i

-- a measure of the result is made of one of the operand
abbrev pub IsFine : List Component → Component → Type 0
IsFine xs y = is_measure y ≡ true → IsOfMeasure xs y

pub fine : (a s : Structure) → IsStructure a → AllByRecursion (λ x. is_number x.kind ≡ true) (measures a.components) → s.components ≡ flow_components a.components → AllByRecursion (IsFine (columns_of a)) (columns_of s)
fine a s well numbers shape =
    let P : Component → Type 0 = IsFine (columns_of a) in
    subst (AllByRecursion P) (sym (columns_split s))
    (all_append P (identifiers_of s) (others_of s)
    (all_more (λ y. is_measure y ≡ false) P (λ y e t. absurd (true≢false (sym t ∙ e))) (identifiers_of s) (free a s well numbers shape))
    (all_more (IsOfMeasure (columns_of a)) P (λ y m t. m) (others_of s) (others_are a s well numbers shape)))

module _ (p : Settings) (a s : Structure) (well : IsStructure a) (formed : IsStructure s) (numbers : AllByRecursion (λ x. is_number x.kind ≡ true) (measures a.components)) (shape : s.components ≡ flow_components a.components) where
  abbrev xs : List Component
  xs = columns_of a

  abbrev IsRow : Row → Type 0
  IsRow r = is_point xs r ≡ true

  -- the measures of the result, each with the one that it is of
  abbrev pub IsGiven : Component → Type 0
  IsGiven x = IsOfMeasure xs (given x) × (component_of x.name xs ≡ Some x) × (component_of x.name (columns_of s) ≡ Some (given x))

  pub are_given : AllByRecursion IsGiven (measures_of a)
  are_given =
      all_three (λ x. IsOfMeasure xs (given x)) (λ x. component_of x.name xs ≡ Some x) (λ x. component_of x.name (columns_of s) ≡ Some (given x)) (measures_of a) made own found
    where
      made : AllByRecursion (λ x. IsOfMeasure (columns_of a) (given x)) (measures_of a)
      made =
          back_from (IsOfMeasure (columns_of a)) (measures_of a)
          (subst (AllByRecursion (IsOfMeasure (columns_of a))) (measures_given a s shape) (all_front (IsOfMeasure (columns_of a)) (measures_of s) (of_role role.Attribute s) (others_are a s well numbers shape)))
        where
          back_from : (P : Component → Type 0) (ms : List Component) → AllByRecursion P (map given ms) → AllByRecursion (λ x. P (given x)) ms
          back_from P [] all = tt
          back_from P (m ∷ ms) all = (all.0, back_from P ms all.1)

      own : AllByRecursion (λ x. component_of x.name (columns_of a) ≡ Some x) (measures_of a)
      own =
          let P : Component → Type 0 = λ x. component_of x.name (columns_of a) ≡ Some x in
          all_front P (measures_of a) (of_role role.Attribute a) (all_back P (identifiers_of a) (others_of a) (subst (AllByRecursion P) (columns_split a) (columns_found a well)))

      found : AllByRecursion (λ x. component_of x.name (columns_of s) ≡ Some (given x)) (measures_of a)
      found =
          let P : Component → Type 0 = λ y. component_of y.name (columns_of s) ≡ Some y in
          named (measures_of a) (all_back P (identifiers_of s) (map given (measures_of a)) (subst (AllByRecursion P) (columns_given a s shape) (columns_found s formed)))
        where
          named : (ms : List Component) → AllByRecursion (λ y. component_of y.name (columns_of s) ≡ Some y) (map given ms) → AllByRecursion (λ x. component_of x.name (columns_of s) ≡ Some (given x)) ms
          named [] all = tt
          named (m ∷ ms) all = (all.0, named ms all.1)

      all_three : (P Q R : Component → Type 0) (ms : List Component) → AllByRecursion P ms → AllByRecursion Q ms → AllByRecursion R ms → AllByRecursion (λ x. P x × Q x × R x) ms
      all_three P Q R [] i j k = tt
      all_three P Q R (m ∷ ms) i j k = ((i.0, j.0, k.0), all_three P Q R ms i.1 j.1 k.1)

  -- the identifiers stay
  pub keys_kept : (v : Component → Row → Outcome Cell) (r : Row) → IsRow r → take (key_width s) (made_point (by_measure v a) (columns_of s) r) ≡ take (key_width a) r
  keys_kept v r t =
      let f : Component → Cell = λ y. cell_or_null (by_measure v a y r) in
      ap (λ zs. take (key_width s) (map f zs)) (columns_split s)
      ∙ ap (take (key_width s)) (map-append f (identifiers_of s) (others_of s))
      ∙ ap (λ n. take n (map f (identifiers_of s) ++ map f (others_of s))) (sym (length-map (identifiers_of s) f))
      ∙ take-append_seam (map f (identifiers_of s)) (map f (others_of s))
      ∙ stay (identifiers_of s) (free a s well numbers shape)
      ∙ ap (λ zs. cells_at (places_in xs zs) r) (identify a s well numbers shape)
      ∙ identifier_cells a r well t
    where
      stay : (zs : List Component) → AllByRecursion (λ y. is_measure y ≡ false) zs → map (λ y. cell_or_null (by_measure v a y r)) zs ≡ cells_at (places_in (columns_of a) zs) r
      stay [] all = refl
      stay (z ∷ zs) all = λ i. cell_or_null (cond (all.0 i) (v z r) (Ok (value_named (columns_of a) r z.name))) ∷ stay zs all.1 i

  module _ (us : List Row) (h : IsDataSet a us) (made : Made) (keys : (r : Row) → IsRow r → take (key_width s) (made_point made (columns_of s) r) ≡ take (key_width a) r) where
    abbrev made_of : Row → Row
    made_of r = made_point made (columns_of s) r

    -- each point beside its own row
    pub paired_is : (vs : List Row) → Perm vs us → paired (with_points a us) (with_points s (map made_of vs)) ≡ map (λ r. r ++ made_of r) us
    paired_is vs q = each us (own_items us) h.typed
      where
        typed : AllByRecursion (λ r. is_point (columns_of a) r ≡ true) vs
        typed = AllByRecursion-Perm (λ r. is_point (columns_of a) r ≡ true) (Perm-sym q) h.typed

        apart : all_apart (same_key (key_width a)) vs ≡ true
        apart = all_apart-Perm (same_key (key_width a)) (same_key-sym (key_width a)) q ∙ h.distinct

        kept : (rs : List Row) → AllByRecursion (λ r. is_point (columns_of a) r ≡ true) rs → AllByRecursion (λ r. take (key_width s) (made_of r) ≡ take (key_width a) r) rs
        kept [] all = tt
        kept (r ∷ rs) all = (keys r all.0, kept rs all.1)

        found : (r : Row) → is_point (columns_of a) r ≡ true → list_any (same_row r) us ≡ true → partner a (with_points s (map made_of vs)) r ≡ Some (made_of r)
        found r t m =
            ap (look (key_width s) (map made_of vs)) (ap (λ zs. cells_at (places_in (columns_of a) zs) r) (identify a s well numbers shape) ∙ identifier_cells a r well t)
            ∙ look_own (key_width s) (key_width a) made_of r vs (kept vs typed) apart (list_any-Perm (same_row r) q ∙ m)

        each : (rs : List Row) → AllByRecursion (λ r. list_any (same_row r) us ≡ true) rs → AllByRecursion (λ r. is_point (columns_of a) r ≡ true) rs → flat_map (beside a (with_points s (map made_of vs))) rs ≡ map (λ r. r ++ made_of r) rs
        each [] m t = refl
        each (r ∷ rs) m t =
            let one = found r t.0 m.0 in
            λ i. option_to_list (option_map (λ q. r ++ q) (one i)) ++ each rs m.1 t.1 i

    -- an expression for each measure, whose value at a pair is that of the measure at the point
    pub values_are : (g : Component → Component → CompExp) (v : Component → Row → Outcome Cell)
        → ((x : Component) (r : Row) → IsGiven x → IsRow r → list_any (same_row r) us ≡ true → value p (g x (given x)) (r ++ made_of r) ≡ v (given x) r)
        → each_point p (columns_named xs (identifiers_of s) ++ for_measures g (measures_of a) (measures_of s)) (map (λ r. r ++ made_of r) us) ≡ each_made (by_measure v a) (columns_of s) us
    values_are g v gives = each_by p (by_measure v a) (columns_named xs (identifiers_of s) ++ for_measures g (measures_of a) (measures_of s)) (columns_of s) (λ r. r ++ made_of r) us (each us h.typed (own_items us))
      where
        Found : Component → Type 0
        Found y = component_of y.name (columns_of a) ≡ Some y

        identifiers_found : AllByRecursion (λ y. component_of y.name (columns_of a) ≡ Some y) (identifiers_of s)
        identifiers_found =
            let P : Component → Type 0 = λ y. component_of y.name (columns_of a) ≡ Some y in
            subst (AllByRecursion P) (sym (identify a s well numbers shape)) (all_front P (identifiers_of a) (others_of a) (subst (AllByRecursion P) (columns_split a) (columns_found a well)))

        identifiers : (r : Row) → is_point (columns_of a) r ≡ true → (ys : List Component) → AllByRecursion (λ y. component_of y.name (columns_of a) ≡ Some y) ys → AllByRecursion (λ y. is_measure y ≡ false) ys → map (λ e. value p e (r ++ made_of r)) (columns_named (columns_of a) ys) ≡ map (λ y. by_measure v a y r) ys
        identifiers r t [] f n = refl
        identifiers r t (y ∷ ys) f n =
            let own : by_measure v a y r ≡ Ok (value_named (columns_of a) r y.name) = ap (λ b. cond b (v y r) (Ok (value_named (columns_of a) r y.name))) n.0 in
            let one : Ok (column_of (place_of y.name (columns_of a)) (r ++ made_of r)) ≡ by_measure v a y r = ap Ok (front_cell (columns_of a) y y r (made_of r) f.0 t) ∙ sym own in
            λ i. one i ∷ identifiers r t ys f.1 n.1 i

        given_values : (r : Row) → is_point (columns_of a) r ≡ true → list_any (same_row r) us ≡ true → (ms : List Component) → AllByRecursion IsGiven ms → map (λ e. value p e (r ++ made_of r)) (for_measures g ms (map given ms)) ≡ map (λ y. by_measure v a y r) (map given ms)
        given_values r t m [] all = refl
        given_values r t m (x ∷ ms) all = λ i. gives x r all.0 t m i ∷ given_values r t m ms all.1 i

        one : (r : Row) → is_point (columns_of a) r ≡ true → list_any (same_row r) us ≡ true → map (λ e. value p e (r ++ made_of r)) (columns_named (columns_of a) (identifiers_of s) ++ for_measures g (measures_of a) (measures_of s)) ≡ map (λ y. by_measure v a y r) (columns_of s)
        one r t m =
            let at : CompExp → Outcome Cell = λ e. value p e (r ++ made_of r) in
            let by : Component → Outcome Cell = λ y. by_measure v a y r in
            map-append at (columns_named (columns_of a) (identifiers_of s)) (for_measures g (measures_of a) (measures_of s))
            ∙ ap (λ ms. map at (columns_named (columns_of a) (identifiers_of s)) ++ map at (for_measures g (measures_of a) ms)) (measures_given a s shape)
            ∙ (λ i. identifiers r t (identifiers_of s) identifiers_found (free a s well numbers shape) i ++ given_values r t m (measures_of a) are_given i)
            ∙ sym (map-append by (identifiers_of s) (map given (measures_of a)))
            ∙ ap (map by) (sym (columns_given a s shape))

        each : (rs : List Row) → AllByRecursion (λ r. is_point (columns_of a) r ≡ true) rs → AllByRecursion (λ r. list_any (same_row r) us ≡ true) rs → AllByRecursion (λ r. map (λ e. value p e (r ++ made_of r)) (columns_named (columns_of a) (identifiers_of s) ++ for_measures g (measures_of a) (measures_of s)) ≡ map (λ y. by_measure v a y r) (columns_of s)) rs
        each [] t m = tt
        each (r ∷ rs) t m = (one r t.0 m.0, each rs t.1 m.1)
