-- An aggregate of a data set over whole partitions has at all_each point the values of the point's group.
use Rattle.std.specs.Prelude.{IfOk, option_map, unwrap_or, if◌then◌else◌}
use Rattle.std.specs.List.{AllByRecursion, filter, find, list_any}
use Rattle.std.specs.Option.{option_map_or}
use Rattle.std.proofs.Common.{◌≡◌, ℕ, Bool, true, false, not, cond, ◌&&◌, ◌||◌, List, [], ◌∷◌, ◌++◌, map, length, take, drop, Option, Some, None, Ok, Err, refl, sym, ap, ◌∙◌, subst, true≢false, arith}
use Rattle.std.proofs.lemmas.List.{append-nil, map-append}
use Rattle.std.proofs.lemmas.List.Elements.{filter-append}
use Rattle.std.proofs.lemmas.Map.Views.{any-filter_same}
use Rattle.std.proofs.Math.Seq.{drop-append_seam}
use Rattle.vtl_lists.proofs.Alls.{all_each, all_filtered, all_more}
use Rattle.vtl_lists.proofs.Sorts.{AllByRecursion-map}
use Rattle.vtl_lists.proofs.Filters.{filter_all, filter_none, filter_true}
use Rattle.vtl_cell.specs.Conversion.{as_kind}
use Rattle.vtl_cell.specs.AggregateKinds.{aggregate_kind}
use Rattle.vtl_cell.specs.Groups.{group_value}
use Rattle.vtl_cell.specs.Kinds.{is_null, is_of}
use Rattle.vtl_cell.specs.Outcome.{Outcome, after, fault_in, faults_by, join, unless}
use Rattle.vtl_cell.specs.Row.{Row, column_of, same_key, same_row}
use Rattle.vtl_cell.specs.declared.cell.Cell.{Cell}
use Rattle.vtl_cell.specs.declared.cell.Cell.TheVariants as c
use Rattle.vtl_cell.specs.declared.kind.Kind.{Kind}
use Rattle.vtl_cell.specs.declared.kind.Kind.TheVariants as k
use Rattle.vtl_cell.specs.declared.operator.AggKind.{AggKind}
use Rattle.vtl_cell.specs.declared.operator.AggKind.TheVariants as agg
use Rattle.vtl_cell.proofs.Rows.{same_row-is, same_row-refl}
use Rattle.vtl_decimal.specs.Settings.{Settings}
use Rattle.vtl_decimal.specs.declared.number.Fault.{Fault}
use Rattle.vtl_decimal.specs.declared.number.Fault.TheVariants.{DivZero, Range}
use Rattle.vtl_rows.specs.Tables.{cells_at}
use Rattle.vtl_tree.specs.Choices.{chosen, is_chosen, is_identifier}
use Rattle.vtl_tree.specs.Columns.{identifiers_of, others_of, place_of}
use Rattle.vtl_tree.specs.DataSet.{IsDataSet, is_point, look}
use Rattle.vtl_tree.specs.Environment.{DataSet}
use Rattle.vtl_tree.specs.Measures.{given_measure, is_measure, made, measures}
use Rattle.vtl_tree.specs.Names.{is_among}
use Rattle.vtl_tree.specs.Structure.{columns_of, key_width, same_role}
use Rattle.vtl_tree.specs.declared.calls.AnalyticOp.{AnalyticOp}
use Rattle.vtl_tree.specs.declared.calls.AnalyticOp.TheVariants as op
use Rattle.vtl_tree.specs.declared.calls.Window.{Window}
use Rattle.vtl_tree.specs.declared.choices.Choice.TheVariants as choice
use Rattle.vtl_tree.specs.declared.specifications.AggItems.TheVariants as items
use Rattle.vtl_tree.specs.declared.structure.Component.{Component}
use Rattle.vtl_tree.specs.declared.structure.Role.{Role}
use Rattle.vtl_tree.specs.declared.structure.Role.TheVariants as role
use Rattle.vtl_tree.specs.declared.structure.Structure.{Structure}
use Rattle.vtl_tuples.specs.Keys.{each_once}
use Rattle.vtl_tuples.proofs.Lists.{map-map, map_each, map_same}
use Rattle.vtl_meaning.specs.Agreement.{key_of}
use Rattle.vtl_meaning.specs.Aggregates.{Made, aggregate_of, group_fault, group_point, made_of as group_made, measure_call}
use Rattle.vtl_meaning.specs.AggregateShapes.{IsAggregated, made_components, of_measure as by_measure}
use Rattle.vtl_meaning.specs.AnalyticShapes.{IsAnalyzed, of_measure, taken}
use Rattle.vtl_meaning.specs.Analytics.{analytic_of, made_of, measure_call as windowed_call, point_of, tree_value, value_for}
use Rattle.vtl_meaning.specs.GroupExpressions.{aggregated}
use Rattle.vtl_meaning.specs.Groups.{keys_by, places_named, points_with}
use Rattle.vtl_meaning.specs.Points.{cell_or_null}
use Rattle.vtl_meaning.specs.Windows.{Stand, argument, call_value, op_value, seen, stand_of}
use Rattle.vtl_meaning.proofs.Agreements.{found_by_key}
use Rattle.vtl_meaning.proofs.AnalyticColumns.{identifier_cells}
use Rattle.vtl_meaning.proofs.AnalyticLooks.{looked}
use Rattle.vtl_meaning.proofs.GroupLooks.{looked as group_looked}
use Rattle.vtl_meaning.proofs.GroupPoints.{found_key, point_is}
use Rattle.vtl_meaning.proofs.JoinAgreements.{own_found}
use Rattle.vtl_meaning.proofs.Places.{point_length, columns_split}
use Rattle.vtl_meaning.proofs.WindowPlaces.{whole_group}
use Rattle.vtl_meaning_laws.specs.Overs.{by_groups, over_of, over_partitions, whole}
use Rattle.vtl_meaning_laws.proofs.KeptCodes.{AreIdentifiers, left_ones}
use Rattle.vtl_meaning_laws.proofs.Twice.{each_there}

-- ---- the same aggregate, over a window and of a group
pub record IsOver (f : AggKind) (o : AnalyticOp) : Type 0 where
  pub value : (p : Settings) (xs : List Component) (w : Window) (at : Row → Cell) (s : Stand) → op_value p xs w at o s ≡ group_value p f (seen w at s)
  pub call : (name : List ℕ) → measure_call f name ≡ record { kind = f; component = Some name }
  pub kinds : (kind : Kind) → unwrap_or (taken o kind) kind ≡ unwrap_or (aggregate_kind f kind) kind
  pub made : (xs : List Component) → made_components (items.Measures f) xs ≡ map (given_measure (by_measure f) None) (measures xs)

sum_kinds : (kind : Kind) → unwrap_or (taken op.Sum kind) kind ≡ unwrap_or (aggregate_kind agg.Sum kind) kind
sum_kinds k.Null = refl
sum_kinds k.Bool = refl
sum_kinds k.Int = refl
sum_kinds k.Num = refl
sum_kinds k.Text = refl
sum_kinds k.Day = refl
sum_kinds k.Period = refl

avg_kinds : (kind : Kind) → unwrap_or (taken op.Avg kind) kind ≡ unwrap_or (aggregate_kind agg.Avg kind) kind
avg_kinds k.Null = refl
avg_kinds k.Bool = refl
avg_kinds k.Int = refl
avg_kinds k.Num = refl
avg_kinds k.Text = refl
avg_kinds k.Day = refl
avg_kinds k.Period = refl

pub over_is : (f : AggKind) (o : AnalyticOp) → over_of f ≡ Some o → IsOver f o
over_is agg.Sum o e =
    let same : op.Sum ≡ o = cc in
    subst (IsOver agg.Sum) same (record { value = λ p xs w at s. refl; call = λ name. refl; kinds = sum_kinds; made = λ xs. refl })
over_is agg.Avg o e =
    let same : op.Avg ≡ o = cc in
    subst (IsOver agg.Avg) same (record { value = λ p xs w at s. refl; call = λ name. refl; kinds = avg_kinds; made = λ xs. refl })
over_is agg.Min o e =
    let same : op.Min ≡ o = cc in
    subst (IsOver agg.Min) same (record { value = λ p xs w at s. refl; call = λ name. refl; kinds = λ kind. refl; made = λ xs. refl })
over_is agg.Max o e =
    let same : op.Max ≡ o = cc in
    subst (IsOver agg.Max) same (record { value = λ p xs w at s. refl; call = λ name. refl; kinds = λ kind. refl; made = λ xs. refl })
over_is agg.Count o e = cc
over_is agg.Median o e = cc

-- ---- values of a kind
as_same : (p : Settings) (kind : Kind) (v : Cell) → is_of kind v ≡ true → as_kind p kind v ≡ Ok v
as_same p k.Num (c.Int n) e = absurd (true≢false (sym e))
as_same p kind v e = refl

after_same : (p : Settings) (kind : Kind) (m : Outcome Cell) → is_of kind (cell_or_null m) ≡ true → after m (as_kind p kind) ≡ m
after_same p kind (Ok v) e = as_same p kind v e
after_same p kind (Err g) e = refl

of_three : (x y z : Bool) → (x && y && z) ≡ true → (x ≡ true) × (z ≡ true)
of_three true true true e = (refl, refl)
of_three true true false e = absurd (true≢false (sym e))
of_three true false z e = absurd (true≢false (sym e))
of_three false y z e = absurd (true≢false (sym e))

-- the values behind a key are of the kinds of their columns
kinds_behind : (xs ys : List Component) (key : Row) (g : Component → Cell) → length key ≡ length xs → is_point (xs ++ ys) (key ++ map g ys) ≡ true → AllByRecursion (λ y. is_of y.kind (g y) ≡ true) ys
kinds_behind [] ys [] g e h = here ys h
  where
    here : (zs : List Component) → is_point zs (map g zs) ≡ true → AllByRecursion (λ z. is_of z.kind (g z) ≡ true) zs
    here [] i = tt
    here (z ∷ zs) i =
        let parts = of_three (is_of z.kind (g z)) (not (same_role z.role role.Identifier && is_null (g z))) (is_point zs (map g zs)) i in
        (parts.0, here zs parts.1)
kinds_behind [] ys (v ∷ key) g e h = absurd (omega (arith, e))
kinds_behind (x ∷ xs) ys [] g e h = absurd (omega (arith, e))
kinds_behind (x ∷ xs) ys (v ∷ key) g e h = kinds_behind xs ys key g (omega (arith, e)) (of_three (is_of x.kind v) (not (same_role x.role role.Identifier && is_null v)) (is_point (xs ++ ys) (key ++ map g ys)) h).1

-- ---- measures behind identifiers
abbrev pub AreMeasures : List Component → Type 0
AreMeasures xs = AllByRecursion (λ x. same_role x.role role.Measure ≡ true) xs

pub others_behind : (s : Structure) (ids ms : List Component) → s.components ≡ ids ++ ms → AreIdentifiers ids → AreMeasures ms → others_of s ≡ ms
others_behind s ids ms e all own =
    let m : Component → Bool = λ x. same_role x.role role.Measure in
    let a : Component → Bool = λ x. same_role x.role role.Attribute in
    ap (λ l. filter m l ++ filter a l) e
    ∙ ap (λ l. l ++ filter a (ids ++ ms)) (filter-append m ids ms ∙ ap (λ l. l ++ filter m ms) (filter_none m ids (all_more (λ x. is_identifier x ≡ true) (λ x. m x ≡ false) (λ x f. no_measure x.role f) ids all)) ∙ filter_all m ms own)
    ∙ ap (λ l. ms ++ l)
    (filter-append a ids ms ∙ ap (λ l. l ++ filter a ms) (filter_none a ids (all_more (λ x. is_identifier x ≡ true) (λ x. a x ≡ false) (λ x f. no_attribute x.role f) ids all))
    ∙ filter_none a ms (all_more (λ x. m x ≡ true) (λ x. a x ≡ false) (λ x f. measure_alone x.role f) ms own))
    ∙ append-nil ms
  where
    no_measure : (r : Role) → same_role r role.Identifier ≡ true → same_role r role.Measure ≡ false
    no_measure role.Identifier f = refl
    no_measure role.Measure f = absurd (true≢false (sym f))
    no_measure role.Attribute f = refl

    no_attribute : (r : Role) → same_role r role.Identifier ≡ true → same_role r role.Attribute ≡ false
    no_attribute role.Identifier f = refl
    no_attribute role.Measure f = refl
    no_attribute role.Attribute f = absurd (true≢false (sym f))

    measure_alone : (r : Role) → same_role r role.Measure ≡ true → same_role r role.Attribute ≡ false
    measure_alone role.Identifier f = refl
    measure_alone role.Measure f = refl
    measure_alone role.Attribute f = absurd (true≢false (sym f))

chosen_ones : (names : List (List ℕ)) (xs : List Component) → AreIdentifiers (chosen choice.By names xs)
chosen_ones names xs = all_more (λ x. is_chosen choice.By names x ≡ true) (λ x. is_identifier x ≡ true) (λ x e. first (is_identifier x) (is_among x.name names) e) (chosen choice.By names xs) (all_filtered (is_chosen choice.By names) xs)
  where
    first : (a b : Bool) → (a && b) ≡ true → a ≡ true
    first true b e = refl
    first false b e = e

-- ---- faults
abbrev is_division : Option Fault → Bool
is_division None = false
is_division (Some DivZero) = true
is_division (Some Range) = false

abbrev is_range : Option Fault → Bool
is_range None = false
is_range (Some DivZero) = false
is_range (Some Range) = true

abbrev verdict : Bool → Bool → Option Fault
verdict true r = Some DivZero
verdict false true = Some Range
verdict false false = None

faults_are : {X : Type 0} (f : X → Option Fault) (xs : List X) → faults_by f xs ≡ verdict (list_any (λ x. is_division (f x)) xs) (list_any (λ x. is_range (f x)) xs)
faults_are f [] = refl
faults_are f (x ∷ xs) = ap (join (f x)) (faults_are f xs) ∙ go (f x) (list_any (λ z. is_division (f z)) xs) (list_any (λ z. is_range (f z)) xs)
  where
    go : (m : Option Fault) (a b : Bool) → join m (verdict a b) ≡ verdict (is_division m || a) (is_range m || b)
    go None a b = refl
    go (Some DivZero) a b = refl
    go (Some Range) true b = refl
    go (Some Range) false true = refl
    go (Some Range) false false = refl

any_once : (t : Row → Bool) (xs : List Row) → list_any t (each_once same_row xs) ≡ list_any t xs
any_once t [] = refl
any_once t (x ∷ xs) = go (t x) refl (any_once t xs)
  where
    apart : t x ≡ false → (y : Row) → t y ≡ true → not (same_row x y) ≡ true
    apart e y h = one (same_row x y) refl
      where
        one : (b : Bool) → same_row x y ≡ b → not b ≡ true
        one true g = absurd (true≢false (sym h ∙ ap t (sym (same_row-is x y g)) ∙ e))
        one false g = refl

    go : (b : Bool) → t x ≡ b → list_any t (each_once same_row xs) ≡ list_any t xs → (b || list_any t (filter (λ y. not (same_row x y)) (each_once same_row xs))) ≡ (b || list_any t xs)
    go true e ih = refl
    go false e ih = any-filter_same t (λ y. not (same_row x y)) true (apart e) (each_once same_row xs) ∙ ih

faults_once : (f : Row → Option Fault) (xs : List Row) → faults_by f (each_once same_row xs) ≡ faults_by f xs
faults_once f xs =
    faults_are f (each_once same_row xs) ∙ ap (λ b. verdict b (list_any (λ x. is_range (f x)) (each_once same_row xs))) (any_once (λ x. is_division (f x)) xs)
    ∙ ap (verdict (list_any (λ x. is_division (f x)) xs)) (any_once (λ x. is_range (f x)) xs) ∙ sym (faults_are f xs)

faults_same : {X : Type 0} (f g : X → Option Fault) (xs : List X) → AllByRecursion (λ x. f x ≡ g x) xs → faults_by f xs ≡ faults_by g xs
faults_same f g [] all = refl
faults_same f g (x ∷ xs) all = λ i. join (all.0 i) (faults_same f g xs all.1 i)

faults_of_map : {X Y : Type 0} (f : Y → Option Fault) (g : X → Y) (xs : List X) → faults_by f (map g xs) ≡ faults_by (λ x. f (g x)) xs
faults_of_map f g [] = refl
faults_of_map f g (x ∷ xs) = ap (join (f (g x))) (faults_of_map f g xs)

none_before : {X : Type 0} (f : X → Option Fault) (xs ys : List X) → AllByRecursion (λ x. f x ≡ None) xs → faults_by f (xs ++ ys) ≡ faults_by f ys
none_before f [] ys all = refl
none_before f (x ∷ xs) ys all = ap (λ m. join m (faults_by f (xs ++ ys))) all.0 ∙ none_before f xs ys all.1

no_fault : {X : Type 0} (xs : List X) → faults_by (λ x. None) xs ≡ None
no_fault [] = refl
no_fault (x ∷ xs) = no_fault xs

told : {A : Type 0} (f : Option Fault) (x : A) → fault_in (unless f x) ≡ f
told None x = refl
told (Some g) x = refl

-- ---- the two results
if_both : {A B : Type 0} (m : Outcome A) (n : Outcome B) (P : Row → A → Type 0) (Q : Row → B → Type 0) (R : A → B → Type 0) → ((key : Row) → IfOk m (P key)) → ((key : Row) → IfOk n (Q key)) → ((x : A) (y : B) → ((key : Row) → P key x) → ((key : Row) → Q key y) → R x y) → IfOk m (λ x. IfOk n (R x))
if_both (Ok x) (Ok y) P Q R f g h = h x y f g
if_both (Ok x) (Err e) P Q R f g h = tt
if_both (Err e) n P Q R f g h = tt

module _ (p : Settings) (f : AggKind) (o : AnalyticOp) (names : List (List ℕ)) (d : DataSet) (s t : Structure) (over : IsOver f o) (i : IsAnalyzed p (over_partitions o names) d.structure s) (j : IsAggregated (by_groups f names) d.structure t) (h : IsDataSet d.structure d.points) where
  abbrev a : Structure
  a = d.structure

  abbrev xs : List Component
  xs = columns_of a

  abbrev places : List ℕ
  places = places_named names xs

  abbrev windowed : Made
  windowed = made_of p (over_partitions o names) d

  abbrev grouped : Made
  grouped = group_made p (by_groups f names) xs d.points

  abbrev key : Row → Row
  key r = cells_at places r

  abbrev IsHere : Row → Type 0
  IsHere r = is_point xs r ≡ true

  -- ---- columns
  abbrev windowed_measures : List Component
  windowed_measures = map (given_measure (of_measure o) None) (measures a.components)

  measures_alike : windowed_measures ≡ made_components (items.Measures f) a.components
  measures_alike = map_each (given_measure (of_measure o) None) (given_measure (by_measure f) None) (λ x. ap (made x.name role.Measure) (over.kinds x.kind)) (measures a.components) ∙ sym (over.made a.components)

  are_measures : AreMeasures windowed_measures
  are_measures = AllByRecursion-map (given_measure (of_measure o) None) (λ x. same_role x.role role.Measure ≡ true) (measures a.components) (all_each (λ x. same_role (given_measure (of_measure o) None x).role role.Measure ≡ true) (λ x. refl) (measures a.components))

  windowed_others : others_of s ≡ windowed_measures
  windowed_others = others_behind s (chosen choice.Except [] a.components) windowed_measures i.shape (left_ones [] a.components) are_measures

  same_others : others_of s ≡ others_of t
  same_others =
      windowed_others ∙ measures_alike
      ∙ sym (others_behind t (chosen choice.By names a.components) (made_components (items.Measures f) a.components) j.shape (chosen_ones names a.components) (subst AreMeasures measures_alike are_measures))

  -- ---- values
  key_is : (r : Row) → IsHere r → is_point (identifiers_of t) (key r) ≡ true
  key_is r w = subst (λ ns. is_point (identifiers_of t) (cells_at (places_named ns xs) r) ≡ true) j.grouping (found_key (identifiers_of t) xs r j.identifiers w)

  of_kinds : (r : Row) → IsHere r → AllByRecursion (λ y. is_of y.kind (cell_or_null (grouped y (key r))) ≡ true) (others_of s)
  of_kinds r w =
      subst (λ zs. AllByRecursion (λ y. is_of y.kind (cell_or_null (grouped y (key r))) ≡ true) zs) (sym same_others)
      (kinds_behind (identifiers_of t) (others_of t) (key r) (λ y. cell_or_null (grouped y (key r))) (point_length (identifiers_of t) (key r) (key_is r w))
      (subst (λ zs. is_point zs (group_point grouped (others_of t) (key r)) ≡ true) (columns_split t) (point_is p (by_groups f names) d t j h (key r) (key_is r w))))

  same_call : (y : Component) (r : Row) → call_value p d (record { op = o; component = Some y.name; window = whole names }) r ≡ grouped y (key r)
  same_call y r =
      over.value p xs (whole names) (argument xs (Some y.name)) (stand_of d (whole names) r) ∙ whole_group p d (whole names) f (argument xs (Some y.name)) r refl refl
      ∙ sym (ap (λ call. option_map_or (λ b. aggregated p xs b.kind b.component (points_with places d.points (key r))) (Some call) (Ok c.Null)) (over.call y.name))

  same_value : (y : Component) (r : Row) → is_measure y ≡ true → is_of y.kind (cell_or_null (grouped y (key r))) ≡ true → windowed y r ≡ grouped y (key r)
  same_value y r e g =
      ap (λ b. option_map_or (λ v. tree_value p d y.kind v r) (if b then Some (windowed_call o (whole names) y.name) else None) (Ok (column_of (place_of y.name xs) r))) e
      ∙ ap (λ m. after m (as_kind p y.kind)) (same_call y r) ∙ after_same p y.kind (grouped y (key r)) g

  pub same_values : (r : Row) → IsHere r → AllByRecursion (λ y. windowed y r ≡ grouped y (key r)) (others_of s)
  same_values r w = both (others_of s) (subst AreMeasures (sym windowed_others) are_measures) (of_kinds r w)
    where
      both : (ys : List Component) → AreMeasures ys → AllByRecursion (λ y. is_of y.kind (cell_or_null (grouped y (key r))) ≡ true) ys → AllByRecursion (λ y. windowed y r ≡ grouped y (key r)) ys
      both [] m g = tt
      both (y ∷ ys) m g = (same_value y r m.0 g.0, both ys m.1 g.1)

  -- an identifier stays as it is
  stays : (r : Row) → AllByRecursion (λ y. windowed y r ≡ Ok (column_of (place_of y.name xs) r)) (identifiers_of s)
  stays r = all_more (λ y. value_for (over_partitions o names) y ≡ None) (λ y. windowed y r ≡ Ok (column_of (place_of y.name xs) r)) (λ y e. ap (λ v. option_map_or (λ z. tree_value p d y.kind z r) v (Ok (column_of (place_of y.name xs) r))) e) (identifiers_of s) i.free

  same_point : (r : Row) → IsHere r → point_of windowed (columns_of s) r ≡ key_of a r ++ map (λ y. cell_or_null (grouped y (key r))) (others_of t)
  same_point r w =
      let cell : Component → Cell = λ y. cell_or_null (windowed y r) in
      ap (map cell) (columns_split s) ∙ map-append cell (identifiers_of s) (others_of s)
      ∙ ap (λ l. l ++ map cell (others_of s))
      (map_same cell (λ y. column_of (place_of y.name xs) r) (identifiers_of s) (all_more (λ y. windowed y r ≡ Ok (column_of (place_of y.name xs) r)) (λ y. cell y ≡ column_of (place_of y.name xs) r) (λ y e. ap cell_or_null e) (identifiers_of s) (stays r))
      ∙ ap (map (λ y. column_of (place_of y.name xs) r)) i.identifiers ∙ sym (map-map (λ n. column_of n r) (λ y. place_of y.name xs) (identifiers_of a)) ∙ identifier_cells a r h.well_formed w)
      ∙ ap (λ l. key_of a r ++ l)
      (map_same cell (λ y. cell_or_null (grouped y (key r))) (others_of s) (all_more (λ y. windowed y r ≡ grouped y (key r)) (λ y. cell y ≡ cell_or_null (grouped y (key r))) (λ y e. ap cell_or_null e) (others_of s) (same_values r w))
      ∙ ap (map (λ y. cell_or_null (grouped y (key r)))) same_others)

  -- ---- look-up
  own_look : AllByRecursion (λ r. look (key_width a) d.points (key_of a r) ≡ Some r) d.points
  own_look =
      let n = key_width a in
      all_more (λ r. find (λ q. same_key n q r) d.points ≡ Some r) (λ r. look n d.points (take n r) ≡ Some r)
      (λ r e. sym (found_by_key n (take n) d.points (take n r) (all_each (λ q. take n q ≡ take n q) (λ q. refl) d.points)) ∙ e) d.points
      (own_found (λ q. Unit {0}) (same_key n) (λ r q. same_key n q r) (λ q u. same_row-refl (take n q)) (λ q r u v e. e) d.points (all_each (λ q. Unit {0}) (λ q. tt) d.points) h.distinct)

  abbrev Beside : List Row → List Row → Row → Type 0
  Beside out groups r = look (key_width s) out (key_of a r) ≡ option_map (λ q. key_of a r ++ drop (key_width t) q) (look (key_width t) groups (key r))

  pub values_beside : IfOk (analytic_of p (over_partitions o names) d s) (λ out. IfOk (aggregate_of p (by_groups f names) d t) (λ groups. AllByRecursion (Beside out groups) d.points))
  values_beside =
      if_both (analytic_of p (over_partitions o names) d s) (aggregate_of p (by_groups f names) d t)
      (λ z out. look (key_width s) out z ≡ option_map (point_of windowed (columns_of s)) (look (key_width a) d.points z))
      (λ z groups. look (key_width t) groups z ≡ cond (list_any (λ r. same_row (cells_at places r) z) d.points && true) (Some (group_point grouped (others_of t) z)) None)
      (λ out groups. AllByRecursion (Beside out groups) d.points)
      (λ z. looked p (over_partitions o names) d s z i h) (λ z. group_looked p (by_groups f names) d t z j h) all
    where
      all : (out groups : List Row) → ((z : Row) → look (key_width s) out z ≡ option_map (point_of windowed (columns_of s)) (look (key_width a) d.points z))
          → ((z : Row) → look (key_width t) groups z ≡ cond (list_any (λ r. same_row (cells_at places r) z) d.points && true) (Some (group_point grouped (others_of t) z)) None) → AllByRecursion (Beside out groups) d.points
      all out groups there found = three d.points h.typed own_look (each_there (λ q r. same_row (key q) (key r)) (λ r. same_row-refl (key r)) d.points)
        where
          one : (r : Row) → IsHere r → look (key_width a) d.points (key_of a r) ≡ Some r → list_any (λ q. same_row (key q) (key r)) d.points ≡ true → Beside out groups r
          one r w e g =
              let vs = map (λ y. cell_or_null (grouped y (key r))) (others_of t) in
              there (key_of a r) ∙ ap (option_map (point_of windowed (columns_of s))) e ∙ ap Some (same_point r w)
              ∙ ap (λ l. Some (key_of a r ++ l)) (sym (ap (λ n. drop n (key r ++ vs)) (sym (point_length (identifiers_of t) (key r) (key_is r w))) ∙ drop-append_seam (key r) vs))
              ∙ sym (ap (option_map (λ q. key_of a r ++ drop (key_width t) q)) (found (key r) ∙ ap (λ b. cond (b && true) (Some (group_point grouped (others_of t) (key r))) None) g))

          three : (l : List Row) → AllByRecursion IsHere l → AllByRecursion (λ r. look (key_width a) d.points (key_of a r) ≡ Some r) l → AllByRecursion (λ r. list_any (λ q. same_row (key q) (key r)) d.points ≡ true) l → AllByRecursion (Beside out groups) l
          three [] w e g = tt
          three (r ∷ l) w e g = (one r w.0 e.0 g.0, three l w.1 e.1 g.1)

  -- ---- faults
  point_fault_same : (r : Row) → IsHere r → group_fault windowed (columns_of s) r ≡ group_fault grouped (others_of t) (key r)
  point_fault_same r w =
      ap (faults_by (λ y. fault_in (windowed y r))) (columns_split s)
      ∙ none_before (λ y. fault_in (windowed y r)) (identifiers_of s) (others_of s) (all_more (λ y. windowed y r ≡ Ok (column_of (place_of y.name xs) r)) (λ y. fault_in (windowed y r) ≡ None) (λ y e. ap fault_in e) (identifiers_of s) (stays r))
      ∙ faults_same (λ y. fault_in (windowed y r)) (λ y. fault_in (grouped y (key r))) (others_of s) (all_more (λ y. windowed y r ≡ grouped y (key r)) (λ y. fault_in (windowed y r) ≡ fault_in (grouped y (key r))) (λ y e. ap fault_in e) (others_of s) (same_values r w))
      ∙ ap (faults_by (λ y. fault_in (grouped y (key r)))) same_others

  pub faults_alike : fault_in (analytic_of p (over_partitions o names) d s) ≡ fault_in (aggregate_of p (by_groups f names) d t)
  faults_alike =
      let of_group = group_fault grouped (others_of t) in
      let keys = keys_by places d.points in
      told (faults_by (group_fault windowed (columns_of s)) d.points) (map (point_of windowed (columns_of s)) d.points)
      ∙ faults_same (group_fault windowed (columns_of s)) (λ r. of_group (key r)) d.points (all_more IsHere (λ r. group_fault windowed (columns_of s) r ≡ of_group (key r)) point_fault_same d.points h.typed)
      ∙ sym (faults_of_map of_group key d.points) ∙ sym (faults_once of_group (map key d.points))
      ∙ ap (faults_by of_group) (sym (filter_true keys)) ∙ ap (λ m. join m (faults_by of_group (filter (λ z. true) keys))) (sym (no_fault keys))
      ∙ sym (told (join (faults_by (λ z. None) keys) (faults_by of_group (filter (λ z. true) keys))) (map (group_point grouped (others_of t)) (filter (λ z. true) keys)))
