-- Totals and differences give data sets: the identifiers stay, and each measure keeps its kind.
use Rattle.std.proofs.Common.{◌≡◌, ℕ, pos, Bool, true, false, not, ◌&&◌, cond, List, [], ◌∷◌, ◌++◌, map, take, length, Ok, Err, Option, Some, None, refl, sym, ap, ◌∙◌, subst, true≢false}
use Rattle.std.specs.Prelude.{IfOk, IfSome, if◌then◌else◌, unwrap_or}
use Rattle.std.specs.List.{AllByRecursion, filter}
use Rattle.std.specs.Option.{option_map_or}
use Rattle.std.proofs.Math.Seq.{take-append_seam}
use Rattle.std.proofs.lemmas.List.{append-nil, length-map, map-append}
use Rattle.std.proofs.lemmas.List.Elements.{filter-append}
use Rattle.vtl_lists.proofs.Perms.{AllByRecursion-Perm}
use Rattle.vtl_lists.proofs.Sorts.{AllByRecursion-filter, AllByRecursion-map}
use Rattle.vtl_lists.proofs.Alls.{all_append, all_both, all_filtered, all_front, all_more}
use Rattle.vtl_lists.proofs.Filters.{filter_all, filter_none, found_has}
use Rattle.vtl_decimal.specs.Range.{fit_number}
use Rattle.vtl_decimal.specs.Settings.{Settings}
use Rattle.vtl_cell.specs.AggregateKinds.{is_number}
use Rattle.vtl_cell.specs.Conversion.{as_kind}
use Rattle.vtl_cell.specs.Groups.{group_value}
use Rattle.vtl_cell.specs.Kinds.{is_null, kind_of}
use Rattle.vtl_cell.specs.Outcome.{Outcome, after, faults_by}
use Rattle.vtl_cell.specs.Row.{Row, column_of}
use Rattle.vtl_cell.specs.ScalarArithmetic.{number, units}
use Rattle.vtl_cell.specs.ScalarKinds.{meets}
use Rattle.vtl_cell.specs.Scalars.{scalar_of}
use Rattle.vtl_cell.specs.declared.cell.Cell.{Cell}
use Rattle.vtl_cell.specs.declared.cell.Cell.TheVariants as c
use Rattle.vtl_cell.specs.declared.kind.Kind.{Kind}
use Rattle.vtl_cell.specs.declared.kind.Kind.TheVariants as k
use Rattle.vtl_cell.specs.declared.operator.AggKind.TheVariants as agg
use Rattle.vtl_cell.specs.declared.operator.ScalarOp.TheVariants as op
use Rattle.vtl_scalar.proofs.ValueKindLemmas.{value_is_of_kind}
use Rattle.vtl_rows.specs.Tables.{cells_at}
use Rattle.vtl_tree.specs.Choices.{chosen, is_identifier}
use Rattle.vtl_tree.specs.Columns.{identifiers_of, others_of, place_of, places_in}
use Rattle.vtl_tree.specs.DataSet.{IsDataSet, is_point}
use Rattle.vtl_tree.specs.Environment.{DataSet}
use Rattle.vtl_tree.specs.Measures.{given_measure, is_measure, measures}
use Rattle.vtl_tree.specs.Names.{component_of}
use Rattle.vtl_tree.specs.Structure.{IsStructure, columns_of, key_width, of_role, same_role}
use Rattle.vtl_tree.specs.declared.choices.Choice.TheVariants as choice
use Rattle.vtl_tree.specs.declared.structure.Component.{Component}
use Rattle.vtl_tree.specs.declared.structure.Role.{Role}
use Rattle.vtl_tree.specs.declared.structure.Role.TheVariants as role
use Rattle.vtl_tree.specs.declared.structure.Structure.{Structure}
use Rattle.vtl_meaning.specs.Aggregates.{Made, group_fault as point_fault}
use Rattle.vtl_meaning.specs.Analytics.{each_point as each_made, point_of}
use Rattle.vtl_meaning.specs.LookUps.{value_named}
use Rattle.vtl_meaning.specs.Points.{cell_or_null}
use Rattle.vtl_meaning.proofs.AnalyticColumns.{IsOther, by_roles, cells_are, columns_found, identifier_cells}
use Rattle.vtl_meaning.proofs.GroupKinds.{GivesOf, IsOf, group_is, null_is_of}
use Rattle.vtl_meaning.proofs.GroupPoints.{HasCell, found_cell, unless_has}
use Rattle.vtl_meaning.proofs.ValueKinds.{after_if}
use Rattle.vtl_meaning.proofs.Places.{columns_split, attribute_role, measure_role}
use Rattle.vtl_meaning.proofs.AnalyticPoints.{keys_apart}
use Rattle.vtl_meaning.proofs.AnalyticShaped.{no_measure}
use Rattle.vtl_meaning.proofs.CallKinds.{number_is}
use Rattle.vtl_tree.specs.Times.{flow_components, flow_gives}
use Rattle.vtl_timing.specs.Times.{before, by_measure, flow_of, flow_value, in_one_series, previous, series_of, stock_of, stock_value, up_to}

-- ---- the columns of the result
-- a measure of the result is made of one among these columns
pub record IsOfMeasure (xs : List Component) (y : Component) : Type 0 where
  pub measure : is_measure y ≡ true
  pub own : Component
  pub found : component_of y.name xs ≡ Some own
  pub kind : own.kind ≡ y.kind
  pub number : is_number y.kind ≡ true

pub kind_kept : (b : Bool) (kind : Kind) → unwrap_or (cond b (Some kind) None) kind ≡ kind
kind_kept true kind = refl
kind_kept false kind = refl

pub all_identify : (ys : List Component) → chosen choice.Except [] ys ≡ filter is_identifier ys
all_identify [] = refl
all_identify (y ∷ ys) = go (is_identifier y) (all_identify ys)
  where
    go : (b : Bool) → chosen choice.Except [] ys ≡ filter is_identifier ys → cond (b && true) (y ∷ chosen choice.Except [] ys) (chosen choice.Except [] ys) ≡ cond b (y ∷ filter is_identifier ys) (filter is_identifier ys)
    go true ih = ap (λ l. y ∷ l) ih
    go false ih = ih

no_identifiers : (ms : List Component) → AllByRecursion IsOther (map (given_measure flow_gives None) ms)
no_identifiers [] = tt
no_identifiers (m ∷ ms) = (refl, no_identifiers ms)

module _ (a s : Structure) (w : IsStructure a) (numbers : AllByRecursion (λ x. is_number x.kind ≡ true) (measures a.components)) (shape : s.components ≡ flow_components a.components) where
  abbrev ids : List Component
  ids = chosen choice.Except [] a.components

  abbrev given : List Component
  given = map (given_measure flow_gives None) (measures a.components)

  pub identify : identifiers_of s ≡ identifiers_of a
  identify =
      ap (filter is_identifier) shape
      ∙ filter-append is_identifier ids given
      ∙ ap (λ l. filter is_identifier ids ++ l) (filter_none is_identifier given (no_identifiers (measures a.components)))
      ∙ append-nil (filter is_identifier ids)
      ∙ ap (filter is_identifier) (all_identify a.components)
      ∙ filter_all is_identifier (filter is_identifier a.components) (all_filtered is_identifier a.components)

  abbrev Good : Component → Type 0
  Good y = IsOther y → IsOfMeasure (columns_of a) y

  made_measures : (ms : List Component) → AllByRecursion (λ m. is_number m.kind ≡ true) ms → AllByRecursion (λ m. component_of m.name (columns_of a) ≡ Some m) ms → AllByRecursion Good (map (given_measure flow_gives None) ms)
  made_measures [] h f = tt
  made_measures (m ∷ ms) h f =
      let same = kind_kept (is_number m.kind) m.kind in
      ((λ other. record { measure = refl; own = m; found = f.0; kind = sym same; number = ap is_number same ∙ h.0 }), made_measures ms h.1 f.1)

  good_identifiers : (ys : List Component) → AllByRecursion (λ y. is_identifier y ≡ true) ys → AllByRecursion Good ys
  good_identifiers ys h = all_more (λ y. is_identifier y ≡ true) Good (λ y e other. absurd (true≢false (sym e ∙ other))) ys h

  found_measures : AllByRecursion (λ y. component_of y.name (columns_of a) ≡ Some y) (measures a.components)
  found_measures =
      let P : Component → Type 0 = λ y. component_of y.name (columns_of a) ≡ Some y in
      AllByRecursion-filter P is_measure a.components (AllByRecursion-Perm P (by_roles a.components) (columns_found a w))

  all_good : AllByRecursion Good s.components
  all_good =
      subst (AllByRecursion Good) (sym shape)
      (all_append Good ids given (subst (AllByRecursion Good) (sym (all_identify a.components)) (good_identifiers (filter is_identifier a.components) (all_filtered is_identifier a.components)))
      (made_measures (measures a.components) numbers found_measures))

  of_other : (r : Role) → ((x : Component) → same_role x.role r ≡ true → IsOther x) → AllByRecursion (IsOfMeasure (columns_of a)) (of_role r s)
  of_other r other =
      all_both Good (λ x. same_role x.role r ≡ true) (IsOfMeasure (columns_of a)) (λ x g e. g (other x e)) (of_role r s)
      (AllByRecursion-filter Good (λ x. same_role x.role r) s.components all_good) (all_filtered (λ x. same_role x.role r) s.components)

  pub others_are : AllByRecursion (IsOfMeasure (columns_of a)) (others_of s)
  others_are = all_append (IsOfMeasure (columns_of a)) (of_role role.Measure s) (of_role role.Attribute s) (of_other role.Measure (λ x. measure_role x.role)) (of_other role.Attribute (λ x. attribute_role x.role))

  pub free : AllByRecursion (λ y. is_measure y ≡ false) (identifiers_of s)
  free = all_more (λ y. is_identifier y ≡ true) (λ y. is_measure y ≡ false) (λ y e. no_measure y.role e) (identifiers_of s) (all_filtered is_identifier s.components)

  -- ---- the points
  module _ (v : IsStructure s) (value : Component → Row → Outcome Cell) (points : List Row) (h : IsDataSet a points) (gives : (y : Component) (r : Row) → IsOfMeasure (columns_of a) y → is_point (columns_of a) r ≡ true → GivesOf y.kind (value y r)) where
    abbrev xs : List Component
    xs = columns_of a

    abbrev made : Made
    made = by_measure value a

    abbrev IsRow : Row → Type 0
    IsRow r = is_point xs r ≡ true

    kept_cell : (y : Component) (r : Row) → is_measure y ≡ false → made y r ≡ Ok (column_of (place_of y.name xs) r)
    kept_cell y r e = ap (λ b. if b then value y r else Ok (value_named xs r y.name)) e

    made_cell : (y : Component) (r : Row) → is_measure y ≡ true → made y r ≡ value y r
    made_cell y r e = ap (λ b. if b then value y r else Ok (value_named xs r y.name)) e

    kept_cells : (r : Row) (ys : List Component) → AllByRecursion (λ y. is_measure y ≡ false) ys → point_of made ys r ≡ cells_at (places_in xs ys) r
    kept_cells r [] all = refl
    kept_cells r (y ∷ ys) all = λ j. cell_or_null (kept_cell y r all.0 j) ∷ kept_cells r ys all.1 j

    pub key_of_point : (r : Row) → IsRow r → take (key_width s) (point_of made (columns_of s) r) ≡ take (key_width a) r
    key_of_point r t =
        let f : Component → Cell = λ y. cell_or_null (made y r) in
        let keys = identifiers_of s in
        ap (λ zs. take (length keys) (map f zs)) (columns_split s)
        ∙ ap (take (length keys)) (map-append f keys (others_of s))
        ∙ ap (λ n. take n (map f keys ++ map f (others_of s))) (sym (length-map keys f))
        ∙ take-append_seam (map f keys) (map f (others_of s))
        ∙ kept_cells r keys free
        ∙ ap (λ zs. cells_at (places_in xs zs) r) identify
        ∙ identifier_cells a r w t

    value_is : (y : Component) (m : Outcome Cell) → GivesOf y.kind m → IsOf y.kind (cell_or_null m)
    value_is y (Ok x) g = g
    value_is y (Err f) g = null_is_of y.kind

    found : AllByRecursion (λ y. component_of y.name xs ≡ Some y) (identifiers_of s)
    found =
        let P : Component → Type 0 = λ y. component_of y.name xs ≡ Some y in
        subst (AllByRecursion P) (sym identify) (all_front P (identifiers_of a) (others_of a) (subst (AllByRecursion P) (columns_split a) (columns_found a w)))

    stays : (r : Row) → IsRow r → (y : Component) → is_measure y ≡ false → component_of y.name xs ≡ Some y → HasCell y (cell_or_null (made y r))
    stays r t y e f = subst (λ m. HasCell y (cell_or_null m)) (sym (kept_cell y r e)) (found_cell y.name y xs r f t)

    others : (r : Row) → IsRow r → (y : Component) → IsOfMeasure xs y → IsOther y → HasCell y (cell_or_null (made y r))
    others r t y e o = (value_is y (made y r) (subst (GivesOf y.kind) (sym (made_cell y r e.measure)) (gives y r e t)), ap (λ b. not (b && is_null (cell_or_null (made y r)))) o)

    others_other : AllByRecursion IsOther (others_of s)
    others_other = all_append IsOther (of_role role.Measure s) (of_role role.Attribute s)
        (all_more (λ x. same_role x.role role.Measure ≡ true) IsOther (λ x. measure_role x.role) (of_role role.Measure s) (all_filtered (λ x. same_role x.role role.Measure) s.components))
        (all_more (λ x. same_role x.role role.Attribute ≡ true) IsOther (λ x. attribute_role x.role) (of_role role.Attribute s) (all_filtered (λ x. same_role x.role role.Attribute) s.components))

    cells_have : (r : Row) → IsRow r → AllByRecursion (λ y. HasCell y (cell_or_null (made y r))) (columns_of s)
    cells_have r t =
        subst (AllByRecursion (λ y. HasCell y (cell_or_null (made y r)))) (sym (columns_split s))
        (all_append (λ y. HasCell y (cell_or_null (made y r))) (identifiers_of s) (others_of s)
        (all_both (λ y. is_measure y ≡ false) (λ y. component_of y.name xs ≡ Some y) (λ y. HasCell y (cell_or_null (made y r))) (stays r t) (identifiers_of s) free found)
        (all_both (IsOfMeasure xs) IsOther (λ y. HasCell y (cell_or_null (made y r))) (others r t) (others_of s) others_are others_other))

    points_are : IsDataSet s (map (point_of made (columns_of s)) points)
    points_are =
        let f : Row → Row = point_of made (columns_of s) in
        record {
          well_formed = v;
          typed = AllByRecursion-map f (λ r. is_point (columns_of s) r ≡ true) points (all_more IsRow (λ r. is_point (columns_of s) (f r) ≡ true) (λ r t. cells_are (λ y. cell_or_null (made y r)) (columns_of s) (cells_have r t)) points h.typed);
          distinct = keys_apart (key_width s) (key_width a) f points (all_more IsRow (λ r. take (key_width s) (f r) ≡ take (key_width a) r) key_of_point points h.typed) ∙ h.distinct;
        }

    measures_kept : IfOk (each_made made (columns_of s) points) (IsDataSet s)
    measures_kept = unless_has (IsDataSet s) (faults_by (point_fault made (columns_of s)) points) (map (point_of made (columns_of s)) points) points_are

-- ---- values
pub own_cell : (xs : List Component) (y : Component) (r : Row) → IsOfMeasure xs y → is_point xs r ≡ true → IsOf y.kind (value_named xs r y.name)
own_cell xs y r i t = subst (λ kind. IsOf kind (value_named xs r y.name)) i.kind (found_cell y.name i.own xs r i.found t).0

pub own_cells : (columns : List Component) (y : Component) (points : List Row) → IsOfMeasure columns y → AllByRecursion (λ r. is_point columns r ≡ true) points → AllByRecursion (IsOf y.kind) (map (λ r. value_named columns r y.name) points)
own_cells columns y [] i h = tt
own_cells columns y (r ∷ points) i h = (own_cell columns y r i h.0, own_cells columns y points i h.1)

pub null_alone : (v : Cell) → IsOf k.Null v → is_null v ≡ true
null_alone c.Null h = refl
null_alone v h = cc

total_is : (p : Settings) (kind : Kind) (v : Cell) (vs : List Cell) → is_number kind ≡ true → IsOf kind v → AllByRecursion (IsOf kind) vs → GivesOf kind (if is_null v then Ok c.Null else group_value p agg.Sum vs)
total_is p kind v vs n h all = go (is_null v) refl
  where
    of_kind : (kind : Kind) → is_number kind ≡ true → (kind ≡ k.Null → ⊥) → AllByRecursion (IsOf kind) vs → GivesOf kind (group_value p agg.Sum vs)
    of_kind k.Int n some all = group_is p agg.Sum k.Int k.Int vs refl all
    of_kind k.Num n some all = group_is p agg.Sum k.Num k.Num vs refl all
    of_kind k.Null n some all = absurd (some refl)
    of_kind kind n some all = cc

    go : (b : Bool) → is_null v ≡ b → GivesOf kind (if b then Ok c.Null else group_value p agg.Sum vs)
    go true e = null_is_of kind
    go false e = of_kind kind n (λ same. true≢false (sym (null_alone v (subst (λ z. IsOf z v) same h)) ∙ e)) all

stock_is : (p : Settings) (d : DataSet) (y : Component) (r : Row) → AllByRecursion (λ q. is_point (columns_of d.structure) q ≡ true) d.points → IsOfMeasure (columns_of d.structure) y → is_point (columns_of d.structure) r ≡ true → GivesOf y.kind (stock_value p d y r)
stock_is p d y r all i t =
    total_is p y.kind (value_named (columns_of d.structure) r y.name) (map (λ q. value_named (columns_of d.structure) q y.name) (up_to d r)) i.number (own_cell (columns_of d.structure) y r i t)
    (own_cells (columns_of d.structure) y (up_to d r) i (AllByRecursion-filter (λ q. is_point (columns_of d.structure) q ≡ true) _ (series_of d r) (AllByRecursion-filter (λ q. is_point (columns_of d.structure) q ≡ true) (in_one_series d.structure r) d.points all)))

pub stocks_kept : (p : Settings) (d : DataSet) (s : Structure) → IsStructure s → AllByRecursion (λ x. is_number x.kind ≡ true) (measures d.structure.components) → s.components ≡ flow_components d.structure.components → IsDataSet d.structure d.points → IfOk (stock_of p d s) (IsDataSet s)
stocks_kept p d s v numbers shape h =
    measures_kept d.structure s h.well_formed numbers shape v (stock_value p d) d.points h (λ y r i t. stock_is p d y r h.typed i t)

-- each value of a point fits its column, also where another one has a fault
pub stock_cells : (p : Settings) (d : DataSet) (s : Structure) → IsStructure s → AllByRecursion (λ x. is_number x.kind ≡ true) (measures d.structure.components) → s.components ≡ flow_components d.structure.components → IsDataSet d.structure d.points
    → (r : Row) → is_point (columns_of d.structure) r ≡ true → AllByRecursion (λ y. HasCell y (cell_or_null (by_measure (stock_value p d) d.structure y r))) (columns_of s)
stock_cells p d s v numbers shape h = cells_have d.structure s h.well_formed numbers shape v (stock_value p d) d.points h (λ y r i t. stock_is p d y r h.typed i t)

-- an integer zero stands beside numbers
abbrev IsBeside : Kind → Cell → Type 0
IsBeside kind v = meets kind (kind_of v) ≡ true

beside_of : (kind : Kind) (v : Cell) → is_number kind ≡ true → IsOf kind v → IsBeside kind v
beside_of k.Null c.Null n h = refl
beside_of k.Int c.Null n h = refl
beside_of k.Int (c.Int x) n h = refl
beside_of k.Num c.Null n h = refl
beside_of k.Num (c.Num x) n h = refl
beside_of kind v n h = cc

zero_beside : (kind : Kind) → is_number kind ≡ true → (kind ≡ k.Null → ⊥) → IsBeside kind (c.Int (pos 0))
zero_beside k.Int n some = refl
zero_beside k.Num n some = refl
zero_beside k.Null n some = absurd (some refl)
zero_beside kind n some = cc

as_int : (p : Settings) (v : Cell) → IsBeside k.Int v → GivesOf k.Int (as_kind p k.Int v)
as_int p c.Null h = refl
as_int p (c.Int x) h = refl
as_int p v h = cc

as_num : (p : Settings) (v : Cell) → IsBeside k.Num v → GivesOf k.Num (as_kind p k.Num v)
as_num p c.Null h = refl
as_num p (c.Num x) h = refl
as_num p (c.Int n) h = number_is (fit_number (units p n))
as_num p v h = cc

difference_is : (p : Settings) (kind : Kind) (x y : Cell) → is_number kind ≡ true → IsOf kind x → ((kind ≡ k.Null → ⊥) → IsBeside kind y) → GivesOf kind (after (scalar_of p op.Subtract (x ∷ y ∷ [])) (as_kind p kind))
difference_is p k.Int x y n h b =
    let hx : IsBeside k.Int x = beside_of k.Int x n h in
    let hy : IsBeside k.Int y = b (λ e. cc) in
    after_if (scalar_of p op.Subtract (x ∷ y ∷ [])) (as_kind p k.Int) (IsBeside k.Int) (IsOf k.Int) (value_is_of_kind p op.Subtract (k.Int ∷ k.Int ∷ []) (x ∷ y ∷ []) k.Int refl (rw (hx, hy) refl)) (as_int p)
difference_is p k.Num x y n h b =
    let hx : IsBeside k.Num x = beside_of k.Num x n h in
    let hy : IsBeside k.Num y = b (λ e. cc) in
    after_if (scalar_of p op.Subtract (x ∷ y ∷ [])) (as_kind p k.Num) (IsBeside k.Num) (IsOf k.Num) (value_is_of_kind p op.Subtract (k.Num ∷ k.Num ∷ []) (x ∷ y ∷ []) k.Num refl (rw (hx, hy) refl)) (as_num p)
difference_is p k.Null c.Null y n h b = refl
difference_is p kind x y n h b = cc

flow_is : (p : Settings) (d : DataSet) (y : Component) (r : Row) → AllByRecursion (λ q. is_point (columns_of d.structure) q ≡ true) d.points → IsOfMeasure (columns_of d.structure) y → is_point (columns_of d.structure) r ≡ true → GivesOf y.kind (flow_value p d y r)
flow_is p d y r all i t =
    difference_is p y.kind (at r) (option_map_or at (previous d r) (c.Int (pos 0))) i.number (own_cell xs y r i t)
    (λ some. go some (previous d r) (found_has IsRow _ (before d r) (AllByRecursion-filter IsRow _ (series_of d r) (AllByRecursion-filter IsRow (in_one_series d.structure r) d.points all))))
  where
    xs : List Component
    xs = columns_of d.structure

    at : Row → Cell
    at q = value_named (columns_of d.structure) q y.name

    IsRow : Row → Type 0
    IsRow q = is_point (columns_of d.structure) q ≡ true

    go : (y.kind ≡ k.Null → ⊥) → (o : Option Row) → IfSome o IsRow → IsBeside y.kind (option_map_or at o (c.Int (pos 0)))
    go some None h = zero_beside y.kind i.number some
    go some (Some q) h = beside_of y.kind (at q) i.number (own_cell (columns_of d.structure) y q i h)

pub flows_kept : (p : Settings) (d : DataSet) (s : Structure) → IsStructure s → AllByRecursion (λ x. is_number x.kind ≡ true) (measures d.structure.components) → s.components ≡ flow_components d.structure.components → IsDataSet d.structure d.points → IfOk (flow_of p d s) (IsDataSet s)
flows_kept p d s v numbers shape h =
    measures_kept d.structure s h.well_formed numbers shape v (flow_value p d) d.points h (λ y r i t. flow_is p d y r h.typed i t)

pub flow_cells : (p : Settings) (d : DataSet) (s : Structure) → IsStructure s → AllByRecursion (λ x. is_number x.kind ≡ true) (measures d.structure.components) → s.components ≡ flow_components d.structure.components → IsDataSet d.structure d.points
    → (r : Row) → is_point (columns_of d.structure) r ≡ true → AllByRecursion (λ y. HasCell y (cell_or_null (by_measure (flow_value p d) d.structure y r))) (columns_of s)
flow_cells p d s v numbers shape h = cells_have d.structure s h.well_formed numbers shape v (flow_value p d) d.points h (λ y r i t. flow_is p d y r h.typed i t)
