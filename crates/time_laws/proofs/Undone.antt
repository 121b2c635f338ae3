-- `stock_to_flow` undoes `flow_to_stock`, where no measure is null and no total has a fault.
use Rattle.std.proofs.Common.{◌≡◌, ℕ, zero, suc, pos, Bool, true, false, not, ◌&&◌, cond, List, [], ◌∷◌, ◌++◌, find, filter, map, length, Ok, Option, Some, None, option_map, refl, sym, ap, ◌∙◌, subst, true≢false}
use Rattle.std.specs.Prelude.{if◌then◌else◌, IfOk}
use Rattle.std.specs.List.{AllByRecursion, list_all, position_or_len}
use Rattle.std.specs.Option.{option_map_or}
use Rattle.std.specs.Ordering.{is_le, is_lt}
use Rattle.std.proofs.lemmas.List.{map-append}
use Rattle.vtl_lists.proofs.Perms.{AllByRecursion-Perm, Perm-map, Perm-sym}
use Rattle.vtl_lists.proofs.Sorts.{AllByRecursion-filter}
use Rattle.vtl_lists.proofs.Alls.{all_append, all_back, all_both, all_filtered, all_front, all_more}
use Rattle.vtl_tuples.proofs.Lists.{map_same}
use Rattle.vtl_decimal.specs.Settings.{Settings}
use Rattle.vtl_cell.specs.AggregateKinds.{is_number}
use Rattle.vtl_cell.specs.Groups.{group_value}
use Rattle.vtl_cell.specs.Held.{IsHeld}
use Rattle.vtl_cell.specs.Kinds.{is_null}
use Rattle.vtl_cell.specs.Order.{cell_cmp, same_cell}
use Rattle.vtl_cell.specs.Outcome.{Outcome, fault_in, faults_by, join, unless}
use Rattle.vtl_cell.specs.Outcomes.{result_of}
use Rattle.vtl_cell.specs.Profile.{IsOfProfile}
use Rattle.vtl_cell.specs.Row.{Row, column_of, same_row}
use Rattle.vtl_cell.specs.ScalarPeriods.{frequency_of}
use Rattle.vtl_cell.specs.declared.cell.Cell.{Cell}
use Rattle.vtl_cell.specs.declared.cell.Cell.TheVariants as c
use Rattle.vtl_cell.specs.declared.operator.AggKind.TheVariants as agg
use Rattle.vtl_cell.specs.declared.operator.ScalarOp.TheVariants as op
use Rattle.vtl_cell.proofs.Aggregates.{group-Perm}
use Rattle.vtl_rows.specs.Tables.{cells_at}
use Rattle.vtl_tree.specs.Choices.{chosen}
use Rattle.vtl_tree.specs.Columns.{identifiers_of, measures_of, others_of, places_in}
use Rattle.vtl_tree.specs.DataSet.{AreOfProfile, IsDataSet, is_point}
use Rattle.vtl_tree.specs.Environment.{DataSet}
use Rattle.vtl_tree.specs.Measures.{given_measure, is_measure, measures}
use Rattle.vtl_tree.specs.Names.{component_of}
use Rattle.vtl_tree.specs.Structure.{columns_of, of_role, same_name, same_role}
use Rattle.vtl_tree.specs.Times.{flow_gives}
use Rattle.vtl_tree.specs.Value.{called}
use Rattle.vtl_tree.specs.declared.choices.Choice.TheVariants as choice
use Rattle.vtl_tree.specs.declared.structure.Component.{Component}
use Rattle.vtl_tree.specs.declared.structure.Role.{Role}
use Rattle.vtl_tree.specs.declared.structure.Role.TheVariants as role
use Rattle.vtl_tree.specs.declared.structure.Structure.{Structure}
use Rattle.vtl_meaning.specs.Aggregates.{Made, group_fault as point_fault}
use Rattle.vtl_meaning.specs.Agreement.{values_in}
use Rattle.vtl_meaning.specs.Analytics.{each_point as each_made, point_of}
use Rattle.vtl_meaning.specs.LookUps.{value_named}
use Rattle.vtl_meaning.specs.Operators.{left_of}
use Rattle.vtl_meaning.specs.Points.{cell_or_null, with_points}
use Rattle.vtl_meaning.proofs.AnalyticColumns.{by_roles, columns_found}
use Rattle.vtl_meaning.proofs.Kept.{unless_ok}
use Rattle.vtl_meaning.proofs.LookUps.{named_cells}
use Rattle.vtl_meaning.proofs.OwnColumns.{columns_apart}
use Rattle.vtl_meaning.proofs.Places.{all_of_map, same_name-is, columns_split}
use Rattle.vtl_meaning.proofs.AnalyticShaped.{no_measure}
use Rattle.vtl_timing.specs.TimeShapes.{AreHeld, IsFlowed}
use Rattle.vtl_timing.specs.Times.{HasTime, before, by_measure, flow_of, flow_value, in_one_series, is_time, other_identifiers, previous, series_of, stock_of, stock_value, time_of, time_place, up_to}
use Rattle.vtl_timing.proofs.FlowOrders.{own_time}
use Rattle.vtl_timing.proofs.FlowsKept.{IsOfMeasure, free, identify, others_are, own_cell, stocks_kept, kind_kept}
use Rattle.vtl_timing.proofs.ShiftKept.{each_without}
use Rattle.time_laws.specs.Stands.{HasNoNulls}
use Rattle.time_laws.proofs.Before.{before_is, none_before, up_to_is}
use Rattle.time_laws.proofs.Differences.{IsBefore, IsThere, last_back}
use Rattle.time_laws.proofs.Lists.{IsAmong, all_among, find_gives, item_has}
use Rattle.time_laws.proofs.Shifts.{own_made}

-- ---- lists through a map
filter_through : (p q : Row → Bool) (f : Row → Row) (xs : List Row) → AllByRecursion (λ x. p (f x) ≡ q x) xs → filter p (map f xs) ≡ map f (filter q xs)
filter_through p q f [] all = refl
filter_through p q f (x ∷ xs) all = ap (λ b. cond b (f x ∷ filter p (map f xs)) (filter p (map f xs))) all.0 ∙ go (q x) (filter_through p q f xs all.1)
  where
    go : (b : Bool) → filter p (map f xs) ≡ map f (filter q xs) → cond b (f x ∷ filter p (map f xs)) (filter p (map f xs)) ≡ map f (cond b (x ∷ filter q xs) (filter q xs))
    go true ih = ap (λ l. f x ∷ l) ih
    go false ih = ih

find_through : (p q : Row → Bool) (f : Row → Row) (xs : List Row) → AllByRecursion (λ x. p (f x) ≡ q x) xs → find p (map f xs) ≡ option_map f (find q xs)
find_through p q f [] all = refl
find_through p q f (x ∷ xs) all = ap (λ b. cond b (Some (f x)) (find p (map f xs))) all.0 ∙ go (q x) (find_through p q f xs all.1)
  where
    go : (b : Bool) → find p (map f xs) ≡ option_map f (find q xs) → cond b (Some (f x)) (find p (map f xs)) ≡ option_map f (cond b (Some x) (find q xs))
    go true ih = refl
    go false ih = ih

all_through : (p q : Row → Bool) (f : Row → Row) (xs : List Row) → AllByRecursion (λ x. p (f x) ≡ q x) xs → list_all p (map f xs) ≡ list_all q xs
all_through p q f [] all = refl
all_through p q f (x ∷ xs) all = λ i. all.0 i && all_through p q f xs all.1 i

cell_has : (P : Cell → Type 0) → P c.Null → (r : Row) → AllByRecursion P r → (i : ℕ) → P (column_of i r)
cell_has P n [] all i = n
cell_has P n (v ∷ r) all zero = all.0
cell_has P n (v ∷ r) all (suc i) = cell_has P n r all.1 i

there_is : (m : Outcome Cell) → fault_in m ≡ None → m ≡ Ok (cell_or_null m)
there_is (Ok v) e = refl
there_is m e = cc

-- ---- the columns of flows, each with the one that it is made of
record IsMadeOf (xs : List Component) (y : Component) : Type 0 where
  own : Component
  found : component_of y.name xs ≡ Some own
  measure : is_measure own ≡ true
  kind : own.kind ≡ y.kind
  number : is_number y.kind ≡ true

no_measures : (r : Role) → same_role r role.Attribute ≡ true → same_role r role.Measure ≡ false
no_measures role.Identifier h = cc
no_measures role.Measure h = cc
no_measures role.Attribute h = refl

abbrev IsMade : List Component → Component → Type 0
IsMade xs y = is_measure y ≡ true → IsMadeOf xs y

module _ (a s : Structure) (w : IsFlowed a s) where
  made_of : (ms : List Component) → AllByRecursion (λ m. is_number m.kind ≡ true) ms → AllByRecursion (λ m. is_measure m ≡ true) ms → AllByRecursion (λ m. component_of m.name (columns_of a) ≡ Some m) ms
      → AllByRecursion (IsMade (columns_of a)) (map (given_measure flow_gives None) ms)
  made_of [] n m f = tt
  made_of (x ∷ xs) n m f =
      let same = kind_kept (is_number x.kind) x.kind in
      ((λ t. record { own = x; found = f.0; measure = m.0; kind = sym same; number = ap is_number same ∙ n.0 }), made_of xs n.1 m.1 f.1)

  not_made : (ys : List Component) → AllByRecursion (IsMade (columns_of a)) (chosen choice.Except [] ys)
  not_made [] = tt
  not_made (y ∷ ys) = go (same_role y.role role.Identifier) refl (not_made ys)
    where
      go : (b : Bool) → same_role y.role role.Identifier ≡ b → AllByRecursion (IsMade (columns_of a)) (chosen choice.Except [] ys) → AllByRecursion (IsMade (columns_of a)) (cond (b && true) (y ∷ chosen choice.Except [] ys) (chosen choice.Except [] ys))
      go true e ih = ((λ t. absurd (true≢false (sym t ∙ no_measure y.role e))), ih)
      go false e ih = ih

  are_made : AllByRecursion (IsMade (columns_of a)) (columns_of s)
  are_made =
      let P : Component → Type 0 = λ y. component_of y.name (columns_of a) ≡ Some y in
      AllByRecursion-Perm (IsMade (columns_of a)) (Perm-sym (by_roles s.components))
      (subst (AllByRecursion (IsMade (columns_of a))) (sym w.shape)
      (all_append (IsMade (columns_of a)) (chosen choice.Except [] a.components) (map (given_measure flow_gives None) (measures a.components)) (not_made a.components)
      (made_of (measures a.components) w.numbers (all_filtered is_measure a.components) (AllByRecursion-filter P is_measure a.components (AllByRecursion-Perm P (by_roles a.components) (columns_found a w.operand))))))

-- ---- columns without a fault
all_none : (f : Component → Outcome Cell) (g : Component → Cell) (ys : List Component) → AllByRecursion (λ y. f y ≡ Ok (g y)) ys → faults_by (λ y. fault_in (f y)) ys ≡ None
all_none f g [] all = refl
all_none f g (y ∷ ys) all = λ i. join (fault_in (all.0 i)) (all_none f g ys all.1 i)

cells_are : (f : Component → Outcome Cell) (g : Component → Cell) (ys : List Component) → AllByRecursion (λ y. f y ≡ Ok (g y)) ys → map (λ y. cell_or_null (f y)) ys ≡ map g ys
cells_are f g [] all = refl
cells_are f g (y ∷ ys) all = λ i. cell_or_null (all.0 i) ∷ cells_are f g ys all.1 i

module _ (made : Made) (ys : List Component) (f : Row → Row) (g : Row → Component → Cell) where
  abbrev AreGiven : Row → Type 0
  AreGiven r = AllByRecursion (λ y. made y (f r) ≡ Ok (g r y)) ys

  no_faults : (rows : List Row) → AllByRecursion AreGiven rows → faults_by (point_fault made ys) (map f rows) ≡ None
  no_faults [] all = refl
  no_faults (r ∷ rows) all = λ i. join (all_none (λ y. made y (f r)) (g r) ys all.0 i) (no_faults rows all.1 i)

  points_are : (rows : List Row) → AllByRecursion AreGiven rows → map (point_of made ys) (map f rows) ≡ map (λ r. map (g r) ys) rows
  points_are [] all = refl
  points_are (r ∷ rows) all = λ i. cells_are (λ y. made y (f r)) (g r) ys all.0 i ∷ points_are rows all.1 i

  each_is : (rows : List Row) → AllByRecursion AreGiven rows → each_made made ys (map f rows) ≡ Ok (map (λ r. map (g r) ys) rows)
  each_is rows all = λ i. unless (no_faults rows all i) (points_are rows all i)

-- ---- a data set and its stocks
module _ (p : Settings) (d : DataSet) (s : Structure) (w : IsFlowed d.structure s) (h : IsDataSet d.structure d.points) (us : List Row) (e : stock_of p d s ≡ Ok us) where
  abbrev a : Structure
  a = d.structure

  abbrev xs : List Component
  xs = columns_of a

  abbrev zs : List Component
  zs = columns_of s

  abbrev made : Made
  made = by_measure (stock_value p d) a

  abbrev P : Row → Row
  P r = point_of made zs r

  parts : (faults_by (point_fault made zs) d.points ≡ None) × (map P d.points ≡ us)
  parts = let both = unless_ok (faults_by (point_fault made zs) d.points) (map P d.points) us e in (both.0, both.1)

  none : AllByRecursion (λ r. point_fault made zs r ≡ None) d.points
  none = each_without (point_fault made zs) d.points parts.0

  are_points : AllByRecursion (λ r. is_point zs (P r) ≡ true) d.points
  are_points =
      let kept : IsDataSet s us = subst (λ m. IfOk m (IsDataSet s)) e (stocks_kept p d s w.well_formed w.numbers w.shape h) in
      all_of_map P (λ z. is_point zs z ≡ true) d.points (subst (AllByRecursion (λ z. is_point zs z ≡ true)) (sym parts.1) kept.typed)

  same_ids : identifiers_of s ≡ identifiers_of a
  same_ids = identify a s w.operand w.numbers w.shape

  timed : HasTime s
  timed = ap (λ ys. length (filter is_time ys)) same_ids ∙ w.time

  columns_are : (r : Row) → AllByRecursion (λ y. value_named zs (P r) y.name ≡ cell_or_null (made y r)) zs
  columns_are r = own_made (λ y. cell_or_null (made y r)) zs (columns_apart s w.well_formed)

  stays : (y : Component) (r : Row) → is_measure y ≡ false → made y r ≡ Ok (value_named xs r y.name)
  stays y r f = ap (λ b. if b then stock_value p d y r else Ok (value_named xs r y.name)) f

  keys_stay : (r : Row) → AllByRecursion (λ y. value_named zs (P r) y.name ≡ value_named xs r y.name) (identifiers_of s)
  keys_stay r =
      let Q : Component → Type 0 = λ y. value_named zs (P r) y.name ≡ cell_or_null (made y r) in
      all_both Q (λ y. is_measure y ≡ false) (λ y. value_named zs (P r) y.name ≡ value_named xs r y.name) (λ y f g. f ∙ ap cell_or_null (stays y r g)) (identifiers_of s)
      (all_front Q (identifiers_of s) (others_of s) (subst (AllByRecursion Q) (columns_split s) (columns_are r))) (free a s w.operand w.numbers w.shape)

  -- the series of a point and its time stay
  abbrev IsKept : Row → Type 0
  IsKept r = (values_in s (other_identifiers s) (P r) ≡ values_in a (other_identifiers a) r) × (time_of s (P r) ≡ time_of a r)

  point_kept : (r : Row) → is_point xs r ≡ true → is_point zs (P r) ≡ true → IsKept r
  point_kept r i j =
      let f : Component → Cell = λ y. value_named zs (P r) y.name in
      let g : Component → Cell = λ y. value_named xs r y.name in
      let same = keys_stay r in (
        map_same f g (other_identifiers s) (AllByRecursion-filter (λ y. f y ≡ g y) (λ x. not (is_time x)) (identifiers_of s) same) ∙ ap (λ ys. map g (filter (λ x. not (is_time x)) ys)) same_ids,
        sym (own_time s w.well_formed timed (P r) j) ∙ ap (column_of (time_place s)) (map_same f g (identifiers_of s) same)
            ∙ ap (λ ys. column_of (position_or_len is_time ys) (map g ys)) same_ids ∙ own_time a w.operand w.time r i,
      )

  all_kept : AllByRecursion IsKept d.points
  all_kept = all_both (λ r. is_point xs r ≡ true) (λ r. is_point zs (P r) ≡ true) IsKept point_kept d.points h.typed are_points

  abbrev stocks : DataSet
  stocks = with_points s (map P d.points)

  series_kept : (r : Row) → AllByRecursion IsKept (series_of d r)
  series_kept r = AllByRecursion-filter IsKept (in_one_series a r) d.points all_kept

  before_kept : (r : Row) → AllByRecursion IsKept (before d r)
  before_kept r = AllByRecursion-filter IsKept (λ z. is_lt (cell_cmp (time_of a z) (time_of a r))) (series_of d r) (series_kept r)

  series_through : (r : Row) → IsKept r → series_of stocks (P r) ≡ map P (series_of d r)
  series_through r m =
      filter_through (in_one_series s (P r)) (in_one_series a r) P d.points
      (all_more IsKept (λ q. in_one_series s (P r) (P q) ≡ in_one_series a r q) (λ q k i. same_row (k.0 i) (m.0 i) && same_cell (frequency_of (k.1 i)) (frequency_of (m.1 i))) d.points all_kept)

  before_through : (r : Row) → IsKept r → before stocks (P r) ≡ map P (before d r)
  before_through r m =
      let late : Row → Bool = λ z. is_lt (cell_cmp (time_of s z) (time_of s (P r))) in
      let early : Row → Bool = λ z. is_lt (cell_cmp (time_of a z) (time_of a r)) in
      ap (filter late) (series_through r m)
      ∙ filter_through late early P (series_of d r) (all_more IsKept (λ q. late (P q) ≡ early q) (λ q k i. is_lt (cell_cmp (k.1 i) (m.1 i))) (series_of d r) (series_kept r))

  previous_through : (r : Row) → IsKept r → previous stocks (P r) ≡ option_map P (previous d r)
  previous_through r m =
      let B = before d r in
      let last : List Row → Row → Bool = λ rows q. list_all (λ z. is_le (cell_cmp (time_of s z) (time_of s q))) rows in
      let own : Row → Bool = λ q. list_all (λ z. is_le (cell_cmp (time_of a z) (time_of a q))) B in
      ap (λ rows. find (last rows) rows) (before_through r m)
      ∙ find_through (last (map P B)) own P B
      (all_more IsKept (λ q. last (map P B) (P q) ≡ own q)
      (λ q k. all_through (λ z. is_le (cell_cmp (time_of s z) (time_of s (P q)))) (λ z. is_le (cell_cmp (time_of a z) (time_of a q))) P B
      (all_more IsKept (λ z. is_le (cell_cmp (time_of s (P z)) (time_of s (P q))) ≡ is_le (cell_cmp (time_of a z) (time_of a q))) (λ z n i. is_le (cell_cmp (n.1 i) (k.1 i))) B (before_kept r))) B (before_kept r))

  -- ---- one measure
  are_fine : AllByRecursion (λ x. is_measure x ≡ true → IsOfMeasure xs x) zs
  are_fine =
      let F : Component → Type 0 = λ x. is_measure x ≡ true → IsOfMeasure xs x in
      subst (AllByRecursion F) (sym (columns_split s))
      (all_append F (identifiers_of s) (others_of s)
      (all_more (λ x. is_measure x ≡ false) F (λ x f t. absurd (true≢false (sym t ∙ f))) (identifiers_of s) (free a s w.operand w.numbers w.shape))
      (all_more (IsOfMeasure xs) F (λ x i t. i) (others_of s) (others_are a s w.operand w.numbers w.shape)))

  module _ (profile : AreOfProfile p d.points) (held : AreHeld d.points) (there : AllByRecursion (HasNoNulls a) d.points) where
    module _ (y : Component) (m : IsMadeOf zs y) where
      abbrev own : Component
      own = m.own

      abbrev at : Row → Cell
      at z = value_named xs z own.name

      of_own : (Q : Component → Type 0) → AllByRecursion Q zs → Q own
      of_own Q all = (find_gives (λ x. same_name x.name y.name) Q zs own all m.found).0

      own_name : own.name ≡ y.name
      own_name = same_name-is own.name y.name (find_gives (λ x. same_name x.name y.name) (λ x. is_measure x ≡ true → IsOfMeasure xs x) zs own are_fine m.found).1

      of_measure : IsOfMeasure xs own
      of_measure = of_own (λ x. is_measure x ≡ true → IsOfMeasure xs x) are_fine m.measure

      source : IsMadeOf xs own
      source = of_own (IsMade xs) (are_made a s w) m.measure

      not_null : (r : Row) → HasNoNulls a r → is_null (at r) ≡ false
      not_null r n =
          let R : Component → Type 0 = λ x. is_measure x ≡ true → is_null (value_named xs r x.name) ≡ false in
          let none_here : (o : Role) → ((k : Role) → same_role k o ≡ true → same_role k role.Measure ≡ false) → AllByRecursion R (of_role o a) = λ o f.
          all_more (λ x. same_role x.role o ≡ true) R (λ x k t. absurd (true≢false (sym t ∙ f x.role k))) (of_role o a) (all_filtered (λ x. same_role x.role o) a.components) in
          let all : AllByRecursion R xs = subst (AllByRecursion R) (sym (columns_split a))
          (all_append R (identifiers_of a) (others_of a) (none_here role.Identifier no_measure)
          (all_append R (measures_of a) (of_role role.Attribute a) (all_more (λ x. is_null (value_named xs r x.name) ≡ false) R (λ x k t. k) (measures_of a) n) (none_here role.Attribute no_measures))) in
          let found = find_gives (λ x. same_name x.name own.name) R xs source.own all source.found in
          subst (λ name. is_null (value_named xs r name) ≡ false) (same_name-is source.own.name own.name found.1) (found.0 source.measure)

      abbrev Fact : Row → Type 0
      Fact r = IsThere own.kind (at r) × IsOfProfile p (at r) × IsHeld (at r) × (group_value p agg.Sum (map at (up_to d r)) ≡ Ok (value_named zs (P r) y.name))

      fact : (r : Row) → is_point xs r ≡ true → point_fault made zs r ≡ None → AllByRecursion (IsOfProfile p) r → AllByRecursion IsHeld r → HasNoNulls a r → Fact r
      fact r i none_at o k n =
          let some = not_null r n in
          let made_is : made own r ≡ group_value p agg.Sum (map at (up_to d r)) =
          ap (λ b. if b then stock_value p d own r else Ok (value_named xs r own.name)) m.measure ∙ ap (λ b. if b then Ok c.Null else group_value p agg.Sum (map at (up_to d r))) some in
          let no_fault = of_own (λ x. fault_in (made x r) ≡ None) (each_without (λ x. fault_in (made x r)) zs none_at) in
          let cell = of_own (λ x. value_named zs (P r) x.name ≡ cell_or_null (made x r)) (columns_are r) in (
            (own_cell xs own r of_measure i, some),
            cell_has (IsOfProfile p) tt r o _,
            cell_has IsHeld tt r k _,
            sym made_is ∙ there_is (made own r) no_fault ∙ ap (λ v. Ok v) (sym cell ∙ ap (value_named zs (P r)) own_name),
          )

      facts : AllByRecursion Fact d.points
      facts = go d.points h.typed none profile held there
        where
          go : (rows : List Row) → AllByRecursion (λ r. is_point xs r ≡ true) rows → AllByRecursion (λ r. point_fault made zs r ≡ None) rows → AreOfProfile p rows → AreHeld rows → AllByRecursion (HasNoNulls a) rows → AllByRecursion Fact rows
          go [] i n o k l = tt
          go (r ∷ rows) i n o k l = (fact r i.0 n.0 o.0 k.0 l.0, go rows i.1 n.1 o.1 k.1 l.1)

      -- ---- its value at a point
      abbrev at_stock : Row → Cell
      at_stock z = value_named zs z y.name

      abbrev last : Option Row → Cell
      last o = option_map_or at_stock (option_map P o) (c.Int (pos 0))

      facts_before : (r : Row) → AllByRecursion Fact (before d r)
      facts_before r = AllByRecursion-filter Fact (λ z. is_lt (cell_cmp (time_of a z) (time_of a r))) (series_of d r) (AllByRecursion-filter Fact (in_one_series a r) d.points facts)

      there_before : (rows : List Row) → AllByRecursion Fact rows → AllByRecursion (IsThere own.kind) (map at rows)
      there_before [] all = tt
      there_before (r ∷ rows) all = (all.0.0, there_before rows all.1)

      -- what stands before a point is the total at the previous one
      is_before : (r : Row) (o : Option Row) → previous d r ≡ o → IsBefore p (map at (before d r)) (last o)
      is_before r None f = subst (λ rows. IsBefore p (map at rows) (c.Int (pos 0))) (sym (none_before a w.operand w.time d.points h r f)) refl
      is_before r (Some x) f = by_rows (before d r) refl total
        where
          is_last : List Row → Row → Bool
          is_last rows q = list_all (λ z. is_le (cell_cmp (time_of a z) (time_of a q))) rows

          total : group_value p agg.Sum (map at (before d r)) ≡ Ok (at_stock (P x))
          total = ap (λ rows. group_value p agg.Sum (map at rows)) (sym (before_is a w.operand w.time d.points h r x f)) ∙ (find_gives (is_last (before d r)) Fact (before d r) x (facts_before r) f).0.3

          by_rows : (rows : List Row) → before d r ≡ rows → group_value p agg.Sum (map at rows) ≡ Ok (at_stock (P x)) → IsBefore p (map at rows) (at_stock (P x))
          by_rows [] g k = let lost : None ≡ Some x = sym (ap (λ rows. find (is_last rows) rows) g) ∙ f in cc
          by_rows (z ∷ rows) g k = k

      value_back : (r : Row) → IsAmong d.points r → IsKept r → Fact r → flow_value p stocks y (P r) ≡ Ok (at r)
      value_back r among i k =
          let B = before d r in
          let perm = up_to_is a w.operand w.time d.points h r among in
          let total : group_value p agg.Sum (map at B ++ at r ∷ []) ≡ Ok (at_stock (P r)) =
          ap (group_value p agg.Sum) (sym (map-append at B (r ∷ []))) ∙ sym (group-Perm p agg.Sum (map at (up_to d r)) (map at (B ++ r ∷ [])) (Perm-map at perm)) ∙ k.3 in
          ap (λ o. called p y.kind (Ok (at_stock (P r)) ∷ Ok (option_map_or at_stock o (c.Int (pos 0))) ∷ []) op.Subtract) (previous_through r i)
          ∙ ap (λ kind. result_of p op.Subtract kind (at_stock (P r) ∷ last (previous d r) ∷ [])) (sym m.kind)
          ∙ last_back p own.kind of_measure.number (map at B) (at r) (there_before B (facts_before r)) k.0 k.1 k.2 (at_stock (P r)) (last (previous d r)) total (is_before r (previous d r) refl)

      measure_back : is_measure y ≡ true → (r : Row) → IsAmong d.points r → IsKept r → by_measure (flow_value p stocks) s y (P r) ≡ Ok (value_named xs r y.name)
      measure_back f r among i =
          ap (λ b. if b then flow_value p stocks y (P r) else Ok (value_named zs (P r) y.name)) f
          ∙ value_back r among i (item_has Fact d.points r among facts) ∙ ap (λ name. Ok (value_named xs r name)) own_name

    -- ---- all columns
    module _ (t : Structure) (v : IsFlowed s t) where
      abbrev cs : List Component
      cs = columns_of t

      abbrev flows : Made
      flows = by_measure (flow_value p stocks) s

      abbrev IsBack : Row → Component → Type 0
      IsBack r y = flows y (P r) ≡ Ok (value_named xs r y.name)

      columns_back : (r : Row) → IsAmong d.points r → IsKept r → AllByRecursion (IsBack r) cs
      columns_back r among k =
          let Q : Component → Type 0 = λ y. value_named zs (P r) y.name ≡ value_named xs r y.name in
          let keys : AllByRecursion Q (identifiers_of t) = subst (AllByRecursion Q) (sym (identify s t v.operand v.numbers v.shape)) (keys_stay r) in
          let made : AllByRecursion (IsMade zs) (others_of t) = all_back (IsMade zs) (identifiers_of t) (others_of t) (subst (AllByRecursion (IsMade zs)) (columns_split t) (are_made s t v)) in
          subst (AllByRecursion (IsBack r)) (sym (columns_split t))
          (all_append (IsBack r) (identifiers_of t) (others_of t)
          (all_both (λ y. is_measure y ≡ false) Q (IsBack r) (λ y f same. ap (λ b. if b then flow_value p stocks y (P r) else Ok (value_named zs (P r) y.name)) f ∙ ap (λ x. Ok x) same) (identifiers_of t) (free s t v.operand v.numbers v.shape) keys)
          (all_both (IsOfMeasure zs) (IsMade zs) (IsBack r) (λ y i m. measure_back y (m i.measure) i.measure r among k) (others_of t) (others_are s t v.operand v.numbers v.shape) made))

      pub undone : flow_of p (with_points s us) t ≡ Ok (left_of d t)
      undone =
          let back = all_both (IsAmong d.points) IsKept (λ r. AllByRecursion (IsBack r) cs) columns_back d.points (all_among d.points) all_kept in
          subst (λ rows. flow_of p (with_points s rows) t ≡ Ok (left_of d t)) parts.1
          (each_is flows cs P (λ r y. value_named xs r y.name) d.points back ∙ ap (λ rows. Ok rows) (cells d.points))
        where
          cells : (rows : List Row) → map (λ r. map (λ y. value_named xs r y.name) cs) rows ≡ map (cells_at (places_in xs cs)) rows
          cells [] = refl
          cells (r ∷ rows) = λ i. sym (named_cells xs cs r) i ∷ cells rows i
