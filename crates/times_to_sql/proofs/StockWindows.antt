-- `flow_to_stock` by windows: totals in each series up to each point, and null at the points that have no value. A total at such a point is that of
-- the points before it, so it has no fault that no total has which is shown.
use Rattle.std.proofs.Common.{◌≡◌, inl, inr, Bool, true, false, not, cond, List, [], ◌∷◌, ◌++◌, map, take, Ok, Err, Option, Some, None, refl, sym, ap, ◌∙◌, subst, append_assoc, ℕ, ℤ}
use Rattle.std.specs.Prelude.{if◌then◌else◌}
use Rattle.std.specs.List.{AllByRecursion, flat_map, list_all, list_any}
use Rattle.std.proofs.lemmas.List.{append-nil, map-append}
use Rattle.std.proofs.lemmas.List.Elements.{filter-append}
use Rattle.vtl_lists.proofs.Perms.{AllByRecursion-Perm, Perm-map}
use Rattle.vtl_lists.proofs.Sorts.{AllByRecursion-filter}
use Rattle.vtl_lists.proofs.Alls.{all_back, all_more}
use Rattle.vtl_cell.specs.AggregateKinds.{is_number}
use Rattle.vtl_cell.specs.Conversion.{as_kind}
use Rattle.vtl_cell.specs.Groups.{aggregate, group_value, is_integer, numbers_of, values_of, wholes_of}
use Rattle.vtl_cell.specs.Kinds.{is_null}
use Rattle.vtl_cell.specs.Outcome.{Outcome, after, fault_in, faults_by, unless}
use Rattle.vtl_cell.specs.Outcomes.{branch}
use Rattle.vtl_cell.specs.Row.{Row, same_row}
use Rattle.vtl_cell.specs.ScalarArithmetic.{integer, number}
use Rattle.vtl_cell.specs.declared.cell.Cell.{Cell}
use Rattle.vtl_cell.specs.declared.cell.Cell.TheVariants as c
use Rattle.vtl_cell.specs.declared.kind.Kind.{Kind}
use Rattle.vtl_cell.specs.declared.kind.Kind.TheVariants as k
use Rattle.vtl_cell.specs.declared.operator.AggKind.TheVariants as agg
use Rattle.vtl_cell.specs.declared.operator.ScalarOp.TheVariants as scalar
use Rattle.vtl_cell.proofs.Aggregates.{group-Perm}
use Rattle.vtl_decimal.specs.Range.{fit_integer, fit_number}
use Rattle.vtl_decimal.specs.Settings.{Settings}
use Rattle.vtl_decimal.specs.Tally.{tally_of}
use Rattle.vtl_decimal.specs.declared.number.Fault.{Fault}
use Rattle.vtl_decimal.specs.declared.number.Fault.TheVariants.{Range}
use Rattle.vtl_series.specs.Series.{frequencies}
use Rattle.vtl_tree.specs.DataSet.{IsDataSet, is_point}
use Rattle.vtl_tree.specs.Environment.{DataSet}
use Rattle.vtl_tree.specs.Measures.{is_measure}
use Rattle.vtl_tree.specs.Structure.{columns_of, key_width, same_name}
use Rattle.vtl_tree.specs.Names.{component_of}
use Rattle.vtl_tree.specs.Value.{called, value}
use Rattle.vtl_tree.specs.declared.calls.AnalyticOp.TheVariants as op
use Rattle.vtl_tree.specs.declared.structure.Component.{Component}
use Rattle.vtl_tree.specs.declared.structure.Structure.{Structure}
use Rattle.vtl_tree.proofs.Faults.{faults_by-Perm}
use Rattle.vtl_meaning.specs.Aggregates.{Made, group_fault as point_fault}
use Rattle.vtl_meaning.specs.Analytics.{each_point as each_made, point_of}
use Rattle.vtl_meaning.specs.LookUps.{value_named}
use Rattle.vtl_meaning.specs.Points.{cell_or_null, each_point, paired, with_points}
use Rattle.vtl_meaning.specs.Windows.{Stand, stand_of}
use Rattle.vtl_meaning.proofs.GroupKinds.{GivesOf, IsOf, group_is, null_is_of}
use Rattle.vtl_timing.specs.TimeShapes.{IsFlowed}
use Rattle.vtl_timing.specs.Times.{by_measure, in_one_series, series_of, stock_of, stock_value, up_to}
use Rattle.vtl_timing.proofs.FlowsKept.{IsOfMeasure, own_cells, null_alone}
use Rattle.vtl_timing.proofs.ShiftKept.{each_without}
use Rattle.times_to_sql.specs.Frequencies.{part_of, series_window, stock_exp, stock_exps, within_frequencies}
use Rattle.times_to_sql.proofs.RangeFaults.{IsRange, faults_range, kind_stays, none_faults, one_fault, outcome_stays, there_is, value_is}
use Rattle.times_to_sql.proofs.FrequencyParts.{frequency_is, parts_are}
use Rattle.times_to_sql.proofs.OwnPairs.{IsFine, IsGiven, fine, back_cell, front_cell, given, keys_kept, made_cell, paired_is, values_are}
use Rattle.times_to_sql.proofs.SeriesLists.{item_has, own_items}
use Rattle.times_to_sql.proofs.SeriesOrders.{InSeries, Standing, stands, up_to_at}
use Rattle.times_to_sql.proofs.WindowValues.{made_same, sums_within}

-- ---- totals
no_values : (vs : List Cell) → AllByRecursion (IsOf k.Null) vs → values_of vs ≡ []
no_values [] all = refl
no_values (v ∷ vs) all = ap (λ b. cond (not b) (v ∷ values_of vs) (values_of vs)) (null_alone v all.0) ∙ no_values vs all.1

sum_gives : (p : Settings) (kind : Kind) (vs : List Cell) → is_number kind ≡ true → AllByRecursion (IsOf kind) vs → GivesOf kind (group_value p agg.Sum vs)
sum_gives p k.Int vs n all = group_is p agg.Sum k.Int k.Int vs refl all
sum_gives p k.Num vs n all = group_is p agg.Sum k.Num k.Num vs refl all
sum_gives p k.Null vs n all = subst (λ l. GivesOf k.Null (aggregate p agg.Sum l)) (sym (no_values vs all)) refl
sum_gives p kind vs n all = cc

integer_range : (b : Bool) (n : ℤ) → IsRange (fault_in (integer (if b then Ok n else Err Range)))
integer_range true n = inl refl
integer_range false n = inr refl

number_range : (b : Bool) (n : ℤ) → IsRange (fault_in (number (if b then Ok n else Err Range)))
number_range true n = inl refl
number_range false n = inr refl

sum_range : (p : Settings) (vs : List Cell) → IsRange (fault_in (group_value p agg.Sum vs))
sum_range p vs = go (values_of vs)
  where
    either : (b : Bool) (m n : Outcome Cell) → IsRange (fault_in m) → IsRange (fault_in n) → IsRange (fault_in (if b then m else n))
    either true m n h i = h
    either false m n h i = i

    go : (ws : List Cell) → IsRange (fault_in (aggregate p agg.Sum ws))
    go [] = inl refl
    go (w ∷ ws) =
        either (list_all is_integer (w ∷ ws)) (integer (fit_integer p.scale (tally_of (wholes_of (w ∷ ws))).total)) (number (fit_number (tally_of (numbers_of p.scale (w ∷ ws))).total))
        (integer_range _ (tally_of (wholes_of (w ∷ ws))).total) (number_range _ (tally_of (numbers_of p.scale (w ∷ ws))).total)

-- a null behind other values adds nothing
null_adds : (p : Settings) (at : Row → Cell) (front : List Row) (x : Row) → is_null (at x) ≡ true → group_value p agg.Sum (map at (front ++ x ∷ [])) ≡ group_value p agg.Sum (map at front)
null_adds p at front x e =
    ap (aggregate p agg.Sum)
    (ap values_of (map-append at front (x ∷ []))
    ∙ filter-append (λ v. not (is_null v)) (map at front) (at x ∷ [])
    ∙ ap (λ b. values_of (map at front) ++ cond (not b) (at x ∷ []) []) e
    ∙ append-nil (values_of (map at front)))

-- ---- expressions
picked : (p : Settings) (kind : Kind) (u v : Cell) → called p kind (called p k.Bool (Ok u ∷ []) scalar.IsNull ∷ Ok c.Null ∷ Ok v ∷ []) scalar.If ≡ (if is_null u then Ok c.Null else as_kind p kind v)
picked p kind u v = go (is_null u)
  where
    go : (b : Bool) → after (branch (Some b) (Ok c.Null) (Ok v)) (as_kind p kind) ≡ (if b then Ok c.Null else as_kind p kind v)
    go true = kind_stays p kind c.Null (null_is_of kind)
    go false = refl

pub found_one : (P : Component → Type 0) (name : List ℕ) (y : Component) (zs : List Component) → component_of name zs ≡ Some y → AllByRecursion P zs → P y
found_one P name y [] e all = cc
found_one P name y (z ∷ zs) e all = go (same_name z.name name) e (λ f. found_one P name y zs f all.1)
  where
    go : (b : Bool) → cond b (Some z) (component_of name zs) ≡ Some y → (component_of name zs ≡ Some y → P y) → P y
    go true f later = let same : z ≡ y = cc in subst P same all.0
    go false f later = later f

-- ---- the operator
module _ (p : Settings) (d : DataSet) (s : Structure) (i : IsFlowed d.structure s) (h : IsDataSet d.structure d.points) where
  abbrev a : Structure
  a = d.structure

  abbrev us : List Row
  us = d.points

  abbrev xs : List Component
  xs = columns_of a

  abbrev ys : List Component
  ys = columns_of s

  abbrev vs : List Row
  vs = flat_map (λ f. (part_of f d).points) frequencies

  abbrev IsRow : Row → Type 0
  IsRow r = is_point xs r ≡ true

  abbrev at : Component → Row → Cell
  at y r = value_named xs r y.name

  abbrev total : Component → Row → Outcome Cell
  total y r = group_value p agg.Sum (map (at y) (up_to d r))

  abbrev totals : Made
  totals = by_measure total a

  abbrev stocks : Made
  stocks = by_measure (stock_value p d) a

  total_gives : (y : Component) (r : Row) → IsOfMeasure xs y → GivesOf y.kind (total y r)
  total_gives y r m =
      sum_gives p y.kind (map (at y) (up_to d r)) m.number
      (own_cells xs y (up_to d r) m (AllByRecursion-filter IsRow _ (series_of d r) (AllByRecursion-filter IsRow (in_one_series a r) us h.typed)))

  -- a total is of its measure's kind already
  within_totals : within_frequencies p op.Sum d s ≡ each_made totals ys vs
  within_totals =
      sums_within p a i.operand i.time us h s
      ∙ made_same (by_measure (λ y r. after (total y r) (as_kind p y.kind)) a) totals ys vs (rows vs)
    where
      value : (r : Row) (y : Component) → IsFine xs y → by_measure (λ z q. after (total z q) (as_kind p z.kind)) a y r ≡ totals y r
      value r y m = go (is_measure y) refl
        where
          go : (b : Bool) → is_measure y ≡ b → (if b then after (total y r) (as_kind p y.kind) else Ok (value_named (columns_of a) r y.name)) ≡ (if b then total y r else Ok (value_named (columns_of a) r y.name))
          go true e = outcome_stays p y.kind (total y r) (total_gives y r (m e))
          go false e = refl

      columns : (r : Row) (zs : List Component) → AllByRecursion (IsFine xs) zs → AllByRecursion (λ y. by_measure (λ z q. after (total z q) (as_kind p z.kind)) a y r ≡ totals y r) zs
      columns r [] all = tt
      columns r (z ∷ zs) all = (value r z all.0, columns r zs all.1)

      rows : (rs : List Row) → AllByRecursion (λ r. AllByRecursion (λ y. by_measure (λ z q. after (total z q) (as_kind p z.kind)) a y r ≡ totals y r) ys) rs
      rows [] = tt
      rows (r ∷ rs) = (columns r ys (fine a s i.operand i.numbers i.shape), rows rs)

  -- ---- one fault
  module _ (y : Component) (shown : AllByRecursion (λ x. fault_in (stock_value p d y x) ≡ None) us) (r : Row) (m : list_any (same_row r) us ≡ true) (t : IsRow r) where
    abbrev stand : Stand
    stand = stand_of (part_of (frequency_is a i.operand i.time r t).0 d) (series_window a) r

    standing : Standing a us r stand.ordered stand.place
    standing = stands a i.operand i.time us h (frequency_is a i.operand i.time r t).0 r (frequency_is a i.operand i.time r t).1 m

    abbrev IsShown : Row → Type 0
    IsShown x = fault_in (stock_value p d y x) ≡ None

    -- along the series: each total is shown, or is the one before it
    walk : (front rest : List Row) → stand.ordered ≡ front ++ rest → fault_in (group_value p agg.Sum (map (at y) front)) ≡ None → AllByRecursion IsShown rest → AllByRecursion (InSeries a r) rest → AllByRecursion (λ x. fault_in (total y x) ≡ None) rest
    walk front [] is before all within = tt
    walk front (x ∷ rest) is before all within =
        let whole = group-Perm p agg.Sum (map (at y) (up_to d x)) (map (at y) (front ++ x ∷ [])) (Perm-map (at y) (up_to_at a us stand.ordered r x front rest standing.series standing.rises within.0.1 is)) in
        let here = step (is_null (at y x)) refl whole all.0 in
        (ap fault_in whole ∙ here, walk (front ++ x ∷ []) rest (is ∙ sym (append_assoc front (x ∷ []) rest)) here all.1 within.1)
      where
        step : (b : Bool) → is_null (at y x) ≡ b → total y x ≡ group_value p agg.Sum (map (at y) (front ++ x ∷ [])) → fault_in (if b then Ok c.Null else total y x) ≡ None → fault_in (group_value p agg.Sum (map (at y) (front ++ x ∷ []))) ≡ None
        step true e w o = ap fault_in (null_adds p (at y) front x e) ∙ before
        step false e w o = ap fault_in (sym w) ∙ o

    total_shown : fault_in (total y r) ≡ None
    total_shown =
        let all = walk [] stand.ordered refl refl (AllByRecursion-Perm IsShown standing.series (AllByRecursion-filter IsShown (in_one_series a r) us shown)) standing.within in
        (all_back (λ x. fault_in (total y x) ≡ None) standing.cut.front (r ∷ standing.cut.back) (subst (AllByRecursion (λ x. fault_in (total y x) ≡ None)) standing.cut.is all)).0

  abbrev AllShown : Made → Row → Type 0
  AllShown made r = AllByRecursion (λ y. fault_in (made y r) ≡ None) ys

  range : (v : Component → Row → Outcome Cell) → ((y : Component) (r : Row) → IsRange (fault_in (v y r))) → IsRange (faults_by (point_fault (by_measure v a) ys) us)
  range v each = faults_range (point_fault (by_measure v a) ys) us (rows us)
    where
      one : (r : Row) (y : Component) → IsRange (fault_in (by_measure v a y r))
      one r y = go (is_measure y)
        where
          go : (b : Bool) → IsRange (fault_in (if b then v y r else Ok (value_named (columns_of a) r y.name)))
          go true = each y r
          go false = inl refl

      columns : (r : Row) (zs : List Component) → AllByRecursion (λ y. IsRange (fault_in (by_measure v a y r))) zs
      columns r [] = tt
      columns r (z ∷ zs) = (one r z, columns r zs)

      rows : (rs : List Row) → AllByRecursion (λ r. IsRange (point_fault (by_measure v a) ys r)) rs
      rows [] = tt
      rows (r ∷ rs) = (faults_range (λ y. fault_in (by_measure v a y r)) ys (columns r ys), rows rs)

  -- no fault at any point, by columns
  all_shown : (made : Made) → faults_by (point_fault made ys) us ≡ None → AllByRecursion (AllShown made) us
  all_shown made e = all_more (λ r. point_fault made ys r ≡ None) (AllShown made) (λ r f. each_without (λ y. fault_in (made y r)) ys f) us (each_without (point_fault made ys) us e)

  none_shown : (made : Made) → AllByRecursion (AllShown made) us → faults_by (point_fault made ys) us ≡ None
  none_shown made all = none_faults (point_fault made ys) us (all_more (AllShown made) (λ r. point_fault made ys r ≡ None) (λ r f. none_faults (λ y. fault_in (made y r)) ys f) us all)

  fewer : faults_by (point_fault totals ys) us ≡ None → faults_by (point_fault stocks ys) us ≡ None
  fewer e = none_shown stocks (all_more (AllShown totals) (AllShown stocks) (λ r f. all_more (λ y. fault_in (totals y r) ≡ None) (λ y. fault_in (stocks y r) ≡ None) (one r) ys f) us (all_shown totals e))
    where
      one : (r : Row) (y : Component) → fault_in (totals y r) ≡ None → fault_in (stocks y r) ≡ None
      one r y = go (is_measure y) (is_null (value_named (columns_of a) r y.name))
        where
          go : (b n : Bool) → fault_in (if b then total y r else Ok (value_named (columns_of a) r y.name)) ≡ None → fault_in (if b then (if n then Ok c.Null else total y r) else Ok (value_named (columns_of a) r y.name)) ≡ None
          go true true f = refl
          go true false f = f
          go false n f = refl

  no_more : faults_by (point_fault stocks ys) us ≡ None → faults_by (point_fault totals ys) us ≡ None
  no_more e = none_shown totals (rows us (own_items us) h.typed)
    where
      one : (r : Row) → list_any (same_row r) us ≡ true → is_point (columns_of a) r ≡ true → (y : Component) → AllByRecursion (λ x. fault_in (stocks y x) ≡ None) us → fault_in (totals y r) ≡ None
      one r m t y all = go (is_measure y) refl
        where
          go : (b : Bool) → is_measure y ≡ b → fault_in (if b then total y r else Ok (value_named (columns_of a) r y.name)) ≡ None
          go true f = total_shown y (all_more (λ x. fault_in (stocks y x) ≡ None) (λ x. fault_in (stock_value p d y x) ≡ None) (λ x k. ap (λ b. fault_in (if b then stock_value p d y x else Ok (value_named (columns_of a) x y.name))) (sym f) ∙ k) us all) r m t
          go false f = refl

      columns : (r : Row) → list_any (same_row r) us ≡ true → is_point (columns_of a) r ≡ true → (zs : List Component) → AllByRecursion (λ x. AllByRecursion (λ y. fault_in (stocks y x) ≡ None) zs) us → AllByRecursion (λ y. fault_in (totals y r) ≡ None) zs
      columns r m t [] all = tt
      columns r m t (z ∷ zs) all = (
        one r m t z (all_more (λ x. AllByRecursion (λ y. fault_in (stocks y x) ≡ None) (z ∷ zs)) (λ x. fault_in (stocks z x) ≡ None) (λ x f. f.0) us all),
        columns r m t zs (all_more (λ x. AllByRecursion (λ y. fault_in (stocks y x) ≡ None) (z ∷ zs)) (λ x. AllByRecursion (λ y. fault_in (stocks y x) ≡ None) zs) (λ x f. f.1) us all),
      )

      rows : (rs : List Row) → AllByRecursion (λ r. list_any (same_row r) us ≡ true) rs → AllByRecursion (λ r. is_point (columns_of a) r ≡ true) rs → AllByRecursion (AllShown totals) rs
      rows [] m t = tt
      rows (r ∷ rs) m t = (columns r m.0 t.0 ys (all_shown stocks e), rows rs m.1 t.1)

  faults_same : faults_by (point_fault totals ys) us ≡ faults_by (point_fault stocks ys) us
  faults_same = one_fault (faults_by (point_fault totals ys) us) (faults_by (point_fault stocks ys) us) (range total (λ y r. sum_range p (map (at y) (up_to d r)))) (range (stock_value p d) stock_range) fewer no_more
    where
      stock_range : (y : Component) (r : Row) → IsRange (fault_in (stock_value p d y r))
      stock_range y r = go (is_null (value_named (columns_of a) r y.name))
        where
          go : (b : Bool) → IsRange (fault_in (if b then Ok c.Null else total y r))
          go true = inl refl
          go false = sum_range p (map (at y) (up_to d r))

  -- ---- without a fault
  abbrev made_point : Row → Row
  made_point r = point_of totals ys r

  keys : (r : Row) → IsRow r → take (key_width s) (made_point r) ≡ take (key_width a) r
  keys r t = keys_kept p a s i.operand i.well_formed i.numbers i.shape total r t

  shown_value : AllByRecursion (AllShown totals) us → (x : Component) (r : Row) → IsGiven p a s i.operand i.well_formed i.numbers i.shape x → IsRow r → list_any (same_row r) us ≡ true → value p (stock_exp a s x (given x)) (r ++ made_point r) ≡ stock_value p d (given x) r
  shown_value shown x r g t m =
      let y = given x in
      let first = front_cell xs x x r (made_point r) g.1 t in
      let second = back_cell xs ys x.name r (made_point r) t ∙ made_cell (λ z. cell_or_null (totals z r)) y ys g.2 in
      let whole : fault_in (totals y r) ≡ None = found_one (λ z. fault_in (totals z r) ≡ None) x.name y ys g.2 (item_has (AllShown totals) us r m shown) in
      (λ j. called p y.kind (called p k.Bool (Ok (first j) ∷ []) scalar.IsNull ∷ Ok c.Null ∷ Ok (second j) ∷ []) scalar.If)
      ∙ picked p y.kind (at y r) (cell_or_null (total y r))
      ∙ ap (λ o. if is_null (at y r) then Ok c.Null else o) (kind_stays p y.kind (cell_or_null (total y r)) (value_is y.kind (total y r) (total_gives y r g.0)) ∙ there_is (total y r) whole)

  paired_values : faults_by (point_fault totals ys) us ≡ None → each_point p (stock_exps a s) (paired d (with_points s (map made_point vs))) ≡ stock_of p d s
  paired_values e =
      ap (each_point p (stock_exps a s)) (paired_is p a s i.operand i.well_formed i.numbers i.shape us h totals keys vs (parts_are a i.operand i.time us h))
      ∙ values_are p a s i.operand i.well_formed i.numbers i.shape us h totals keys (stock_exp a s) (stock_value p d) (shown_value (all_shown totals e))

  pub stock_by_windows : after (within_frequencies p op.Sum d s) (λ t. each_point p (stock_exps d.structure s) (paired d (with_points s t))) ≡ stock_of p d s
  stock_by_windows =
      ap (λ m. after m beside) within_totals
      ∙ ap (λ o. after (unless o (map made_point vs)) beside) (faults_by-Perm (point_fault totals ys) (parts_are a i.operand i.time us h))
      ∙ go (faults_by (point_fault totals ys) us) refl
    where
      beside : List Row → Outcome (List Row)
      beside t = each_point p (stock_exps d.structure s) (paired d (with_points s t))

      go : (o : Option Fault) → faults_by (point_fault totals ys) us ≡ o → after (unless o (map made_point vs)) beside ≡ stock_of p d s
      go None e = paired_values e
      go (Some f) e = ap (λ o. unless o (map (point_of stocks ys) us)) (sym e ∙ faults_same)
