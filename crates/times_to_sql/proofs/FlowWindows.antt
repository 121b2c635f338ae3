-- `stock_to_flow` by windows: each value less the one before it in its series, which is the previous point's, or less zero at the first point.
use Rattle.std.proofs.Common.{◌≡◌, ◌⊎◌, inl, inr, ◌*◌, ◌^◌, pos, arith, length, Bool, true, false, ◌&&◌, cond, List, [], ◌∷◌, ◌++◌, map, take, Ok, Option, Some, None, refl, sym, ap, ◌∙◌, subst}
use Rattle.std.specs.Prelude.{IfSome, if◌then◌else◌}
use Rattle.std.specs.List.{AllByRecursion, flat_map, list_all, list_any}
use Rattle.std.specs.Option.{option_map_or}
use Rattle.vtl_lists.proofs.Sorts.{AllByRecursion-filter}
use Rattle.vtl_lists.proofs.Filters.{found_has}
use Rattle.vtl_cell.specs.AggregateKinds.{is_number}
use Rattle.vtl_cell.specs.Conversion.{as_kind}
use Rattle.vtl_cell.specs.Kinds.{same_kind}
use Rattle.vtl_cell.specs.Outcome.{Outcome, after, fault_in, faults_by, unless}
use Rattle.vtl_cell.specs.Row.{Row, same_row}
use Rattle.vtl_cell.specs.ScalarArithmetic.{difference_of, number, numbers, units}
use Rattle.vtl_cell.specs.declared.cell.Cell.{Cell}
use Rattle.vtl_cell.specs.declared.cell.Cell.TheVariants as c
use Rattle.vtl_cell.specs.declared.kind.Kind.{Kind}
use Rattle.vtl_cell.specs.declared.kind.Kind.TheVariants as k
use Rattle.vtl_cell.specs.declared.operator.ScalarOp.TheVariants as scalar
use Rattle.vtl_decimal.specs.Range.{fit_number}
use Rattle.vtl_decimal.specs.Settings.{Settings}
use Rattle.vtl_series.specs.Series.{frequencies}
use Rattle.vtl_tree.specs.Columns.{column_behind, column_named, columns_named, identifiers_of, measures_of}
use Rattle.vtl_tree.specs.DataSet.{IsDataSet, is_point}
use Rattle.vtl_tree.specs.Environment.{DataSet}
use Rattle.vtl_tree.specs.Measures.{is_measure}
use Rattle.vtl_tree.specs.CompExp.{CompExp}
use Rattle.vtl_tree.specs.Names.{component_of}
use Rattle.vtl_tree.specs.Operands.{is_alike, is_there}
use Rattle.vtl_tree.specs.Pairs.{contains}
use Rattle.vtl_tree.specs.Structure.{IsStructure, columns_of, key_width, same_role}
use Rattle.vtl_tree.specs.Value.{called, value}
use Rattle.vtl_tree.specs.declared.calls.AnalyticOp.TheVariants as op
use Rattle.vtl_tree.specs.declared.operands.Compared.TheVariants as compared
use Rattle.vtl_tree.specs.declared.structure.Component.{Component}
use Rattle.vtl_tree.specs.declared.structure.Role.{Role}
use Rattle.vtl_tree.specs.declared.structure.Role.TheVariants as role
use Rattle.vtl_tree.specs.declared.structure.Structure.{Structure}
use Rattle.vtl_tree.proofs.Faults.{faults_by-Perm}
use Rattle.vtl_meaning.specs.Aggregates.{Made, group_fault as point_fault}
use Rattle.vtl_meaning.specs.Analytics.{point_of}
use Rattle.vtl_meaning.specs.LookUps.{value_named}
use Rattle.vtl_meaning.specs.Operators.{for_measures, pair_of, with_namesake}
use Rattle.vtl_meaning.specs.Points.{cell_or_null, each_point, paired, with_points}
use Rattle.vtl_meaning.proofs.AnalyticColumns.{own_found}
use Rattle.vtl_meaning.proofs.GroupKinds.{IsOf}
use Rattle.vtl_timing.specs.TimeShapes.{IsFlowed}
use Rattle.vtl_timing.specs.Times.{before, by_measure, flow_of, flow_value, in_one_series, previous, series_of}
use Rattle.vtl_timing.proofs.FlowsKept.{IsOfMeasure, identify, own_cell}
use Rattle.times_to_sql.specs.Frequencies.{part_of, within_frequencies}
use Rattle.times_to_sql.proofs.RangeFaults.{kind_stays, none_faults}
use Rattle.times_to_sql.proofs.FrequencyParts.{parts_are}
use Rattle.times_to_sql.proofs.OwnPairs.{IsFine, IsGiven, fine, back_cell, front_cell, given, keys_kept, made_cell, paired_is, values_are}
use Rattle.times_to_sql.proofs.WindowValues.{lags_within}

-- ---- kinds
-- a value of the kind, or an integer zero
abbrev IsBefore : Kind → Cell → Type 0
IsBefore kind v = IsOf kind v ⊎ (v ≡ c.Int (pos 0))

abbrev less : Settings → Kind → Cell → Cell → Outcome Cell
less p kind u v = called p kind (Ok u ∷ Ok v ∷ []) scalar.Subtract

-- it is one of the kind, and less it is the same
record IsKept (p : Settings) (kind : Kind) (v : Cell) : Type 0 where
  pub cell : Cell
  pub is : as_kind p kind v ≡ Ok cell
  pub of_kind : (kind ≡ k.Null → ⊥) → IsOf kind cell
  pub same : (u : Cell) → IsOf kind u → less p kind u cell ≡ less p kind u v

zero_units : (p : Settings) → fit_number (units p (pos 0)) ≡ Ok (pos 0)
zero_units p = let none : 0 * (10 ^ p.scale) ≡ 0 = omega arith in ap (λ n. fit_number (pos n)) none

zero_less : (p : Settings) (u : Cell) → IsOf k.Num u → less p k.Num u (c.Num (pos 0)) ≡ less p k.Num u (c.Int (pos 0))
zero_less p c.Null h = refl
zero_less p (c.Num n) h = ap (λ o. after (after (after o (λ m. Ok (numbers n m))) (difference_of p)) (as_kind p k.Num)) (sym (zero_units p))
zero_less p u h = cc

kept : (p : Settings) (kind : Kind) (v : Cell) → is_number kind ≡ true → IsBefore kind v → IsKept p kind v
kept p kind v n (inl h) = record { cell = v; is = kind_stays p kind v h; of_kind = λ some. h; same = λ u i. refl }
kept p k.Null v n (inr e) = record { cell = v; is = refl; of_kind = λ some. absurd (some refl); same = λ u i. refl }
kept p k.Int v n (inr e) = record { cell = v; is = refl; of_kind = λ some. subst (IsOf k.Int) (sym e) refl; same = λ u i. refl }
kept p k.Num v n (inr e) = record {
  cell = c.Num (pos 0);
  is = ap (as_kind p k.Num) e ∙ ap number (zero_units p);
  of_kind = λ some. refl;
  same = λ u i. zero_less p u i ∙ ap (less p k.Num u) (sym e);
}
kept p kind v n (inr e) = cc

-- ---- identifiers
role_self : (r : Role) → same_role r r ≡ true
role_self role.Identifier = refl
role_self role.Measure = refl
role_self role.Attribute = refl

pub kind_self : (kind : Kind) → same_kind kind kind ≡ true
kind_self k.Null = refl
kind_self k.Bool = refl
kind_self k.Int = refl
kind_self k.Num = refl
kind_self k.Text = refl
kind_self k.Day = refl
kind_self k.Period = refl

all_there : (zs ys : List Component) → AllByRecursion (λ y. component_of y.name zs ≡ Some y) ys → list_all (is_there compared.Kinds zs) ys ≡ true
all_there zs [] all = refl
all_there zs (y ∷ ys) all =
    let one : is_there compared.Kinds zs y ≡ true = ap (λ o. option_map_or (is_alike compared.Kinds y) o false) all.0 ∙ (λ j. role_self y.role j && kind_self y.kind j) in
    λ j. one j && all_there zs ys all.1 j

contains_same : (a s : Structure) → IsStructure a → identifiers_of s ≡ identifiers_of a → contains a s ≡ true
contains_same a s well e =
    let P : Component → Type 0 = λ y. component_of y.name a.components ≡ Some y in
    ap (list_all (is_there compared.Kinds a.components)) e
    ∙ all_there a.components (identifiers_of a) (AllByRecursion-filter P (λ x. same_role x.role role.Identifier) a.components (own_found (λ (x : Component). x.name) a.components well.distinct))

-- ---- the operator
module _ (p : Settings) (d : DataSet) (s : Structure) (i : IsFlowed d.structure s) (h : IsDataSet d.structure d.points) where
  abbrev a : Structure
  a = d.structure

  abbrev us : List Row
  us = d.points

  abbrev xs : List Component
  xs = columns_of a

  abbrev ys : List Component
  ys = columns_of s

  abbrev vs : List Row
  vs = flat_map (λ f. (part_of f d).points) frequencies

  abbrev IsRow : Row → Type 0
  IsRow r = is_point xs r ≡ true

  abbrev at : Component → Row → Cell
  at y r = value_named xs r y.name

  abbrev before_it : Component → Row → Cell
  before_it y r = option_map_or (at y) (previous d r) (c.Int (pos 0))

  abbrev lag : Component → Row → Outcome Cell
  lag y r = as_kind p y.kind (before_it y r)

  abbrev lags : Made
  lags = by_measure lag a

  is_before : (y : Component) (r : Row) → IsOfMeasure xs y → IsBefore y.kind (before_it y r)
  is_before y r m = go (previous d r) (found_has IsRow _ (before d r) (AllByRecursion-filter IsRow _ (series_of d r) (AllByRecursion-filter IsRow (in_one_series a r) us h.typed)))
    where
      go : (o : Option Row) → IfSome o (λ q. is_point (columns_of d.structure) q ≡ true) → IsBefore y.kind (option_map_or (at y) o (c.Int (pos 0)))
      go None e = inr refl
      go (Some q) e = inl (own_cell (columns_of d.structure) y q m e)

  lag_kept : (y : Component) (r : Row) → IsOfMeasure xs y → IsKept p y.kind (before_it y r)
  lag_kept y r m = kept p y.kind (before_it y r) m.number (is_before y r m)

  no_fault : faults_by (point_fault lags ys) us ≡ None
  no_fault = none_faults (point_fault lags ys) us (rows us)
    where
      one : (r : Row) (y : Component) → IsFine xs y → fault_in (lags y r) ≡ None
      one r y m = go (is_measure y) refl
        where
          go : (b : Bool) → is_measure y ≡ b → fault_in (if b then lag y r else Ok (value_named (columns_of d.structure) r y.name)) ≡ None
          go true e = ap fault_in (lag_kept y r (m e)).is
          go false e = refl

      columns : (r : Row) (zs : List Component) → AllByRecursion (IsFine xs) zs → AllByRecursion (λ y. fault_in (lags y r) ≡ None) zs
      columns r [] all = tt
      columns r (z ∷ zs) all = (one r z all.0, columns r zs all.1)

      rows : (rs : List Row) → AllByRecursion (λ r. point_fault lags ys r ≡ None) rs
      rows [] = tt
      rows (r ∷ rs) = (none_faults (λ y. fault_in (lags y r)) ys (columns r ys (fine a s i.operand i.numbers i.shape)), rows rs)

  abbrev made_point : Row → Row
  made_point r = point_of lags ys r

  within_lags : within_frequencies p (op.Lag 1 (c.Int (pos 0))) d s ≡ Ok (map made_point vs)
  within_lags =
      lags_within p a i.operand i.time us h (c.Int (pos 0)) s
      ∙ ap (λ o. unless o (map made_point vs)) (faults_by-Perm (point_fault lags ys) (parts_are a i.operand i.time us h) ∙ no_fault)

  keys : (r : Row) → IsRow r → take (key_width s) (made_point r) ≡ take (key_width a) r
  keys r t = keys_kept p a s i.operand i.well_formed i.numbers i.shape lag r t

  less_before : (x : Component) (r : Row) → IsGiven p a s i.operand i.well_formed i.numbers i.shape x → IsRow r → list_any (same_row r) us ≡ true
      → value p (with_namesake scalar.Subtract (column_named xs) (column_behind (length xs) ys) x (given x)) (r ++ made_point r) ≡ flow_value p d (given x) r
  less_before x r g t m =
      let y = given x in
      let k = lag_kept y r g.0 in
      let first = front_cell xs x x r (made_point r) g.1 t in
      let second = back_cell xs ys x.name r (made_point r) t ∙ made_cell (λ z. cell_or_null (lags z r)) y ys g.2 ∙ ap cell_or_null k.is in
      (λ j. less p y.kind (first j) (second j)) ∙ k.same (at y r) (own_cell xs y r g.0 t)

  pub flow_by_windows : after (within_frequencies p (op.Lag 1 (c.Int (pos 0))) d s) (λ b. pair_of p scalar.Subtract d (with_points s b) s) ≡ flow_of p d s
  flow_by_windows =
      let same = contains_same a s i.operand (identify a s i.operand i.numbers i.shape) in
      ap (λ m. after m (λ b. pair_of p scalar.Subtract d (with_points s b) s)) within_lags
      ∙ ap (λ t. each_point p (cond t (columns_named xs (identifiers_of s) ++ for_measures (with_namesake scalar.Subtract (column_named xs) (column_behind (length xs) ys)) (measures_of a) (measures_of s)) (pair_exps_back)) (cond t (paired d (with_points s (map made_point vs))) (paired (with_points s (map made_point vs)) d))) same
      ∙ ap (each_point p (columns_named xs (identifiers_of s) ++ for_measures (with_namesake scalar.Subtract (column_named xs) (column_behind (length xs) ys)) (measures_of a) (measures_of s))) (paired_is p a s i.operand i.well_formed i.numbers i.shape us h lags keys vs (parts_are a i.operand i.time us h))
      ∙ values_are p a s i.operand i.well_formed i.numbers i.shape us h lags keys (with_namesake scalar.Subtract (column_named xs) (column_behind (length xs) ys)) (flow_value p d) less_before
    where
      pair_exps_back : List CompExp
      pair_exps_back = columns_named ys (identifiers_of s) ++ for_measures (with_namesake scalar.Subtract (column_behind (length ys) xs) (column_named ys)) (measures_of a) (measures_of s)
