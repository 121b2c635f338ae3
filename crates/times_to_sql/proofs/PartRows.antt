-- The rows of the table along series: a data set of the result's structure, whatever the order of the operand's points.
use Rattle.std.proofs.Common.{◌≡◌, ℕ, true, not, ◌&&◌, ◌||◌, List, [], ◌∷◌, ◌++◌, map, take, Option, Some, None, Ok, Err, refl, ap, sym, ◌∙◌, subst}
use Rattle.std.specs.Prelude.{IfOk}
use Rattle.std.specs.List.{AllByRecursion, flat_map, list_any}
use Rattle.std.proofs.lemmas.List.{map-append}
use Rattle.vtl_lists.specs.Apart.{all_apart}
use Rattle.vtl_lists.specs.Perm.{Perm, empty}
use Rattle.vtl_lists.proofs.Aparts.{all_apart-Perm}
use Rattle.vtl_lists.proofs.Perms.{Perm-append, Perm-filter, Perm-map}
use Rattle.vtl_lists.proofs.Alls.{all_append, all_more}
use Rattle.vtl_decimal.specs.declared.number.Fault.{Fault}
use Rattle.vtl_decimal.specs.Settings.{Settings}
use Rattle.vtl_cell.specs.Outcome.{Outcome, fault_in, faults_by, join, unless}
use Rattle.vtl_cell.specs.Outcomes.{Same}
use Rattle.vtl_cell.specs.Row.{Row, same_key, same_row}
use Rattle.vtl_cell.proofs.Rows.{same_row-sym}
use Rattle.vtl_series.specs.Series.{frequencies}
use Rattle.vtl_time.specs.declared.periods.Frequency.{Frequency}
use Rattle.vtl_tree.specs.DataSet.{IsDataSet, is_point}
use Rattle.vtl_tree.specs.Structure.{columns_of, key_width}
use Rattle.vtl_tree.specs.declared.calls.AnalyticOp.{AnalyticOp}
use Rattle.vtl_tree.specs.declared.structure.Structure.{Structure}
use Rattle.vtl_tree.proofs.Faults.{Same_unless}
use Rattle.vtl_meaning.specs.Aggregates.{Made, group_fault as point_fault}
use Rattle.vtl_meaning.specs.Analytics.{analytic_of, made_of, point_of}
use Rattle.vtl_meaning.specs.Points.{with_points}
use Rattle.vtl_meaning.proofs.AnalyticOrders.{analytics_respect}
use Rattle.vtl_meaning.proofs.AnalyticPoints.{key_of_point, result_is}
use Rattle.vtl_meaning.proofs.Kept.{unless_ok}
use Rattle.vtl_timing.specs.TimeShapes.{IsFlowed}
use Rattle.vtl_timing.proofs.ShiftKept.{none_parts}
use Rattle.sql_meaning.specs.Selects.{appended, rows_in}
use Rattle.sql_meaning.proofs.Orders.{fault_same, rows_in-Perm}
use Rattle.selects_to_sql.proofs.Givens.{AreGiven}
use Rattle.times_to_sql.specs.Flows.{along_series}
use Rattle.times_to_sql.specs.Frequencies.{is_of_frequency, part_of, within_frequencies}
use Rattle.times_to_sql.proofs.FrequencyParts.{parts_are}
use Rattle.times_to_sql.proofs.Parts.{IsAlong, along_analyzed, part_is_set}

-- ---- the order of points

module _ {X : Type 0} (f g : X → Outcome (List Row)) (same : (x : X) → Same (f x) (g x)) where
  faults_same : (xs : List X) → faults_by fault_in (map f xs) ≡ faults_by fault_in (map g xs)
  faults_same [] = refl
  faults_same (x ∷ xs) = λ i. join (fault_same (f x) (g x) (same x) i) (faults_same xs i)

  rows_same : (xs : List X) → Perm (flat_map rows_in (map f xs)) (flat_map rows_in (map g xs))
  rows_same [] = empty
  rows_same (x ∷ xs) = Perm-append (rows_in-Perm (f x) (g x) (same x)) (rows_same xs)

  appended_same : (xs : List X) → Same (appended (map f xs)) (appended (map g xs))
  appended_same xs = Same_unless (faults_by fault_in (map f xs)) (faults_by fault_in (map g xs)) (flat_map rows_in (map f xs)) (flat_map rows_in (map g xs)) (faults_same xs) (rows_same xs)

pub within_respects : (p : Settings) (o : AnalyticOp) (a s : Structure) (d e : List Row) → Perm d e → Same (within_frequencies p o (with_points a d) s) (within_frequencies p o (with_points a e) s)
within_respects p o a s d e h =
    let part : List Row → Frequency → Outcome (List Row) = λ rows f. analytic_of p (along_series o a) (part_of f (with_points a rows)) s in
    appended_same (part d) (part e) (λ f. analytics_respect p (along_series o a) (part_of f (with_points a d)) (part_of f (with_points a e)) s refl (Perm-filter (is_of_frequency a f) h)) frequencies

-- ---- keys

apart_keys : (n : ℕ) (rows : List Row) → all_apart same_row (map (take n) rows) ≡ all_apart (same_key n) rows
apart_keys n [] = refl
apart_keys n (r ∷ rows) = λ i. not (any rows i) && apart_keys n rows i
  where
    any : (qs : List Row) → list_any (same_row (take n r)) (map (take n) qs) ≡ list_any (same_key n r) qs
    any [] = refl
    any (q ∷ qs) = λ i. same_key n r q || any qs i

module _ {X : Type 0} (n m : ℕ) (f : X → Outcome (List Row)) (part : X → List Row) (keys : (x : X) → IfOk (f x) (λ rows. map (take n) rows ≡ map (take m) (part x))) where
  one_key : (x : X) (o : Outcome (List Row)) → fault_in o ≡ None → IfOk o (λ rows. map (take n) rows ≡ map (take m) (part x)) → map (take n) (rows_in o) ≡ map (take m) (part x)
  one_key x (Ok rows) e h = h
  one_key x (Err g) e h = cc

  all_keys : (xs : List X) → faults_by fault_in (map f xs) ≡ None → map (take n) (flat_map rows_in (map f xs)) ≡ map (take m) (flat_map part xs)
  all_keys [] e = refl
  all_keys (x ∷ xs) e =
      let parts = none_parts (fault_in (f x)) (faults_by fault_in (map f xs)) e in
      map-append (take n) (rows_in (f x)) (flat_map rows_in (map f xs))
      ∙ (λ i. one_key x (f x) parts.0 (keys x) i ++ all_keys xs parts.1 i)
      ∙ sym (map-append (take m) (part x) (flat_map part xs))

all_typed : {X : Type 0} (P : Row → Type 0) (f : X → Outcome (List Row)) → ((x : X) → IfOk (f x) (AllByRecursion P)) → (xs : List X) → AllByRecursion P (flat_map rows_in (map f xs))
all_typed P f h [] = tt
all_typed P f h (x ∷ xs) = all_append P (rows_in (f x)) (flat_map rows_in (map f xs)) (one (f x) (h x)) (all_typed P f h xs)
  where
    one : (m : Outcome (List Row)) → IfOk m (AllByRecursion P) → AllByRecursion P (rows_in m)
    one (Ok rows) i = i
    one (Err g) i = tt

same_keys : {Y : Type 0} (f g : Row → Y) (rows : List Row) (h : Row → Row) → AllByRecursion (λ r. f (h r) ≡ g r) rows → map f (map h rows) ≡ map g rows
same_keys f g [] h all = refl
same_keys f g (r ∷ rows) h all = λ i. all.0 i ∷ same_keys f g rows h all.1 i

-- ---- the table

module _ (p : Settings) (o : AnalyticOp) (along : IsAlong p o) (a s : Structure) (i : IsFlowed a s) (given : AreGiven (columns_of s)) (d : List Row) (set : IsDataSet a d) where
  abbrev rows_of : Frequency → Outcome (List Row)
  rows_of f = analytic_of p (along_series o a) (part_of f (with_points a d)) s

  abbrev points_in : Frequency → List Row
  points_in f = (part_of f (with_points a d)).points

  part_kept : (f : Frequency) → IfOk (rows_of f) (IsDataSet s)
  part_kept f = result_is p (along_series o a) (part_of f (with_points a d)) s (along_analyzed a s i given p o along) (part_is_set a d f set)

  part_typed : (f : Frequency) → IfOk (rows_of f) (AllByRecursion (λ r. is_point (columns_of s) r ≡ true))
  part_typed f = go (rows_of f) (part_kept f)
    where
      go : (m : Outcome (List Row)) → IfOk m (IsDataSet s) → IfOk m (AllByRecursion (λ r. is_point (columns_of s) r ≡ true))
      go (Ok rows) h = h.typed
      go (Err g) h = tt

  part_keys : (f : Frequency) → IfOk (rows_of f) (λ rows. map (take (key_width s)) rows ≡ map (take (key_width a)) (points_in f))
  part_keys f = go (faults_by (point_fault made (columns_of s)) (points_in f))
    where
      made : Made
      made = made_of p (along_series o a) (part_of f (with_points a d))

      keys : map (take (key_width s)) (map (point_of made (columns_of s)) (points_in f)) ≡ map (take (key_width a)) (points_in f)
      keys =
          let part = part_is_set a d f set in
          same_keys (take (key_width s)) (take (key_width a)) (points_in f) (point_of made (columns_of s))
          (all_more (λ r. is_point (columns_of a) r ≡ true) (λ r. take (key_width s) (point_of made (columns_of s) r) ≡ take (key_width a) r) (key_of_point p (along_series o a) (part_of f (with_points a d)) s (along_analyzed a s i given p o along) part) (points_in f) part.typed)

      go : (z : Option Fault) → IfOk (unless z (map (point_of made (columns_of s)) (points_in f))) (λ rows. map (take (key_width s)) rows ≡ map (take (key_width a)) (points_in f))
      go None = keys
      go (Some g) = tt

  pub parts_kept : (out : List Row) → within_frequencies p o (with_points a d) s ≡ Ok out → IsDataSet s out
  parts_kept out e =
      let it = unless_ok (faults_by fault_in (map rows_of frequencies)) (flat_map rows_in (map rows_of frequencies)) out e in
      let keys = all_keys (key_width s) (key_width a) rows_of points_in part_keys frequencies it.0 in
      let apart =
      sym (apart_keys (key_width s) (flat_map rows_in (map rows_of frequencies))) ∙ ap (all_apart same_row) keys
      ∙ all_apart-Perm same_row same_row-sym (Perm-map (take (key_width a)) (parts_are a i.operand i.time d set))
      ∙ apart_keys (key_width a) d ∙ set.distinct in
      subst (IsDataSet s) it.1 (record { well_formed = i.well_formed; typed = all_typed (λ r. is_point (columns_of s) r ≡ true) rows_of part_typed frequencies; distinct = apart })
