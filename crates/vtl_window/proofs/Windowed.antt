-- The result of an analytic operator whose columns are made one after the other.
use Rattle.std.proofs.Common.{◌≡◌, ℕ, zero, suc, ◌<◌, Bool, true, false, cond, List, [], ◌∷◌, length, map, get_or, Option, Some, None, Ok, Err, refl, sym, ap, ◌∙◌, subst, arith}
use Rattle.std.specs.Prelude.{IfOk, option_map}
use Rattle.std.specs.List.{AllByRecursion, find}
use Rattle.vtl_decimal.specs.declared.number.Fault.TheVariants.{DivZero, Range}
use Rattle.vtl_decimal.specs.declared.number.Fault.{Fault}
use Rattle.vtl_cell.specs.Outcome.{faults_by, unless}
use Rattle.vtl_cell.specs.Row.{Row}
use Rattle.vtl_decimal.specs.Settings.{Settings}
use Rattle.vtl_cell.specs.declared.cell.Cell.{Cell}
use Rattle.vtl_rows.specs.Tables.{fits}
use Rattle.vtl_scalar.specs.Answers.{AnswersBy}
use Rattle.vtl_scalar.specs.declared.error.ScalarErr.{ScalarErr}
use Rattle.vtl_scalar.specs.declared.error.ScalarErr.TheVariants as err
use Rattle.vtl_tree.specs.DataSet.{IsDataSet, is_point}
use Rattle.vtl_tree.specs.Environment.{DataSet}
use Rattle.vtl_tree.specs.Structure.{columns_of, same_name, same_role}
use Rattle.vtl_tree.specs.declared.structure.Component.{Component}
use Rattle.vtl_tree.specs.declared.structure.Role.TheVariants as role
use Rattle.vtl_tree.specs.declared.structure.Structure.{Structure}
use Rattle.vtl_meaning.specs.Aggregates.{Made, group_fault as point_fault}
use Rattle.vtl_meaning.specs.Analytics.{analytic_of, item_named, made_of, measure_call, point_of, value_for}
use Rattle.vtl_meaning.specs.Made.{AreValuesOver, IsValueOver, IsWindowed}
use Rattle.vtl_sets.specs.TableOf.{table_columns}
use Rattle.vtl_tree.specs.Trees as nodes
use Rattle.vtl_tree.specs.Trees.{AnalyticTree, ItemTree, ValueTree}
use Rattle.vtl_meaning.proofs.AnalyticPoints.{result_is}
use Rattle.vtl_meaning.proofs.Kept.{unless_ok}
use Rattle.vtl_sets.proofs.TableLemmas.{point_fits}
use Rattle.vtl_window.specs.Analyses.{made_cells, made_faults}
use Rattle.vtl_window.proofs.AnalysisLemmas.{faults_turned}

-- ---- lists
-- one that is found is one of the list
pub found_has : {X : Type 0} (P : X → Type 0) (p : X → Bool) (xs : List X) (o : Option X) → AllByRecursion P xs → find p xs ≡ o → (x : X) → o ≡ Some x → P x
found_has P p [] o all e x is = cc
found_has P p (y ∷ ys) o all e x is = go (p y) e (λ f. found_has P p ys o all.1 f x is)
  where
    go : (b : Bool) → cond b (Some y) (find p ys) ≡ o → (find p ys ≡ o → P x) → P x
    go true f later = let s : y ≡ x = cc in subst P s all.0
    go false f later = later f

-- what makes a column stands over the operand's columns
pub value_over : (p : Settings) (xs : List Component) (spec : AnalyticTree) (y : Component) (v : ValueTree) → AreValuesOver p xs spec → value_for spec y ≡ Some v → IsValueOver p xs v
value_over p xs (nodes.of_measures o w) y v h e = go (same_role y.role role.Measure) e
  where
    go : (b : Bool) → cond b (Some (measure_call o w y.name)) None ≡ Some v → IsValueOver p xs v
    go true f = let s : measure_call o w y.name ≡ v = cc in subst (IsValueOver p xs) s h
    go false f = cc
value_over p xs (nodes.of_items items) y v h e = go (item_named items y.name) refl e
  where
    go : (o : Option ItemTree) → item_named items y.name ≡ o → option_map (λ i. i.value) o ≡ Some v → IsValueOver p xs v
    go None f g = cc
    go (Some i) f g =
        let s : i.value ≡ v = cc in
        subst (IsValueOver p xs) s (found_has (λ (j : ItemTree). IsValueOver p xs j.value) (λ (j : ItemTree). same_name j.target y.name) items (Some i) h f i refl)

mapped_at : {X Y : Type 0} (P : Y → Type 0) (f : X → Y) (xs : List X) (i : ℕ) (d : X) → i < length xs → AllByRecursion P (map f xs) → P (f (get_or xs i d))
mapped_at P f [] i d h all = absurd (omega arith)
mapped_at P f (x ∷ xs) zero d h all = all.0
mapped_at P f (x ∷ xs) (suc i) d h all = mapped_at P f xs i d (omega arith) all.1

-- ---- the fault of a column is that of the result
pub fault_answered : {A B C D : Type 0} (view : A → B) (other : C → D) (e : ScalarErr) (f g : Option Fault) (x : B) (y : D) → f ≡ g → AnswersBy view (Err e) (unless f x) → AnswersBy other (Err e) (unless g y)
fault_answered view other e f g x y same a = subst (λ h. AnswersBy other (Err e) (unless h y)) same (go e f a)
  where
    go : (e : ScalarErr) (f : Option Fault) → AnswersBy view (Err e) (unless f x) → AnswersBy other (Err e) (unless f y)
    go err.OutOfMemory f a = tt
    go err.DivZero None a = cc
    go err.DivZero (Some DivZero) a = refl
    go err.DivZero (Some Range) a = cc
    go err.Range None a = cc
    go err.Range (Some DivZero) a = cc
    go err.Range (Some Range) a = refl

-- ---- columns without a fault
module _ (p : Settings) (spec : AnalyticTree) (d : DataSet) (s : Structure) (w : IsWindowed p spec d.structure s) (own : IsDataSet d.structure d.points)
    (wanted : List Component) (is : wanted ≡ columns_of s) (columns : List (List Cell))
    (answered : unless (made_faults (made_of p spec d) wanted d.points) (made_cells (made_of p spec d) wanted d.points) ≡ Ok columns) where
  abbrev made : Made
  made = made_of p spec d

  abbrev point : Row → Row
  point = point_of made (columns_of s)

  parts : (made_faults made (columns_of s) d.points ≡ None) × (made_cells made (columns_of s) d.points ≡ columns)
  parts = unless_ok (made_faults made (columns_of s) d.points) (made_cells made (columns_of s) d.points) columns (ap (λ ys. unless (made_faults made ys d.points) (made_cells made ys d.points)) (sym is) ∙ answered)

  no_fault : faults_by (point_fault made (columns_of s)) d.points ≡ None
  no_fault = sym (faults_turned made (columns_of s) d.points) ∙ parts.0

  pub result : analytic_of p spec d s ≡ Ok (map point d.points)
  result = ap (λ f. unless f (map point d.points)) no_fault

  pub is_result : IsDataSet s (map point d.points)
  is_result = subst (λ m. IfOk m (IsDataSet s)) result (result_is p spec d s w.analyzed own)

  pub begins : columns ≡ made_cells made (columns_of s) d.points
  begins = sym parts.1

  pub row_fits : (i : ℕ) (r : Row) → i < length d.points → fits (table_columns s) (point (get_or d.points i r)) ≡ true
  row_fits i r h = point_fits (columns_of s) (point (get_or d.points i r)) (mapped_at (λ q. is_point (columns_of s) q ≡ true) point d.points i r h is_result.typed)
