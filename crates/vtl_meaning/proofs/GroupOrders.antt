-- The result of an aggregate does not depend on the order of points.
use Rattle.std.proofs.Common.{◌≡◌, ℕ, Bool, true, false, not, cond, List, [], ◌∷◌, map, Option, None, Some, Ok, refl, sym, ap, ◌∙◌, subst, true≢false}
use Rattle.std.specs.List.{filter}
use Rattle.std.specs.Option.{option_map_or}
use Rattle.vtl_cell.specs.Outcome.{Outcome, faults_by, join}
use Rattle.vtl_cell.specs.Outcomes.{Same}
use Rattle.vtl_lists.specs.Perm.{Perm, empty, keep, cross, chain}
use Rattle.vtl_cell.specs.Row.{Row, column_of, same_row}
use Rattle.vtl_decimal.specs.Settings.{Settings}
use Rattle.vtl_cell.specs.declared.cell.Cell.{Cell}
use Rattle.vtl_cell.specs.declared.cell.Cell.TheVariants as c
use Rattle.vtl_cell.specs.declared.operator.AggKind.{AggKind}
use Rattle.vtl_cell.proofs.Aggregates.{count-Perm, group-Perm}
use Rattle.vtl_lists.proofs.Perms.{Perm-filter, Perm-map, Perm-refl, Perm-same}
use Rattle.vtl_lists.proofs.Filters.{filter_swap}
use Rattle.vtl_cell.proofs.Rows.{same_row-is, same_row-sym}
use Rattle.vtl_rows.specs.Tables.{cells_at}
use Rattle.vtl_tree.specs.CompExp.{CompExp}
use Rattle.vtl_tree.specs.Environment.{DataSet}
use Rattle.vtl_tree.specs.Structure.{columns_of}
use Rattle.vtl_tree.specs.declared.expression.AggCall.{AggCall}
use Rattle.vtl_tree.specs.declared.structure.Component.{Component}
use Rattle.vtl_tree.specs.declared.structure.Structure.{Structure}
use Rattle.vtl_tree.proofs.Faults.{Same_unless, faults_by-Perm}
use Rattle.vtl_tree.specs.Trees.{AggTree}
use Rattle.vtl_tuples.specs.Keys.{each_once}
use Rattle.vtl_tree.specs.Columns.{others_of, place_of}
use Rattle.vtl_meaning.specs.Aggregates.{Condition, Made, aggregate_of, call_for, condition_fault, condition_of, each_group, group_fault, group_point, grouped_points, is_kept, made_of}
use Rattle.vtl_meaning.specs.GroupExpressions.{aggregated, value_over}
use Rattle.vtl_meaning.specs.GroupExpressions as exp
use Rattle.vtl_meaning.specs.Groups.{keys_by, places_named, points_with}

-- ---- each item once
once_cross : (a b : Bool) (x y : Row) (l m : List Row) → a ≡ true → b ≡ true → l ≡ m → Perm (x ∷ cond a (y ∷ l) l) (y ∷ cond b (x ∷ m) m)
once_cross true true x y l m e h same = chain (cross x y l) (Perm-same (y ∷ x ∷ l) (y ∷ x ∷ m) (ap (λ n. y ∷ x ∷ n) same))
once_cross false b x y l m e h same = absurd (true≢false (sym e))
once_cross true false x y l m e h same = absurd (true≢false (sym h))

once-Perm : {xs ys : List Row} → Perm xs ys → Perm (each_once same_row xs) (each_once same_row ys)
once-Perm empty = empty
once-Perm (keep x p) = keep x (Perm-filter (λ y. not (same_row x y)) (once-Perm p))
once-Perm (cross x y xs) = go (same_row x y) refl
  where
    go : (b : Bool) → same_row x y ≡ b → Perm (each_once same_row (x ∷ y ∷ xs)) (each_once same_row (y ∷ x ∷ xs))
    go true e = subst (λ w. Perm (each_once same_row (x ∷ w ∷ xs)) (each_once same_row (w ∷ x ∷ xs))) (same_row-is x y e) (Perm-refl (each_once same_row (x ∷ x ∷ xs)))
    go false e =
        once_cross (not (same_row x y)) (not (same_row y x)) x y (filter (λ z. not (same_row x z)) (filter (λ z. not (same_row y z)) (each_once same_row xs))) (filter (λ z. not (same_row y z)) (filter (λ z. not (same_row x z)) (each_once same_row xs)))
        (ap not e) (ap not (sym (same_row-sym x y) ∙ e)) (filter_swap (λ z. not (same_row x z)) (λ z. not (same_row y z)) (each_once same_row xs))
once-Perm (chain p q) = chain (once-Perm p) (once-Perm q)

-- ---- keys in another order
groups_respect : (at : Condition) (having : Option CompExp) (made : Made) (ys : List Component) (ks js : List Row) → Perm ks js → Same (each_group at having made ys ks) (each_group at having made ys js)
groups_respect at having made ys ks js q =
    let kept = Perm-filter (is_kept at having) q in
    let faults : join (faults_by (condition_fault at having) ks) (faults_by (group_fault made ys) (filter (is_kept at having) ks)) ≡ join (faults_by (condition_fault at having) js) (faults_by (group_fault made ys) (filter (is_kept at having) js)) =
    λ i. join (faults_by-Perm (condition_fault at having) q i) (faults_by-Perm (group_fault made ys) kept i) in
    Same_unless (join (faults_by (condition_fault at having) ks) (faults_by (group_fault made ys) (filter (is_kept at having) ks))) (join (faults_by (condition_fault at having) js) (faults_by (group_fault made ys) (filter (is_kept at having) js)))
    (map (group_point made ys) (filter (is_kept at having) ks)) (map (group_point made ys) (filter (is_kept at having) js)) faults (Perm-map (group_point made ys) kept)

-- ---- points in another order
aggregated_same : (p : Settings) (xs : List Component) (f : AggKind) (component : Option (List ℕ)) (us vs : List Row) → Perm us vs → aggregated p xs f component us ≡ aggregated p xs f component vs
aggregated_same p xs f None us vs q = count-Perm p us vs q
aggregated_same p xs f (Some name) us vs q = group-Perm p f (map (column_of (place_of name xs)) us) (map (column_of (place_of name xs)) vs) (Perm-map (column_of (place_of name xs)) q)

module _ (p : Settings) (spec : AggTree) (xs ys : List Component) (d e : List Row) (q : Perm d e) where
  abbrev places : List ℕ
  places = places_named spec.grouping xs

  -- the values of aggregates at a group
  abbrev calls : List Row → Row → AggCall → Outcome Cell
  calls points key a = aggregated p xs a.kind a.component (points_with places points key)

  calls_same : (key : Row) → calls d key ≡ calls e key
  calls_same key = λ i a. aggregated_same p xs a.kind a.component (points_with places d key) (points_with places e key) (Perm-filter (λ r. same_row (cells_at places r) key) q) i

  made_same : (y : Component) (key : Row) → made_of p spec xs d y key ≡ made_of p spec xs e y key
  made_same y key = ap (λ f. option_map_or f (call_for spec.items y.name) (Ok c.Null)) (calls_same key)

  condition_same : (x : CompExp) (key : Row) → condition_of p spec xs d x key ≡ condition_of p spec xs e x key
  condition_same x key = ap (λ f. value_over p (exp.grouped_cell spec.grouping key) f x) (calls_same key)

  pub points_respect : Same (grouped_points p spec xs ys d) (grouped_points p spec xs ys e)
  points_respect =
      let at = condition_of p spec xs d in
      let made = made_of p spec xs d in
      let ks = keys_by places d in
      let js = keys_by places e in
      let conditions : at ≡ condition_of p spec xs e = λ i x key. condition_same x key i in
      let columns : made ≡ made_of p spec xs e = λ i y key. made_same y key i in
      subst (λ m. Same (each_group at spec.having made ys ks) (each_group (condition_of p spec xs e) spec.having m ys js)) columns
      (subst (λ t. Same (each_group at spec.having made ys ks) (each_group t spec.having made ys js)) conditions
      (groups_respect at spec.having made ys ks js (once-Perm (Perm-map (cells_at places) q))))

pub aggregates_respect : (p : Settings) (spec : AggTree) (d e : DataSet) (s : Structure) → d.structure ≡ e.structure → Perm d.points e.points → Same (aggregate_of p spec d s) (aggregate_of p spec e s)
aggregates_respect p spec d e s h q =
    subst (λ a. Same (aggregate_of p spec d s) (grouped_points p spec (columns_of a) (others_of s) e.points)) h (points_respect p spec (columns_of d.structure) (others_of s) d.points e.points q)
