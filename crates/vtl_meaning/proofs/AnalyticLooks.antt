-- What the result has at a key.
use Rattle.std.proofs.Common.{◌≡◌, ℕ, Bool, true, false, cond, List, [], ◌∷◌, map, take, Some, refl, ap, ◌∙◌}
use Rattle.std.specs.Prelude.{IfOk, option_map}
use Rattle.std.specs.List.{AllByRecursion}
use Rattle.vtl_lists.proofs.Alls.{all_more}
use Rattle.vtl_cell.specs.Outcome.{faults_by}
use Rattle.vtl_cell.specs.Row.{Row, same_row}
use Rattle.vtl_decimal.specs.Settings.{Settings}
use Rattle.vtl_tree.specs.DataSet.{IsDataSet, is_point, look}
use Rattle.vtl_tree.specs.Environment.{DataSet}
use Rattle.vtl_tree.specs.Structure.{columns_of, key_width}
use Rattle.vtl_tree.specs.declared.structure.Structure.{Structure}
use Rattle.vtl_tree.specs.Trees.{AnalyticTree}
use Rattle.vtl_meaning.specs.Aggregates.{group_fault as point_fault}
use Rattle.vtl_meaning.specs.Analytics.{analytic_of, made_of, point_of}
use Rattle.vtl_meaning.specs.AnalyticShapes.{IsAnalyzed}
use Rattle.vtl_meaning.proofs.AnalyticPoints.{key_of_point}
use Rattle.vtl_meaning.proofs.GroupPoints.{unless_has}

look_made : (n m : ℕ) (f : Row → Row) (k : Row) (points : List Row) → AllByRecursion (λ r. take n (f r) ≡ take m r) points → look n (map f points) k ≡ option_map f (look m points k)
look_made n m f k [] all = refl
look_made n m f k (r ∷ points) all = ap (λ key. cond (same_row key k) (Some (f r)) (look n (map f points) k)) all.0 ∙ go (same_row (take m r) k) (look_made n m f k points all.1)
  where
    go : (b : Bool) → look n (map f points) k ≡ option_map f (look m points k) → cond b (Some (f r)) (look n (map f points) k) ≡ option_map f (cond b (Some r) (look m points k))
    go true ih = refl
    go false ih = ih

pub looked : (p : Settings) (spec : AnalyticTree) (d : DataSet) (s : Structure) (k : Row) → IsAnalyzed p spec d.structure s → IsDataSet d.structure d.points
    → IfOk (analytic_of p spec d s) (λ out. look (key_width s) out k ≡ option_map (point_of (made_of p spec d) (columns_of s)) (look (key_width d.structure) d.points k))
looked p spec d s k i h =
    let f : Row → Row = point_of (made_of p spec d) (columns_of s) in
    unless_has (λ out. look (key_width s) out k ≡ option_map f (look (key_width d.structure) d.points k)) (faults_by (point_fault (made_of p spec d) (columns_of s)) d.points) (map f d.points)
    (look_made (key_width s) (key_width d.structure) f k d.points
    (all_more (λ r. is_point (columns_of d.structure) r ≡ true) (λ r. take (key_width s) (f r) ≡ take (key_width d.structure) r) (key_of_point p spec d s i h) d.points h.typed))
