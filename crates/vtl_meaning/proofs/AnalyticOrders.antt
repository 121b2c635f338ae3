-- The result does not depend on the order of points.
use Rattle.std.proofs.Common.{◌≡◌, List, map, Option, None, Some, Ok, refl, ap, subst}
use Rattle.std.specs.Option.{option_map_or}
use Rattle.vtl_cell.specs.Conversion.{as_kind}
use Rattle.vtl_cell.specs.Outcome.{after, faults_by}
use Rattle.vtl_cell.specs.Outcomes.{Same}
use Rattle.vtl_lists.specs.Perm.{Perm}
use Rattle.vtl_cell.specs.Row.{Row, column_of}
use Rattle.vtl_decimal.specs.Settings.{Settings}
use Rattle.vtl_cell.specs.declared.kind.Kind.{Kind}
use Rattle.vtl_lists.proofs.Perms.{Perm-map}
use Rattle.vtl_tree.specs.Environment.{DataSet}
use Rattle.vtl_tree.specs.Structure.{columns_of}
use Rattle.vtl_tree.specs.declared.structure.Component.{Component}
use Rattle.vtl_tree.specs.declared.structure.Structure.{Structure}
use Rattle.vtl_tree.proofs.Faults.{Same_unless, faults_by-Perm}
use Rattle.vtl_tree.specs.Trees as nodes
use Rattle.vtl_tree.specs.Trees.{AnalyticTree, ValueTree}
use Rattle.vtl_tree.specs.Columns.{place_of}
use Rattle.vtl_meaning.specs.Aggregates.{Made, group_fault as point_fault}
use Rattle.vtl_meaning.specs.Analytics.{analytic_of, each_point, made_of, point_of, tree_value, value_for}
use Rattle.vtl_meaning.specs.Windows.{argument, op_value}
use Rattle.vtl_meaning.proofs.Partitions.{stand_same}

pub points_respect : (made : Made) (ys : List Component) (us vs : List Row) → Perm us vs → Same (each_point made ys us) (each_point made ys vs)
points_respect made ys us vs q = Same_unless (faults_by (point_fault made ys) us) (faults_by (point_fault made ys) vs) (map (point_of made ys) us) (map (point_of made ys) vs) (faults_by-Perm (point_fault made ys) q) (Perm-map (point_of made ys) q)

module _ (p : Settings) (spec : AnalyticTree) (a : Structure) (us vs : List Row) (q : Perm us vs) where
  abbrev first : DataSet
  first = record { structure = a; points = us }

  abbrev second : DataSet
  second = record { structure = a; points = vs }

  tree_same : (kind : Kind) (v : ValueTree) (r : Row) → tree_value p first kind v r ≡ tree_value p second kind v r
  tree_same kind (nodes.scalar e) r = refl
  tree_same kind (nodes.analytic call) r = ap (λ s. after (op_value p (columns_of a) call.window (argument (columns_of a) call.component) call.op s) (as_kind p kind)) (stand_same a call.window r us vs q)

  made_same : (y : Component) (r : Row) → made_of p spec first y r ≡ made_of p spec second y r
  made_same y r = go (value_for spec y)
    where
      go : (o : Option ValueTree) → option_map_or (λ v. tree_value p first y.kind v r) o (Ok (column_of (place_of y.name (columns_of a)) r)) ≡ option_map_or (λ v. tree_value p second y.kind v r) o (Ok (column_of (place_of y.name (columns_of a)) r))
      go None = refl
      go (Some v) = tree_same y.kind v r

  pub data_respect : (s : Structure) → Same (analytic_of p spec first s) (analytic_of p spec second s)
  data_respect s =
      let same : made_of p spec first ≡ made_of p spec second = λ i y r. made_same y r i in
      subst (λ made. Same (each_point (made_of p spec first) (columns_of s) us) (each_point made (columns_of s) vs)) same (points_respect (made_of p spec first) (columns_of s) us vs q)

pub analytics_respect : (p : Settings) (spec : AnalyticTree) (d e : DataSet) (s : Structure) → d.structure ≡ e.structure → Perm d.points e.points → Same (analytic_of p spec d s) (analytic_of p spec e s)
analytics_respect p spec d e s h q = subst (λ a. Same (analytic_of p spec d s) (analytic_of p spec (record { structure = a; points = e.points }) s)) h (data_respect p spec d.structure d.points e.points q s)
