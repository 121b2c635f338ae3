use Rattle.std.proofs.Common.{◌≡◌, Some, None, map, ap, sym, ◌∙◌}
use Rattle.std.specs.Option.{option_map}
use Rattle.vtl_cell.specs.Outcome.{Outcome, join}
use Rattle.vtl_cell.specs.Row.{Row, column_of}
use Rattle.vtl_cell.specs.declared.cell.Cell.{Cell}
use Rattle.vtl_tree.specs.Structure.{columns_of}
use Rattle.vtl_scalar.specs.Seen.{seen_of}
use Rattle.vtl_meaning.specs.Analytics.{value_for}
use Rattle.vtl_tree.specs.Columns.{place_of}
use Rattle.vtl_tree.specs.NodeView.{analytic_tree}
use Rattle.vtl_window.specs.Analyses.{cells_by, faults_of}
use Rattle.vtl_window.specs.Calls.{maker_tree}
use Rattle.vtl_window.proofs.AnalysisLemmas.{kept_as, made_as, stays}
use Rattle.vtl_window.proofs.Windowed.{value_over}
use Rattle.vtl_window.proofs.columns.made_column.Goals as goal

pub cells_made-requires : goal.cells_made-requires
cells_made-requires c =
    let spec = analytic_tree c.args.spec.now in
    let y = c.args.column.now in
    let v = maker_tree c.in-Some.maker in
    value_over c.args.p.now (columns_of c.args.a.now.structure) spec y v c.requires (sym c.maker_of.ensures ∙ ap (option_map maker_tree) c.in-Some.is)

pub returns-in_ok-cells-in-Some-clause-cells : goal.returns-in_ok-cells-in-Some-clause-cells
returns-in_ok-cells-in-Some-clause-cells c =
    let spec = analytic_tree c.args.spec.now in
    let y = c.args.column.now in
    let a = c.args.a.now in
    let v = maker_tree c.in-Some.maker in
    let is : value_for spec y ≡ Some v = sym c.maker_of.ensures ∙ ap (option_map maker_tree) c.in-Some.is in
    c.into_iter.ensures.rest ∙ c.in_ok-cells-in-Some.ensures.cells ∙ ap (λ (g : Row → Outcome Cell). cells_by g a.points) (made_as c.args.p.now spec a y v is)

pub returns-in_ok-cells-in-Some-clause-seen : goal.returns-in_ok-cells-in-Some-clause-seen
returns-in_ok-cells-in-Some-clause-seen c =
    let spec = analytic_tree c.args.spec.now in
    let y = c.args.column.now in
    let a = c.args.a.now in
    let v = maker_tree c.in-Some.maker in
    let is : value_for spec y ≡ Some v = sym c.maker_of.ensures ∙ ap (option_map maker_tree) c.in-Some.is in
    c.in_ok-cells-in-Some.ensures.seen ∙ ap (λ (g : Row → Outcome Cell). join (seen_of c.args.seen.now) (faults_of g a.points)) (made_as c.args.p.now spec a y v is)

pub returns-in_ok-own_place-in-None-clause-cells : goal.returns-in_ok-own_place-in-None-clause-cells
returns-in_ok-own_place-in-None-clause-cells c =
    let spec = analytic_tree c.args.spec.now in
    let y = c.args.column.now in
    let a = c.args.a.now in
    let is : value_for spec y ≡ None = sym c.maker_of.ensures ∙ ap (option_map maker_tree) c.in-None.is in
    ap (λ place. map (column_of place) a.points) c.in_ok-own_place-in-None.ensures
    ∙ ap (λ (g : Row → Outcome Cell). cells_by g a.points) (kept_as c.args.p.now spec a y is)

pub returns-in_ok-own_place-in-None-clause-seen : goal.returns-in_ok-own_place-in-None-clause-seen
returns-in_ok-own_place-in-None-clause-seen c =
    let spec = analytic_tree c.args.spec.now in
    let y = c.args.column.now in
    let a = c.args.a.now in
    let is : value_for spec y ≡ None = sym c.maker_of.ensures ∙ ap (option_map maker_tree) c.in-None.is in
    stays (place_of y.name (columns_of a.structure)) (seen_of c.args.seen.now) a.points
    ∙ ap (λ (g : Row → Outcome Cell). join (seen_of c.args.seen.now) (faults_of g a.points)) (kept_as c.args.p.now spec a y is)
