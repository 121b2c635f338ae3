use Rattle.std.proofs.Common.{◌≡◌, ◌<◌, ◌≤◌, ◌+◌, List, [], ◌∷◌, ◌++◌, Vec, Global, Ok, Err, length, map, take, drop, get_or, ap, sym, subst, ◌∙◌, arith, rules}
use Rattle.std.proofs.lemmas.List.{drop_more, map_more, take_all, with_items_is}
use Rattle.vtl_cell.specs.Outcome.{faults_by}
use Rattle.vtl_cell.specs.Row.{Row}
use Rattle.vtl_rows.specs.Tables.{Tabled, fits}
use Rattle.vtl_scalar.specs.Answers.{AnswersBy}
use Rattle.vtl_tree.specs.DataSet.{IsDataSet}
use Rattle.vtl_tree.specs.Shown.{shown}
use Rattle.vtl_tree.specs.Structure.{columns_of}
use Rattle.vtl_meaning.specs.Aggregates.{group_fault as point_fault}
use Rattle.vtl_meaning.specs.Analytics.{analytic_of, made_of, point_of}
use Rattle.vtl_sets.specs.TableOf.{table_columns}
use Rattle.vtl_tree.specs.NodeView.{analytic_tree}
use Rattle.vtl_window.specs.Analyses.{cells_in, made_cells, made_faults}
use Rattle.vtl_window.specs.declared.column.Column.{Column}
use Rattle.vtl_window.proofs.AnalysisLemmas.{faults_turned}
use Rattle.vtl_window.proofs.Windowed.{begins, fault_answered, is_result, result, row_fits}
use Rattle.vtl_window.proofs.analysis.analyzed_table.Goals as goal

pub returns-in_err-columns-clause-rows : goal.returns-in_err-columns-clause-rows
returns-in_err-columns-clause-rows c =
    let p = c.args.p.now in
    let spec = analytic_tree c.args.spec.now in
    let a = c.args.a.now in
    let s = c.args.made.now in
    let made = made_of p spec a in
    let wanted = shown c.deref.result.now in
    let is : wanted ≡ columns_of s = ap shown c.deref.ensures.value ∙ c.in_ok-wanted.ensures in
    let passed : c.from_residual-in_err-columns.result ≡ Err c.in_err-columns.field-0.0 = search rules in
    subst (λ r. AnswersBy (λ (t : Tabled). t.rows) r (analytic_of p spec a s)) (sym passed)
    (fault_answered (λ (v : Vec Column Global). map (cells_in a.points) v.items) (λ (t : Tabled). t.rows) c.in_err-columns.field-0.0 (made_faults made wanted a.points) (faults_by (point_fault made (columns_of s)) a.points)
    (made_cells made wanted a.points) (map (point_of made (columns_of s)) a.points)
    (ap (λ ys. made_faults made ys a.points) is ∙ faults_turned made (columns_of s) a.points) c.in_err-columns.ensures)

pub loop-i-init : goal.loop-i-init
loop-i-init c =
    let a = c.args.a.now in
    let s = c.args.made.now in
    let is = ap shown c.deref.ensures.value ∙ c.in_ok-wanted.ensures in
    let own = subst (λ (l : List Row). IsDataSet a.structure l) c.table-table.ensures.points c.table-table.ensures.table.points in
    record {
      columns = search rules;
      rows = search rules;
      row = search rules;
      left = begins c.args.p.now (analytic_tree c.args.spec.now) a s c.requires own (shown c.deref.result.now) is (map (cells_in a.points) c.in_ok-columns.columns.items) c.in_ok-columns.ensures;
    }

pub push_moved-requires : goal.push_moved-requires
push_moved-requires c =
    let p = c.args.p.now in
    let spec = analytic_tree c.args.spec.now in
    let a = c.args.a.now in
    let s = c.args.made.now in
    let made = made_of p spec a in
    let ys = columns_of s in
    let point = point_of made ys in
    let is = ap shown c.deref.ensures.value ∙ c.in_ok-wanted.ensures in
    let own = subst (λ (l : List Row). IsDataSet a.structure l) c.table-table.ensures.points c.table-table.ensures.table.points in
    let i = c.loop-i.i in
    let rest = drop (i + 1) a.points in
    let q = c.row.result.now in
    let many = ap (λ (l : List Row). length l) c.table-table.ensures.points in
    let within : i < length a.points = omega (arith, c.len-i-end.ensures.rows, c.loop-i-test.true, many) in
    let at : get_or a.points i q ≡ q = sym (c.row.ensures.row ∙ ap (λ (l : List Row). get_or l i q) c.table-table.ensures.points) in
    let left : map (cells_in (q ∷ rest)) c.deref_mut.result.now ≡ made_cells made ys (q ∷ rest) =
    ap (map (cells_in (q ∷ rest))) c.deref_mut.ensures.value
    ∙ subst (λ ps. map (cells_in ps) c.loop-i.columns.items ≡ made_cells made ys ps) (drop_more a.points i q within ∙ ap (λ r. r ∷ rest) at) c.loop-i.invariant.left in
    let row : c.push_across.new.row.items ≡ point q = c.in_ok-push_across.ensures.row made ys rest left ∙ ap (λ l. l ++ point q) c.loop-i.invariant.row in
    ap (fits c.loop-i.points.columns) row ∙ ap (λ cs. fits cs (point q)) c.loop-i.invariant.columns ∙ ap (λ r. fits (table_columns s) (point r)) (sym at)
    ∙ row_fits p spec a s c.requires own (shown c.deref.result.now) is (map (cells_in a.points) c.in_ok-columns.columns.items) c.in_ok-columns.ensures i q within

pub loop-i-preserved : goal.loop-i-preserved
loop-i-preserved c =
    let p = c.args.p.now in
    let spec = analytic_tree c.args.spec.now in
    let a = c.args.a.now in
    let s = c.args.made.now in
    let made = made_of p spec a in
    let ys = columns_of s in
    let point = point_of made ys in
    let is = ap shown c.deref.ensures.value ∙ c.in_ok-wanted.ensures in
    let own = subst (λ (l : List Row). IsDataSet a.structure l) c.table-table.ensures.points c.table-table.ensures.table.points in
    let i = c.loop-i.i in
    let rest = drop (i + 1) a.points in
    let q = c.row.result.now in
    let many = ap (λ (l : List Row). length l) c.table-table.ensures.points in
    let within : i < length a.points = omega (arith, c.len-i-end.ensures.rows, c.loop-i-test.true, many) in
    let at : get_or a.points i q ≡ q = sym (c.row.ensures.row ∙ ap (λ (l : List Row). get_or l i q) c.table-table.ensures.points) in
    let left : map (cells_in (q ∷ rest)) c.deref_mut.result.now ≡ made_cells made ys (q ∷ rest) =
    ap (map (cells_in (q ∷ rest))) c.deref_mut.ensures.value
    ∙ subst (λ ps. map (cells_in ps) c.loop-i.columns.items ≡ made_cells made ys ps) (drop_more a.points i q within ∙ ap (λ r. r ∷ rest) at) c.loop-i.invariant.left in
    let row : c.push_across.new.row.items ≡ point q = c.in_ok-push_across.ensures.row made ys rest left ∙ ap (λ l. l ++ point q) c.loop-i.invariant.row in
    let len : length c.push_across.new.columns ≡ c.loop-i.columns.len = omega (arith, ap (λ (l : List Column). length l) c.deref_mut.ensures.value, c.loop-i.columns.ok.0, c.push_across.auto.columns) in
    record {
      columns = c.push_moved.ensures.columns ∙ c.loop-i.invariant.columns;
      rows = c.in_ok-push_moved.ensures.rows ∙ ap (λ l. l ++ c.push_across.new.row.items ∷ []) c.loop-i.invariant.rows
          ∙ ap (λ r. map point (take i a.points) ++ r ∷ []) (row ∙ ap point (sym at)) ∙ sym (map_more point a.points i q within);
      row = c.in_ok-push_moved.ensures.moved;
      left = ap (map (cells_in rest)) (with_items_is c.loop-i.columns c.push_across.new.columns len) ∙ c.in_ok-push_across.ensures.columns made ys rest left;
    }

pub returns-clause-rows : goal.returns-clause-rows
returns-clause-rows c =
    let p = c.args.p.now in
    let spec = analytic_tree c.args.spec.now in
    let a = c.args.a.now in
    let s = c.args.made.now in
    let point = point_of (made_of p spec a) (columns_of s) in
    let is = ap shown c.deref.ensures.value ∙ c.in_ok-wanted.ensures in
    let own = subst (λ (l : List Row). IsDataSet a.structure l) c.table-table.ensures.points c.table-table.ensures.table.points in
    let many = ap (λ (l : List Row). length l) c.table-table.ensures.points in
    let past : length a.points ≤ c.loop-i.i = omega (arith, c.len-i-end.ensures.rows, c.loop-i-test.false, many) in
    result p spec a s c.requires own (shown c.deref.result.now) is (map (cells_in a.points) c.in_ok-columns.columns.items) c.in_ok-columns.ensures
    ∙ ap Ok (sym (c.loop-i.invariant.rows ∙ ap (map point) (take_all c.loop-i.i a.points past)))

pub returns-clause-table : goal.returns-clause-table
returns-clause-table c =
    let p = c.args.p.now in
    let spec = analytic_tree c.args.spec.now in
    let a = c.args.a.now in
    let s = c.args.made.now in
    let point = point_of (made_of p spec a) (columns_of s) in
    let is = ap shown c.deref.ensures.value ∙ c.in_ok-wanted.ensures in
    let own = subst (λ (l : List Row). IsDataSet a.structure l) c.table-table.ensures.points c.table-table.ensures.table.points in
    let many = ap (λ (l : List Row). length l) c.table-table.ensures.points in
    let past : length a.points ≤ c.loop-i.i = omega (arith, c.len-i-end.ensures.rows, c.loop-i-test.false, many) in
    record {
      columns = c.loop-i.invariant.columns;
      points = subst (IsDataSet s) (sym (c.loop-i.invariant.rows ∙ ap (map point) (take_all c.loop-i.i a.points past)))
          (is_result p spec a s c.requires own (shown c.deref.result.now) is (map (cells_in a.points) c.in_ok-columns.columns.items) c.in_ok-columns.ensures);
    }
