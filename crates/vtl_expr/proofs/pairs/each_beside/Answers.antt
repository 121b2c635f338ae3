use Rattle.std.proofs.Common.{◌≡◌, ◌<◌, ◌≤◌, ◌++◌, List, Some, true, length, map, arith, ap, sym, subst, ◌∙◌}
use Rattle.std.specs.List.{AllByRecursion, flat_map}
use Rattle.std.proofs.lemmas.List.{take_all}
use Rattle.vtl_cell.specs.Outcome.{faults_by}
use Rattle.vtl_cell.specs.Row.{Row}
use Rattle.vtl_rows.specs.Tables.{Tabled, fits}
use Rattle.vtl_sets.specs.TableOf.{table_columns}
use Rattle.vtl_meaning.specs.Points.{point_fault, point_of}
use Rattle.vtl_expr.specs.Partners.{found, with_found}
use Rattle.vtl_expr.specs.Prepared.{prepared_exp}
use Rattle.vtl_scalar.specs.Seen.{seen_of}
use Rattle.vtl_expr.proofs.PointLemmas.{drawn_faults, drawn_mapped, finished, holds_at}
use Rattle.vtl_expr.proofs.pairs.each_beside.Goals as goal

pub push_pair-requires : goal.push_pair-requires
push_pair-requires g c = λ q e.
    let p = c.args.p.now in
    let es = map prepared_exp c.args.exps.now in
    let s = c.args.made.now in
    let rows = c.table-table.result.now.rows in
    let r = c.row.result.now in
    let within : c.loop-i.i < length rows = omega (arith, c.len-i-end.ensures.rows, c.loop-i-test.true) in
    let all = subst (λ (l : List Row). AllByRecursion (λ (x : Row). (y : Row) → found c.args.partners.now x ≡ Some y → fits (table_columns s) (point_of p es (x ++ y)) ≡ true) l) (sym c.table-table.ensures.points) c.requires.fits in
    ap (λ cs. fits cs (point_of p es (r ++ q))) c.loop-i.invariant.columns
    ∙ holds_at (λ (x : Row). (y : Row) → found c.args.partners.now x ≡ Some y → fits (table_columns s) (point_of p es (x ++ y)) ≡ true) rows c.loop-i.i r all within c.row.ensures.row q e

pub loop-i-preserved : goal.loop-i-preserved
loop-i-preserved g c =
    let es = map prepared_exp c.args.exps.now in
    let p = c.args.p.now in
    let rows = c.table-table.result.now.rows in
    let draw = with_found (λ r q. r ++ q) c.args.partners.now in
    let r = c.row.result.now in
    let within : c.loop-i.i < length rows = omega (arith, c.len-i-end.ensures.rows, c.loop-i-test.true) in
    record {
      columns = c.push_pair.ensures.columns ∙ c.loop-i.invariant.columns;
      rows = drawn_mapped (point_of p es) draw rows c.loop-i.points.table.rows c.push_pair.new.points.table.rows c.loop-i.i r within c.row.ensures.row c.loop-i.invariant.rows c.in_ok-push_pair.ensures.rows;
      seen = drawn_faults (point_fault p es) draw rows (seen_of c.loop-i.points.seen) (seen_of c.push_pair.new.points.seen) c.loop-i.i r within c.row.ensures.row c.loop-i.invariant.seen c.in_ok-push_pair.ensures.seen;
    }

pub returns-clause-rows : goal.returns-clause-rows
returns-clause-rows g c =
    let es = map prepared_exp c.args.exps.now in
    let p = c.args.p.now in
    let rows = c.table-table.result.now.rows in
    let draw = with_found (λ r q. r ++ q) c.args.partners.now in
    let past : length rows ≤ c.loop-i.i = omega (arith, c.len-i-end.ensures.rows, c.loop-i-test.false) in
    let all = ap (flat_map draw) (take_all c.loop-i.i rows past ∙ c.table-table.ensures.points) in
    let pairs = flat_map draw c.args.lead.now.points in
    finished (λ (t : Tabled). t.rows) c.finish.result (seen_of c.loop-i.points.seen) (faults_by (point_fault p es) pairs) c.loop-i.points.table (map (point_of p es) pairs) c.finish.ensures
    (c.loop-i.invariant.seen ∙ ap (faults_by (point_fault p es)) all) (c.loop-i.invariant.rows ∙ ap (map (point_of p es)) all)
