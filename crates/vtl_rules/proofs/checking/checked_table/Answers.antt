use Rattle.std.proofs.Common.{◌≡◌, ◌<◌, ◌≤◌, ◌∙◌, List, length, take, arith, ap, sym, subst, []}
use Rattle.std.specs.List.{filter_map}
use Rattle.std.proofs.lemmas.List.{take_all}
use Rattle.vtl_cell.specs.Row.{Row}
use Rattle.vtl_tree.specs.DataSet.{IsDataSet}
use Rattle.vtl_tree.specs.declared.structure.Structure.{Structure}
use Rattle.vtl_rulings.specs.PointChecks.{check_of}
use Rattle.vtl_rulings.proofs.ChecksKept.{check_kept}
use Rattle.vtl_rules.specs.Imbalances.{checked_by, checking_of, lent}
use Rattle.vtl_rules.proofs.CheckLemmas.{row_fits, rows_are}
use Rattle.vtl_rules.proofs.RulingLemmas.{drawn_more}
use Rattle.vtl_rules.proofs.checking.checked_table.Goals as goal

pub push-requires : goal.push-requires
push-requires g c =
    let spec = c.args.spec.now in
    let other = lent c.args.imbalance in
    let rows = c.table-table.result.now.rows in
    let within : c.loop-i.i < length rows = omega (arith, c.len-i-end.ensures.rows, c.loop-i-test.true) in
    let same = c.in_ok-checking.ensures ∙ ap (λ (x : Structure). checking_of spec x other) c.structure.ensures.structure in
    row_fits c.args.p.now spec c.args.op.now other c.args.made.now c.requires.made c.structure.ensures.points c.is_data_set.ensures c.in_ok-checking.checking same rows c.loop-i.i c.row.result.now c.loop-i.out.columns
    c.table-table.ensures.points within c.row.ensures.row c.loop-i.invariant.columns

pub loop-i-preserved : goal.loop-i-preserved
loop-i-preserved g c =
    let rows = c.table-table.result.now.rows in
    let within : c.loop-i.i < length rows = omega (arith, c.len-i-end.ensures.rows, c.loop-i-test.true) in
    record {
      columns = c.push.ensures.columns ∙ c.loop-i.invariant.columns;
      rows = drawn_more (checked_by c.args.p.now c.in_ok-checking.checking) rows c.loop-i.i c.row.result.now [] c.loop-i.out.rows c.push.new.out.rows within c.row.ensures.row c.loop-i.invariant.rows c.in_ok-push.ensures.rows;
    }

pub returns-clause-rows : goal.returns-clause-rows
returns-clause-rows g c =
    let spec = c.args.spec.now in
    let other = lent c.args.imbalance in
    let rows = c.table-table.result.now.rows in
    let past : length rows ≤ c.loop-i.i = omega (arith, c.len-i-end.ensures.rows, c.loop-i-test.false) in
    let same = c.in_ok-checking.ensures ∙ ap (λ (x : Structure). checking_of spec x other) c.structure.ensures.structure in
    let f : List Row → List Row = filter_map (checked_by c.args.p.now c.in_ok-checking.checking) in
    let whole : f (take c.loop-i.i rows) ≡ f rows = ap f (take_all c.loop-i.i rows past) in
    let meant : f rows ≡ check_of c.args.p.now spec c.args.op.now other = rows_are c.args.p.now spec c.args.op.now other c.args.made.now c.requires.made c.structure.ensures.points c.is_data_set.ensures c.in_ok-checking.checking same rows c.table-table.ensures.points in
    c.loop-i.invariant.rows ∙ whole ∙ meant

pub returns-clause-table : goal.returns-clause-table
returns-clause-table g c =
    let op = c.args.op.now in
    record {
      columns = c.loop-i.invariant.columns;
      points = subst (λ (l : List Row). IsDataSet c.args.made.now l) (sym (returns-clause-rows g c)) (check_kept c.args.p.now c.args.spec.now op.structure c.args.made.now (lent c.args.imbalance) op.points c.requires.made c.structure.ensures.points c.is_data_set.ensures);
    }
