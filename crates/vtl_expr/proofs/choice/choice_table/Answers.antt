use Rattle.std.proofs.Common.{◌<◌, ◌≤◌, ◌++◌, length, arith, ap, sym, subst, ◌∙◌}
use Rattle.vtl_tree.specs.DataSet.{IsDataSet}
use Rattle.vtl_tree.specs.declared.structure.Structure.{Structure}
use Rattle.vtl_meaning.proofs.Kept.{choice_kept}
use Rattle.vtl_expr.specs.Choices.{IsBetween, chosen}
use Rattle.vtl_expr.proofs.ChoiceLemmas.{all_chosen, taken_fits}
use Rattle.vtl_expr.proofs.PointLemmas.{drawn_more}
use Rattle.vtl_expr.proofs.choice.choice_table.Goals as goal

pub push-requires-clause-first : goal.push-requires-clause-first
push-requires-clause-first g c =
    let t = c.args.condition.now.structure in
    let d = c.args.then.now in
    let e = c.args.other.now in
    let s = c.args.made.now in
    let rows = c.table-table.result.now.rows in
    let within : c.loop-i.i < length rows = omega (arith, c.len-i-end.ensures.rows, c.loop-i-test.true) in
    let is = subst (λ (x : Structure). IsBetween x d e s c.in_ok-choice.choice) c.structure.ensures.structure c.in_ok-choice.ensures in
    let made = c.requires.made in
    taken_fits t s rows d c.in_ok-choice.choice.first c.in_ok-choice.choice.identifiers.items c.loop-i.out.columns c.loop-i.i c.row.result.now c.table-table.ensures.table.points made.identifiers made.no_attributes made.first.measures
    is.first is.identifiers c.loop-i.invariant.columns within c.row.ensures.row

pub push-requires-clause-second : goal.push-requires-clause-second
push-requires-clause-second g c =
    let t = c.args.condition.now.structure in
    let d = c.args.then.now in
    let e = c.args.other.now in
    let s = c.args.made.now in
    let rows = c.table-table.result.now.rows in
    let within : c.loop-i.i < length rows = omega (arith, c.len-i-end.ensures.rows, c.loop-i-test.true) in
    let is = subst (λ (x : Structure). IsBetween x d e s c.in_ok-choice.choice) c.structure.ensures.structure c.in_ok-choice.ensures in
    let made = c.requires.made in
    taken_fits t s rows e c.in_ok-choice.choice.second c.in_ok-choice.choice.identifiers.items c.loop-i.out.columns c.loop-i.i c.row.result.now c.table-table.ensures.table.points made.identifiers made.no_attributes made.second.measures
    is.second is.identifiers c.loop-i.invariant.columns within c.row.ensures.row

pub loop-i-preserved : goal.loop-i-preserved
loop-i-preserved g c =
    let rows = c.table-table.result.now.rows in
    let r = c.row.result.now in
    let within : c.loop-i.i < length rows = omega (arith, c.len-i-end.ensures.rows, c.loop-i-test.true) in
    record {
      columns = c.push.ensures.columns ∙ c.loop-i.invariant.columns;
      rows = c.in_ok-push.ensures.rows ∙ ap (λ l. l ++ chosen c.in_ok-choice.choice r) c.loop-i.invariant.rows ∙ sym (drawn_more (chosen c.in_ok-choice.choice) rows c.loop-i.i r within c.row.ensures.row);
    }

pub returns-clause-rows : goal.returns-clause-rows
returns-clause-rows g c =
    let t = c.args.condition.now in
    let d = c.args.then.now in
    let e = c.args.other.now in
    let s = c.args.made.now in
    let rows = c.table-table.result.now.rows in
    let past : length rows ≤ c.loop-i.i = omega (arith, c.len-i-end.ensures.rows, c.loop-i-test.false) in
    let is = subst (λ (x : Structure). IsBetween x d e s c.in_ok-choice.choice) c.structure.ensures.structure c.in_ok-choice.ensures in
    c.loop-i.invariant.rows ∙ all_chosen t d e s c.in_ok-choice.choice rows c.loop-i.i is c.table-table.ensures.points past

pub returns-clause-table : goal.returns-clause-table
returns-clause-table g c =
    let t = c.args.condition.now in
    let d = c.args.then.now in
    let e = c.args.other.now in
    let s = c.args.made.now in
    let is = subst (λ (x : Structure). IsBetween x d e s c.in_ok-choice.choice) c.structure.ensures.structure c.in_ok-choice.ensures in
    record {
      columns = c.loop-i.invariant.columns;
      points = subst (λ l. IsDataSet s l) (sym (returns-clause-rows g c)) (choice_kept t d e s c.requires.made c.structure.ensures.points is.first.points is.second.points);
    }
