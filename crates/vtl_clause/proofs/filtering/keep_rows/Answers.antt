use Rattle.std.proofs.Common.{◌≡◌, ◌<◌, ◌≤◌, List, [], ◌++◌, length, arith, ap, sym, refl, ◌∙◌}
use Rattle.std.proofs.lemmas.List.{append-nil, take_all}
use Rattle.vtl_cell.specs.Outcome.{fault_in, join}
use Rattle.vtl_cell.specs.Outcomes.{is_true}
use Rattle.vtl_cell.specs.Row.{Row}
use Rattle.vtl_rows.specs.Tables.{fits}
use Rattle.vtl_tree.specs.Clauses.{kept}
use Rattle.vtl_tree.specs.Value.{value}
use Rattle.vtl_tree.proofs.Faults.{join_none}
use Rattle.vtl_scalar.specs.Seen.{seen_of}
use Rattle.vtl_expr.specs.Prepared.{prepared_exp}
use Rattle.vtl_clause.specs.Walks.{fault_over}
use Rattle.vtl_clause.proofs.WalkLemmas.{kept_behind, seen_behind}
use Rattle.vtl_clause.proofs.filtering.keep_rows.Goals as goal

pub keep-requires : goal.keep-requires
keep-requires c =
    let r = c.row.result.now in
    let rows = c.args.rows.now.rows in
    let within : c.loop-i.i < length rows = omega (arith, c.len-i-end.ensures.rows, c.loop-i-test.true) in
    record {
      fits =
          ap (λ cs. fits cs r) (c.loop-i.invariant.columns ∙ sym c.requires)
          ∙ ap (fits c.args.rows.now.columns) c.row.ensures.row ∙ c.columns.ensures.fit c.loop-i.i r within;
      empty = c.loop-i.invariant.empty;
    }

pub loop-i-init : goal.loop-i-init
loop-i-init c = record {
  columns = refl;
  empty = c.in_ok-room.ensures.items;
  rows = sym (append-nil c.args.kept.now.rows);
  seen = sym (join_none (seen_of c.args.before));
}

pub loop-i-preserved : goal.loop-i-preserved
loop-i-preserved c =
    let p = c.args.p.now in
    let e = prepared_exp c.args.condition.now in
    let r = c.row.result.now in
    let rows = c.args.rows.now.rows in
    let within : c.loop-i.i < length rows = omega (arith, c.len-i-end.ensures.rows, c.loop-i-test.true) in
    record {
      columns = c.keep.ensures.columns ∙ c.loop-i.invariant.columns;
      empty = c.in_ok-seen.ensures.empty;
      rows = kept_behind c.args.kept.now.rows (λ x. is_true (value p e x)) rows c.loop-i.i r c.loop-i.kept.rows c.keep.new.kept.rows within c.row.ensures.row c.loop-i.invariant.rows c.in_ok-seen.ensures.rows;
      seen = seen_behind (seen_of c.args.before) (λ x. fault_in (value p e x)) rows c.loop-i.i r (seen_of c.loop-i.seen) (seen_of c.in_ok-seen.seen) within c.row.ensures.row c.loop-i.invariant.seen c.in_ok-seen.ensures.seen;
    }

pub returns-clause-rows : goal.returns-clause-rows
returns-clause-rows c =
    let rows = c.args.rows.now.rows in
    let past : length rows ≤ c.loop-i.i = omega (arith, c.len-i-end.ensures.rows, c.loop-i-test.false) in
    c.loop-i.invariant.rows ∙ ap (λ l. c.args.kept.now.rows ++ kept c.args.p.now (prepared_exp c.args.condition.now) l) (take_all c.loop-i.i rows past)

pub returns-clause-seen : goal.returns-clause-seen
returns-clause-seen c =
    let rows = c.args.rows.now.rows in
    let past : length rows ≤ c.loop-i.i = omega (arith, c.len-i-end.ensures.rows, c.loop-i-test.false) in
    c.loop-i.invariant.seen ∙ ap (λ l. join (seen_of c.args.before) (fault_over c.args.p.now (prepared_exp c.args.condition.now) l)) (take_all c.loop-i.i rows past)
