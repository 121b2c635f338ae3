use Rattle.std.proofs.Common.{◌++◌, ◌∷◌, ◌∙◌, [], ap, subst}
use Rattle.vtl_agg.specs.Added.{IsAdded}
use Rattle.vtl_cell.specs.Outcome.{Outcome, fault_in, join}
use Rattle.vtl_cell.specs.Row.{Row}
use Rattle.vtl_cell.specs.declared.cell.Cell.{Cell}
use Rattle.sql_meaning.specs.Outcomes.{cell_or_null}
use Rattle.sql_eval.specs.Placed.{placed_value}
use Rattle.sql_eval.specs.View.{placed_of}
use Rattle.sql_from.specs.Held.{rows_held}
use Rattle.sql_from.specs.Rows.{combined}
use Rattle.sql_from.specs.Sources.{Sourced, parts_of}
use Rattle.sql_groups.specs.Kept.{rows_of, tables_of}
use Rattle.vtl_scalar.specs.Seen.{seen_of}
use Rattle.sql_groups.proofs.GatheredLemmas.{all_gathered, faults_more, values_more, values_to}
use Rattle.sql_groups.proofs.totals.of_values.Goals as goal

pub loop-number-preserved : goal.loop-number-preserved
loop-number-preserved c =
    let p = c.args.p.now in
    let x = c.args.rows.now in
    let e = placed_of c.args.operand.now in
    let f : Row → Outcome Cell = λ q. placed_value p (tables_of x) e q [] in
    let r : Row = combined (parts_of c.partnered-at.result.row.sources.now.sources) (c.partnered-at.result.row.front.now ++ c.partnered-at.result.row.last ∷ []) in
    let i = c.loop-number.number-index in
    let numbers = c.args.numbers.now in
    let values = values_to f (rows_of x) numbers i in
    record {
      settings = c.add_value.ensures.settings ∙ c.loop-number.invariant.settings;
      kind = c.add_value.ensures.kind ∙ c.loop-number.invariant.kind;
      added =
          subst (IsAdded c.add_value.new.acc) (values_more f (rows_of x) numbers i c.loop-number-test.true r c.partnered-at.ensures.row)
          (subst (λ (z : Sourced). IsAdded c.add_value.new.acc (values ++ cell_or_null (placed_value p (rows_held z.held) e r []) ∷ [])) c.partnered-at.ensures.sources (c.in_ok-seen.ensures.added values c.loop-number.invariant.added));
      seen =
          c.in_ok-seen.ensures.seen
          ∙ ap (λ (z : Sourced). join (seen_of c.loop-number.seen) (fault_in (placed_value p (rows_held z.held) e r []))) c.partnered-at.ensures.sources
          ∙ ap (λ s. join s (fault_in (f r))) c.loop-number.invariant.seen
          ∙ faults_more f (rows_of x) numbers i c.loop-number-test.true r c.partnered-at.ensures.row;
    }

pub returns : goal.returns
returns c =
    let x = c.args.rows.now in
    let f : Row → Outcome Cell = λ q. placed_value c.args.p.now (tables_of x) (placed_of c.args.operand.now) q [] in
    let i = c.loop-number.number-index in
    let numbers = c.args.numbers.now in
    all_gathered f (rows_of x) numbers i c.loop-number.acc.settings c.args.p.now c.loop-number.acc.kind c.args.function (seen_of c.loop-number.seen) c.finished.result
    c.loop-number-test.false c.loop-number.invariant.settings c.loop-number.invariant.kind c.loop-number.invariant.seen (c.finished.ensures (values_to f (rows_of x) numbers i) c.loop-number.invariant.added)
