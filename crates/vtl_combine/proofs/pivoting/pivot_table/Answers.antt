use Rattle.std.proofs.Common.{◌≡◌, ◌∙◌, ◌++◌, ◌∷◌, [], true, ap, sym, subst, map, take, List, ℕ, get_or}
use Rattle.std.proofs.lemmas.List.{map_more, take_all}
use Rattle.std.proofs.lemmas.List.Elements.{All-from_recursion, All-get_or}
use Rattle.std.specs.List.{AllByRecursion}
use Rattle.vtl_cell.specs.Row.{Row}
use Rattle.vtl_index.specs.Groups.{AreLeads, firsts}
use Rattle.vtl_index.specs.Leads.{leads_of}
use Rattle.vtl_index.proofs.KeyGroups.{are_leads}
use Rattle.vtl_rows.specs.Places.{row_at}
use Rattle.vtl_rows.specs.Tables.{cells_at, fits}
use Rattle.vtl_rows.specs.declared.column.Column.{Column}
use Rattle.vtl_tree.specs.DataSet.{IsDataSet}
use Rattle.vtl_sets.specs.TableOf.{table_columns}
use Rattle.vtl_meaning.proofs.TurnedKept.{pivot_kept}
use Rattle.vtl_combine.specs.Pivots.{other_places, pivoted}
use Rattle.vtl_combine.proofs.PivotLemmas.{all_pivoted, all_pivoted_fit, led_by_others}
use Rattle.vtl_combine.proofs.pivoting.pivot_table.Goals as goal

pub first_rows-requires : goal.first_rows-requires
first_rows-requires g c = subst AreLeads (sym c.in_ok-by.ensures) (are_leads (cells_at c.deref.result.now) c.table-table.result.now.rows)

pub push_point-requires : goal.push_point-requires
push_point-requires g c =
    let d = c.args.a.now in
    let id = c.args.id.now in
    let s = c.args.made.now in
    let x = c.in_ok-pivot.pivot in
    let is = c.in_ok-pivot.ensures in
    let rows = c.table-table.result.now.rows in
    let items = c.deref-first-items.result.now in
    let first = get_or items c.loop-first.first-index 0 in
    let led = led_by_others d id rows c.deref.result.now c.in_ok-by.field-0 c.in_ok-by.ensures (c.deref.ensures.value ∙ is.others) c.table-table.ensures.points in
    let firsts_are = c.deref-first-items.ensures.value ∙ c.in_ok-firsts.ensures ∙ led in
    let P : ℕ → Type 0 = λ f. fits (table_columns s) (pivoted x (row_at d.points f)) ≡ true in
    let all = subst (AllByRecursion P) (sym firsts_are) (all_pivoted_fit d id c.args.measure.now x is s c.requires.made (subst (λ (l : List Row). IsDataSet d.structure l) c.table-table.ensures.points c.table-table.ensures.table.points)) in
    ap (λ (l : List Column). fits l (pivoted x c.row_or_none-row.result.now)) c.loop-first.invariant.columns
    ∙ ap (λ (r : Row). fits (table_columns s) (pivoted x r)) (c.row_or_none-row.ensures ∙ ap (λ (l : List Row). row_at l first) c.table-table.ensures.points)
    ∙ All-get_or P items c.loop-first.first-index 0 c.loop-first-test.true (All-from_recursion P items all)

pub loop-first-preserved : goal.loop-first-preserved
loop-first-preserved g c =
    let x = c.in_ok-pivot.pivot in
    let rows = c.table-table.result.now.rows in
    let items = c.deref-first-items.result.now in
    let i = c.loop-first.first-index in
    let f : ℕ → Row = λ k. pivoted x (row_at rows k) in
    record {
      columns = c.push_point.ensures.columns ∙ c.loop-first.invariant.columns;
      rows =
          c.in_ok-push_point.ensures.rows ∙ ap (λ l. l ++ pivoted x c.row_or_none-row.result.now ∷ []) c.loop-first.invariant.rows ∙ ap (λ (r : Row). map f (take i items) ++ pivoted x r ∷ []) c.row_or_none-row.ensures
          ∙ sym (map_more f items i 0 c.loop-first-test.true);
    }

pub returns-clause-rows : goal.returns-clause-rows
returns-clause-rows g c =
    let d = c.args.a.now in
    let id = c.args.id.now in
    let x = c.in_ok-pivot.pivot in
    let is = c.in_ok-pivot.ensures in
    let rows = c.table-table.result.now.rows in
    let items = c.deref-first-items.result.now in
    let led = led_by_others d id rows c.deref.result.now c.in_ok-by.field-0 c.in_ok-by.ensures (c.deref.ensures.value ∙ is.others) c.table-table.ensures.points in
    let firsts_are = c.deref-first-items.ensures.value ∙ c.in_ok-firsts.ensures ∙ led in
    c.loop-first.invariant.rows ∙ ap (map (λ k. pivoted x (row_at rows k))) (take_all c.loop-first.first-index items c.loop-first-test.false ∙ firsts_are)
    ∙ ap (λ (l : List Row). map (λ k. pivoted x (row_at l k)) (firsts (leads_of (cells_at (other_places id d.structure)) d.points))) c.table-table.ensures.points
    ∙ all_pivoted d id c.args.measure.now x is

pub returns-clause-table : goal.returns-clause-table
returns-clause-table g c =
    let d = c.args.a.now in
    let s = c.args.made.now in
    record {
      columns = c.loop-first.invariant.columns;
      points = subst (λ (l : List Row). IsDataSet s l) (sym (returns-clause-rows g c)) (pivot_kept c.args.id.now c.args.measure.now d s c.requires.made (subst (λ (l : List Row). IsDataSet d.structure l) c.table-table.ensures.points c.table-table.ensures.table.points));
    }
