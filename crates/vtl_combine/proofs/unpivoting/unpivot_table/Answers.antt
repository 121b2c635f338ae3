use Rattle.std.proofs.Common.{◌≡◌, ◌<◌, ◌≤◌, ◌∙◌, ◌++◌, true, ap, sym, subst, length, map, take, arith, List, ℕ}
use Rattle.std.specs.List.{AllByRecursion, flat_map, range_with_len}
use Rattle.std.proofs.lemmas.List.{take_all}
use Rattle.vtl_cell.specs.Row.{Row}
use Rattle.vtl_rows.specs.Tables.{fits}
use Rattle.vtl_rows.specs.declared.column.Column.{Column}
use Rattle.vtl_tree.specs.DataSet.{IsDataSet}
use Rattle.vtl_tree.specs.Structure.{columns_of, key_width}
use Rattle.vtl_tree.specs.declared.structure.Structure.{Structure}
use Rattle.vtl_sets.specs.TableOf.{table_columns}
use Rattle.vtl_tree.specs.Columns.{measures_of}
use Rattle.vtl_meaning.proofs.TurnedKept.{unpivot_kept}
use Rattle.vtl_combine.specs.Unpivots.{Named, measure_by, measure_in, unpivoted}
use Rattle.vtl_combine.proofs.ChosenLemmas.{each_more}
use Rattle.vtl_combine.proofs.UnpivotLemmas.{all_unpivoted, unpivoted_fit}
use Rattle.vtl_combine.proofs.unpivoting.unpivot_table.Goals as goal

pub push_unpivoted-requires : goal.push_unpivoted-requires
push_unpivoted-requires c =
    let a = c.args.a.now.structure in
    let s = c.args.made.now in
    let r = c.row.result.now in
    let rows = c.table-table.result.now.rows in
    let within : c.loop-i.i < length rows = omega (arith, c.len-i-end.ensures.rows, c.loop-i-test.true) in
    let ids = c.deref.ensures.value ∙ c.in_ok-identifiers.ensures ∙ ap (λ (x : Structure). range_with_len 0 (key_width x)) c.structure-structure.ensures.structure in
    let ms = ap (map measure_by) c.deref-in-loop-i.ensures.value ∙ c.in_ok-measures.ensures ∙ ap (λ (x : Structure). map (measure_in (columns_of x)) (measures_of x)) c.structure-structure.ensures.structure in
    let fit = unpivoted_fit c.requires.0 c.requires.1 a s rows c.loop-i.i r c.requires.2 c.table-table.ensures.table.points within c.row.ensures.row in
    subst (λ (l : List Column). AllByRecursion (λ (q : Row). fits l q ≡ true) (unpivoted c.deref.result.now (map measure_by c.deref-in-loop-i.result.now) r)) (sym c.loop-i.invariant.columns)
    (subst (λ (ps : List ℕ). AllByRecursion (λ (q : Row). fits (table_columns s) q ≡ true) (unpivoted ps (map measure_by c.deref-in-loop-i.result.now) r)) (sym ids)
    (subst (λ (l : List Named). AllByRecursion (λ (q : Row). fits (table_columns s) q ≡ true) (unpivoted (range_with_len 0 (key_width a)) l r)) (sym ms) fit))

pub loop-i-preserved : goal.loop-i-preserved
loop-i-preserved c =
    let r = c.row.result.now in
    let rows = c.table-table.result.now.rows in
    let f = unpivoted c.in_ok-identifiers.identifiers.items (map measure_by c.in_ok-measures.measures.items) in
    let before = flat_map f (take c.loop-i.i rows) in
    let within : c.loop-i.i < length rows = omega (arith, c.len-i-end.ensures.rows, c.loop-i-test.true) in
    record {
      columns = c.push_unpivoted.ensures.columns ∙ c.loop-i.invariant.columns;
      rows =
          c.in_ok-push_unpivoted.ensures.rows ∙ ap (λ l. l ++ unpivoted c.deref.result.now (map measure_by c.deref-in-loop-i.result.now) r) c.loop-i.invariant.rows
          ∙ ap (λ ps. before ++ unpivoted ps (map measure_by c.deref-in-loop-i.result.now) r) c.deref.ensures.value ∙ ap (λ l. before ++ unpivoted c.in_ok-identifiers.identifiers.items (map measure_by l) r) c.deref-in-loop-i.ensures.value
          ∙ sym (each_more f rows c.loop-i.i r within c.row.ensures.row);
    }

pub returns-clause-rows : goal.returns-clause-rows
returns-clause-rows c =
    let d = c.args.a.now in
    let rows = c.table-table.result.now.rows in
    let past : length rows ≤ c.loop-i.i = omega (arith, c.len-i-end.ensures.rows, c.loop-i-test.false) in
    let ids = c.in_ok-identifiers.ensures ∙ ap (λ (x : Structure). range_with_len 0 (key_width x)) c.structure-structure.ensures.structure in
    let ms = c.in_ok-measures.ensures ∙ ap (λ (x : Structure). map (measure_in (columns_of x)) (measures_of x)) c.structure-structure.ensures.structure in
    c.loop-i.invariant.rows ∙ ap (flat_map (unpivoted c.in_ok-identifiers.identifiers.items (map measure_by c.in_ok-measures.measures.items))) (take_all c.loop-i.i rows past ∙ c.table-table.ensures.points)
    ∙ ap (λ (ps : List ℕ). flat_map (unpivoted ps (map measure_by c.in_ok-measures.measures.items)) d.points) ids
    ∙ ap (λ (l : List Named). flat_map (unpivoted (range_with_len 0 (key_width d.structure)) l) d.points) ms
    ∙ all_unpivoted d c.structure-structure.ensures.points.typed

pub returns-clause-table : goal.returns-clause-table
returns-clause-table c = record {
  columns = c.loop-i.invariant.columns;
  points = subst (λ l. IsDataSet c.args.made.now l) (sym (returns-clause-rows c)) (unpivot_kept c.requires.0 c.requires.1 c.args.a.now c.args.made.now c.requires.2 c.structure-structure.ensures.points);
}
