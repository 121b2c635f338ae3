use Rattle.std.proofs.Common.{ℕ, ◌<◌, ◌≤◌, List, [], ◌∷◌, ◌++◌, Bool, cond, length, map, take, arith, ap, sym, subst, ◌∙◌}
use Rattle.std.specs.List.{filter}
use Rattle.std.proofs.lemmas.List.{take_all}
use Rattle.vtl_cell.specs.Row.{Row}
use Rattle.vtl_rows.specs.Tables.{cells_at, fits}
use Rattle.vtl_tree.specs.DataSet.{IsDataSet}
use Rattle.vtl_tree.specs.Shown.{shown}
use Rattle.vtl_tree.specs.Structure.{columns_of}
use Rattle.vtl_tree.specs.declared.structure.Component.{Component}
use Rattle.vtl_tree.specs.declared.structure.Structure.{Structure}
use Rattle.vtl_sets.specs.TableOf.{table_columns}
use Rattle.vtl_tree.specs.Columns.{places_in}
use Rattle.vtl_meaning.specs.Operators.{has_values}
use Rattle.vtl_meaning.proofs.Kept.{sub_kept}
use Rattle.vtl_clause.specs.Pins.{Wanted, are_met, wanted_by, wanted_in}
use Rattle.vtl_clause.specs.declared.subspace.Pin.{Pin}
use Rattle.vtl_clause.proofs.SubLemmas.{met_is, sub_fits, sub_more}
use Rattle.vtl_clause.proofs.subspace.sub_table.Goals as goal

pub push_sub-requires : goal.push_sub-requires
push_sub-requires c = λ h.
    let a = c.args.a.now.structure in
    let s = c.args.made.now in
    let items = c.args.items.now in
    let r = c.row.result.now in
    let rows = c.table-table.result.now.rows in
    let within : c.loop-i.i < length rows = omega (arith, c.len-i-end.ensures.rows, c.loop-i-test.true) in
    let wanted = ap (map wanted_by) c.deref-in-loop-i.ensures.value ∙ c.in_ok-pins.ensures ∙ ap (λ (x : Structure). map (wanted_in (columns_of x)) items) c.structure-structure.ensures.structure in
    let met = ap (λ (ws : List Wanted). are_met ws r) wanted ∙ ap (λ (q : Row → Bool). q r) (met_is a items) in
    let places = c.deref-in-loop-i-2.ensures.value ∙ c.in_ok-places.ensures ∙ ap (λ (x : Structure). places_in (columns_of x) (shown c.deref.result.now)) c.structure-structure.ensures.structure
    ∙ ap (λ (l : List Component). places_in (columns_of a) l) (ap shown c.deref.ensures.value ∙ c.in_ok-columns.ensures) in
    ap (λ cs. fits cs (cells_at c.deref-in-loop-i-2.result.now r)) c.loop-i.invariant.columns ∙ ap (λ ps. fits (table_columns s) (cells_at ps r)) places
    ∙ sub_fits items a s rows c.loop-i.i r c.requires c.table-table.ensures.table.points within c.row.ensures.row (sym met ∙ h)

pub loop-i-preserved : goal.loop-i-preserved
loop-i-preserved c =
    let r = c.row.result.now in
    let rows = c.table-table.result.now.rows in
    let old = c.loop-i.out.rows in
    let pins = c.in_ok-pins.pins.items in
    let places = c.in_ok-places.places.items in
    let within : c.loop-i.i < length rows = omega (arith, c.len-i-end.ensures.rows, c.loop-i-test.true) in
    record {
      columns = c.push_sub.ensures.columns ∙ c.loop-i.invariant.columns;
      rows = sub_more (cells_at places) (are_met (map wanted_by pins)) rows old c.push_sub.new.out.rows c.loop-i.i r within c.row.ensures.row c.loop-i.invariant.rows
          (c.in_ok-push_sub.ensures.rows ∙ ap (λ (d : List Pin). old ++ cond (are_met (map wanted_by d) r) (cells_at c.deref-in-loop-i-2.result.now r ∷ []) []) c.deref-in-loop-i.ensures.value
          ∙ ap (λ (d : List ℕ). old ++ cond (are_met (map wanted_by pins) r) (cells_at d r ∷ []) []) c.deref-in-loop-i-2.ensures.value);
    }

pub returns-clause-rows : goal.returns-clause-rows
returns-clause-rows c =
    let a = c.args.a.now.structure in
    let s = c.args.made.now in
    let items = c.args.items.now in
    let rows = c.table-table.result.now.rows in
    let past : length rows ≤ c.loop-i.i = omega (arith, c.len-i-end.ensures.rows, c.loop-i-test.false) in
    let met = ap are_met (c.in_ok-pins.ensures ∙ ap (λ (x : Structure). map (wanted_in (columns_of x)) items) c.structure-structure.ensures.structure) ∙ met_is a items in
    let places = c.in_ok-places.ensures ∙ ap (λ (x : Structure). places_in (columns_of x) (shown c.deref.result.now)) c.structure-structure.ensures.structure
    ∙ ap (λ (l : List Component). places_in (columns_of a) l) (ap shown c.deref.ensures.value ∙ c.in_ok-columns.ensures) in
    let all = take_all c.loop-i.i rows past ∙ c.table-table.ensures.points in
    c.loop-i.invariant.rows ∙ ap (λ (ps : List ℕ). map (cells_at ps) (filter (are_met (map wanted_by c.in_ok-pins.pins.items)) (take c.loop-i.i rows))) places
    ∙ ap (λ (q : Row → Bool). map (cells_at (places_in (columns_of a) (columns_of s))) (filter q (take c.loop-i.i rows))) met
    ∙ ap (λ (d : List Row). map (cells_at (places_in (columns_of a) (columns_of s))) (filter (has_values a items) d)) all

pub returns-clause-table : goal.returns-clause-table
returns-clause-table c =
    let a = c.args.a.now in
    let s = c.args.made.now in
    record {
      columns = c.loop-i.invariant.columns;
      points = subst (λ (l : List Row). IsDataSet s l) (sym (returns-clause-rows c)) (sub_kept c.args.items.now a s c.requires c.structure-structure.ensures.points);
    }
