use Rattle.std.proofs.Common.{◌≡◌, ◌∷◌, [], ◌<◌, ap, sym, ◌∙◌, map}
use Rattle.std.proofs.lemmas.Result.{IfOk-weaker}
use Rattle.std.proofs.lemmas.List.Elements.{All-same}
use Rattle.vtl_rows.specs.Gathered.{picked, picked_kind, pieces}
use Rattle.vtl_rows.specs.Places.{row_at}
use Rattle.vtl_rows.specs.Tables.{Tabled, cells_at, column_kinds, listed}
use Rattle.vtl_rows.specs.declared.gather.Pick.{Pick}
use Rattle.vtl_sets.proofs.ColumnLemmas.{some_table_columns}
use Rattle.vtl_tree.specs.Structure.{columns_of}
use Rattle.vtl_tree.specs.Columns.{places_in}
use Rattle.vtl_combine.specs.Operands.{left_at, pick_at}
use Rattle.vtl_combine.proofs.OperandLemmas.{left_columns}
use Rattle.vtl_combine.proofs.RowLemmas.{all_of_one, kinds_of_one, rows_of_one}
use Rattle.vtl_combine.proofs.rows.chosen_rows.Goals as goal

pub gather_beside-requires-clause-some : goal.gather_beside-requires-clause-some
gather_beside-requires-clause-some c = some_table_columns c.args.made.now c.in_ok-columns.columns.items c.requires.well_formed.some c.in_ok-columns.ensures

pub gather_beside-requires-clause-within : goal.gather_beside-requires-clause-within
gather_beside-requires-clause-within c =
    All-same (λ (p : Pick). p.part < 1) c.deref-2.result.now (map pick_at c.deref.result.now) (c.deref-2.ensures.value ∙ c.in_ok-picks.ensures) (all_of_one c.deref.result.now)

pub gather_beside-requires-clause-kinds : goal.gather_beside-requires-clause-kinds
gather_beside-requires-clause-kinds c =
    let t = listed c.table.result.now in
    let places = c.deref.result.now in
    let columns = left_columns c.args.made.now c.args.operand.now.structure t.columns places c.requires c.table.ensures.table.columns (c.deref.ensures.value ∙ c.in_ok-left_places.ensures) in
    ap column_kinds (c.in_ok-columns.ensures ∙ sym columns) ∙ sym (ap (map (picked_kind (t ∷ []))) (c.deref-2.ensures.value ∙ c.in_ok-picks.ensures) ∙ kinds_of_one t places)

pub returns-clause-rows : goal.returns-clause-rows
returns-clause-rows c =
    let d = c.args.operand.now in
    let s = c.args.made.now in
    let t = listed c.table.result.now in
    let places = c.deref.result.now in
    let rows = c.args.rows.now in
    IfOk-weaker c.gather_beside.result (λ (x : Tabled). x.rows ≡ map (picked (t ∷ []) c.deref-2.result.now) (pieces 1 rows)) (λ (x : Tabled). x.rows ≡ map (left_at d s) rows)
    (λ x e. e ∙ ap (λ ps. map (picked (t ∷ []) ps) (pieces 1 rows)) (c.deref-2.ensures.value ∙ c.in_ok-picks.ensures) ∙ rows_of_one t places rows
    ∙ ap (λ ps. map (λ i. cells_at ps (row_at t.rows i)) rows) (c.deref.ensures.value ∙ c.in_ok-left_places.ensures)
    ∙ ap (λ l. map (λ i. cells_at (places_in (columns_of d.structure) (columns_of s)) (row_at l i)) rows) c.table.ensures.points) c.gather_beside.ensures.rows
