use Rattle.std.proofs.Common.{length, map, ap, sym, ◌∙◌}
use Rattle.std.specs.List.{range_with_len}
use Rattle.std.proofs.lemmas.List.{length-map}
use Rattle.vtl_rows.specs.Tables.{cells_at}
use Rattle.vtl_rows.proofs.PlacesStay.{rows_stay}
use Rattle.sql_from.specs.Columns.{kinds_at}
use Rattle.sql_check_parts.specs.Scopes.{row_of}
use Rattle.sql_from.specs.Sources.{scope_held}
use Rattle.sql_from.specs.Standing.{rows_for}
use Rattle.sql_exec.proofs.WholeSources.{kinds_stay}
use Rattle.sql_exec.proofs.gathered.whole_source.Goals as goal

pub returns-then-are_all-clause-kinds : goal.returns-then-are_all-clause-kinds
returns-then-are_all-clause-kinds c =
    let t = c.in_ok-table.table.now in
    let kinds = row_of (scope_held c.args.rows.now.sources.sources) in
    let places = c.if-are_all.ensures ∙ ap (λ cs. range_with_len 0 (length cs)) c.columns.ensures.columns in
    let wide = sym (length-map t.columns (λ x. x.kind)) ∙ ap length c.in_ok-table.ensures.kinds in
    c.in_ok-table.ensures.kinds ∙ sym (ap (λ ps. kinds_at ps kinds) places ∙ kinds_stay (length t.columns) kinds (sym wide))

pub returns-then-are_all-clause-rows : goal.returns-then-are_all-clause-rows
returns-then-are_all-clause-rows c =
    let t = c.in_ok-table.table.now in
    let rows = rows_for c.args.rows.now.sources c.args.rows.now.tuples in
    let places = c.if-are_all.ensures ∙ ap (λ cs. range_with_len 0 (length cs)) c.columns.ensures.columns in
    sym (ap (λ ps. map (cells_at ps) rows) places ∙ ap (map (cells_at (range_with_len 0 (length t.columns)))) (sym c.in_ok-table.ensures.rows) ∙ rows_stay t.columns t.rows c.columns.ensures.fit)
