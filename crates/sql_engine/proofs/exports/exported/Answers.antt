use Rattle.std.proofs.Common.{◌≡◌, ◌∙◌, ◌+◌, ◌++◌, ◌∷◌, [], List, None, drop, map, ap, sym, subst}
use Rattle.vtl_rows.specs.Named.{NamedTables, table_of}
use Rattle.sql_tree.specs.Trees.{Text}
use Rattle.sql_tree.specs.View.{statement_tree}
use Rattle.sql_tree.specs.declared.statements.SqlExport.{SqlExport}
use Rattle.sql_check_laws.specs.Statements.{AreNames}
use Rattle.sql_engine.specs.Exported.{exports_in, placed_by}
use Rattle.sql_engine.proofs.Exporting.{Exporting, export_left, exported_more, in_order, is_new, is_there}
use Rattle.sql_engine.proofs.TableLookups.{columns_in}
use Rattle.sql_engine.proofs.exports.exported.Goals as goal

pub take-requires : goal.take-requires
take-requires c =
    let ss = c.args.statements.now in
    let i = c.loop-statement.statement-index in
    let s = c.in-Export.export in
    let all = exports_in (map statement_tree ss) in
    let here = export_left ss i c.statement-item.result s c.loop-statement-test.true c.statement-item.is (ap statement_tree c.in-Export.is) in
    let x = subst (λ (l : List SqlExport). Exporting c.args.order c.args.tables all l c.loop-statement.left c.loop-statement.out) here c.loop-statement.invariant in
    is_there c.args.order c.args.tables all (exports_in (map statement_tree (drop (i + 1) ss))) s c.loop-statement.left c.loop-statement.out x

pub placed-requires : goal.placed-requires
placed-requires c =
    let ss = c.args.statements.now in
    let i = c.loop-statement.statement-index in
    let s = c.in-Export.export in
    let all = exports_in (map statement_tree ss) in
    let here = export_left ss i c.statement-item.result s c.loop-statement-test.true c.statement-item.is (ap statement_tree c.in-Export.is) in
    let x = subst (λ (l : List SqlExport). Exporting c.args.order c.args.tables all l c.loop-statement.left c.loop-statement.out) here c.loop-statement.invariant in
    subst (λ (l : List Text). AreNames (columns_in c.in_ok-taken.taken) l) (sym c.as_slice.ensures)
    (in_order c.args.order c.args.tables all (exports_in (map statement_tree (drop (i + 1) ss))) s c.loop-statement.left c.loop-statement.out x c.in_ok-taken.taken c.in_ok-taken.ensures.table)

pub put_shared-requires : goal.put_shared-requires
put_shared-requires c =
    let ss = c.args.statements.now in
    let i = c.loop-statement.statement-index in
    let s = c.in-Export.export in
    let all = exports_in (map statement_tree ss) in
    let here = export_left ss i c.statement-item.result s c.loop-statement-test.true c.statement-item.is (ap statement_tree c.in-Export.is) in
    let x = subst (λ (l : List SqlExport). Exporting c.args.order c.args.tables all l c.loop-statement.left c.loop-statement.out) here c.loop-statement.invariant in
    subst (λ (n : Text). table_of n c.loop-statement.out ≡ None) (sym c.in_ok-share.ensures)
    (is_new c.args.order c.args.tables all (exports_in (map statement_tree (drop (i + 1) ss))) s c.loop-statement.left c.loop-statement.out x)

pub loop-statement-preserved : goal.loop-statement-preserved
loop-statement-preserved c =
    let ss = c.args.statements.now in
    let i = c.loop-statement.statement-index in
    let s = c.in-Export.export in
    let all = exports_in (map statement_tree ss) in
    let rest = exports_in (map statement_tree (drop (i + 1) ss)) in
    let out = c.loop-statement.out in
    let left = c.take.new.tables in
    let here = export_left ss i c.statement-item.result s c.loop-statement-test.true c.statement-item.is (ap statement_tree c.in-Export.is) in
    let x = subst (λ (l : List SqlExport). Exporting c.args.order c.args.tables all l c.loop-statement.left out) here c.loop-statement.invariant in
    let put : c.put_shared.new.self ≡ out ++ (s.name, placed_by c.args.order s.order c.in_ok-taken.taken) ∷ [] =
    c.in_ok-put_shared.ensures.put ∙ ap (λ (n : Text). out ++ (n, c.in_ok-table.table) ∷ []) c.in_ok-share.ensures ∙ ap (λ t. out ++ (s.name, t) ∷ []) (c.in_ok-table.ensures ∙ ap (λ (l : List Text). placed_by c.args.order l c.in_ok-taken.taken) c.as_slice.ensures) in
    subst (λ (l : NamedTables). Exporting c.args.order c.args.tables all rest left l) (sym put)
    (exported_more c.args.order c.args.tables all rest s c.loop-statement.left out x c.in_ok-taken.taken c.in_ok-taken.ensures.table left c.in_ok-taken.ensures.others)
