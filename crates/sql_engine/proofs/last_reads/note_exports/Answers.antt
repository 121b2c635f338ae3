use Rattle.std.proofs.Common.{◌+◌, ◌∷◌, []}
use Rattle.sql_tree.specs.View.{statement_tree}
use Rattle.sql_engine.specs.LastReads.{EachExported}
use Rattle.sql_engine.proofs.Noting.{ExportsLeft, export_next, one_noted}
use Rattle.sql_engine.proofs.last_reads.note_exports.Goals as goal

pub loop-statement-preserved : goal.loop-statement-preserved
loop-statement-preserved c =
    let xs = c.args.statements.now in
    let i = c.loop-statement.statement-index in
    let x = c.statement-item.result in
    one_noted c.args.place c.args.last.now c.loop-statement.last c.note_export.new.last (λ P. EachExported P (statement_tree x ∷ [])) (ExportsLeft xs i) (ExportsLeft xs (i + 1)) (ExportsLeft xs 0)
    c.loop-statement.invariant c.in_ok-note_export.ensures (export_next xs i x c.loop-statement-test.true c.statement-item.is)
