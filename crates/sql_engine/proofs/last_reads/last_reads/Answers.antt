use Rattle.std.proofs.Common.{length}
use Rattle.sql_engine.proofs.Noting.{stays_still}
use Rattle.sql_engine.proofs.last_reads.last_reads.Goals as goal

pub returns-clause-exported : goal.returns-clause-exported
returns-clause-exported c =
    let now = c.note_exports.new.last in
    c.in_ok-note_exports.ensures.read now (stays_still (length c.args.statements.now) now)
