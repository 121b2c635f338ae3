use Rattle.std.proofs.Common.{sym, ◌∙◌}
use Rattle.vtl_csv.proofs.PlainLineLemmas.{none_left}
use Rattle.vtl_csv.proofs.records.RecordReader.next.Goals as goal

pub returns-in-Ok-false-clause-ended : goal.returns-in-Ok-false-clause-ended
returns-in-Ok-false-clause-ended c =
    let ended = rw c.in-Ok-false.field-0-test at c.in-Ok-false.ensures.ended in (sym c.self.view_is ∙ ended, none_left)

pub returns-in-Err-clause-failed : goal.returns-in-Err-clause-failed
returns-in-Err-clause-failed c = none_left
