use Rattle.std.proofs.Common.{◌∙◌, ap, chars}
use Rattle.vtl_time.specs.Periods.{read_period_of}
use Rattle.vtl_time.proofs.PeriodLemmas.{read_period_ascii, spelled}
use Rattle.vtl_time.proofs.TextLemmas.{same_by_characters}
use Rattle.vtl_time.proofs.periods.read_period.Goals as goal

pub returns : goal.returns
returns c =
    let value = c.period_in.ensures ∙ ap read_period_of c.as_bytes.ensures.value ∙ same_by_characters read_period_of read_period_ascii c.args.t.now c.utf8.t in
    record { value = value; text = spelled (chars c.args.t.now) c.period_in.result value }
