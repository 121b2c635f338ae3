use Rattle.std.proofs.Common.{◌∙◌, ap, chars}
use Rattle.vtl_time.specs.Days.{read_day_of}
use Rattle.vtl_time.proofs.DayLemmas.{read_day_ascii, text_of_read}
use Rattle.vtl_time.proofs.TextLemmas.{same_by_characters}
use Rattle.vtl_time.proofs.days.read_day.Goals as goal

pub returns : goal.returns
returns c =
    let value = c.day_in.ensures ∙ ap read_day_of c.as_bytes.ensures.value ∙ same_by_characters read_day_of read_day_ascii c.args.t.now c.utf8.t in
    record { value = value; text = text_of_read (chars c.args.t.now) c.day_in.result value }
