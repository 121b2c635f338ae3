use Rattle.vtl_time.specs.Periods.{period_text}
use Rattle.vtl_time.proofs.PeriodLemmas.{read_period_ascii}
use Rattle.expressions_to_sql.proofs.texts.period_digits.Goals as goal

pub text_of-requires : goal.text_of-requires
text_of-requires c =
    rw (c.deref.ensures.value, c.in_ok-write_period.ensures.ok, c.new-bytes.ensures.items) (read_period_ascii (period_text c.args.q) c.args.q c.in_ok-write_period.ensures.reads_back)
