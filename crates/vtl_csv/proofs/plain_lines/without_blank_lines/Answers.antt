use Rattle.std.proofs.Common.{sym, ◌∙◌}
use Rattle.vtl_csv.proofs.PlainLineLemmas.{blank_left}
use Rattle.vtl_csv.proofs.plain_lines.without_blank_lines.Goals as goal

pub loop-rest-preserved : goal.loop-rest-preserved
loop-rest-preserved c = blank_left c.loop-rest.rest.now c.in-len1-up.len_at_least (sym c.ends_line.ensures ∙ c.if-not-ends_line.false) ∙ c.loop-rest.invariant
