use Rattle.std.proofs.Common.{sym}
use Rattle.vtl_decimal.specs.Parsed.{numeral_view}
use Rattle.vtl_decimal.proofs.ValueLemmas.{integer_too_large}
use Rattle.vtl_decimal.proofs.reading.integer.Goals as goal

pub returns-in_err-divided : goal.returns-in_err-divided
returns-in_err-divided c = rw c.from_residual.ensures (sym (integer_too_large c.args.p.now.scale (numeral_view c.args.n.now) c.in_err-divided.ensures))
