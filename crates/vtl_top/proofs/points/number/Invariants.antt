-- What the digits from the index on make of the number so far, and how large that is.
use Rattle.std.proofs.Common.{◌≡◌, ◌^◌, ◌<◌, drop}
use Rattle.vtl_time.proofs.NumeralLemmas.{number_from}
use Rattle.vtl_top.proofs.points.number.Given as goal

abbrev pub invariant-loop-digit : goal.invariant-loop-digit
invariant-loop-digit l = (number_from l.value (drop l.digit-index l.digits) ≡ number_from 0 l.digits) × (l.value < 10 ^ l.digit-index)
