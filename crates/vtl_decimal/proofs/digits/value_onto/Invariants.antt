use Rattle.std.proofs.Common.{◌≡◌, ◌<◌, ◌^◌, drop}
use Rattle.std.specs.Str.Parse.{digits_value_after}
use Rattle.vtl_decimal.proofs.digits.value_onto.Given as goal

abbrev pub invariant-loop-digit : goal.invariant-loop-digit
invariant-loop-digit l = record {
  fits : l.value < 10 ^ 18;
  rest : digits_value_after 10 l.value (drop l.digit-index l.digits) ≡ digits_value_after 10 l.start l.digits;
}
