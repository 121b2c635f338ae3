use Rattle.std.proofs.Common.{◌∙◌}
use Rattle.vtl_decimal.proofs.DigitLemmas.{all_are_digits}
use Rattle.vtl_decimal.proofs.parse.all_digits.Goals as goal

pub returns : goal.returns
returns c = c.each_is_digit.ensures ∙ all_are_digits c.args.text.now
