use Rattle.std.proofs.Common.{arith}
use Rattle.std.proofs.lemmas.Grind.{common_steps}
use Rattle.vtl_decimal.proofs.ParsedLemmas.{parsed_if}
use Rattle.vtl_decimal.proofs.parse.parse_numeral.Goals as goal

pub returns-clause-parsed : goal.returns-clause-parsed
returns-clause-parsed c = parsed_if c.unsigned_numeral.result c.args.text.now (grind (arith, common_steps))
