use Rattle.std.proofs.Common.{◌∙◌}
use Rattle.vtl_decimal.specs.Numeral.{number_of}
use Rattle.vtl_decimal.proofs.ValueLemmas.{spelled_if, refused_if, from_option}
use Rattle.vtl_decimal.proofs.reading.read_literal.Goals as goal

pub returns-clause-spelled : goal.returns-clause-spelled
returns-clause-spelled c = spelled_if (number_of c.args.p.now) c.args.text.now c.ok_or.result
    (from_option c.number_in.result _ c.ok_or.result c.ok_or.ensures.value ∙ c.number_in.ensures)

pub returns-clause-refused : goal.returns-clause-refused
returns-clause-refused c = refused_if (number_of c.args.p.now) c.args.text.now c.ok_or.result
    (from_option c.number_in.result _ c.ok_or.result c.ok_or.ensures.value ∙ c.number_in.ensures)
