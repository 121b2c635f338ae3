use Rattle.std.proofs.Common.{◌∙◌}
use Rattle.vtl_decimal.specs.Numeral.{integer_of}
use Rattle.vtl_decimal.proofs.ValueLemmas.{spelled_if, refused_if, from_option}
use Rattle.vtl_decimal.proofs.reading.read_whole_literal.Goals as goal

pub returns-clause-spelled : goal.returns-clause-spelled
returns-clause-spelled c = spelled_if (integer_of c.args.p.now.scale) c.args.text.now c.ok_or.result
    (from_option c.integer_in.result _ c.ok_or.result c.ok_or.ensures.value ∙ c.integer_in.ensures)

pub returns-clause-refused : goal.returns-clause-refused
returns-clause-refused c = refused_if (integer_of c.args.p.now.scale) c.args.text.now c.ok_or.result
    (from_option c.integer_in.result _ c.ok_or.result c.ok_or.ensures.value ∙ c.integer_in.ensures)
