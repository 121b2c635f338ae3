use Rattle.std.proofs.Common.{rules}
use Rattle.expressions_to_sql.proofs.ConstantTexts.{integer_ascii}
use Rattle.expressions_to_sql.proofs.texts.integer_digits.Goals as goal

pub text_of-requires : goal.text_of-requires
text_of-requires c = rw c.behind_sign.ensures (search (rules, integer_ascii))
