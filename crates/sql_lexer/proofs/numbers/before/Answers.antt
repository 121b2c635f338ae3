use Rattle.std.proofs.Common.{◌∙◌, ap, chars}
use Rattle.sql_lexer.proofs.Texts.{cut}
use Rattle.sql_lexer.proofs.numbers.before.Goals as goal

pub overflow_sub-text : goal.overflow_sub-text
overflow_sub-text c = (cut c.args.text.now c.args.rest.now c.requires.0 c.utf8.text c.utf8.rest c.requires.1).fits

pub split_at-requires : goal.split_at-requires
split_at-requires c = (cut c.args.text.now c.args.rest.now c.requires.0 c.utf8.text c.utf8.rest c.requires.1).seam

pub returns : goal.returns
returns c = λ front e. ap chars c.split_at.ensures.front ∙ (cut c.args.text.now c.args.rest.now front c.utf8.text c.utf8.rest e).front_is
