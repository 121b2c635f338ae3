use Rattle.std.proofs.Common.{chars, ap, ◌∙◌}
use Rattle.vtl_text.proofs.Parts.{parted}
use Rattle.vtl_text.proofs.operators.split_at_character.Goals as goal

pub overflow_sub-t : goal.overflow_sub-t
overflow_sub-t c = (parted c.args.t.now c.after_characters-rest.result.now c.args.n c.utf8.t c.after_characters-rest.utf8 c.after_characters-rest.ensures).fits

pub split_at-requires : goal.split_at-requires
split_at-requires c = (parted c.args.t.now c.after_characters-rest.result.now c.args.n c.utf8.t c.after_characters-rest.utf8 c.after_characters-rest.ensures).seam

pub returns-clause-front : goal.returns-clause-front
returns-clause-front c = ap chars c.split_at.ensures.front ∙ (parted c.args.t.now c.after_characters-rest.result.now c.args.n c.utf8.t c.after_characters-rest.utf8 c.after_characters-rest.ensures).front

pub returns-clause-back : goal.returns-clause-back
returns-clause-back c = ap chars c.split_at.ensures.back ∙ (parted c.args.t.now c.after_characters-rest.result.now c.args.n c.utf8.t c.after_characters-rest.utf8 c.after_characters-rest.ensures).back
