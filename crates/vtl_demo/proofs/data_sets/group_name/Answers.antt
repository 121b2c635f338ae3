use Rattle.std.proofs.Common.{◌∙◌, ap}
use Rattle.std.specs.List.{list_all}
use Rattle.vtl_text.specs.Words.{is_word_character}
use Rattle.vtl_demo.proofs.Words.{group-plain}
use Rattle.vtl_demo.proofs.data_sets.group_name.Goals as goal

pub word-requires : goal.word-requires
word-requires c = ap (list_all is_word_character) (c.deref.ensures ∙ c.in_ok-name.ensures.ok) ∙ group-plain c.args.digit c.requires
