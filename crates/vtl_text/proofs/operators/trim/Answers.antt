use Rattle.std.proofs.Common.{ap, ◌∙◌}
use Rattle.vtl_text.specs.Texts.{ltrim_of, trim_of}
use Rattle.vtl_text.proofs.operators.trim.Goals as goal

pub returns : goal.returns
unfolding trim_of
returns c = c.ltrim.ensures ∙ ap ltrim_of c.rtrim.ensures
