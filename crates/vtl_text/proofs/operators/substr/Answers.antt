use Rattle.std.proofs.Common.{take, chars, sym, ap, ◌∙◌}
use Rattle.vtl_text.specs.Texts.{substr_of}
use Rattle.vtl_text.proofs.operators.substr.Goals as goal

pub returns-in-None : goal.returns-in-None
unfolding substr_of
returns-in-None c = c.split_at_character.ensures.back ∙ sym (ap (substr_of (chars c.args.t.now) c.args.start) c.in-None.is)

pub returns-in-Some : goal.returns-in-Some
unfolding substr_of
returns-in-Some c =
    c.split_at_character-in-Some.ensures.front ∙ ap (take c.in-Some.n) c.split_at_character.ensures.back
    ∙ sym (ap (substr_of (chars c.args.t.now) c.args.start) c.in-Some.is)
