use Rattle.std.proofs.Common.{◌∙◌}
use Rattle.vtl_text.proofs.SameCharacters.{same_characters}
use Rattle.vtl_text.proofs.shared_text.TxtPartialEq.eq.Goals as goal

pub returns : goal.returns
returns c =
    let e = c.eq.ensures ∙ same_characters c.as_str.result.now c.as_str-2.result.now c.as_str.utf8 c.as_str-2.utf8 in
    rw (← c.as_str.ensures.characters, ← c.as_str-2.ensures.characters) e
