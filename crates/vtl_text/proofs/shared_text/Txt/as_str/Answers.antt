-- What follows of the characters and the bytes from the text that is held.
use Rattle.std.proofs.Common.{chars, encode_utf8_all, sym, ap, ◌∙◌}
use Rattle.std.specs.Str.{all_scalars}
use Rattle.std.proofs.lemmas.Str.{encodes-chars, scalars-chars}
use Rattle.vtl_text.proofs.shared_text.Txt.as_str.Goals as goal

pub returns-clause-bytes : goal.returns-clause-bytes
returns-clause-bytes c =
    sym (encodes-chars c.as_str.result.now c.as_str.utf8) ∙ ap encode_utf8_all (ap chars c.as_str.ensures.value ∙ c.self.view_is)

pub returns-clause-scalars : goal.returns-clause-scalars
returns-clause-scalars c =
    ap all_scalars (sym (ap chars c.as_str.ensures.value ∙ c.self.view_is)) ∙ scalars-chars c.as_str.result.now c.as_str.utf8
