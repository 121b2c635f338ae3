use Rattle.vtl_format.proofs.FormLaws.{same-tokens}
use Rattle.vtl_format.proofs.laws.formatted_texts_have_their_tokens.Goals as goal

pub returns : goal.returns
returns c = same-tokens
