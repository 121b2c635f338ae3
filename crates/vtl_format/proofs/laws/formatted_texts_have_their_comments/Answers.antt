use Rattle.vtl_format.proofs.FormLaws.{same-comments}
use Rattle.vtl_format.proofs.laws.formatted_texts_have_their_comments.Goals as goal

pub returns : goal.returns
returns c = same-comments
