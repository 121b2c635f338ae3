use Rattle.vtl_lexer.proofs.PartLemmas.{parts-once}
use Rattle.vtl_lexer.proofs.parts.parts_are_determined.Goals as goal

pub returns : goal.returns
returns c = parts-once
