use Rattle.vtl_top.proofs.MeantLemmas.{text_always, text_only}
use Rattle.vtl_top.proofs.laws.texts_are_meant.Goals as goal

pub returns : goal.returns
returns c = record { only = text_only; always = text_always }
