use Rattle.vtl_top.proofs.RefusedLemmas.{mistyped_always, mistyped_only, mistyped_text_always, mistyped_text_only}
use Rattle.vtl_top.proofs.laws.mistyped_is_first_fault.Goals as goal

pub returns : goal.returns
returns c = record { only = mistyped_only; always = mistyped_always; text_only = mistyped_text_only; text_always = mistyped_text_always }
