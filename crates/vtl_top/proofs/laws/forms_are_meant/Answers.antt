use Rattle.vtl_top.proofs.MeantLemmas.{form_always, form_only}
use Rattle.vtl_top.proofs.laws.forms_are_meant.Goals as goal

pub returns : goal.returns
returns c = record { only = form_only; always = form_always }
