use Rattle.vtl_format.proofs.FormLaws.{forms-alike, forms-once}
use Rattle.vtl_format.proofs.laws.forms_are_determined.Goals as goal

pub returns-clause-one : goal.returns-clause-one
returns-clause-one c = forms-once

pub returns-clause-alike : goal.returns-clause-alike
returns-clause-alike c = forms-alike
