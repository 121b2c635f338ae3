use Rattle.vtl_format.proofs.FormLaws.{form-only, form-stable}
use Rattle.vtl_format.proofs.laws.formatted_texts_are_formatted.Goals as goal

pub returns-clause-stable : goal.returns-clause-stable
returns-clause-stable c = form-stable

pub returns-clause-only : goal.returns-clause-only
returns-clause-only c = form-only
