use Rattle.std.proofs.Common.{◌∙◌, sym}
use Rattle.vtl_lexer.proofs.FoundLemmas.{nothing-starts}
use Rattle.vtl_lexer.proofs.finding.token_at_front.Goals as goal

pub returns-in-Nothing : goal.returns-in-Nothing
returns-in-Nothing c = nothing-starts c.args.text.now (sym c.lead_of.ensures ∙ c.in-Nothing.is)
