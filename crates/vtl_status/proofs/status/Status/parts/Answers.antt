use Rattle.std.proofs.Common.{ap, sym, ◌∙◌}
use Rattle.vtl_status.specs.StatusLine.{line_of}
use Rattle.vtl_status.proofs.status.Status.parts.Goals as goal

pub returns-in-Syntax : goal.returns-in-Syntax
returns-in-Syntax c = c.padded-in-Syntax.ensures ∙ ap line_of (sym c.in-Syntax.is)

pub returns-in-SqlSyntax : goal.returns-in-SqlSyntax
returns-in-SqlSyntax c = c.padded-in-SqlSyntax.ensures ∙ ap line_of (sym c.in-SqlSyntax.is)
