use Rattle.std.proofs.Common.{subst}
use Rattle.vtl_parser.specs.Parsed.{IsMemory}
use Rattle.vtl_demo.specs.Script.{tree}
use Rattle.vtl_demo.proofs.Spelled.{spelled}
use Rattle.vtl_demo.proofs.script.parsed.Goals as goal

pub unreachable-requires : goal.unreachable-requires
unreachable-requires c = subst IsMemory c.in-Err-Syntax.field-0-is (c.in-Err-Syntax.ensures.scripts tree spelled)

pub returns-in-Ok-clause-tree : goal.returns-in-Ok-clause-tree
returns-in-Ok-clause-tree c = c.in-Ok.ensures.scripts tree spelled
