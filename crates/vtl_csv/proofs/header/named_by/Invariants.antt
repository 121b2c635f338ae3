use Rattle.std.proofs.Common.{◌≡◌, drop}
use Rattle.vtl_csv.specs.InputFile.{named_by}
use Rattle.vtl_csv.proofs.header.named_by.Given as goal

abbrev pub invariant-loop-component : goal.invariant-loop-component
invariant-loop-component l = named_by (drop l.component-index l.components) l.field ≡ named_by l.components l.field
