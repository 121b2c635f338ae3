use Rattle.std.proofs.Common.{◌≡◌, map, take}
use Rattle.vtl_sets.specs.TableOf.{column_for}
use Rattle.vtl_csv.specs.InputFields.{components_in}
use Rattle.vtl_csv.proofs.dataset.columns_for.Given as goal

abbrev pub invariant-loop-column : goal.invariant-loop-column
invariant-loop-column l = l.columns.items ≡ map column_for (components_in (take l.column-index l.file))
