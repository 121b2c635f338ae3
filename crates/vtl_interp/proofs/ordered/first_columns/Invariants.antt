use Rattle.std.proofs.Common.{◌<◌, All}
use Rattle.vtl_interp.proofs.ordered.first_columns.Given as goal

abbrev pub invariant-loop-column : goal.invariant-loop-column
invariant-loop-column l = All (λ k. k.column < l.count) l.keys.items
