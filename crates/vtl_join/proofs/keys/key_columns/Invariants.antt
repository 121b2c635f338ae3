use Rattle.std.proofs.Common.{◌≡◌, map, take}
use Rattle.vtl_rows.specs.Tables.{column_kinds}
use Rattle.vtl_tree.specs.Shown.{shown}
use Rattle.vtl_join.proofs.keys.key_columns.Given as goal

abbrev pub invariant-loop-identifier : goal.invariant-loop-identifier
invariant-loop-identifier l = column_kinds l.columns.items ≡ map (λ x. x.kind) (shown (take l.identifier-index l.identifiers))
