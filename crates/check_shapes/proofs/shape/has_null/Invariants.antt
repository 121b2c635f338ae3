use Rattle.std.proofs.Common.{◌≡◌, drop}
use Rattle.std.specs.List.{list_any}
use Rattle.vtl_tree.specs.Structures.{is_null_kind}
use Rattle.check_shapes.proofs.shape.has_null.Given as goal

abbrev pub invariant-loop-component : goal.invariant-loop-component
invariant-loop-component l = list_any (λ x. is_null_kind x.kind) (drop l.component-index l.components) ≡ list_any (λ x. is_null_kind x.kind) l.components
