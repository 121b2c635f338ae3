use Rattle.std.proofs.Common.{◌≡◌, drop}
use Rattle.std.specs.List.{list_any}
use Rattle.vtl_tree.specs.Structure.{same_name}
use Rattle.check_values.proofs.windows.is_repeated_key.Given as goal

abbrev pub invariant-loop-key : goal.invariant-loop-key
invariant-loop-key l = list_any (λ x. same_name l.name x.component) (drop l.key-index l.keys) ≡ list_any (λ x. same_name l.name x.component) l.keys
