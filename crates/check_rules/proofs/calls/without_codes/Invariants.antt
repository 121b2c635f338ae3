use Rattle.std.proofs.Common.{◌≡◌, take}
use Rattle.vtl_tree.specs.Checks.{without_codes}
use Rattle.vtl_tree.specs.Shown.{shown}
use Rattle.check_rules.proofs.calls.without_codes.Given as goal

abbrev pub invariant-loop-component : goal.invariant-loop-component
invariant-loop-component l = l.same.items ≡ without_codes l.name (shown (take l.component-index l.components))
