use Rattle.std.proofs.Common.{◌≡◌, ◌++◌, take}
use Rattle.vtl_tree.specs.Shown.{shown}
use Rattle.vtl_tree.specs.Operands.{agreed_identifiers}
use Rattle.vtl_tree.proofs.operands.push_identifiers.Given as goal

abbrev pub invariant-loop-component : goal.invariant-loop-component
invariant-loop-component l = l.out.items ≡ l.fn.out.items ++ agreed_identifiers (shown l.others) (take l.component-index l.components)
