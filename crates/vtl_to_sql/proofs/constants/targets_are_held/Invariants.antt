use Rattle.std.proofs.Common.{drop}
use Rattle.std.specs.List.{AllByRecursion}
use Rattle.vtl_tree.specs.NodeView.{value_tree}
use Rattle.vtl_tree.specs.declared.clauses.CalcItem.{CalcItem}
use Rattle.vtl_meaning.specs.Operators.{value_exp}
use Rattle.expressions_to_sql.specs.Held.{HoldsValues}
use Rattle.vtl_to_sql.specs.Accepted.{MadeHoldsValues}
use Rattle.vtl_to_sql.proofs.constants.targets_are_held.Given as goal

abbrev pub invariant-loop-target : goal.invariant-loop-target
invariant-loop-target l =
    let rest = drop l.target-index l.targets in
    let HoldsExp = λ (i : CalcItem). HoldsValues (value_exp (value_tree i.value)) in
    let HoldsMade = λ (i : CalcItem). MadeHoldsValues (value_tree i.value) in
    (AllByRecursion HoldsExp rest → AllByRecursion HoldsExp l.targets) × (AllByRecursion HoldsMade rest → AllByRecursion HoldsMade l.targets)
