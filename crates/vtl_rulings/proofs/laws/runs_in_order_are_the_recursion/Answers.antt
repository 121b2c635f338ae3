use Rattle.std.proofs.Common.{length, arith}
use Rattle.vtl_rulings.proofs.Running.{depths_suffice, items_in_order, made_in_order}
use Rattle.vtl_rulings.proofs.laws.runs_in_order_are_the_recursion.Goals as goal

pub returns-clause-items : goal.returns-clause-items
returns-clause-items c = λ p m kind i given rules order o same apart item. items_in_order p m kind i given rules order o same apart item (length rules) (omega arith)

pub returns-clause-made : goal.returns-clause-made
returns-clause-made c = made_in_order

pub returns-clause-depth : goal.returns-clause-depth
returns-clause-depth c = depths_suffice
