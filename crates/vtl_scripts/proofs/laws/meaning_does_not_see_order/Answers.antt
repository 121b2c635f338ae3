use Rattle.vtl_scripts.proofs.ScriptsOrders.{meaning_respects, node_respects}
use Rattle.vtl_scripts.proofs.laws.meaning_does_not_see_order.Goals as goal

pub returns-clause-expression : goal.returns-clause-expression
returns-clause-expression c = λ p env other n h same i. node_respects p env other h same n i

pub returns-clause-script : goal.returns-clause-script
returns-clause-script c = λ p ss env other h same i. meaning_respects p ss env other i h same
