-- A condition that is prepared tests each group as it did.
use Rattle.std.proofs.Common.{Some, Ok, ap}
use Rattle.vtl_cell.specs.Outcome.{after}
use Rattle.vtl_cell.specs.Outcomes.{is_true}
use Rattle.vtl_tree.specs.CompExp.{CompExp}
use Rattle.vtl_meaning.specs.GroupExpressions.{grouped_cell}
use Rattle.vtl_expr.specs.Prepared.{SameValue}
use Rattle.vtl_group.specs.Points.{SameCondition, called_in}

pub same_condition : (x e : CompExp) → SameValue x e → SameCondition (Some x) (Some e)
same_condition x e same p g = ap (λ m. after m (λ v. Ok (is_true (Ok v)))) (same p (grouped_cell g.names g.key) (called_in p g))
