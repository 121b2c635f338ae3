use Rattle.vtl_tree.proofs.LookUps.{Perm-from_look, look_respects}
use Rattle.vtl_tree.proofs.laws.points_are_a_map.Goals as goal

pub returns-clause-same : goal.returns-clause-same
returns-clause-same c = Perm-from_look

pub returns-clause-back : goal.returns-clause-back
returns-clause-back c = λ n d e s p k. look_respects n k p s
