use Rattle.sql_eval.specs.Resolves.{sight}
use Rattle.sql_eval.proofs.ResolvedParts.{BranchesFrom, OperandsFrom}
use Rattle.sql_eval.proofs.resolving.+resolving.Given as goal

abbrev pub invariant-all-loop-e : goal.invariant-all-loop-e
invariant-all-loop-e g l = OperandsFrom (sight l.p (g.N.Names.tables l.names) (g.N.Names.scope l.names) l.level) l.exps l.e-index l.operands

abbrev pub invariant-all_branches-loop-branch : goal.invariant-all_branches-loop-branch
invariant-all_branches-loop-branch g l = BranchesFrom (sight l.p (g.N.Names.tables l.names) (g.N.Names.scope l.names) l.level) l.branches l.branch-index l.resolved
