use Rattle.std.proofs.Common.{◌≡◌, [], drop}
use Rattle.vtl_cell.specs.Outcome.{join}
use Rattle.vtl_scalar.specs.Seen.{seen_of}
use Rattle.vtl_rules.specs.ComputedItems.{ran_columns, ran_fault}
use Rattle.vtl_rulings.specs.Ordered.{rules_at}
use Rattle.vtl_rules.proofs.hierarchies.run_all.Given as goal

-- what is left to run gives the whole
abbrev pub invariant-loop-place : goal.invariant-loop-place
invariant-loop-place g l = record {
  made : ran_columns l.p l.computing.mode l.computing.kind l.computing.input l.computing.items l.run.made (rules_at l.rules (drop l.place-index l.order)) ≡ ran_columns l.p l.computing.mode l.computing.kind l.computing.input l.computing.items [] (rules_at l.rules l.order);
  seen : join (seen_of l.run.seen) (ran_fault l.p l.computing.mode l.computing.kind l.computing.input l.computing.items l.run.made (rules_at l.rules (drop l.place-index l.order))) ≡ ran_fault l.p l.computing.mode l.computing.kind l.computing.input l.computing.items [] (rules_at l.rules l.order);
}
