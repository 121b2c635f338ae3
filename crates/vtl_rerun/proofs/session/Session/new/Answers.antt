use Rattle.vtl_check.specs.Checked.{tree_of}
use Rattle.vtl_check.specs.Transformations.{transformations}
use Rattle.rerun_laws.specs.Refreshes.{numbers_of}
use Rattle.vtl_rerun.proofs.States.{begun_fresh, begun_with}
use Rattle.vtl_rerun.proofs.session.Session.new.Goals as goal

pub invariant_of-result : goal.invariant_of-result
invariant_of-result g c =
    begun_with c.args.script c.in_ok-parts.parts.items c.deref.result.now c.args.inputs c.new.result c.in_ok-results.results.items c.in_ok-parts.ensures c.requires.inputs c.requires.ranges c.deref.ensures.value c.in_ok-results.ensures

pub returns-clause-fresh : goal.returns-clause-fresh
returns-clause-fresh g c = begun_fresh (numbers_of (transformations (tree_of c.args.script))) c.deref.result.now c.in_ok-results.results.items c.in_ok-results.ensures
