use Rattle.std.proofs.Common.{rules, ◌≡◌, ◌∙◌, ◌++◌, Err, ap, drop, length, sym, take}
use Rattle.vtl_check.specs.Checked.{tree_of}
use Rattle.vtl_check.specs.Transformations.{transformations}
use Rattle.vtl_scalar.specs.declared.run_error.RunErr.TheVariants as err
use Rattle.rerun_laws.specs.Refreshes.{numbers_of}
use Rattle.vtl_rerun.proofs.States.{now_fresh, out_of_memory_behind, spliced}
use Rattle.vtl_rerun.proofs.session.Session.refresh.Goals as goal

pub returns-in_err-self-inside-clause-refreshes : goal.returns-in_err-self-inside-clause-refreshes
returns-in_err-self-inside-clause-refreshes g c =
    let is = c.self.inside in
    let now = c.run_stale.new.results in
    let gone : c.from_residual-in_err-self-inside.result ≡ Err err.OutOfMemory = search rules in
    rw (gone, ← c.self.view_is)
    (out_of_memory_behind (numbers_of (transformations (tree_of is.script))) is.results.items c.deref_mut.result.now now (take is.results.len (now ++ drop (length now) is.results.items)) c.deref_mut.ensures.value (sym c.run_stale.auto.results)
    (spliced is.results.len now is.results.items (c.run_stale.auto.results ∙ ap length c.deref_mut.ensures.value) is.results.ok.0) c.in_ok-ran.ensures.held)

pub invariant_of-self-2 : goal.invariant_of-self-2
invariant_of-self-2 g c =
    let is = c.self.inside in
    let now = c.run_stale.new.results in
    now_fresh is.script is.parts.items c.deref.result.now c.deref-2.result.now is.inputs c.in_ok-self-inside.field-0 now (take is.results.len (now ++ drop (length now) is.results.items)) c.deref-3.result.now c.deref.ensures.value c.deref-2.ensures.value
    (spliced is.results.len now is.results.items (c.run_stale.auto.results ∙ ap length c.deref_mut.ensures.value) is.results.ok.0) c.deref-3.ensures.value c.in_ok-ran.ensures.running c.in_ok-ran.ensures.held c.in_ok-self-inside.ensures
