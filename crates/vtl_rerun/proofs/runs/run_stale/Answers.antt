use Rattle.std.proofs.Common.{rules, ◌≡◌, ◌∙◌, ◌++◌, ◌∷◌, [], true, Err, None, ap, arith, is_some, length, length-append, not, subst, sym}
use Rattle.vtl_scalar.specs.declared.run_error.RunErr.TheVariants as err
use Rattle.vtl_rerun.specs.Operands.{held_at}
use Rattle.vtl_rerun.specs.declared.part.Part.{Part}
use Rattle.vtl_rerun.proofs.Putting.{copied_none, copied_some}
use Rattle.vtl_rerun.proofs.Steps.{HaveRun, all_held, at_start, finished, one_more, out_of_memory, so_far, stays, stopped_here, went_by, went_on}
use Rattle.vtl_rerun.proofs.runs.run_stale.Goals as goal
use Rattle.vtl_rerun.proofs.runs.run_stale.Goals.{then-is_none+in_ok-push+in_ok-table+in-Some-1, then-is_none+in_ok-push+in_ok-table+in-None-1, else-is_none}

pub loop-place-init : goal.loop-place-init
loop-place-init g c = record {
  state = subst (HaveRun c.args.script.now c.args.parts.now c.args.inputs.now c.args.results.now 0 c.args.results.now) (sym c.new-ran.ensures.items) (at_start c.args.script.now c.args.parts.now c.args.inputs.now c.args.results.now c.requires);
  work = omega arith;
}

pub run_part-requires : goal.run_part-requires
run_part-requires g c = record { within = omega arith; running = c.loop-place.invariant.state.running; before = c.loop-place.invariant.state.held }

pub returns : goal.returns
returns g c =
    let t = c.args.script.now in
    let xs = c.args.parts.now in
    let old = c.args.results.now in
    let state = c.loop-place.invariant.state in
    let end : c.loop-place.place ≡ length c.args.parts.now = omega arith in
    record {
      running = state.running;
      ran = finished t xs c.args.inputs.now old c.loop-place.results c.loop-place.ran c.loop-place.place end c.requires state;
      held = all_held t xs c.args.inputs.now old c.loop-place.results c.loop-place.ran.items c.loop-place.place end state;
      stays = stays t xs c.args.inputs.now old c.loop-place.results c.loop-place.ran.items c.loop-place.place c.requires state;
      work = omega (arith, so_far t xs c.args.inputs.now old c.loop-place.results c.loop-place.ran.items c.loop-place.place c.requires state);
    }

pub returns-in_err-push-clause-work : goal.returns-in_err-push-clause-work
returns-in_err-push-clause-work g c =
    omega (arith, so_far c.args.script.now c.args.parts.now c.args.inputs.now c.args.results.now c.loop-place.results c.loop-place.ran.items c.loop-place.place c.requires c.loop-place.invariant.state)

pub returns-in_err-push-clause-ran : goal.returns-in_err-push-clause-ran
returns-in_err-push-clause-ran g c =
    let gone : c.from_residual.result ≡ Err err.OutOfMemory = search rules in
    rw gone (out_of_memory c.args.script.now c.args.parts.now c.args.inputs.now c.args.results.now c.loop-place.results c.loop-place.ran.items c.loop-place.place c.requires c.loop-place.invariant.state)

pub returns-in_err-push-clause-stays : goal.returns-in_err-push-clause-stays
returns-in_err-push-clause-stays g c = stays c.args.script.now c.args.parts.now c.args.inputs.now c.args.results.now c.loop-place.results c.loop-place.ran.items c.loop-place.place c.requires c.loop-place.invariant.state

pub returns-in_err-table-clause-stays : goal.returns-in_err-table-clause-stays
returns-in_err-table-clause-stays g c = stays c.args.script.now c.args.parts.now c.args.inputs.now c.args.results.now c.loop-place.results c.loop-place.ran.items c.loop-place.place c.requires c.loop-place.invariant.state

pub returns-in_err-table-clause-ran : goal.returns-in_err-table-clause-ran
returns-in_err-table-clause-ran g c =
    let none : held_at c.loop-place.results c.loop-place.place ≡ None = sym c.held.ensures ∙ copied_none c.held.result (c.is_none.ensures ∙ ap not c.if-is_none.true) in
    let gone : c.from_residual-in_err-table.result ≡ Err c.in_err-table.field-0.0 = search rules in
    rw gone
    (stopped_here c.args.script.now c.args.parts.now c.args.inputs.now c.args.results.now c.loop-place.results c.loop-place.ran.items c.loop-place.place c.index-parts-place.result c.requires c.loop-place.invariant.state (omega arith) c.index-parts-place.is none
    c.in_err-table.field-0.0 c.in_err-table.ensures.told)

pub returns-in_err-table-clause-work : goal.returns-in_err-table-clause-work
returns-in_err-table-clause-work g c =
    let none : held_at c.loop-place.results c.loop-place.place ≡ None = sym c.held.ensures ∙ copied_none c.held.result (c.is_none.ensures ∙ ap not c.if-is_none.true) in
    let few = one_more c.args.script.now c.args.parts.now c.args.inputs.now c.args.results.now c.loop-place.results c.loop-place.ran.items c.loop-place.place c.index-parts-place.result c.requires c.loop-place.invariant.state (omega arith) c.index-parts-place.is none in
    omega (arith, few, c.in_err-table.ensures.work)

pub loop-place-preserved : goal.loop-place-preserved
loop-place-preserved g c = elim c.if-is_none.branch [
  | then-is_none+in_ok-push+in_ok-table+in-Some-1 w ↦
      let none : held_at c.loop-place.results c.loop-place.place ≡ None = sym c.held.ensures ∙ copied_none c.held.result (c.is_none.ensures ∙ ap not w.if-is_none.true) in
      let more : c.if-is_none.ran.items ≡ c.loop-place.ran.items ++ w.index-parts-place.result.number ∷ [] = ap (λ v. v.items) w.ran-is ∙ w.in_ok-push.ensures.items ∙ ap (λ (x : Part). c.loop-place.ran.items ++ x.number ∷ []) (sym w.index-parts-place.is) in
      record {
        state = went_on c.args.script.now c.args.parts.now c.args.inputs.now c.args.results.now c.loop-place.results c.loop-place.ran.items c.loop-place.place w.index-parts-place.result c.requires c.loop-place.invariant.state (omega arith) w.index-parts-place.is none c.if-is_none.results c.if-is_none.ran.items w.in_ok-table.table w.in_ok-table.ensures.told w.results-is more;
        work = rw w.back-is (omega (arith, w.in_ok-table.ensures.work, ap length more, length-append c.loop-place.ran.items (w.index-parts-place.result.number ∷ [])));
      }
  | then-is_none+in_ok-push+in_ok-table+in-None-1 w ↦
      let none : held_at c.loop-place.results c.loop-place.place ≡ None = sym c.held.ensures ∙ copied_none c.held.result (c.is_none.ensures ∙ ap not w.if-is_none.true) in
      let more : c.if-is_none.ran.items ≡ c.loop-place.ran.items ++ w.index-parts-place.result.number ∷ [] = ap (λ v. v.items) w.ran-is ∙ w.in_ok-push.ensures.items ∙ ap (λ (x : Part). c.loop-place.ran.items ++ x.number ∷ []) (sym w.index-parts-place.is) in
      record {
        state = went_on c.args.script.now c.args.parts.now c.args.inputs.now c.args.results.now c.loop-place.results c.loop-place.ran.items c.loop-place.place w.index-parts-place.result c.requires c.loop-place.invariant.state (omega arith) w.index-parts-place.is none c.if-is_none.results c.if-is_none.ran.items w.in_ok-table.table w.in_ok-table.ensures.told w.results-is more;
        work = rw w.back-is (omega (arith, w.in_ok-table.ensures.work, ap length more, length-append c.loop-place.ran.items (w.index-parts-place.result.number ∷ [])));
      }
  | else-is_none w ↦
      let some : is_some (held_at c.loop-place.results c.loop-place.place) ≡ true = ap is_some (sym c.held.ensures) ∙ copied_some c.held.result (c.is_none.ensures ∙ ap not w.if-is_none.false) in
      record {
        state = went_by c.args.script.now c.args.parts.now c.args.inputs.now c.args.results.now c.loop-place.results c.if-is_none.results c.loop-place.ran.items c.if-is_none.ran.items c.loop-place.place c.loop-place.invariant.state some w.results-is (ap (λ v. v.items) w.ran-is);
        work = rw (w.back-is, w.ran-is) c.loop-place.invariant.work;
      }
]
