use Rattle.std.proofs.Common.{rules, ◌≡◌, ◌∷◌, [], List, length, map, refl, sym, ap, subst, ◌∙◌, append_assoc, append-nil, arith}
use Rattle.std.specs.List.{AllByRecursion}
use Rattle.std.specs.Vec.Iter.{into_iter_items}
use Rattle.vtl_lists.proofs.Filters.{nothing_left}
use Rattle.vtl_top.specs.Answered.{Adds}
use Rattle.vtl_top.specs.OutputView.{NamesPath, output_view}
use Rattle.vtl_top.specs.declared.output.Output.{Output}
use Rattle.vtl_top.proofs.OutputLemmas.{adds_nothing, came_in_turn, faulted_at, only_writes_nothing, only_writes_twice, stopped_in, written_more}
use Rattle.vtl_top.proofs.output.write_outputs.Goals as goal

pub loop-output-init : goal.loop-output-init
loop-output-init g c = record {
  came = refl;
  left = search rules;
  named = subst (λ l. AllByRecursion NamesPath l) (sym c.into_iter-output-iterator.ensures.into_iter_gives.0) c.requires.named;
  idle = c.requires.idle;
  writes = only_writes_nothing g.F.Files c.args.files.now;
  done = adds_nothing (g.F.Files.written c.args.files.now);
}

pub write_file-requires : goal.write_file-requires
write_file-requires g c = c.loop-output.invariant.idle

pub loop-output-preserved : goal.loop-output-preserved
loop-output-preserved g c =
    let at = c.loop-output in
    let x = c.in-Some.output in
    let written = g.F.Files.written in
    let steps : into_iter_items at.output-iterator ≡ x ∷ into_iter_items c.next.new.self = c.in-Some.ensures.steps.0 in
    record {
      came = append_assoc at.yielded (x ∷ []) _ ∙ rw (← steps) at.invariant.came;
      left = let was = at.invariant.left in
          let gone = c.in-Some.ensures.steps.1 in
          let short = ap length steps in
          omega arith;
      named = (subst (λ l. AllByRecursion NamesPath l) steps at.invariant.named).1;
      idle = c.in-Ok.ensures.finished;
      writes = only_writes_twice g.F.Files c.args.files.now at.files c.write_file.new.files at.invariant.writes c.write_file.ensures.writes;
      done = written_more (written c.args.files.now) (written at.files) (written c.write_file.new.files) at.yielded x c.deref.result.now c.deref.ensures.value at.invariant.done c.in-Ok.ensures.written;
    }

pub returns-in-Err-clause-writes : goal.returns-in-Err-clause-writes
returns-in-Err-clause-writes g c =
    only_writes_twice g.F.Files c.args.files.now c.loop-output.files c.write_file.new.files c.loop-output.invariant.writes c.write_file.ensures.writes

pub returns-in-Err-clause-written : goal.returns-in-Err-clause-written
returns-in-Err-clause-written g c =
    let at = c.loop-output in
    let x = c.in-Some.output in
    let written = g.F.Files.written in
    let steps : into_iter_items at.output-iterator ≡ x ∷ into_iter_items c.next.new.self = c.in-Some.ensures.steps.0 in
    let named : NamesPath x = (subst (λ l. AllByRecursion NamesPath l) steps at.invariant.named).0 in (
      stopped_in (written c.args.files.now) (written at.files) (written c.write_file.new.files) c.args.outputs.items at.yielded x (into_iter_items c.next.new.self) c.deref.result.now c.deref.ensures.value
          (came_in_turn at.yielded x (into_iter_items c.next.new.self) _ _ c.args.outputs.items steps at.invariant.came c.into_iter-output-iterator.ensures.into_iter_gives.0) named at.invariant.done c.in-Err.ensures.front,
      faulted_at g.F.Files c.args.files.now at.files c.write_file.new.files x named at.invariant.writes.faults c.in-Err.ensures.fault,
    )

pub returns-clause-writes : goal.returns-clause-writes
returns-clause-writes g c = c.loop-output.invariant.writes

pub returns-clause-written : goal.returns-clause-written
returns-clause-written g c =
    let at = c.loop-output in
    let empty : into_iter_items at.output-iterator ≡ [] = nothing_left _ (sym at.invariant.left ∙ c.in-None.ensures.steps.0) in
    let all = sym (append-nil at.yielded) ∙ rw empty at at.invariant.came ∙ c.into_iter-output-iterator.ensures.into_iter_gives.0 in
    (subst (λ (l : List Output). Adds (g.F.Files.written c.args.files.now) (g.F.Files.written at.files) (map output_view l)) all at.invariant.done, at.invariant.idle)
