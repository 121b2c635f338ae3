use Rattle.std.proofs.Common.{arith, sym, subst, ◌++◌}
use Rattle.std.proofs.lemmas.List.{take_rest}
use Rattle.vtl_files.specs.Whole.{AddsUpTo}
use Rattle.vtl_files.proofs.Adding.{append_adds, one_more}
use Rattle.vtl_files.proofs.whole.sink_all.Goals as goal

pub loop-rest-preserved : goal.loop-rest-preserved
loop-rest-preserved g c =
    let w = c.in_ok-count.ensures in
    let i = c.loop-rest.invariant in
    let more = one_more (λ front taken. taken ++ front) append_adds (g.O.Sink.taken c.args.o.now) _ (g.O.Sink.taken c.write.new.self) c.args.bytes.now c.loop-rest.rest.now c.in_ok-count.count i.taken w.taken in
    record {
      faults = omega (arith, w.faults, i.faults);
      taken = subst (λ l. AddsUpTo (λ front taken. taken ++ front) (g.O.Sink.taken c.args.o.now) (g.O.Sink.taken c.write.new.self) c.args.bytes.now l) (sym (take_rest c.loop-rest.rest.now c.in_ok-count.count)) more;
    }
