use Rattle.std.proofs.Common.{subst}
use Rattle.vtl_files.specs.Whole.{TakesFront}
use Rattle.vtl_status.specs.PartView.{all_said}
use Rattle.vtl_status.proofs.LineLemmas.{front_anyway}
use Rattle.vtl_status.proofs.status.tell.Goals as goal

pub returns-clause-front : goal.returns-clause-front
returns-clause-front g c =
    let taken = g.O.Sink.taken in
    subst (λ l. TakesFront (taken c.args.out.now) (taken c.write_parts.new.out) l) c.parts.ensures
    (front_anyway c.write_parts.result (taken c.args.out.now) (taken c.write_parts.new.out) (all_said c.parts.result) c.write_parts.ensures.whole c.write_parts.ensures.front)
