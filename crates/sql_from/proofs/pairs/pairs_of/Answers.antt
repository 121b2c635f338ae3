use Rattle.std.proofs.Common.{◌∙◌, ◌||◌, ap, sym}
use Rattle.sql_from.proofs.Gained.{tries_more}
use Rattle.sql_from.proofs.Walks.{any_more}
use Rattle.sql_from.specs.Joins.{passes}
use Rattle.sql_from.proofs.pairs.pairs_of.Goals.{then-any, else-any}
use Rattle.sql_from.proofs.pairs.pairs_of.Goals as goal

pub loop-j-preserved : goal.loop-j-preserved
loop-j-preserved g c =
    let f = g.C.Condition.value c.args.condition.now in
    let h = g.F.Condition.value c.args.filter.now in
    let x = c.args.front.now in
    let j = c.loop-j.j in
    record {
      width = c.in_ok-here.ensures.tries.gains.width ∙ c.loop-j.invariant.width;
      any = elim c.if-any.branch [
        | then-any w ↦ w.any-is ∙ w.if-any.true ∙ sym (any_more f x j ∙ ap (λ b. b || passes f x j) (sym c.loop-j.invariant.any ∙ w.if-any.true))
        | else-any w ↦ w.any-is ∙ c.in_ok-here.ensures.met ∙ sym (any_more f x j ∙ ap (λ b. b || passes f x j) (sym c.loop-j.invariant.any ∙ w.if-any.false))
      ];
      tries = tries_more f h x j c.args.so_far.now c.loop-j.so_far c.try_pair.new.so_far c.args.met.now.items c.loop-j.met.items c.try_pair.new.met.items c.loop-j.invariant.tries c.in_ok-here.ensures.tries;
    }
