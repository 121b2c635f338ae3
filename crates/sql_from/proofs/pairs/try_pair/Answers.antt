use Rattle.std.proofs.Common.{◌∙◌, Ok, ap, refl}
use Rattle.sql_from.proofs.Gained.{is_faulty, is_none, is_pair}
use Rattle.sql_from.proofs.pairs.try_pair.Goals as goal

pub returns-in_ok-keep_tuple-in-Ok-true-clause-tries : goal.returns-in_ok-keep_tuple-in-Ok-true-clause-tries
returns-in_ok-keep_tuple-in-Ok-true-clause-tries g c =
    is_pair (g.C.Condition.value c.args.condition.now) (g.F.Condition.value c.args.filter.now) c.args.front.now c.args.last c.args.so_far.now c.keep_tuple.new.so_far c.args.met.now.items c.mark.new.met.items (c.in-Ok-true.ensures ∙ ap (λ b. Ok b) c.in-Ok-true.field-0-test) c.in_ok-keep_tuple-in-Ok-true.ensures.gains c.mark.ensures

pub returns-in-Ok-false-clause-tries : goal.returns-in-Ok-false-clause-tries
returns-in-Ok-false-clause-tries g c = is_none (g.C.Condition.value c.args.condition.now) (g.F.Condition.value c.args.filter.now) c.args.front.now c.args.last c.args.so_far.now c.args.met.now.items (c.in-Ok-false.ensures ∙ ap (λ b. Ok b) c.in-Ok-false.field-0-test)

pub returns-in_ok-so_far-in-Err-clause-tries : goal.returns-in_ok-so_far-in-Err-clause-tries
returns-in_ok-so_far-in-Err-clause-tries g c =
    is_faulty (g.C.Condition.value c.args.condition.now) (g.F.Condition.value c.args.filter.now) c.args.front.now c.args.last c.args.so_far.now (record c.args.so_far.now { seen = c.in_ok-so_far-in-Err.field-0 }) c.args.met.now.items c.in-Err.error c.in-Err.ensures c.in_ok-so_far-in-Err.ensures refl
