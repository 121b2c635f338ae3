use Rattle.std.proofs.Common.{◌∙◌, Ok, ap, refl}
use Rattle.sql_from.proofs.Gained.{drops_it, faults_at_it, keeps_it}
use Rattle.sql_from.specs.Joins.{with_number}
use Rattle.sql_from.proofs.pairs.keep_tuple.Goals as goal

pub returns-in_ok-push-in-Ok-true-clause-gains : goal.returns-in_ok-push-in-Ok-true-clause-gains
returns-in_ok-push-in-Ok-true-clause-gains g c =
    keeps_it (g.F.Condition.value c.args.filter.now) (with_number c.args.front.now c.args.last) c.args.so_far.now (record c.args.so_far.now { rows = c.push.new.self }) (c.in-Ok-true.ensures ∙ ap (λ b. Ok b) c.in-Ok-true.field-0-test) c.push.ensures.width c.in_ok-push-in-Ok-true.ensures.tuples refl

pub returns-in-Ok-false-clause-gains : goal.returns-in-Ok-false-clause-gains
returns-in-Ok-false-clause-gains g c = drops_it (g.F.Condition.value c.args.filter.now) (with_number c.args.front.now c.args.last) c.args.so_far.now c.args.so_far.now (c.in-Ok-false.ensures ∙ ap (λ b. Ok b) c.in-Ok-false.field-0-test) refl refl refl

pub returns-in_ok-so_far-in-Err-clause-gains : goal.returns-in_ok-so_far-in-Err-clause-gains
returns-in_ok-so_far-in-Err-clause-gains g c =
    faults_at_it (g.F.Condition.value c.args.filter.now) (with_number c.args.front.now c.args.last) c.args.so_far.now (record c.args.so_far.now { seen = c.in_ok-so_far-in-Err.field-0 }) c.in-Err.error c.in-Err.ensures c.in_ok-so_far-in-Err.ensures refl
