use Rattle.std.proofs.Common.{◌≡◌, ◌∙◌}
use Rattle.std.proofs.lemmas.Result.{IfOk-weaker}
use Rattle.vtl_combine.specs.Operands.{retained, retained_by}
use Rattle.vtl_combine.proofs.OperandLemmas.{retained_is, sought_is}
use Rattle.vtl_combine.proofs.retaining.retained_in.Goals as goal

pub returns : goal.returns
returns g c =
    let d = c.args.operand.now in
    let e = c.args.other.now in
    let s = c.args.made.now in
    let rows = c.table-2.result.now.rows in
    let x = c.in_ok-seeker.seeker in
    let found = sought_is d e s x c.deref.result.now c.deref-2.result.now c.table.result.now.rows c.in_ok-seeker.ensures.value
    (c.deref.ensures.value ∙ c.in_ok-own.ensures) (c.deref-2.ensures.value ∙ c.in_ok-asked.ensures) c.table.ensures.points in
    IfOk-weaker c.retained_by.result (λ v. v.items ≡ retained_by c.args.retain x rows c.args.rows.now) (λ v. v.items ≡ retained c.args.retain d e s c.args.rows.now)
    (λ v h. h ∙ retained_is c.args.retain d e s x rows c.args.rows.now found c.table-2.ensures.points) c.retained_by.ensures
