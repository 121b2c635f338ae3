use Rattle.std.proofs.Common.{◌++◌, ap, ◌∙◌}
use Rattle.vtl_lists.specs.Perm.{empty}
use Rattle.vtl_scalar.proofs.MemberLemmas.{put_first, put_second, runs_of, some_moved}
use Rattle.vtl_scalar.proofs.members.Members.of.Goals.{in-Int+in_ok-push-in-Int, in_default+in_ok-push-in_default}
use Rattle.vtl_scalar.proofs.members.Members.of.Goals as goal

pub loop-cell-init : goal.loop-cell-init
loop-cell-init c = rw (c.new-integers.ensures.items, c.new-others.ensures.items) empty

pub loop-cell-preserved : goal.loop-cell-preserved
loop-cell-preserved c =
    let l = c.loop-cell in
    elim c.match-cell.branch [
      | in-Int+in_ok-push-in-Int w ↦
          put_first l.integers.items l.others.items c.args.listed.now l.cell-index c.in_ok-copy.copy c.cell-item.result c.loop-cell-test.true c.cell-item.is c.in_ok-copy.ensures l.invariant c.match-cell.integers.items c.match-cell.others.items
          (ap (λ v. v.items) w.integers-is ∙ w.in_ok-push-in-Int.ensures.items) (ap (λ v. v.items) w.others-is)
      | in_default+in_ok-push-in_default w ↦
          put_second l.integers.items l.others.items c.args.listed.now l.cell-index c.in_ok-copy.copy c.cell-item.result c.loop-cell-test.true c.cell-item.is c.in_ok-copy.ensures l.invariant c.match-cell.integers.items c.match-cell.others.items
          (ap (λ v. v.items) w.others-is ∙ w.in_ok-push-in_default.ensures.items) (ap (λ v. v.items) w.integers-is)
    ]

pub invariant_of-result : goal.invariant_of-result
invariant_of-result c =
    let l = c.loop-cell in
    some_moved (c.in_ok-of.field-0 ++ c.in_ok-of-2.field-0) c.args.listed.now
    (runs_of l.integers.items l.others.items c.in_ok-of.field-0 c.in_ok-of-2.field-0 c.args.listed.now l.cell-index c.loop-cell-test.false c.in_ok-of.ensures c.in_ok-of-2.ensures l.invariant) c.requires

pub returns : goal.returns
returns c =
    let l = c.loop-cell in
    runs_of l.integers.items l.others.items c.in_ok-of.field-0 c.in_ok-of-2.field-0 c.args.listed.now l.cell-index c.loop-cell-test.false c.in_ok-of.ensures c.in_ok-of-2.ensures l.invariant
