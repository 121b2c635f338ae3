use Rattle.std.proofs.Common.{◌∙◌, ap}
use Rattle.vtl_cell.specs.Outcome.{fault_in, join}
use Rattle.vtl_cell.specs.declared.cell.Cell.{Cell}
use Rattle.vtl_scalar.specs.Seen.{seen_of}
use Rattle.vtl_tree.proofs.Faults.{join_assoc}
use Rattle.vtl_rules.specs.SideValues.{less_between, right_value, truth_between}
use Rattle.vtl_rules.proofs.hierarchy_checks.Finding.of.Goals as goal

pub returns-clause-seen : goal.returns-clause-seen
returns-clause-seen c =
    let p = c.args.p.now in
    let r = c.args.rule.now in
    let kind = c.args.check.now.kind in
    let right = right_value p c.args.check.now.mode kind r c.args.right.now in
    let before = seen_of c.args.seen.now in
    let truth = truth_between p r c.in_ok-left.left right in
    let less = less_between p kind c.in_ok-left.left right in
    c.in_ok-less.ensures.seen less (c.less_between.ensures right c.right_value-right.ensures) ∙ ap (λ s. join s (fault_in less)) (c.in_ok-truth.ensures.seen truth (c.truth_between.ensures right c.right_value-right.ensures))
    ∙ join_assoc before (fault_in truth) (fault_in less) ∙ ap (λ (v : Cell). join before (join (fault_in (truth_between p r v right)) (fault_in (less_between p kind v right)))) c.in_ok-left.ensures
