use Rattle.std.proofs.Common.{sym, ap, ◌∙◌}
use Rattle.std.specs.Borrow.{Bor}
use Rattle.vtl_tree.specs.declared.joins.Operand.{Operand}
use Rattle.check_joins.proofs.Containing.{gives-way, stays}
use Rattle.check_joins.proofs.joins.containing.Goals.{then-not-contains, else-not-contains}
use Rattle.check_joins.proofs.joins.containing.Goals as goal

pub loop-operand-preserved : goal.loop-operand-preserved
loop-operand-preserved c =
    let os = c.args.operands.now in
    let i = c.loop-operand.operand-index in
    let old = c.loop-operand.left.now in
    let o = c.operand-item.result in
    let new = c.if-not-contains.left.now in
    elim c.if-not-contains.branch [
      | then-not-contains w ↦ gives-way os old o new i c.loop-operand-test.true c.operand-item.is c.loop-operand.invariant (sym c.contains.ensures ∙ w.if-not-contains.true) (ap (λ (x : Bor Operand). x.now) w.left-is)
      | else-not-contains w ↦ stays os old o new i c.loop-operand-test.true c.operand-item.is c.loop-operand.invariant (sym c.contains.ensures ∙ w.if-not-contains.false) (ap (λ (x : Bor Operand). x.now) w.left-is)
    ]
