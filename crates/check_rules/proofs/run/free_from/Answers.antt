use Rattle.std.proofs.Common.{sym, ◌∙◌}
use Rattle.vtl_tree.specs.RuleItems.{right_items}
use Rattle.check_rules.specs.Running.{is_free_by}
use Rattle.check_rules.proofs.Lists.{all_fails, all_more}
use Rattle.check_rules.proofs.run.free_from.Goals as goal

pub returns-then-not-is_free-clause-awaited : goal.returns-then-not-is_free-clause-awaited
returns-then-not-is_free-clause-awaited c = λ h.
    all_fails (is_free_by c.args.awaited.now) (right_items c.args.rule.now) c.loop-k.k c.right_item.result.now c.right_item.ensures (sym c.is_free.ensures ∙ c.if-not-is_free.true)

pub loop-k-preserved : goal.loop-k-preserved
loop-k-preserved c = λ h.
    all_more (is_free_by c.args.awaited.now) (right_items c.args.rule.now) c.loop-k.k c.right_item.result.now c.right_item.ensures (sym c.is_free.ensures ∙ c.if-not-is_free.false) (c.loop-k.invariant h)
