use Rattle.std.proofs.Common.{◌-◌, ◌∙◌, ap, arith, refl, sym}
use Rattle.vtl_tree.specs.RuleItems.{signed_item}
use Rattle.check_rules.proofs.SideLemmas.{right_at}
use Rattle.check_rules.proofs.items.right_item.Goals as goal

pub returns-else-k-eq0 : goal.returns-else-k-eq0
returns-else-k-eq0 c =
    right_at c.args.rule.now c.as_slice.result.now c.args.k (c.args.k - 1) c.index-as_slice-k.result c.name-else-k-eq0.result.now c.as_slice.ensures (omega arith) refl c.requires c.index-as_slice-k.is (c.name-else-k-eq0.ensures ∙ ap signed_item (sym c.index-as_slice-k.is))
