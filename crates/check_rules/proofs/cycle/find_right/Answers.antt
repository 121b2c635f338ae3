use Rattle.std.proofs.Common.{[], arith, subst}
use Rattle.std.specs.Map.{keys_of}
use Rattle.std.proofs.lemmas.Bool.{false≢true}
use Rattle.std.proofs.lemmas.List.{take_all}
use Rattle.check_rules.specs.Found.{Finds, Has}
use Rattle.vtl_tree.specs.RuleItems.{right_items}
use Rattle.check_rules.proofs.Finding.{finds_none, right_more}
use Rattle.check_rules.proofs.cycle.find_right.Goals as goal

pub loop-k-init : goal.loop-k-init
loop-k-init c = finds_none (Has []) (keys_of c.args.found.now) (λ n h. absurd (false≢true h))

pub loop-k-preserved : goal.loop-k-preserved
loop-k-preserved c =
    right_more (right_items c.args.rule.now) c.loop-k.k c.right_item.result.now (keys_of c.args.found.now) (keys_of c.loop-k.found) (keys_of c.find.new.found) c.right_item.ensures c.loop-k.invariant c.in_ok-find.ensures

pub returns : goal.returns
returns c = subst (λ items. Finds (Has items) (keys_of c.args.found.now) (keys_of c.loop-k.found)) (take_all c.loop-k.k (right_items c.args.rule.now) (omega arith)) c.loop-k.invariant
