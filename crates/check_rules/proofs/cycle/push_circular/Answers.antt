use Rattle.std.proofs.Common.{true, false, sym, subst, ◌∙◌, ℕ, List}
use Rattle.check_rules.specs.Found.{TellsDependence}
use Rattle.vtl_tree.specs.RuleItems.{left_item}
use Rattle.check_rules.proofs.Finding.{adds_none, adds_nothing, adds_one}
use Rattle.check_rules.proofs.cycle.push_circular.Goals as goal

pub returns-then-not-is_equation : goal.returns-then-not-is_equation
returns-then-not-is_equation c = adds_nothing c.args.rules.now c.args.rule.now c.args.items.now.items (sym c.is_equation.ensures ∙ c.if-not-is_equation.true)

pub returns-then-not-is_circular : goal.returns-then-not-is_circular
returns-then-not-is_circular c =
    let t : TellsDependence c.args.rules.now (left_item c.args.rule.now) false =
    subst (λ (x : List ℕ). TellsDependence c.args.rules.now x false) c.left_item-item.ensures (subst (λ b. TellsDependence c.args.rules.now c.left_item-item.result.now b) c.if-not-is_circular.true c.in_ok-is_circular.ensures) in
    adds_none c.args.rules.now c.args.rule.now c.args.items.now.items (sym c.is_equation.ensures ∙ c.if-not-is_equation.false) t

pub returns : goal.returns
returns c =
    let t : TellsDependence c.args.rules.now (left_item c.args.rule.now) true =
    subst (λ (x : List ℕ). TellsDependence c.args.rules.now x true) c.left_item-item.ensures (subst (λ b. TellsDependence c.args.rules.now c.left_item-item.result.now b) c.if-not-is_circular.false c.in_ok-is_circular.ensures) in
    adds_one c.args.rules.now c.args.rule.now c.args.items.now.items c.push.new.self.items c.in_ok-share.field-0 (sym c.is_equation.ensures ∙ c.if-not-is_equation.false) t c.in_ok-push.ensures.items (c.in_ok-share.ensures ∙ c.left_item-item.ensures)
