use Rattle.std.proofs.Common.{◌≡◌, ◌-◌, ◌<◌, [], length, Some, ap, sym, subst, ◌∙◌, arith}
use Rattle.std.proofs.lemmas.List.{length-map}
use Rattle.check_rules.specs.Order.{left_behind, order_behind, order_of}
use Rattle.check_rules.specs.Running.{IsStep}
use Rattle.check_rules.proofs.Runs.{step_stuck, step_taken}
use Rattle.check_rules.proofs.ordering.placed.Goals as goal

pub loop-done-init : goal.loop-done-init
loop-done-init c =
    let rules = c.args.rules.now in
    let counted = length-map (left_behind rules []) (λ x. x.0) in
    let many = ap length c.in_ok-equations.ensures in
    let all : length c.in_ok-equations.equations.items - 0 ≡ length (left_behind rules []) = omega (arith, counted, many) in
    record {
      running = c.in_ok-run.ensures.running;
      order = ap (λ m. order_behind m rules c.in_ok-run.run'.order.items) all ∙ ap (order_behind (length (left_behind rules [])) rules) c.in_ok-run.ensures.order;
    }

pub returns-then-not-taken : goal.returns-then-not-taken
returns-then-not-taken c =
    let rules = c.args.rules.now in
    let within : c.loop-done.done < length c.in_ok-equations.equations.items = omega arith in
    step_stuck rules (length c.in_ok-equations.equations.items) c.loop-done.done c.loop-done.run.order.items c.step.new.self.order.items within (order_of rules) c.loop-done.invariant.order
    (subst (λ b. IsStep rules c.loop-done.run.order.items b c.step.new.self.order.items) c.if-not-taken.true c.in_ok-taken.ensures.step)

pub loop-done-preserved : goal.loop-done-preserved
loop-done-preserved c =
    let rules = c.args.rules.now in
    let within : c.loop-done.done < length c.in_ok-equations.equations.items = omega arith in
    record {
      running = c.in_ok-taken.ensures.running;
      order = step_taken rules (length c.in_ok-equations.equations.items) c.loop-done.done c.loop-done.run.order.items c.step.new.self.order.items within (order_of rules) c.loop-done.invariant.order
          (subst (λ b. IsStep rules c.loop-done.run.order.items b c.step.new.self.order.items) c.if-not-taken.false c.in_ok-taken.ensures.step);
    }

pub returns : goal.returns
returns c =
    let rules = c.args.rules.now in
    let none : length c.in_ok-equations.equations.items - c.loop-done.done ≡ 0 = omega arith in
    ap Some c.into_order.ensures ∙ sym (ap (λ m. order_behind m rules c.loop-done.run.order.items) none) ∙ c.loop-done.invariant.order
