use Rattle.std.proofs.Common.{◌≡◌, ◌≤◌, ◌+◌, [], ap, sym, ◌∙◌, arith}
use Rattle.std.specs.List.{enumerate_from}
use Rattle.std.proofs.lemmas.List.{drop_all}
use Rattle.check_rules.specs.RuleItems.{defines}
use Rattle.vtl_tree.specs.RuleItems.{left_item}
use Rattle.check_rules.specs.Running.{count_at, times_computed}
use Rattle.check_rules.proofs.SideLemmas.{counted_few, counted_step}
use Rattle.check_rules.proofs.run.all_awaited.Goals as goal

pub loop-place-init : goal.loop-place-init
loop-place-init c = record {
  counted = λ q. ap (λ es. count_at q es + times_computed [] q (enumerate_from 0 c.args.rules.now)) c.new-awaited.ensures ∙ omega arith;
  few = λ q. let none : count_at q c.new-awaited.result ≡ 0 = ap (λ es. count_at q es) c.new-awaited.ensures in omega (arith, none);
}

pub count_rule-requires : goal.count_rule-requires
count_rule-requires c =
    let few : count_at (left_item c.index-rules-place.result) c.loop-place.awaited ≤ c.loop-place.place = c.loop-place.invariant.few (left_item c.index-rules-place.result) in
    omega (arith, few)

pub loop-place-preserved : goal.loop-place-preserved
loop-place-preserved c = record {
  counted = λ q. counted_step c.args.rules.now c.loop-place.place c.index-rules-place.result q (count_at q c.loop-place.awaited) (count_at q c.count_rule.new.counts) (times_computed [] q (enumerate_from 0 c.args.rules.now)) (omega arith) c.index-rules-place.is (c.in_ok-count_rule.ensures q) (c.loop-place.invariant.counted q);
  few = λ q. counted_few (defines q c.index-rules-place.result) (count_at q c.loop-place.awaited) (count_at q c.count_rule.new.counts) c.loop-place.place (c.in_ok-count_rule.ensures q) (c.loop-place.invariant.few q);
}

pub returns : goal.returns
returns c = λ q.
    let all : count_at q c.loop-place.awaited + 0 ≡ times_computed [] q (enumerate_from 0 c.args.rules.now) =
    sym (ap (λ l. count_at q c.loop-place.awaited + times_computed [] q (enumerate_from c.loop-place.place l)) (drop_all c.loop-place.place c.args.rules.now (omega arith))) ∙ c.loop-place.invariant.counted q in
    omega (arith, all)
