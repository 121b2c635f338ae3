use Rattle.std.proofs.Common.{◌≡◌, length, ◌+◌, ◌++◌, map, ap, arith, sym, ◌∙◌, append-nil}
use Rattle.std.proofs.lemmas.List.{drop_all}
use Rattle.std.proofs.lemmas.Result.{IfOk-weaker}
use Rattle.vtl_lists.specs.Apart.{all_apart}
use Rattle.vtl_text.specs.Texts.{same_text}
use Rattle.check_rules.specs.Definitions.{identifiers, identifiers_from}
use Rattle.check_rules.proofs.Identifiers.{one_more}
use Rattle.check_rules.proofs.definitions.hier_rules_differ.Goals as goal

pub loop-rule-preserved : goal.loop-rule-preserved
loop-rule-preserved c =
    one_more (λ r. r.name) c.args.rules.now c.loop-rule.rule-index c.rule-item.result c.loop-rule.identifiers.items c.push_identifier.new.identifiers.items c.loop-rule-test.true c.rule-item.is c.in_ok-push_identifier.ensures c.loop-rule.invariant

pub returns : goal.returns
returns c =
    let all : c.loop-rule.identifiers.items ≡ identifiers (map (λ r. r.name) c.args.rules.now) =
    sym (append-nil c.loop-rule.identifiers.items)
    ∙ sym (ap (λ l. c.loop-rule.identifiers.items ++ identifiers_from (length c.loop-rule.identifiers.items + 1) (map (λ r. r.name) l)) (drop_all c.loop-rule.rule-index c.args.rules.now (omega arith)))
    ∙ c.loop-rule.invariant in
    IfOk-weaker c.are_distinct.result _ _ (λ b e. e ∙ ap (all_apart same_text) (c.deref.ensures.value ∙ all)) c.are_distinct.ensures
