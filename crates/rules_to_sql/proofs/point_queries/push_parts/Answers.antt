use Rattle.std.proofs.Common.{subst, sym}
use Rattle.std.specs.Result.{OnOk}
use Rattle.vtl_syntax.specs.declared.word_groups.CheckOut.{CheckOut}
use Rattle.vtl_tree.specs.NodeView.{point_rule_tree}
use Rattle.vtl_tree.specs.Shown.{shown}
use Rattle.vtl_tree.specs.Checks.{output_parts}
use Rattle.selects_to_sql.specs.NamedItems.{AreNext, own_columns}
use Rattle.rules_to_sql.specs.Items.{rule_errors_as, truth_as}
use Rattle.rules_to_sql.proofs.point_queries.push_parts.Goals as goal

pub returns-in-Invalid : goal.returns-in-Invalid
returns-in-Invalid c =
    let rule = c.args.rule.now in
    let truth = truth_as c.args.writer.now (point_rule_tree rule) in
    let parts = λ (o : CheckOut). output_parts o (own_columns (shown c.args.measures.now)) truth (rule_errors_as o truth rule.errorcode rule.errorlevel) in
    subst (λ (o : CheckOut). OnOk c.push_invalid.result (AreNext c.args.items.now.items c.push_invalid.new.items.items (parts o) (shown c.args.columns.now))) (sym c.in-Invalid.is) c.push_invalid.ensures

pub returns-in-AllMeasures : goal.returns-in-AllMeasures
returns-in-AllMeasures c =
    let rule = c.args.rule.now in
    let truth = truth_as c.args.writer.now (point_rule_tree rule) in
    let parts = λ (o : CheckOut). output_parts o (own_columns (shown c.args.measures.now)) truth (rule_errors_as o truth rule.errorcode rule.errorlevel) in
    subst (λ (o : CheckOut). OnOk c.push_measured.result (AreNext c.args.items.now.items c.push_measured.new.items.items (parts o) (shown c.args.columns.now))) (sym c.in-AllMeasures.is) c.push_measured.ensures
