use Rattle.std.proofs.Common.{ℤ, [], ◌∷◌, Option, subst, sym}
use Rattle.std.specs.Result.{OnOk}
use Rattle.vtl_syntax.specs.declared.word_groups.CheckOut.{CheckOut}
use Rattle.vtl_tree.specs.Shown.{shown}
use Rattle.selects_to_sql.specs.NamedItems.{AreNext}
use Rattle.rules_to_sql.specs.Items.{errors_as, errors_as_at}
use Rattle.hierarchies_to_sql.specs.RuleItems.{leaves_of}
use Rattle.hierarchies_to_sql.specs.SideItems.{check_parts_as, gap_as, left_as, truth_as}
use Rattle.hierarchies_to_sql.proofs.checks.push_parts.Goals as goal

pub returns-in-Invalid : goal.returns-in-Invalid
returns-in-Invalid c =
    let p = c.args.writer.now in
    let m = c.args.sided.now.mode in
    let kind = c.args.measured.now.kind in
    let rule = c.args.sided.now.rule.now in
    let ws = leaves_of c.args.measured.now c.args.sided.now.aliases.now in
    let ys = shown c.args.columns.now in
    let old = c.args.items.now.items in
    let new = c.push_invalid.new.items.items in
    subst (λ (o : CheckOut). OnOk c.push_invalid.result (AreNext old new (check_parts_as p m kind rule ws o) ys)) (sym c.in-Invalid.is)
    (subst (λ (l : Option ℤ). OnOk c.push_invalid.result (AreNext old new (left_as p m kind ws ∷ (gap_as p m kind rule ws ∷ errors_as rule.error.code l)) ys)) c.requires c.push_invalid.ensures)

pub returns-in-All : goal.returns-in-All
returns-in-All c =
    let p = c.args.writer.now in
    let m = c.args.sided.now.mode in
    let kind = c.args.measured.now.kind in
    let rule = c.args.sided.now.rule.now in
    let ws = leaves_of c.args.measured.now c.args.sided.now.aliases.now in
    let ys = shown c.args.columns.now in
    let old = c.args.items.now.items in
    let new = c.push_truth.new.items.items in
    let truth = truth_as p m kind rule ws in
    subst (λ (o : CheckOut). OnOk c.push_truth.result (AreNext old new (check_parts_as p m kind rule ws o) ys)) (sym c.in-All.is)
    (subst (λ (l : Option ℤ). OnOk c.push_truth.result (AreNext old new (truth ∷ (gap_as p m kind rule ws ∷ errors_as_at truth rule.error.code l)) ys)) c.requires c.push_truth.ensures)

pub returns-in-AllMeasures : goal.returns-in-AllMeasures
returns-in-AllMeasures c =
    let p = c.args.writer.now in
    let m = c.args.sided.now.mode in
    let kind = c.args.measured.now.kind in
    let rule = c.args.sided.now.rule.now in
    let ws = leaves_of c.args.measured.now c.args.sided.now.aliases.now in
    let ys = shown c.args.columns.now in
    let old = c.args.items.now.items in
    let new = c.push_measured.new.items.items in
    let truth = truth_as p m kind rule ws in
    subst (λ (o : CheckOut). OnOk c.push_measured.result (AreNext old new (check_parts_as p m kind rule ws o) ys)) (sym c.in-AllMeasures.is)
    (subst (λ (l : Option ℤ). OnOk c.push_measured.result (AreNext old new (left_as p m kind ws ∷ (truth ∷ gap_as p m kind rule ws ∷ errors_as_at truth rule.error.code l)) ys)) c.requires c.push_measured.ensures)
