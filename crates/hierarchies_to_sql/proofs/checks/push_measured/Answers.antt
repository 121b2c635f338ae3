use Rattle.std.proofs.Common.{[], ◌∷◌}
use Rattle.vtl_tree.specs.Shown.{shown}
use Rattle.selects_to_sql.proofs.NamedItems.{next_behind}
use Rattle.rules_to_sql.specs.Items.{errors_as_at}
use Rattle.hierarchies_to_sql.specs.RuleItems.{leaves_of}
use Rattle.hierarchies_to_sql.specs.SideItems.{gap_as, left_as, truth_as}
use Rattle.hierarchies_to_sql.proofs.checks.push_measured.Goals as goal

pub returns : goal.returns
returns c =
    let truth = truth_as c.args.writer.now c.args.sided.now.mode c.args.measured.now.kind c.args.sided.now.rule.now (leaves_of c.args.measured.now c.args.sided.now.aliases.now) in
    let gap = gap_as c.args.writer.now c.args.sided.now.mode c.args.measured.now.kind c.args.sided.now.rule.now (leaves_of c.args.measured.now c.args.sided.now.aliases.now) in
    next_behind c.args.items.now.items c.push_left.new.items.items c.push_truth.new.items.items (left_as c.args.writer.now c.args.sided.now.mode c.args.measured.now.kind (leaves_of c.args.measured.now c.args.sided.now.aliases.now) ∷ []) (truth ∷ gap ∷ errors_as_at truth c.args.sided.now.rule.now.error.code c.args.sided.now.level) (shown c.args.columns.now)
    c.in_ok-push_left.ensures c.in_ok-push_truth.ensures
