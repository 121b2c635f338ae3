use Rattle.std.proofs.Common.{[], ◌∷◌, pos, subst}
use Rattle.vtl_tree.specs.Shown.{shown}
use Rattle.sql_tree.specs.Trees.{Exp}
use Rattle.selects_to_sql.specs.NamedItems.{AreNext}
use Rattle.selects_to_sql.proofs.NamedItems.{next_behind}
use Rattle.rules_to_sql.specs.Items.{denied, level_as, text_as, written_as_where}
use Rattle.hierarchies_to_sql.specs.RuleItems.{leaves_of}
use Rattle.hierarchies_to_sql.specs.SideItems.{gap_as, truth_as}
use Rattle.hierarchies_to_sql.proofs.checks.push_truth.Goals as goal

pub returns : goal.returns
returns c =
    let ys = shown c.args.columns.now in
    let truth = truth_as c.args.writer.now c.args.sided.now.mode c.args.measured.now.kind c.args.sided.now.rule.now (leaves_of c.args.measured.now c.args.sided.now.aliases.now) in
    let gap = gap_as c.args.writer.now c.args.sided.now.mode c.args.measured.now.kind c.args.sided.now.rule.now (leaves_of c.args.measured.now c.args.sided.now.aliases.now) in
    let code = written_as_where text_as [] (denied truth) c.args.sided.now.rule.now.error.code in
    let level = written_as_where level_as (pos 0) (denied truth) c.args.sided.now.level in
    let old = c.args.items.now.items in
    let one = c.push_next.new.items.items in
    let two = c.push_gap.new.items.items in
    let three = c.push_next-2.new.items.items in
    let four = c.push_next-3.new.items.items in
    next_behind old one four (truth ∷ []) (gap ∷ code ∷ level ∷ []) ys
    (subst (λ (e : Exp). AreNext old one (e ∷ []) ys) c.in_ok-holds.ensures c.in_ok-push_next.ensures)
    (next_behind one two four (gap ∷ []) (code ∷ level ∷ []) ys c.in_ok-push_gap.ensures
    (next_behind two three four (code ∷ []) (level ∷ []) ys
    (subst (λ (e : Exp). AreNext two three (e ∷ []) ys) c.in_ok-code_at.ensures c.in_ok-push_next-2.ensures)
    (subst (λ (e : Exp). AreNext three four (e ∷ []) ys) c.in_ok-level_at.ensures c.in_ok-push_next-3.ensures)))
