use Rattle.std.proofs.Common.{◌≡◌, ◌∙◌, Some, true, ap, rules, sym, subst}
use Rattle.std.specs.List.{list_all}
use Rattle.vtl_cell.specs.declared.operator.ScalarOp.TheVariants as op
use Rattle.sql_tree.specs.Trees as tree
use Rattle.sql_tree.specs.Trees.{Exp}
use Rattle.sql_tree.specs.View.{expr_tree}
use Rattle.sql_tree.specs.declared.expressions.SqlExpr as expr
use Rattle.sql_tree.specs.declared.expressions.SqlExpr.{SqlExpr}
use Rattle.sql_meaning.specs.Plans.{conjuncts}
use Rattle.sql_from.specs.Keys.{IsLinked, is_link}
use Rattle.sql_from.proofs.Links.{found_other, links_parted}
use Rattle.sql_from.proofs.key_pairs.+leads.Goals as goal

-- where all parts link, the left one tells the source
pub returns-in-Some-clause-is : goal.returns-in-Some-clause-is
returns-in-Some-clause-is t c n linked =
    let s = c.args.sources.now in
    let x = c.in-Binary-default-And-default in
    let l = x.left.value in
    let r = x.right.value in
    let is : expr_tree c.args.condition.now ≡ tree.binary (expr_tree l) op.And (expr_tree r) = ap expr_tree x.is ∙ search (rules, expr.the_lemmas) in
    let both = links_parted s n (expr_tree l) (expr_tree r) (subst (λ (z : Exp). list_all (is_link s n) (conjuncts z) ≡ true) is linked.links) in
    let here : c.lead_of.result ≡ Some n = c.lead_of.ensures.is n (subst (λ (z : SqlExpr). IsLinked s n (expr_tree z)) (sym c.deref.ensures) (record { before = linked.before; links = both.0 })) in
    sym c.in-Some.is ∙ here

pub returns-in-None-clause-is : goal.returns-in-None-clause-is
returns-in-None-clause-is t c n linked =
    let s = c.args.sources.now in
    let x = c.in-Binary-default-And-default in
    let l = x.left.value in
    let r = x.right.value in
    let is : expr_tree c.args.condition.now ≡ tree.binary (expr_tree l) op.And (expr_tree r) = ap expr_tree x.is ∙ search (rules, expr.the_lemmas) in
    let both = links_parted s n (expr_tree l) (expr_tree r) (subst (λ (z : Exp). list_all (is_link s n) (conjuncts z) ≡ true) is linked.links) in
    let here : c.lead_of.result ≡ Some n = c.lead_of.ensures.is n (subst (λ (z : SqlExpr). IsLinked s n (expr_tree z)) (sym c.deref.ensures) (record { before = linked.before; links = both.0 })) in
    absurd (found_other c.lead_of.result n here c.in-None.is)
