use Rattle.std.proofs.Common.{◌≡◌, ◌∙◌, ap, rules, sym, subst}
use Rattle.vtl_cell.specs.declared.operator.ScalarOp.TheVariants as op
use Rattle.sql_tree.specs.Trees as tree
use Rattle.sql_tree.specs.Trees.{Exp}
use Rattle.sql_tree.specs.View.{expr_tree}
use Rattle.sql_tree.specs.declared.expressions.SqlExpr as expr
use Rattle.sql_from.specs.Keys.{ArePaired}
use Rattle.sql_from.proofs.Conjunctions.{equality_paired, paired_implied}
use Rattle.sql_from.proofs.key_pairs.push_pair.Goals as goal

pub returns-in_ok-push-in-Some-clause-paired : goal.returns-in_ok-push-in-Some-clause-paired
returns-in_ok-push-in-Some-clause-paired c e =
    let s = c.args.sources.now in
    let x = c.in-Column-Column.x in
    let y = c.in-Column-Column.y in
    let left : expr_tree c.args.left.now ≡ tree.column x = ap expr_tree c.in-Column-Column.is-0 ∙ search (rules, expr.the_lemmas) in
    let right : expr_tree c.args.right.now ≡ tree.column y = ap expr_tree c.in-Column-Column.is-1 ∙ search (rules, expr.the_lemmas) in
    subst (λ (e : Exp). ArePaired s c.args.lead e c.args.keys.now.items c.push.new.self.items) (λ i. tree.binary (sym left i) op.Equal (sym right i))
    (equality_paired s c.args.lead x y c.args.keys.now.items c.push.new.self.items c.in-Some.pair c.in-Some.ensures.pair c.in_ok-push-in-Some.ensures.items)

pub returns-in_ok-push-in-Some-clause-implied : goal.returns-in_ok-push-in-Some-clause-implied
returns-in_ok-push-in-Some-clause-implied c =
    let s = c.args.sources.now in
    let x = c.in-Column-Column.x in
    let y = c.in-Column-Column.y in
    let left : expr_tree c.args.left.now ≡ tree.column x = ap expr_tree c.in-Column-Column.is-0 ∙ search (rules, expr.the_lemmas) in
    let right : expr_tree c.args.right.now ≡ tree.column y = ap expr_tree c.in-Column-Column.is-1 ∙ search (rules, expr.the_lemmas) in
    let before = c.args.keys.now.items in
    let behind = c.push.new.self.items in
    paired_implied s c.args.lead (tree.binary (expr_tree c.args.left.now) op.Equal (expr_tree c.args.right.now)) before behind
    (subst (λ (e : Exp). ArePaired s c.args.lead e before behind) (λ i. tree.binary (sym left i) op.Equal (sym right i))
    (equality_paired s c.args.lead x y before behind c.in-Some.pair c.in-Some.ensures.pair c.in_ok-push-in-Some.ensures.items))
