use Rattle.std.proofs.Common.{◌≡◌, ◌∙◌, IfOk, true, ap, rules, sym, subst}
use Rattle.std.specs.List.{list_all}
use Rattle.vtl_cell.specs.declared.operator.ScalarOp.TheVariants as op
use Rattle.sql_tree.specs.Trees as tree
use Rattle.sql_tree.specs.Trees.{Exp}
use Rattle.sql_tree.specs.View.{expr_tree}
use Rattle.sql_tree.specs.declared.expressions.SqlExpr as expr
use Rattle.sql_tree.specs.declared.expressions.SqlExpr.{SqlExpr}
use Rattle.sql_meaning.specs.Plans.{conjuncts}
use Rattle.sql_from.specs.Keys.{AreImplied, ArePaired, is_link}
use Rattle.sql_from.proofs.Conjunctions.{conjunction_implied, conjunction_paired}
use Rattle.sql_from.proofs.Links.{links_parted}
use Rattle.sql_from.proofs.key_pairs.+paired.Goals as goal

-- ---- both sides of AND
pub returns-then-left_whole-clause-implied : goal.returns-then-left_whole-clause-implied
returns-then-left_whole-clause-implied t c =
    let s = c.args.sources.now in
    let n = c.args.lead in
    let before = c.args.keys.now.items in
    let between = c.push_pairs.new.keys.items in
    let behind = c.push_pairs-in-Binary-default-And-default.new.keys.items in
    let x = c.in-Binary-default-And-default in
    let l = x.left.value in
    let r = x.right.value in
    let is : expr_tree c.args.condition.now ≡ tree.binary (expr_tree l) op.And (expr_tree r) = ap expr_tree x.is ∙ search (rules, expr.the_lemmas) in
    let one : AreImplied s n (expr_tree l) before between = subst (λ (z : SqlExpr). AreImplied s n (expr_tree z) before between) c.deref.ensures c.in_ok-left_whole-in-Binary-default-And-default.ensures.implied in
    let two : AreImplied s n (expr_tree r) between behind = subst (λ (z : SqlExpr). AreImplied s n (expr_tree z) between behind) c.deref-in-Binary-default-And-default.ensures c.in_ok-right_whole-in-Binary-default-And-default.ensures.implied in
    subst (λ (z : Exp). AreImplied s n z before behind) (sym is) (conjunction_implied s n (expr_tree l) (expr_tree r) before between behind one two)

pub returns-else-left_whole-clause-implied : goal.returns-else-left_whole-clause-implied
returns-else-left_whole-clause-implied t c =
    let s = c.args.sources.now in
    let n = c.args.lead in
    let before = c.args.keys.now.items in
    let between = c.push_pairs.new.keys.items in
    let behind = c.push_pairs-in-Binary-default-And-default.new.keys.items in
    let x = c.in-Binary-default-And-default in
    let l = x.left.value in
    let r = x.right.value in
    let is : expr_tree c.args.condition.now ≡ tree.binary (expr_tree l) op.And (expr_tree r) = ap expr_tree x.is ∙ search (rules, expr.the_lemmas) in
    let one : AreImplied s n (expr_tree l) before between = subst (λ (z : SqlExpr). AreImplied s n (expr_tree z) before between) c.deref.ensures c.in_ok-left_whole-in-Binary-default-And-default.ensures.implied in
    let two : AreImplied s n (expr_tree r) between behind = subst (λ (z : SqlExpr). AreImplied s n (expr_tree z) between behind) c.deref-in-Binary-default-And-default.ensures c.in_ok-right_whole-in-Binary-default-And-default.ensures.implied in
    subst (λ (z : Exp). AreImplied s n z before behind) (sym is) (conjunction_implied s n (expr_tree l) (expr_tree r) before between behind one two)

pub returns-then-left_whole-clause-paired : goal.returns-then-left_whole-clause-paired
returns-then-left_whole-clause-paired t c e =
    let s = c.args.sources.now in
    let n = c.args.lead in
    let before = c.args.keys.now.items in
    let between = c.push_pairs.new.keys.items in
    let behind = c.push_pairs-in-Binary-default-And-default.new.keys.items in
    let x = c.in-Binary-default-And-default in
    let l = x.left.value in
    let r = x.right.value in
    let is : expr_tree c.args.condition.now ≡ tree.binary (expr_tree l) op.And (expr_tree r) = ap expr_tree x.is ∙ search (rules, expr.the_lemmas) in
    let one : ArePaired s n (expr_tree l) before between = subst (λ (z : SqlExpr). ArePaired s n (expr_tree z) before between) c.deref.ensures (c.in_ok-left_whole-in-Binary-default-And-default.ensures.paired c.if-left_whole.true) in
    let two : ArePaired s n (expr_tree r) between behind = subst (λ (z : SqlExpr). ArePaired s n (expr_tree z) between behind) c.deref-in-Binary-default-And-default.ensures (c.in_ok-right_whole-in-Binary-default-And-default.ensures.paired e) in
    subst (λ (z : Exp). ArePaired s n z before behind) (sym is) (conjunction_paired s n (expr_tree l) (expr_tree r) before between behind one two)

pub returns-then-left_whole-clause-whole : goal.returns-then-left_whole-clause-whole
returns-then-left_whole-clause-whole t c h =
    let s = c.args.sources.now in
    let n = c.args.lead in
    let x = c.in-Binary-default-And-default in
    let l = x.left.value in
    let r = x.right.value in
    let is : expr_tree c.args.condition.now ≡ tree.binary (expr_tree l) op.And (expr_tree r) = ap expr_tree x.is ∙ search (rules, expr.the_lemmas) in
    let both = links_parted s n (expr_tree l) (expr_tree r) (subst (λ (z : Exp). list_all (is_link s n) (conjuncts z) ≡ true) is h) in
    c.in_ok-right_whole-in-Binary-default-And-default.ensures.whole (subst (λ (z : SqlExpr). list_all (is_link s n) (conjuncts (expr_tree z)) ≡ true) (sym c.deref-in-Binary-default-And-default.ensures) both.1)

pub returns-else-left_whole-clause-whole : goal.returns-else-left_whole-clause-whole
returns-else-left_whole-clause-whole t c h =
    let s = c.args.sources.now in
    let n = c.args.lead in
    let x = c.in-Binary-default-And-default in
    let l = x.left.value in
    let r = x.right.value in
    let is : expr_tree c.args.condition.now ≡ tree.binary (expr_tree l) op.And (expr_tree r) = ap expr_tree x.is ∙ search (rules, expr.the_lemmas) in
    let both = links_parted s n (expr_tree l) (expr_tree r) (subst (λ (z : Exp). list_all (is_link s n) (conjuncts z) ≡ true) is h) in
    c.in_ok-left_whole-in-Binary-default-And-default.ensures.whole (subst (λ (z : SqlExpr). list_all (is_link s n) (conjuncts (expr_tree z)) ≡ true) (sym c.deref.ensures) both.0)

-- ---- an equality
pub returns-in-Binary-default-Equal-default-clause-implied : goal.returns-in-Binary-default-Equal-default-clause-implied
returns-in-Binary-default-Equal-default-clause-implied t c =
    let x = c.in-Binary-default-Equal-default in
    let l = x.left.value in
    let r = x.right.value in
    let is : expr_tree c.args.condition.now ≡ tree.binary (expr_tree l) op.Equal (expr_tree r) = ap expr_tree x.is ∙ search (rules, expr.the_lemmas) in
    let sides : tree.binary (expr_tree c.deref-in-Binary-default-Equal-default.result.now) op.Equal (expr_tree c.deref-in-Binary-default-Equal-default-2.result.now) ≡ expr_tree c.args.condition.now =
    (λ i. tree.binary (expr_tree (c.deref-in-Binary-default-Equal-default.ensures i)) op.Equal (expr_tree (c.deref-in-Binary-default-Equal-default-2.ensures i))) ∙ sym is in
    subst (λ (z : Exp). IfOk c.push_pair.result (λ _. AreImplied c.args.sources.now c.args.lead z c.args.keys.now.items c.push_pair.new.keys.items)) sides c.push_pair.ensures.implied
