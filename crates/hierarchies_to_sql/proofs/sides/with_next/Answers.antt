use Rattle.std.proofs.Common.{◌<◌, ◌≤◌, ◌+◌, drop, length, map, min, ap, sym, subst, ◌∙◌, arith}
use Rattle.vtl_cell.specs.declared.operator.ScalarOp.{ScalarOp}
use Rattle.vtl_syntax.specs.declared.parts.SignedComp.{SignedComp}
use Rattle.sql_tree.specs.Trees as tree
use Rattle.sql_tree.specs.Trees.{Exp, Text}
use Rattle.sql_tree.specs.View.{expr_tree}
use Rattle.vtl_rulings.specs.Sides.{sign_op}
use Rattle.hierarchies_to_sql.specs.RuleItems.{leaf_of}
use Rattle.hierarchies_to_sql.specs.SideItems.{counted_as, next_as}
use Rattle.hierarchies_to_sql.proofs.NextSides.{next_more, next_none}
use Rattle.hierarchies_to_sql.proofs.sides.with_next.Goals as goal

pub loop-i-preserved : goal.loop-i-preserved
loop-i-preserved c =
    let f = λ (alias : Text). counted_as c.args.writer.now c.args.mode c.args.measured.now.kind (leaf_of c.args.measured.now alias) in
    let xs = c.args.signed.now in
    let ys = c.args.aliases.now in
    let i = c.loop-i.i in
    let x = c.index-signed-i.result in
    let y = c.index-aliases-i.result in
    let total = expr_tree c.loop-i.total in
    let within : i < min (length ys) (length xs) = subst (λ n. i < n) c.min-i-end.ensures c.loop-i-test.true in
    ap (λ (t : Exp). next_as t (drop (i + 1) xs) (map f (drop (i + 1) ys))) (c.in_ok-total.ensures ∙ ap (λ (o : ScalarOp). tree.binary total o (expr_tree c.in_ok-value.value)) c.sign_op.ensures ∙ ap (λ (z : SignedComp). tree.binary total (sign_op z.sign) (expr_tree c.in_ok-value.value)) (sym c.index-signed-i.is) ∙ ap (λ (e : Exp). tree.binary total (sign_op x.sign) e) c.in_ok-value.ensures)
    ∙ sym (next_more f xs ys i x y total (omega (arith, within)) (omega (arith, within)) c.index-signed-i.is c.index-aliases-i.is)
    ∙ c.loop-i.invariant

pub returns : goal.returns
returns c =
    let f = λ (alias : Text). counted_as c.args.writer.now c.args.mode c.args.measured.now.kind (leaf_of c.args.measured.now alias) in
    let xs = c.args.signed.now in
    let ys = c.args.aliases.now in
    let i = c.loop-i.i in
    let past : min (length ys) (length xs) ≤ i = subst (λ n. n ≤ i) c.min-i-end.ensures c.loop-i-test.false in
    sym (next_none f xs ys i (expr_tree c.loop-i.total) (omega (arith, past))) ∙ c.loop-i.invariant
