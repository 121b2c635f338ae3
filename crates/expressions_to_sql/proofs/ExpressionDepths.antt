-- An expression is in SQL at most one deeper than in VTL: a negative constant stands behind a sign.
use Rattle.std.proofs.Common.{suc, pos, negsuc, ◌≤◌, Bool, true, false, List, arith}
use Rattle.std.specs.Prelude.{max, Option, Some, None}
use Rattle.vtl_decimal.specs.Settings.{Settings}
use Rattle.vtl_cell.specs.declared.cell.Cell.{Cell}
use Rattle.vtl_cell.specs.declared.cell.Cell.TheVariants as c
use Rattle.vtl_cell.specs.declared.operator.AggKind.{AggKind}
use Rattle.vtl_cell.specs.declared.operator.ScalarOp.{ScalarOp}
use Rattle.vtl_cell.specs.declared.operator.ScalarOp.TheVariants as op
use Rattle.vtl_tree.specs.CompExp as comp
use Rattle.vtl_tree.specs.CompExp.{CompExp, CompExps, no_comp_exps, comp_exp}
use Rattle.vtl_tree.specs.Depths.{argument_depth, comp_depth, comps_depth}
use Rattle.sql_tree.specs.Formed.{exp_depth, exps_depth, is_binary, is_unary}
use Rattle.sql_tree.specs.Trees as tree
use Rattle.sql_tree.specs.Trees.{Exps, Text}
use Rattle.sql_tree.specs.declared.parts.Literal.{Literal}
use Rattle.expressions_to_sql.specs.Constants.{const_to_sql}
use Rattle.expressions_to_sql.specs.ToSql.{Naming, aggregate_to_sql, all_to_sql, members_behind, operator_to_sql, placed, to_sql}

const_depth : (p : Settings) (v : Cell) → exp_depth (const_to_sql p v) ≤ 2
const_depth p c.Null = omega arith
const_depth p (c.Bool true) = omega arith
const_depth p (c.Bool false) = omega arith
const_depth p (c.Int (pos n)) = omega arith
const_depth p (c.Int (negsuc n)) = omega arith
const_depth p (c.Num (pos n)) = omega arith
const_depth p (c.Num (negsuc n)) = omega arith
const_depth p (c.Text t) = omega arith
const_depth p (c.Day d) = omega arith
const_depth p (c.Period q) = omega arith

placed_depth : (between before : Bool) (o : ScalarOp) (es : Exps) → exp_depth (placed between before o es) ≤ suc (exps_depth es)
placed_depth true u o (tree.exp a (tree.exp b tree.no_exps)) = omega arith
placed_depth true u o tree.no_exps = omega arith
placed_depth true u o (tree.exp a tree.no_exps) = omega arith
placed_depth true u o (tree.exp a (tree.exp b (tree.exp d es))) = omega arith
placed_depth false true o (tree.exp a tree.no_exps) = omega arith
placed_depth false true o tree.no_exps = omega arith
placed_depth false true o (tree.exp a (tree.exp b es)) = omega arith
placed_depth false false o es = omega arith

operator_depth : (o : ScalarOp) (ls : List Literal) (es : Exps) → exp_depth (operator_to_sql o ls es) ≤ suc (max 1 (exps_depth es))
operator_depth op.IsNull ls tree.no_exps = omega arith
operator_depth op.IsNull ls (tree.exp a tree.no_exps) = omega arith
operator_depth op.IsNull ls (tree.exp a (tree.exp b es)) = omega arith
operator_depth op.In ls tree.no_exps = omega arith
operator_depth op.In ls (tree.exp a es) = omega arith
operator_depth op.NotIn ls tree.no_exps = omega arith
operator_depth op.NotIn ls (tree.exp a es) = omega arith
operator_depth op.If ls tree.no_exps = omega arith
operator_depth op.If ls (tree.exp t tree.no_exps) = omega arith
operator_depth op.If ls (tree.exp t (tree.exp a tree.no_exps)) = omega arith
operator_depth op.If ls (tree.exp t (tree.exp a (tree.exp b tree.no_exps))) = omega arith
operator_depth op.If ls (tree.exp t (tree.exp a (tree.exp b (tree.exp d es)))) = omega arith
operator_depth op.Replace ls tree.no_exps = omega arith
operator_depth op.Replace ls (tree.exp a tree.no_exps) = omega arith
operator_depth op.Replace ls (tree.exp a (tree.exp b tree.no_exps)) = omega arith
operator_depth op.Replace ls (tree.exp a (tree.exp b (tree.exp d es))) = omega arith
operator_depth o ls es = omega (arith, placed_depth (is_binary o) (is_unary o) o es)

aggregate_depth : (at : Naming) (f : AggKind) (component : Option Text) → exp_depth (aggregate_to_sql at f component) ≤ suc (suc (argument_depth component))
aggregate_depth at f None = omega arith
aggregate_depth at f (Some name) = omega arith

mutual
  pub depth_grows : (p : Settings) (at : Naming) (e : CompExp) → exp_depth (to_sql p at e) ≤ suc (comp_depth e)
  depth_grows p at (comp.column place name kind) = omega arith
  depth_grows p at (comp.const v) = const_depth p v
  depth_grows p at (comp.call o kind args) = omega (arith, operator_depth o (members_behind p args) (all_to_sql p at args), depths_grow p at args)
  depth_grows p at (comp.aggregate a kind) = aggregate_depth at a.kind a.component

  depths_grow : (p : Settings) (at : Naming) (es : CompExps) → exps_depth (all_to_sql p at es) ≤ suc (comps_depth es)
  depths_grow p at no_comp_exps = omega arith
  depths_grow p at (comp_exp e es) = omega (arith, depth_grows p at e, depths_grow p at es)
