use Rattle.std.proofs.Common.{◌∙◌, [], map, arith}
use Rattle.sql_tree.specs.View.{expr_tree}
use Rattle.selects_to_sql.specs.Items.{all_of, both_of}
use Rattle.vtl_lists.proofs.Balances.{form_less, form_one, form_stays}
use Rattle.selects_to_sql.proofs.conditions.all_of.Goals as goal

pub loop-alloc-preserved : goal.loop-alloc-preserved
loop-alloc-preserved c =
    form_stays both_of expr_tree c.loop-alloc.rest.items c.in_ok-rest.rest.items c.in_ok-rest.ensures (all_of []) (all_of (map expr_tree c.args.conditions.items)) c.loop-alloc.invariant

pub loop-alloc-smaller : goal.loop-alloc-smaller
loop-alloc-smaller c =
    let less = form_less both_of expr_tree c.loop-alloc.rest.items c.in_ok-rest.rest.items c.in_ok-rest.ensures (omega arith) in
    omega (arith, less)

pub returns : goal.returns
returns c = c.last_of.ensures ∙ form_one both_of expr_tree (all_of []) c.loop-alloc.rest.items (all_of (map expr_tree c.args.conditions.items)) (omega arith) c.loop-alloc.invariant
