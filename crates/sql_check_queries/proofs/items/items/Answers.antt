use Rattle.std.proofs.Common.{◌∙◌, ◌+◌, ap, sym, map, drop, arith}
use Rattle.std.specs.List.{flat_map}
use Rattle.std.proofs.lemmas.Grind.{common_steps}
use Rattle.std.proofs.lemmas.List.{take_all}
use Rattle.sql_tree.specs.View.{item_tree}
use Rattle.sql_check_parts.specs.Queries.{item_breaks, item_kind}
use Rattle.sql_check_parts.specs.Rules.{least, lesser}
use Rattle.sql_check_queries.proofs.Parts.{part_left, parts_end}
use Rattle.sql_check_queries.proofs.items.items.Goals as goal

pub loop-item-preserved : goal.loop-item-preserved
loop-item-preserved c =
    let f = item_breaks c.args.at.now c.args.group.now in
    let items = c.args.items.now in
    let i = c.loop-item.item-index in
    record {
      kinds = grind (arith, common_steps);
      fault =
          ap (λ x. lesser x (least (flat_map f (map item_tree (drop (i + 1) items))))) c.lesser-fault.ensures
          ∙ part_left f item_tree items i c.item-item.result c.loop-item.fault c.in_ok-typed.typed.fault c.loop-item-test.true c.item-item.is c.in_ok-typed.ensures.fault_is
          ∙ c.loop-item.invariant.fault;
    }

pub returns : goal.returns
returns c =
    let i = c.loop-item.item-index in
    record {
      kinds_are = c.of.ensures ∙ c.loop-item.invariant.kinds ∙ ap (λ ys. map (item_kind c.args.at.now.scope) (map item_tree ys)) (take_all i c.args.items.now c.loop-item-test.false);
      fault_is = sym (parts_end (item_breaks c.args.at.now c.args.group.now) item_tree c.args.items.now i c.loop-item.fault c.loop-item-test.false) ∙ c.loop-item.invariant.fault;
    }
