use Rattle.std.proofs.Common.{◌≡◌, ◌∷◌, ◌++◌, [], Ok, length, sym, ap, ◌∙◌, append-nil, arith}
use Rattle.std.specs.Prelude.{map}
use Rattle.std.specs.Vec.Iter.{into_iter_items}
use Rattle.vtl_tree.specs.NodeView.{operand_tree}
use Rattle.check_clauses.specs.JoinOperands.{operand_in, operands_in}
use Rattle.check_clauses.specs.JoinView.{part_view}
use Rattle.std.proofs.lemmas.List.{map-append}
use Rattle.vtl_lists.proofs.Filters.{nothing_left}
use Rattle.check_clauses.proofs.OperandLemmas.{behind, operands_step}
use Rattle.check_clauses.proofs.join_operands.operands.Goals as goal

pub loop-part-preserved : goal.loop-part-preserved
loop-part-preserved c =
    let at = c.loop-part in
    let steps : into_iter_items at.part-iterator ≡ c.in-Some.part ∷ into_iter_items c.next.new.self = c.in-Some.ensures.steps.0 in
    let typed : operand_in (part_view c.in-Some.part) ≡ Ok (operand_tree c.in_ok-operand.operand) = c.in_ok-operand.ensures in
    let pushed : c.push.new.self.items ≡ at.operands.items ++ c.in_ok-operand.operand ∷ [] = c.in_ok-push.ensures.items in
    let same : map operand_tree c.push.new.self.items ≡ map operand_tree at.operands.items ++ operand_tree c.in_ok-operand.operand ∷ [] = ap (map operand_tree) pushed ∙ map-append operand_tree at.operands.items (c.in_ok-operand.operand ∷ []) in
    let was : behind (map operand_tree at.operands.items) (operands_in (part_view c.in-Some.part ∷ map part_view (into_iter_items c.next.new.self))) ≡ operands_in (map part_view c.args.parts.items) = rw steps at at.invariant.0 in
    let step = operands_step (map operand_tree at.operands.items) (part_view c.in-Some.part) (map part_view (into_iter_items c.next.new.self)) (operand_tree c.in_ok-operand.operand) typed in (
      rw same (sym step ∙ was),
      let before = at.invariant.1 in
          let gone = c.in-Some.ensures.steps.1 in
          let short = ap length steps in
          omega arith,
    )

pub returns : goal.returns
returns c =
    let at = c.loop-part in
    let empty : into_iter_items at.part-iterator ≡ [] = nothing_left _ (sym at.invariant.1 ∙ c.in-None.ensures.steps.0) in
    sym (rw empty at at.invariant.0) ∙ ap Ok (append-nil (map operand_tree at.operands.items))
