use Rattle.std.proofs.Common.{◌≡◌, List, get_or, sym, subst, ◌∙◌}
use Rattle.std.specs.Prelude.{IfOk}
use Rattle.vtl_cell.specs.Row.{Row}
use Rattle.vtl_syntax.specs.declared.word_groups.JoinKind.{JoinKind}
use Rattle.vtl_meaning.specs.Joined.{structures_of}
use Rattle.vtl_meaning.specs.Made.{GoTogether}
use Rattle.vtl_join.specs.declared.joined.Operand.{Operand}
use Rattle.vtl_join.specs.Joining.{sets_of}
use Rattle.vtl_join.proofs.Closed.{Refers, all_have, beside_identifiers, beside_join, refers}
use Rattle.vtl_join.proofs.closing.joined_table.Goals as goal

pub full_table-requires-clause-all : goal.full_table-requires-clause-all
full_table-requires-clause-all c =
    let ds = sets_of c.args.operands.now in
    let r = subst (λ (o : Operand). Refers c.args.kind ds c.reference_place-place.result o.set c.args.made.now) c.index-operands-place.is (refers c.args.kind c.args.operands.now c.args.made.now c.reference_place-place.result c.index-operands-place.result c.requires c.operands_are_sets.ensures c.reference_place-place.ensures c.index-operands-place.is) in
    let a = (get_or c.args.operands.now c.reference_place-place.result c.index-operands-place.result).set.structure in
    all_have a ds (subst (λ (k : JoinKind). GoTogether k a (structures_of ds) c.args.made.now) c.in-Full.is r.together).1
