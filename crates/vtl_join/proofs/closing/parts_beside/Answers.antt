use Rattle.std.proofs.Common.{◌≡◌, ◌+◌, List, length, ap, sym, subst, ◌∙◌}
use Rattle.std.specs.Prelude.{IfOk}
use Rattle.vtl_tree.specs.DataSet.{IsDataSet}
use Rattle.vtl_meaning.specs.Joined.{join_of, structures_of}
use Rattle.vtl_meaning.specs.Made.{IsJoined}
use Rattle.vtl_meaning.proofs.JoinKept.{join_kept}
use Rattle.vtl_meaning.proofs.JoinParts.{AreSets}
use Rattle.vtl_join.specs.Gatherings.{points_of, width_of}
use Rattle.vtl_join.specs.Joining.{Joining, sets_of}
use Rattle.vtl_join.specs.declared.joined.Operand.{Operand}
use Rattle.vtl_join.proofs.closing.parts_beside.Goals as goal

pub beside_of-requires-clause-made : goal.beside_of-requires-clause-made
beside_of-requires-clause-made c =
    let seen : c.as_slice-operands.result.now ≡ c.args.j.now.operands = c.as_slice-operands.ensures.value ∙ ap (λ (x : Joining). x.operands) c.j.view_is in
    subst (λ (os : List Operand). IsJoined c.args.kind (structures_of (sets_of os)) c.args.made.now) (sym seen) c.requires.made

pub returns-clause-width : goal.returns-clause-width
returns-clause-width c =
    let seen : c.as_slice-operands.result.now ≡ c.args.j.now.operands = c.as_slice-operands.ensures.value ∙ ap (λ (x : Joining). x.operands) c.j.view_is in
    subst (λ (os : List Operand). IfOk c.beside_of.result (λ b. width_of b.gathering ≡ length os + 1)) seen c.beside_of.ensures.width

pub returns-clause-points : goal.returns-clause-points
returns-clause-points c =
    let seen : c.as_slice-operands.result.now ≡ c.args.j.now.operands = c.as_slice-operands.ensures.value ∙ ap (λ (x : Joining). x.operands) c.j.view_is in
    subst (λ (os : List Operand). IfOk c.beside_of.result (λ b. points_of b.gathering b.tuples.items ≡ join_of c.args.kind (sets_of os))) seen c.beside_of.ensures.points

pub returns-clause-set : goal.returns-clause-set
returns-clause-set c =
    let seen : c.as_slice-operands.result.now ≡ c.args.j.now.operands = c.as_slice-operands.ensures.value ∙ ap (λ (x : Joining). x.operands) c.j.view_is in
    join_kept c.args.kind (sets_of c.args.j.now.operands) c.args.made.now c.requires.made (subst (λ (os : List Operand). AreSets (sets_of os)) seen c.operands_are_sets.ensures)
