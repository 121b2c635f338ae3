use Rattle.std.proofs.Common.{◌≡◌, List, sym, ap, subst, ◌∙◌}
use Rattle.vtl_tree.specs.DataSet.{IsDataSet}
use Rattle.vtl_meaning.specs.Joined.{join_of}
use Rattle.vtl_meaning.proofs.JoinKept.{join_kept}
use Rattle.vtl_meaning.proofs.JoinParts.{AreSets}
use Rattle.vtl_join.specs.declared.joined.Operand.{Operand}
use Rattle.vtl_join.specs.Joining.{Joining, sets_of}
use Rattle.vtl_join.proofs.closing.close.Goals as goal

pub of-requires : goal.of-requires
of-requires c =
    let made = c.args.made.now in
    let seen : c.deref.result.now ≡ c.args.j.operands = c.deref.ensures.value ∙ ap (λ (x : Joining). x.operands) c.j.view_is in
    let again : c.deref-2.result.now ≡ c.args.j.operands = c.deref-2.ensures.value ∙ ap (λ (x : Joining). x.operands) c.j.view_is in
    let sets = subst (λ (os : List Operand). AreSets (sets_of os)) seen c.operands_are_sets.ensures in
    let known = c.in_ok-table.ensures {u = tt} in
    record {
      columns = known.columns;
      points = subst (IsDataSet made) (sym (known.rows ∙ ap (λ (os : List Operand). join_of c.args.kind (sets_of os)) again)) (join_kept c.args.kind (sets_of c.args.j.operands) made c.requires.made sets);
    }
