use Rattle.std.proofs.Common.{◌≡◌, ◌++◌, [], ◌∷◌, true, take, ap, sym, subst, ◌∙◌}
use Rattle.std.specs.List.{AllByRecursion, flat_map}
use Rattle.vtl_lists.proofs.Alls.{all_at as each_at}
use Rattle.vtl_tree.specs.NotNull.{are_not_null, not_null_of, with_list}
use Rattle.vtl_tree.specs.Structures.{AreStructures, Named, has_name, is_declarable_entry}
use Rattle.vtl_tree.proofs.StructuresLemmas.{all_at}
use Rattle.vtl_check.proofs.KnownLemmas.{new_at, one_more}
use Rattle.script_parts.proofs.Lists.{flat_one_more}
use Rattle.script_parts.proofs.known.declared.Goals as goal

pub put_declared-requires-clause-new_name : goal.put_declared-requires-clause-new_name
put_declared-requires-clause-new_name c =
    let sets = c.declared-declared.result.now in
    let are = subst AreStructures (sym c.declared-declared.ensures.declared) c.declared-declared.ensures.structures in
    ap (has_name c.at.result.0.now) c.loop-i.invariant.sets ∙ new_at sets c.loop-i.i c.at.result.0.now c.at.result.1.now are c.at.ensures

pub put_declared-requires-clause-declarable : goal.put_declared-requires-clause-declarable
put_declared-requires-clause-declarable c =
    let sets = c.declared-declared.result.now in
    let are = subst AreStructures (sym c.declared-declared.ensures.declared) c.declared-declared.ensures.structures in
    all_at is_declarable_entry sets c.loop-i.i (c.at.result.0.now, c.at.result.1.now) are.declarable c.at.ensures

pub put_declared-requires-clause-not_null : goal.put_declared-requires-clause-not_null
put_declared-requires-clause-not_null c =
    let ls = c.args.script.now.not_null in
    let fit = subst (λ (sets : Named). AllByRecursion (λ e. are_not_null e.1 (not_null_of e.0 ls) ≡ true) sets) (sym c.declared-declared.ensures.declared) c.declared-declared.ensures.lists.fit in
    ap (are_not_null c.at.result.1.now) c.not_null.ensures ∙ each_at (λ e. are_not_null e.1 (not_null_of e.0 ls) ≡ true) c.declared-declared.result.now c.loop-i.i (c.at.result.0.now, c.at.result.1.now) fit c.at.ensures

pub loop-i-preserved : goal.loop-i-preserved
loop-i-preserved c =
    let ls = c.args.script.now.not_null in
    let sets = c.declared-declared.result.now in
    let name = c.at.result.0.now in
    let structure = c.at.result.1.now in
    let more = one_more sets c.loop-i.i name structure c.at.ensures in
    record {
      sets = c.in_ok-put_declared.ensures.put ∙ ap (λ es. es ++ (name, structure) ∷ []) c.loop-i.invariant.sets ∙ more;
      lists =
          c.in_ok-put_declared.ensures.lists
          ∙ ap (λ lists. lists ++ with_list name c.not_null.result.now) c.loop-i.invariant.lists
          ∙ ap (λ names. flat_map (λ e. with_list e.0 (not_null_of e.0 ls)) (take c.loop-i.i sets) ++ with_list name names) c.not_null.ensures
          ∙ sym (flat_one_more (λ e. with_list e.0 (not_null_of e.0 ls)) (take c.loop-i.i sets) (name, structure))
          ∙ ap (flat_map (λ e. with_list e.0 (not_null_of e.0 ls))) more;
    }
