use Rattle.std.proofs.Common.{◌≡◌, ◌<◌, ◌++◌, ◌-◌, true, List, length, map, Some, ap, subst, sym, ◌∙◌, arith}
use Rattle.std.proofs.lemmas.List.{length-take-le}
use Rattle.vtl_syntax.specs.View.{statement_tree}
use Rattle.vtl_syntax.specs.Written.{AreWritten}
use Rattle.vtl_syntax.specs.declared.statements.Statement.{Statement}
use Rattle.vtl_check.specs.Checked.{tree_of}
use Rattle.rerun_laws.specs.Parts.{is_transformation, part_tree, persistent}
use Rattle.script_parts.proofs.Places.{within}
use Rattle.script_parts.proofs.Written.{part_made, written_part}
use Rattle.script_parts.proofs.statements.script_at.Goals as goal

pub slice_bounds-definitions-count : goal.slice_bounds-definitions-count
slice_bounds-definitions-count c =
    (within c.args.number c.statements-statements.result.now (subst (λ (ss : List Statement). is_transformation c.args.number (map statement_tree ss) ≡ true) (sym c.statements-statements.ensures) c.requires)).0

pub slice_bounds-definitions-length : goal.slice_bounds-definitions-length
slice_bounds-definitions-length c =
    let ss = c.statements-statements.result.now in
    let place = within c.args.number ss (subst (λ (ss : List Statement). is_transformation c.args.number (map statement_tree ss) ≡ true) (sym c.statements-statements.ensures) c.requires) in
    sym (length-take-le (c.args.number - 1) ss (omega (arith, place.0, place.1)))

pub overflow_sub-number : goal.overflow_sub-number
overflow_sub-number c =
    (within c.args.number c.statements-statements.result.now (subst (λ (ss : List Statement). is_transformation c.args.number (map statement_tree ss) ≡ true) (sym c.statements-statements.ensures) c.requires)).0

pub bounds-statements-number : goal.bounds-statements-number
bounds-statements-number c =
    let place = within c.args.number c.statements-statements.result.now (subst (λ (ss : List Statement). is_transformation c.args.number (map statement_tree ss) ≡ true) (sym c.statements-statements.ensures) c.requires) in
    omega (arith, place.0, place.1)

pub offset_bounds-statements-number : goal.offset_bounds-statements-number
offset_bounds-statements-number c =
    let place = within c.args.number c.statements-statements.result.now (subst (λ (ss : List Statement). is_transformation c.args.number (map statement_tree ss) ≡ true) (sym c.statements-statements.ensures) c.requires) in
    let less : c.args.number - 1 < length c.statements-statements.result.now = omega (arith, place.0, place.1) in
    omega (arith, less)

pub returns-clause-tree : goal.returns-clause-tree
returns-clause-tree c =
    let ss = c.statements-statements.result.now in
    let r = c.index-statements-number.result in
    let place = within c.args.number ss (subst (λ (ss : List Statement). is_transformation c.args.number (map statement_tree ss) ≡ true) (sym c.statements-statements.ensures) c.requires) in
    let less : c.args.number - 1 < length ss = omega (arith, place.0, place.1) in
    ap (λ (l : List Statement). map statement_tree l) c.in_ok-of.ensures
    ∙ c.in_ok-push_persistent.ensures
    ∙ ap (λ l. l ++ persistent (Some (statement_tree r))) c.in_ok-part.ensures
    ∙ part_made c.args.number ss r less c.index-statements-number.is
    ∙ ap (λ (l : List Statement). part_tree c.args.number (map statement_tree l)) c.statements-statements.ensures

pub returns-clause-written : goal.returns-clause-written
returns-clause-written c =
    subst AreWritten (sym (returns-clause-tree c)) (written_part c.args.number (tree_of c.args.script.now) c.nodes-nodes.ensures.written)
