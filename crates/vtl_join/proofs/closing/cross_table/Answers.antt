use Rattle.std.proofs.Common.{◌≡◌, List, ap, subst, ◌∙◌}
use Rattle.std.specs.Prelude.{IfOk}
use Rattle.vtl_cell.specs.Row.{Row}
use Rattle.vtl_rows.specs.Tables.{listed}
use Rattle.vtl_tree.specs.declared.structure.Role.TheVariants as role
use Rattle.vtl_meaning.specs.Joined.{structures_of}
use Rattle.vtl_join.specs.Gatherings.{points_of}
use Rattle.vtl_join.specs.Joining.{sets_of}
use Rattle.vtl_join.specs.Picks.{joined_rows, picks_from}
use Rattle.vtl_join.proofs.Crossed.{cross_rows}
use Rattle.vtl_join.proofs.Gatherings.{rows_gathered}
use Rattle.vtl_join.proofs.closing.cross_table.Goals as goal

pub returns-clause-rows : goal.returns-clause-rows
returns-clause-rows c =
    let lead = listed c.args.lead.now in
    let ds = sets_of c.args.operands.now in
    let ids = picks_from role.Identifier 1 (structures_of ds) in
    let all = ap (λ g. points_of g c.deref.result.now) c.in_ok-gathering.ensures
    ∙ rows_gathered lead ds ids c.args.made.now c.deref.result.now
    ∙ ap (joined_rows lead ds ids) (c.deref.ensures.value ∙ c.in_ok-combinations.ensures)
    ∙ cross_rows lead ds c.operands_are_sets.ensures in
    subst (λ (l : List Row). IfOk c.points.result (λ t. t.rows ≡ l)) all c.points.ensures.rows
