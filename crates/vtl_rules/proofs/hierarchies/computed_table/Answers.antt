use Rattle.std.proofs.Common.{◌≡◌, ◌∙◌, ◌++◌, ap}
use Rattle.std.specs.List.{flat_map}
use Rattle.vtl_cell.specs.Outcome.{faults_by}
use Rattle.vtl_rows.specs.Tables.{Tabled}
use Rattle.vtl_scalar.specs.Seen.{seen_of}
use Rattle.vtl_syntax.specs.declared.word_groups.HierOut.TheVariants as out
use Rattle.vtl_tree.specs.ClauseShapes.{first_kind}
use Rattle.vtl_tree.specs.Columns.{measures_of}
use Rattle.vtl_tree.specs.RuleItems.{definitions}
use Rattle.vtl_tree.specs.declared.structure.Structure.{Structure}
use Rattle.vtl_sets.specs.TableOf.{table_columns}
use Rattle.vtl_sets.proofs.TableLemmas.{answered_is_table}
use Rattle.vtl_expr.proofs.PointLemmas.{answered_keeps, finished}
use Rattle.vtl_rulings.specs.Hierarchies.{hierarchy_of, made_fault, made_points}
use Rattle.vtl_rulings.specs.HierarchyChecks.{combinations, ruled_by}
use Rattle.vtl_rulings.proofs.HierarchiesMade.{hierarchy_kept}
use Rattle.vtl_rules.specs.ComputedItems.{made_rows}
use Rattle.vtl_rules.proofs.RunLemmas.{points_are, points_fit, seen_is}
use Rattle.vtl_rules.proofs.hierarchies.computed_table.Goals as goal

pub push_rules-requires : goal.push_rules-requires
push_rules-requires g c =
    let kind = c.in_ok-kind.ensures ∙ ap (λ (s : Structure). first_kind (measures_of s)) c.structure.ensures.structure in
    points_fit c.args.p.now c.args.manner.0 c.args.manner.1 c.args.rules.now c.args.a.now c.args.made.now c.requires.made c.structure.ensures.points c.requires.order c.in_ok-items.items c.in_ok-kind.kind c.as_slice-written.result.now c.order_of.result.now c.in_ok-run.run'.made (seen_of c.in_ok-run.run'.seen)
    c.in_ok-items.ensures kind c.as_slice-written.ensures c.order_of.ensures c.in_ok-run.ensures.made c.in_ok-run.ensures.seen c.in_ok-points.points.table.columns c.in_ok-points.ensures.columns

pub returns-clause-rows : goal.returns-clause-rows
returns-clause-rows g c =
    let p = c.args.p.now in
    let m = c.args.manner.0 in
    let i = c.args.manner.1 in
    let rules = c.args.rules.now in
    let a = c.args.a.now in
    let h = ruled_by rules a.structure in
    let kind = c.in_ok-kind.ensures ∙ ap (λ (s : Structure). first_kind (measures_of s)) c.structure.ensures.structure in
    finished (λ (t : Tabled). t.rows) c.finish.result (seen_of c.in_ok-run.run'.seen) (faults_by (λ r. faults_by (made_fault p h m i rules.rules a r) (combinations h.id a)) (definitions rules.rules)) c.push_rules.new.points.table (made_points p h m i rules.rules a) c.finish.ensures
    (seen_is p m i rules a c.args.made.now c.requires.made c.structure.ensures.points c.requires.order c.in_ok-items.items c.in_ok-kind.kind c.as_slice-written.result.now c.order_of.result.now c.in_ok-run.run'.made (seen_of c.in_ok-run.run'.seen)
    c.in_ok-items.ensures kind c.as_slice-written.ensures c.order_of.ensures c.in_ok-run.ensures.made c.in_ok-run.ensures.seen)
    (c.in_ok-push_rules.ensures.rows ∙ ap (λ l. l ++ flat_map (made_rows c.in_ok-items.items c.in_ok-run.run'.made) (definitions c.as_slice-written.result.now)) c.in_ok-points.ensures.rows
    ∙ points_are p m i rules a c.args.made.now c.requires.made c.structure.ensures.points c.requires.order c.in_ok-items.items c.in_ok-kind.kind c.as_slice-written.result.now c.order_of.result.now c.in_ok-run.run'.made (seen_of c.in_ok-run.run'.seen)
    c.in_ok-items.ensures kind c.as_slice-written.ensures c.order_of.ensures c.in_ok-run.ensures.made c.in_ok-run.ensures.seen)

pub returns-clause-table : goal.returns-clause-table
returns-clause-table g c =
    let p = c.args.p.now in
    let m = c.args.manner.0 in
    let i = c.args.manner.1 in
    let rules = c.args.rules.now in
    let a = c.args.a.now in
    let s = c.args.made.now in
    let h = ruled_by rules a.structure in
    let columns = answered_keeps (λ (t : Tabled). t.columns ≡ table_columns s) c.finish.result (seen_of c.in_ok-run.run'.seen) c.push_rules.new.points.table c.finish.ensures (c.push_rules.ensures.columns ∙ c.in_ok-points.ensures.columns) in
    answered_is_table s c.finish.result (hierarchy_of p h m i rules.rules a out.Computed s) columns (returns-clause-rows g c) (λ rows e. hierarchy_kept p h m i rules.rules a.structure s a.points c.requires.made c.structure.ensures.points out.Computed rows e)
