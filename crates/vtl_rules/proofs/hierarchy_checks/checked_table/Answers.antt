use Rattle.std.proofs.Common.{◌≡◌, ◌<◌, ◌≤◌, ◌∙◌, List, length, ap}
use Rattle.std.specs.List.{flat_map}
use Rattle.vtl_cell.specs.Outcome.{faults_by}
use Rattle.vtl_rows.specs.Tables.{Tabled}
use Rattle.vtl_scalar.specs.Seen.{seen_of}
use Rattle.vtl_syntax.specs.declared.statements.HierRule.{HierRule}
use Rattle.vtl_tree.specs.ClauseShapes.{first_kind}
use Rattle.vtl_tree.specs.Columns.{measures_of}
use Rattle.vtl_tree.specs.declared.structure.Structure.{Structure}
use Rattle.vtl_sets.specs.TableOf.{table_columns}
use Rattle.vtl_sets.proofs.TableLemmas.{answered_is_table}
use Rattle.vtl_expr.proofs.PointLemmas.{answered_keeps, finished}
use Rattle.vtl_rulings.specs.HierarchyChecks.{check_hierarchy_of, ruled_by, sided_rules}
use Rattle.vtl_rulings.proofs.HierarchiesKept.{check_hierarchy_kept}
use Rattle.vtl_rules.proofs.SideLemmas.{all_sided, fault, next_faults, next_fits, next_rows, points}
use Rattle.vtl_rules.proofs.hierarchy_checks.checked_table.Goals as goal

pub push_rule-requires : goal.push_rule-requires
push_rule-requires g c =
    let within : c.loop-i.i < length c.as_slice-written.result.now = c.loop-i-test.true in
    next_fits c.args.p.now c.args.out c.args.mode c.args.rules.now c.args.a.now c.args.made.now c.requires.made c.structure.ensures.points c.as_slice-written.result.now c.loop-i.i c.index-written-i.result c.in_ok-items.items c.in_ok-kind.kind c.in_ok-rule.rule
    c.as_slice-written.ensures within c.index-written-i.is c.in_ok-items.ensures (c.in_ok-kind.ensures ∙ ap (λ (s : Structure). first_kind (measures_of s)) c.structure.ensures.structure) c.in_ok-rule.ensures c.loop-i.points.table.columns c.loop-i.invariant.columns

pub loop-i-preserved : goal.loop-i-preserved
loop-i-preserved g c =
    let within : c.loop-i.i < length c.as_slice-written.result.now = c.loop-i-test.true in
    let kind = c.in_ok-kind.ensures ∙ ap (λ (s : Structure). first_kind (measures_of s)) c.structure.ensures.structure in
    record {
      columns = c.push_rule.ensures.columns ∙ c.loop-i.invariant.columns;
      rows =
          next_rows c.args.p.now c.args.out c.args.mode c.args.rules.now c.args.a.now c.args.made.now c.requires.made c.structure.ensures.points c.as_slice-written.result.now c.loop-i.i c.index-written-i.result c.in_ok-items.items c.in_ok-kind.kind c.in_ok-rule.rule
          c.as_slice-written.ensures within c.index-written-i.is c.in_ok-items.ensures kind c.in_ok-rule.ensures c.loop-i.points.table.rows c.push_rule.new.points.table.rows c.loop-i.invariant.rows c.in_ok-push_rule.ensures.rows;
      seen =
          next_faults c.args.p.now c.args.out c.args.mode c.args.rules.now c.args.a.now c.args.made.now c.requires.made c.structure.ensures.points c.as_slice-written.result.now c.loop-i.i c.index-written-i.result c.in_ok-items.items c.in_ok-kind.kind c.in_ok-rule.rule
          c.as_slice-written.ensures within c.index-written-i.is c.in_ok-items.ensures kind c.in_ok-rule.ensures (seen_of c.loop-i.points.seen) (seen_of c.push_rule.new.points.seen) c.loop-i.invariant.seen c.in_ok-push_rule.ensures.seen;
    }

pub returns-clause-rows : goal.returns-clause-rows
returns-clause-rows g c =
    let p = c.args.p.now in
    let o = c.args.out in
    let m = c.args.mode in
    let rules = c.args.rules.now in
    let a = c.args.a.now in
    let s = c.args.made.now in
    let of_rule = points p o m rules a s c.requires.made c.structure.ensures.points in
    let of_fault = fault p o m rules a s c.requires.made c.structure.ensures.points in
    let written = c.as_slice-written.result.now in
    let past : length written ≤ c.loop-i.i = c.loop-i-test.false in
    let whole = all_sided written c.loop-i.i past ∙ ap (λ (l : List HierRule). sided_rules l) c.as_slice-written.ensures in
    finished (λ (t : Tabled). t.rows) c.finish.result (seen_of c.loop-i.points.seen) (faults_by of_fault (sided_rules rules.rules)) c.loop-i.points.table (flat_map of_rule (sided_rules rules.rules)) c.finish.ensures
    (c.loop-i.invariant.seen ∙ ap (faults_by of_fault) whole) (c.loop-i.invariant.rows ∙ ap (flat_map of_rule) whole)

pub returns-clause-table : goal.returns-clause-table
returns-clause-table g c =
    let p = c.args.p.now in
    let o = c.args.out in
    let m = c.args.mode in
    let rules = c.args.rules.now in
    let a = c.args.a.now in
    let s = c.args.made.now in
    let h = ruled_by rules a.structure in
    let columns = answered_keeps (λ (t : Tabled). t.columns ≡ table_columns s) c.finish.result (seen_of c.loop-i.points.seen) c.loop-i.points.table c.finish.ensures c.loop-i.invariant.columns in
    answered_is_table s c.finish.result (check_hierarchy_of p o h m a rules.rules) columns (returns-clause-rows g c) (λ out e. check_hierarchy_kept p o h m rules.rules a.structure s a.points c.requires.made c.structure.ensures.points out e)
