use Rattle.std.proofs.Common.{◌≡◌, take}
use Rattle.std.specs.List.{flat_map, filter_map}
use Rattle.vtl_cell.specs.Outcome.{faults_by}
use Rattle.vtl_scalar.specs.Seen.{seen_of}
use Rattle.vtl_sets.specs.TableOf.{table_columns}
use Rattle.vtl_rulings.specs.HierarchyChecks.{check_fault, check_point, combinations, items_at, ruled_by, sided_rules}
use Rattle.vtl_rules.proofs.hierarchy_checks.checked_table.Given as goal

abbrev pub invariant-loop-i : goal.invariant-loop-i
invariant-loop-i g l =
    let h = ruled_by l.rules l.a.structure in
    record {
      columns : l.points.table.columns ≡ table_columns l.made;
      rows : l.points.table.rows ≡ flat_map (λ rule. filter_map (check_point l.p l.fn.out h l.fn.mode l.a rule) (combinations h.id l.a)) (take l.i (sided_rules l.written));
      seen : seen_of l.points.seen ≡ faults_by (λ rule. faults_by (λ k. check_fault l.p l.fn.mode h.kind (items_at h l.a k) rule.1) (combinations h.id l.a)) (take l.i (sided_rules l.written));
    }
