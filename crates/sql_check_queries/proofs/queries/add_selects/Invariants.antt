use Rattle.std.proofs.Common.{◌≡◌, ◌&&◌, drop, map}
use Rattle.std.specs.List.{flat_map, fold, list_all}
use Rattle.sql_tree.specs.View.{select_tree}
use Rattle.sql_check_parts.specs.Queries.{beside, kinds_of, names_of, same_names, select_breaks}
use Rattle.sql_check_parts.specs.Rules.{least, lesser}
use Rattle.sql_check_queries.proofs.queries.add_selects.Given as goal

abbrev pub invariant-loop-other : goal.invariant-loop-other
invariant-loop-other l =
    let left = map select_tree (drop l.other-index l.selects) in
    let all = map select_tree l.selects in
    let u = l.initial.union in
    record {
      names : l.union.names ≡ u.names;
      shared : fold (λ shared other. beside shared (kinds_of l.tables other)) l.union.shared.items left ≡ fold (λ shared other. beside shared (kinds_of l.tables other)) u.shared.items all;
      same : (l.union.same_names && list_all (λ s. same_names u.names (names_of s)) left) ≡ (u.same_names && list_all (λ s. same_names u.names (names_of s)) all);
      fault : lesser l.union.fault (least (flat_map (select_breaks l.profile l.tables) left)) ≡ lesser u.fault (least (flat_map (select_breaks l.profile l.tables) all));
    }
