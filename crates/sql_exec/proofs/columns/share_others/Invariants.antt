use Rattle.std.proofs.Common.{◌≡◌, map, drop}
use Rattle.std.specs.Prelude.{fold}
use Rattle.sql_tree.specs.View.{select_tree}
use Rattle.sql_check_parts.specs.Queries.{beside, kinds_of}
use Rattle.sql_from.specs.Held.{tables_held}
use Rattle.sql_exec.proofs.columns.share_others.Given as goal

abbrev pub invariant-loop-i : goal.invariant-loop-i
invariant-loop-i l =
    fold (λ kinds other. beside kinds (kinds_of (tables_held l.tables) other)) l.shared (map select_tree (drop l.i l.others))
    ≡ fold (λ kinds other. beside kinds (kinds_of (tables_held l.tables) other)) l.initial.shared (map select_tree l.others)
