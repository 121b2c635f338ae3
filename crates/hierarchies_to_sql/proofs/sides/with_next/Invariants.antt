use Rattle.std.proofs.Common.{◌≡◌, drop, map}
use Rattle.sql_tree.specs.View.{expr_tree}
use Rattle.hierarchies_to_sql.specs.RuleItems.{leaf_of}
use Rattle.hierarchies_to_sql.specs.SideItems.{counted_as, next_as}
use Rattle.hierarchies_to_sql.proofs.sides.with_next.Given as goal

abbrev pub invariant-loop-i : goal.invariant-loop-i
invariant-loop-i l =
    next_as (expr_tree l.total) (drop l.i l.signed) (map (λ alias. counted_as l.writer l.mode l.measured.kind (leaf_of l.measured alias)) (drop l.i l.aliases))
    ≡ next_as (expr_tree l.fn.total) l.signed (map (λ alias. counted_as l.writer l.mode l.measured.kind (leaf_of l.measured alias)) l.aliases)
