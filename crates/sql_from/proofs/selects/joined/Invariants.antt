use Rattle.std.proofs.Common.{◌≡◌, true, drop, map}
use Rattle.sql_tree.specs.View.{join_tree, select_tree}
use Rattle.sql_from.specs.Held.{base_held}
use Rattle.vtl_scalar.specs.Seen.{seen_of}
use Rattle.sql_from.specs.Steps.{IsPlainJoin, is_listed}
use Rattle.sql_from.proofs.Counted.{Taken}
use Rattle.sql_from.proofs.Standing.{Left}
use Rattle.sql_from.proofs.selects.joined.Given as goal

abbrev pub invariant-loop-place : goal.invariant-loop-place
invariant-loop-place g l = record {
  held : l.so_far.sources.held ≡ l.tables;
  left : Left (base_held l.p l.tables) (select_tree l.select) l.early l.place (map join_tree (drop l.place l.select.joins)) l.so_far.sources l.so_far.walked.rows (seen_of l.so_far.walked.seen);
  steps : is_listed l.fn.by_index 0 ≡ true → IsPlainJoin (select_tree l.select) → Taken (base_held l.p l.tables) (select_tree l.select) l.early l.place l.so_far.sources l.so_far.walked.rows (seen_of l.so_far.walked.seen) l.fn.steps l.steps;
}
