use Rattle.std.proofs.Common.{◌≡◌, ◌<◌}
use Rattle.vtl_syntax.specs.declared.word_groups.JoinKind.TheVariants as join
use Rattle.vtl_tree.specs.Shown.{shown}
use Rattle.vtl_meaning.specs.Joined.{reference_place}
use Rattle.joins_to_sql.proofs.join_operands.left_over.Given as goal

abbrev pub invariant-loop-i : goal.invariant-loop-i
invariant-loop-i l = record {
  before : l.left < l.i;
  there : reference_place join.Inner (shown l.structures) < l.i → l.left ≡ reference_place join.Inner (shown l.structures);
}
