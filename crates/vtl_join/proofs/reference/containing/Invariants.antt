use Rattle.std.proofs.Common.{◌≡◌, ◌<◌}
use Rattle.vtl_syntax.specs.declared.word_groups.JoinKind.TheVariants as join
use Rattle.vtl_meaning.specs.Joined.{reference_place, structures_of}
use Rattle.vtl_join.specs.Joining.{sets_of}
use Rattle.vtl_join.proofs.reference.containing.Given as goal

abbrev pub invariant-loop-i : goal.invariant-loop-i
invariant-loop-i l = record {
  before : l.left < l.i;
  there : reference_place join.Inner (structures_of (sets_of l.operands)) < l.i → l.left ≡ reference_place join.Inner (structures_of (sets_of l.operands));
}
