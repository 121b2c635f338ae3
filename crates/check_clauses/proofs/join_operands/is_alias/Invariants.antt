use Rattle.std.proofs.Common.{◌≡◌, drop}
use Rattle.std.specs.Prelude.{map}
use Rattle.vtl_tree.specs.Names.{is_among}
use Rattle.check_clauses.specs.JoinOperands.{aliases_in}
use Rattle.check_clauses.specs.JoinView.{part_view}
use Rattle.check_clauses.proofs.join_operands.is_alias.Given as goal

abbrev pub invariant-loop-part : goal.invariant-loop-part
invariant-loop-part l = is_among l.alias (aliases_in (map part_view (drop l.part-index l.done))) ≡ is_among l.alias (aliases_in (map part_view l.done))
