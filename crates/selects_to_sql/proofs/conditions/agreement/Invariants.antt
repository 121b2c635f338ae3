use Rattle.std.proofs.Common.{◌≡◌, map, take}
use Rattle.vtl_tree.specs.Shown.{shown}
use Rattle.sql_tree.specs.View.{expr_tree}
use Rattle.selects_to_sql.specs.PairItems.{agreement_on}
use Rattle.selects_to_sql.proofs.conditions.agreement.Given as goal

abbrev pub invariant-loop-identifier : goal.invariant-loop-identifier
invariant-loop-identifier l = map expr_tree l.conditions.items ≡ map (agreement_on (shown l.columns)) (shown (take l.identifier-index l.identifiers))
