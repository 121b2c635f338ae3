use Rattle.vtl_syntax.proofs.DepthLemmas.{deeper, rule_depth, some_depth}
use Rattle.vtl_syntax.proofs.laws.trees_have_a_depth.Goals as goal

pub returns : goal.returns
returns c = record { some = some_depth; brackets = deeper; rules = rule_depth }
