use Rattle.std.proofs.Common.{List, subst}
use Rattle.std.proofs.lemmas.List.{get_or_default, take_all}
use Rattle.sql_eval.specs.declared.resolved.Tie.{Tie}
use Rattle.sql_from.specs.KeyPartners.{AreTiedAs}
use Rattle.sql_from.proofs.KeyFound.{tied_as_more}
use Rattle.sql_from.proofs.key_index.tied_pairs.Goals as goal

pub loop-tie-preserved : goal.loop-tie-preserved
loop-tie-preserved c = tied_as_more c.args.ties.now c.loop-tie.tie-index _ c.loop-tie.keys.items c.push.new.self.items c.in-Some.pair c.loop-tie-test.true (get_or_default c.args.ties.now c.loop-tie.tie-index _ _ c.loop-tie-test.true) c.loop-tie.invariant c.in-Some.ensures c.in_ok-push-in-Some.ensures.items

pub returns : goal.returns
returns c = subst (λ (ties : List Tie). AreTiedAs ties c.loop-tie.keys.items) (take_all c.loop-tie.tie-index c.args.ties.now c.loop-tie-test.false) c.loop-tie.invariant
