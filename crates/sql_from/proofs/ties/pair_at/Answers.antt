use Rattle.sql_from.proofs.Spots.{inner_first, inner_second}
use Rattle.sql_from.proofs.ties.pair_at.Goals as goal

pub returns-then-pick-lead : goal.returns-then-pick-lead
returns-then-pick-lead c = record {
  inner = inner_first c.args.sources.now c.args.lead c.args.own c.args.place c.in_ok-pick.pick c.in_ok-pick.ensures c.if-pick-lead.true;
  outer = inner_second c.args.sources.now c.args.lead c.args.own c.args.place c.in_ok-pick.pick c.in_ok-pick.ensures c.if-pick-lead.true;
}
