use Rattle.std.proofs.Common.{refl}
use Rattle.sql_from.proofs.Tied.{implied_more, implied_still, tied_more}
use Rattle.sql_from.proofs.ties.push_tie.Goals as goal

pub returns-in_ok-push-in-Some-clause-implied : goal.returns-in_ok-push-in-Some-clause-implied
returns-in_ok-push-in-Some-clause-implied c ties =
    implied_more c.args.sources.now c.args.lead c.args.tie c.args.keys.now.items c.push.new.self.items ties c.in-Some.pair c.in-Some.ensures c.in_ok-push-in-Some.ensures.items

pub returns-in_ok-push-in-Some-clause-tied : goal.returns-in_ok-push-in-Some-clause-tied
returns-in_ok-push-in-Some-clause-tied c e ties =
    tied_more c.args.sources.now c.args.lead c.args.tie c.args.keys.now.items c.push.new.self.items ties c.in-Some.pair c.in-Some.ensures c.in_ok-push-in-Some.ensures.items

pub returns-in-None-clause-implied : goal.returns-in-None-clause-implied
returns-in-None-clause-implied c ties = implied_still c.args.sources.now c.args.lead c.args.tie c.args.keys.now.items c.args.keys.now.items ties refl
