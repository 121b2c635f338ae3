use Rattle.std.proofs.Common.{◌∙◌, ◌-◌, ap}
use Rattle.sql_from.proofs.Spots.{own_first, own_second}
use Rattle.sql_from.proofs.key_pairs.key_pair.Goals.{else-a-last-via-then-a-last+else-b-lead, else-a-last-via-else-a-last}
use Rattle.sql_from.proofs.key_pairs.key_pair.Goals as goal

pub returns-then-b-lead-clause-pair : goal.returns-then-b-lead-clause-pair
returns-then-b-lead-clause-pair c =
    own_first c.args.sources.now c.args.lead c.requires c.args.x.now c.args.y.now c.in_ok-a.a c.in_ok-b.b c.in_ok-a.ensures.cell c.in_ok-b.ensures.cell (c.if-a-last.true ∙ ap (λ n. n - 1) c.len-last.ensures.count) c.if-b-lead.true

pub returns-then-a-lead-clause-pair : goal.returns-then-a-lead-clause-pair
returns-then-a-lead-clause-pair c =
    own_second c.args.sources.now c.args.lead c.requires c.args.x.now c.args.y.now c.in_ok-a.a c.in_ok-b.b c.in_ok-a.ensures.cell c.in_ok-b.ensures.cell (c.if-b-last.true ∙ ap (λ n. n - 1) c.len-last.ensures.count) c.if-a-lead.true
