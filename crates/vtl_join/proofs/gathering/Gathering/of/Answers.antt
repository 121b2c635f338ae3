use Rattle.std.proofs.Common.{sym, subst}
use Rattle.vtl_rows.specs.Tables.{listed}
use Rattle.vtl_join.specs.Gatherings.{IsGathering}
use Rattle.vtl_join.specs.Joining.{sets_of}
use Rattle.vtl_join.proofs.Gatherings.{gathers_is, is_gathering}
use Rattle.vtl_join.proofs.gathering.Gathering.of.Goals as goal

pub returns : goal.returns
returns c = gathers_is c.in_ok-parts.parts.items (listed c.args.lead.now) (sets_of c.args.operands.now) c.args.identifiers.items c.in_ok-picks.picks.items c.args.made.now c.in_ok-parts.ensures c.in_ok-picks.ensures

pub invariant_of-result : goal.invariant_of-result
invariant_of-result c =
    let lead = listed c.args.lead.now in
    let os = c.args.operands.now in
    let ids = c.args.identifiers.items in
    let s = c.args.made.now in
    let r = c.requires in
    subst IsGathering (sym (gathers_is c.in_ok-parts.parts.items lead (sets_of os) ids c.in_ok-picks.picks.items s c.in_ok-parts.ensures c.in_ok-picks.ensures))
    (is_gathering lead os ids s c.operands_are_sets.ensures r.within r.identifiers r.well_formed r.measures r.attributes)
