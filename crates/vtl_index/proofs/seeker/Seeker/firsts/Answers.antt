use Rattle.std.proofs.Common.{◌≡◌, ◌∙◌, IfOk, ap, map, subst}
use Rattle.vtl_index.specs.Matches.{asked_keys, firsts_by}
use Rattle.vtl_index.specs.Seekers.{Sought, first_meant}
use Rattle.vtl_index.proofs.Asking.{firsts_meant}
use Rattle.vtl_index.proofs.seeker.Seeker.firsts.Goals as goal

pub returns-clause-places : goal.returns-clause-places
returns-clause-places g c =
    let x = c.self.inside.index in
    let asked = c.self.inside.asked.items in
    let rows = c.args.asking.now.rows in
    let at = ap (λ at. firsts_by x (asked_keys (record { index = x; at = at; asking = rows })) c.len.result) c.deref.ensures.value in
    let count = ap (firsts_by x (asked_keys (record { index = x; at = c.self.inside.asked.items; asking = rows }))) c.len.ensures.rows in
    let meant = firsts_meant x asked rows c.self.invariant.0 c.self.invariant.1 c.self.invariant.2 in
    let seen = ap (λ (s : Sought). map (first_meant s) rows) c.self.view_is in
    subst (λ l. IfOk c.firsts.result (λ v. v.items ≡ l)) (at ∙ count ∙ meant ∙ seen) c.firsts.ensures
