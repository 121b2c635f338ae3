use Rattle.std.proofs.Common.{◌∙◌, ap, arith, subst, sym}
use Rattle.vtl_index.proofs.Grouping.{count_apart, first_apart}
use Rattle.vtl_index.specs.Members.{AreApart, IsLaidOut, leads_in}
use Rattle.vtl_index.proofs.groups.Groups.of.Goals as goal

pub returns-in-Apart-clause-within : goal.returns-in-Apart-clause-within
returns-in-Apart-clause-within c =
    let seen = sym (ap leads_in c.in-Apart.is) ∙ c.self.view_is in
    let apart = subst AreApart seen (subst IsLaidOut c.in-Apart.is c.self.invariant) in
    let count = count_apart c.args.self.now apart in
    let row = c.requires in
    omega (arith, count, row)

pub returns-in-Apart-clause-led : goal.returns-in-Apart-clause-led
returns-in-Apart-clause-led c =
    let seen = sym (ap leads_in c.in-Apart.is) ∙ c.self.view_is in
    let apart = subst AreApart seen (subst IsLaidOut c.in-Apart.is c.self.invariant) in
    first_apart c.args.self.now apart c.args.row c.requires ∙ sym (apart c.args.row c.requires)
