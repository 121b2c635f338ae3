use Rattle.std.proofs.Common.{◌∙◌, ap, length, subst, sym}
use Rattle.vtl_index.proofs.Grouping.{count_apart}
use Rattle.vtl_index.specs.Members.{AreApart, IsLaidOut, leads_in}
use Rattle.vtl_index.proofs.groups.Groups.len.Goals as goal

pub returns-in-Apart : goal.returns-in-Apart
returns-in-Apart c =
    let seen = sym (ap leads_in c.in-Apart.is) ∙ c.self.view_is in
    c.len.ensures ∙ c.in-Apart.rows.ok.0 ∙ ap length seen ∙ count_apart c.args.self.now (subst AreApart seen (subst IsLaidOut c.in-Apart.is c.self.invariant))
