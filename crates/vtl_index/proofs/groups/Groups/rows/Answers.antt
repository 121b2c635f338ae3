use Rattle.std.proofs.Common.{◌<◌, ◌∷◌, [], ◌∙◌, ap, arith, get_or, length, subst, sym}
use Rattle.std.proofs.lemmas.List.{get_or_default}
use Rattle.vtl_index.proofs.Grouping.{count_apart, rows_apart}
use Rattle.vtl_index.specs.Members.{AreApart, IsLaidOut, leads_in}
use Rattle.vtl_index.proofs.groups.Groups.rows.Goals as goal

pub index-requires : goal.index-requires
index-requires c =
    let seen = sym (ap leads_in c.in-Apart.is) ∙ c.self.view_is in
    let count = count_apart c.args.self.now (subst AreApart seen (subst IsLaidOut c.in-Apart.is c.self.invariant)) in
    let group = c.requires in
    let long = c.in-Apart.rows.ok in
    omega (arith, count, group, long.0, ap length seen)

pub returns-in-Apart : goal.returns-in-Apart
returns-in-Apart c =
    let seen = sym (ap leads_in c.in-Apart.is) ∙ c.self.view_is in
    let apart = subst AreApart seen (subst IsLaidOut c.in-Apart.is c.self.invariant) in
    let count = count_apart c.args.self.now apart in
    let within : c.args.group < length c.args.self.now = let group = c.requires in omega (arith, count, group) in
    let kept : c.args.group < length c.in-Apart.rows.items = omega (arith, within, ap length seen) in
    c.from_ref.ensures.value ∙ ap (λ x. x ∷ []) (c.index.ensures ∙ get_or_default c.in-Apart.rows.items c.args.group c.index.result.now 0 kept)
    ∙ ap (λ l. get_or l c.args.group 0 ∷ []) seen ∙ rows_apart c.args.self.now apart c.args.group within
