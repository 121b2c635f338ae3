use Rattle.std.proofs.Common.{◌∷◌, [], ◌∙◌, ap, subst, sym}
use Rattle.vtl_index.proofs.Grouping.{first_apart, rows_apart}
use Rattle.vtl_index.specs.Groups.{rows_led}
use Rattle.vtl_index.specs.Members.{AreApart, IsLaidOut, leads_in}
use Rattle.vtl_index.proofs.groups.Groups.beside_at.Goals as goal

pub returns-in-Apart : goal.returns-in-Apart
returns-in-Apart c =
    let leads = c.args.self.now in
    let row = c.args.row.now in
    let seen = sym (ap leads_in c.in-Apart.is) ∙ c.self.view_is in
    let apart = subst AreApart seen (subst IsLaidOut c.in-Apart.is c.self.invariant) in
    c.from_ref.ensures.value ∙ ap (λ x. x ∷ []) (sym (apart row c.requires)) ∙ rows_apart leads apart row c.requires
    ∙ ap (rows_led leads) (first_apart leads apart row c.requires ∙ sym (apart row c.requires))
