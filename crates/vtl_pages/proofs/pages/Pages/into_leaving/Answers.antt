use Rattle.std.proofs.Common.{sym, ◌∙◌, subst}
use Rattle.vtl_pages.specs.Laid.{IsLaid}
use Rattle.vtl_pages.proofs.Lays.{items_seen, room_is}
use Rattle.vtl_pages.proofs.pages.Pages.into_leaving.Goals as goal

pub into_leaving-requires : goal.into_leaving-requires
into_leaving-requires g c =
    let p = c.self.inside in let inv = c.self.invariant.0 in
    subst (λ r. IsLaid p.store.places p.len r) (sym (room_is p.store.places p.len p.room inv)) inv

pub returns : goal.returns
returns g c = c.into_leaving.ensures ∙ items_seen c.self.view_is
