use Rattle.std.proofs.Common.{◌<◌, length, get_or, sym, ap, ◌∙◌, subst}
use Rattle.vtl_pages.proofs.Lays.{item_is, item_there, items_seen}
use Rattle.vtl_pages.proofs.pages.Pages.get.Goals as goal

pub get_at-requires : goal.get_at-requires
get_at-requires g c =
    let p = c.self.inside in
    item_there p.store.places p.len p.room c.self.invariant.0 c.args.i (subst (λ l. c.args.i < length l) (sym (items_seen c.self.view_is)) c.requires)

pub returns : goal.returns
returns g c =
    let p = c.self.inside in let items = items_seen c.self.view_is in
    item_is p.store.places p.len p.room c.self.invariant.0 c.args.i c.get_at.result.now (subst (λ l. c.args.i < length l) (sym items) c.requires) c.get_at.ensures
    ∙ ap (λ l. get_or l c.args.i c.get_at.result.now) items
