use Rattle.std.proofs.Common.{length, sym, ◌∙◌, ap, subst}
use Rattle.vtl_pages.specs.Laid.{IsLaid}
use Rattle.vtl_pages.specs.Places.{values}
use Rattle.vtl_pages.proofs.Spots.{places_seen}
use Rattle.vtl_pages.proofs.store.Store.into_leaving.Goals as goal

pub new-requires-clause-laid : goal.new-requires-clause-laid
new-requires-clause-laid g c = subst (λ cs. IsLaid cs c.args.len (length cs)) (sym (places_seen c.self.view_is)) c.requires

pub returns : goal.returns
returns g c = c.new.ensures ∙ ap values (places_seen c.self.view_is)
