use Rattle.std.proofs.Common.{ap, is_some, ◌∙◌}
use Rattle.vtl_text.proofs.NamedItems.{place_of_key}
use Rattle.vtl_text.proofs.by_name.ByName.has.Goals as goal

pub returns : goal.returns
returns g c = c.is_some.ensures ∙ ap is_some c.place.ensures ∙ place_of_key c.args.name.now c.args.self.now
