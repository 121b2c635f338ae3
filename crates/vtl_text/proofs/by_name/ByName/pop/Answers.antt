use Rattle.std.proofs.Common.{◌≡◌, ap, sym, ◌∙◌}
use Rattle.vtl_text.proofs.NamedItems.{named_popped}
use Rattle.vtl_text.proofs.by_name.ByName.pop.Goals as goal

-- src/by_name.rt:116:5
pub invariant_of-self-2 : goal.invariant_of-self-2
invariant_of-self-2 g c =
    named_popped c.in_ok-name.name c.in_ok-name.item c.self.inside.entries.items c.pop.new.self.items c.self.inside.places c.remove.new.self c.self.invariant c.in_ok-name.ensures.items c.remove.ensures.updates.0
