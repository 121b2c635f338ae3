use Rattle.std.proofs.Common.{arith, sym}
use Rattle.vtl_text.proofs.NamedItems.{item_found, no_place, place_within}
use Rattle.vtl_text.proofs.by_name.ByName.get.Goals as goal

pub returns-in_err-place : goal.returns-in_err-place
returns-in_err-place g c = rw c.from_residual.ensures (sym (no_place c.args.name.now c.args.self.now (sym c.in_err-place.ensures)))

pub index-requires : goal.index-requires
index-requires g c =
    let within = place_within c.args.name.now c.args.self.now c.self.inside.entries.items c.in_ok-place.place c.self.view_is c.in_ok-place.ensures in
    omega (arith, within, c.self.inside.entries.ok.0)

pub returns : goal.returns
returns g c = item_found c.args.name.now c.args.self.now c.self.inside.entries.items c.in_ok-place.place c.self.view_is c.in_ok-place.ensures c.index.result.now c.index.ensures
