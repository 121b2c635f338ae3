use Rattle.std.proofs.Common.{◌≡◌, ◌-◌, ◌<◌, length, get_or, rules, sym, ap, ◌∙◌}
use Rattle.vtl_frames.specs.Best.{cell_in, le_of}
use Rattle.vtl_frames.proofs.BestLemmas.{last_is}
use Rattle.vtl_frames.proofs.best.Best.is_last_beaten.Goals as goal

pub returns-in-Some : goal.returns-in-Some
returns-in-Some g c =
    let cells = g.P.Partition.cells c.args.cells.now in
    let kind = c.args.self.now.kind in
    let x = c.args.c.now in
    let ks = c.args.self.now.places.items in
    let k = c.in-Some.place.now in
    let some : 0 < length ks = search rules in
    let last : k ≡ get_or ks (length ks - 1) k = search rules in
    c.is_as_good.ensures ∙ ap (le_of kind x) c.cell.ensures ∙ ap (λ j. le_of kind x (cell_in cells j)) last
    ∙ sym (last_is (λ j. le_of kind x (cell_in cells j)) ks k some)
