use Rattle.std.proofs.Common.{◌≡◌, ◌∙◌, ap}
use Rattle.std.specs.Prelude.{slice_get}
use Rattle.sql_from.specs.Rows.{picks_from}
use Rattle.sql_from.specs.Sources.{parts_of}
use Rattle.sql_from.proofs.Spots.{got_copied, spot_is}
use Rattle.sql_from.proofs.sources.Sources.spot.Goals as goal

pub returns-clause-cell : goal.returns-clause-cell
returns-clause-cell c =
    let picks = c.deref.result.now in
    let are : picks ≡ picks_from 0 (parts_of c.args.self.now.sources) = c.deref.ensures.value ∙ c.self.invariant.picked ∙ ap (λ s. picks_from 0 (parts_of s.sources)) c.self.view_is in
    let h = c.get.ensures.lookup in
    spot_is c.args.self.now c.args.column.now picks c.place.result c.copied.result are c.place.ensures (c.copied.ensures ∙ got_copied c.get.result picks c.place.result h.1 h.3)

pub returns-clause-spot : goal.returns-clause-spot
returns-clause-spot c =
    let picks = c.deref.result.now in
    let are : picks ≡ picks_from 0 (parts_of c.args.self.now.sources) = c.deref.ensures.value ∙ c.self.invariant.picked ∙ ap (λ s. picks_from 0 (parts_of s.sources)) c.self.view_is in
    let h = c.get.ensures.lookup in
    c.copied.ensures ∙ got_copied c.get.result picks c.place.result h.1 h.3 ∙ (λ i. slice_get (are i) (c.place.ensures i))
