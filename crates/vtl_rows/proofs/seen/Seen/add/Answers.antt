use Rattle.std.proofs.Common.{ap, subst, slice_set}
use Rattle.vtl_rows.specs.Seen.{IsFree}
use Rattle.vtl_rows.proofs.SeenRows.{covered, none_ties}
use Rattle.vtl_rows.proofs.seen.Seen.add.Goals as goal

pub returns-in-Free-clause-tells : goal.returns-in-Free-clause-tells
returns-in-Free-clause-tells c =
    let keys = c.args.keys.now in
    let rows = c.args.table.now.rows in
    let slots = c.args.self.now.slots.items in
    let free = subst (λ l. IsFree keys rows l c.args.probe c.in-Free.place) c.deref.ensures.value c.in-Free.ensures in
    let free = subst (λ p. IsFree keys rows slots p c.in-Free.place) c.requires.of_row free in (
      none_ties keys rows c.args.self.now.mask c.args.probe.row slots c.requires.covers c.in-Free.place free,
      covered keys rows c.args.self.now.mask c.args.probe.row slots c.requires.covers c.in-Free.place free _ (ap (λ p. slice_set slots c.in-Free.place (record { tag = p.tag; row = c.args.probe.row })) c.requires.of_row),
    )
