use Rattle.std.proofs.Common.{◌+◌, ◌∙◌, ap, set, subst, sym}
use Rattle.vtl_index.specs.RowKeys.{count_in, keys_in, tag_of}
use Rattle.vtl_index.specs.RowSlots.{IsFilled, IsFree, IsHeld}
use Rattle.vtl_index.proofs.RowSlotLemmas.{held_first, one_more, put_filled, put_first}
use Rattle.vtl_index.proofs.row_slots.RowSlots.meet.Goals as goal

pub returns-in-Held-clause-meets : goal.returns-in-Held-clause-meets
returns-in-Held-clause-meets c =
    let keys = keys_in c.args.keyed.now in
    let n = count_in c.args.keyed.now in
    let t = c.args.self.now in
    let held = subst (λ k. IsHeld t.hashing keys n t.mask t.slots.items k c.in-Held.row) c.key-key.ensures c.in-Held.ensures in (
      held_first t.hashing keys n t.mask t.slots.items c.args.i c.requires.filled (keys c.args.i) c.in-Held.row held,
      one_more t.hashing keys n t.mask t.slots.items c.args.i c.requires.filled held.stands,
    )

pub returns-else-self-eq0-clause-meets : goal.returns-else-self-eq0-clause-meets
returns-else-self-eq0-clause-meets c =
    let keys = keys_in c.args.keyed.now in
    let n = count_in c.args.keyed.now in
    let t = c.args.self.now in
    let free = subst (λ k. IsFree t.hashing keys n t.mask t.slots.items k c.in-Free.place) c.key-key.ensures c.in-Free.ensures in
    let tag = c.tag_of.ensures ∙ ap tag_of c.requires.hash in (
      put_first t.hashing keys n t.mask t.slots.items c.args.i c.requires.filled c.requires.within c.in-Free.place free,
      subst (λ tag. IsFilled t.hashing keys n t.mask (set t.slots.items c.in-Free.place (record { tag = tag; row = c.args.i })) (c.args.i + 1)) (sym tag)
          (put_filled t.hashing keys n t.mask t.slots.items c.args.i c.requires.filled c.requires.within c.in-Free.place free),
    )
