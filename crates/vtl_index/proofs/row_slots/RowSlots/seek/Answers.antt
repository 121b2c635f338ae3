use Rattle.std.proofs.Common.{◌∙◌, arith, sym}
use Rattle.std.proofs.lemmas.List.{get_or_read}
use Rattle.vtl_index.specs.RowKeys.{count_in, key_of, keys_in}
use Rattle.vtl_index.proofs.RowSlotLemmas.{held_now}
use Rattle.vtl_index.proofs.row_slots.RowSlots.seek.Goals as goal

pub returns-then-has : goal.returns-then-has
returns-then-has c =
    let t = c.args.self.now in
    let read = get_or_read t.slots.items c.loop-place.place c.index-slot.result.now (omega arith) c.index-slot.ensures (record { tag = 0; row = 0 }) in
    held_now t.hashing (keys_in c.args.keyed.now) (count_in c.args.keyed.now) t.mask t.slots.items (key_of c.args.key.now) c.args.hash c.requires c.loop-place.place c.index-slot.result.now read
    (omega arith) (omega arith) (omega arith) (c.if-slot-tag.true ∙ c.tag_of-tag.ensures) (sym c.has.ensures ∙ c.if-has.true) c.loop-place.invariant.0
