use Rattle.vtl_index.specs.RowKeys.{count_in, key_of, keys_in}
use Rattle.vtl_index.proofs.RowSlotLemmas.{free_finds, held_finds, unknown_finds}
use Rattle.vtl_index.proofs.row_slots.RowSlots.find.Goals as goal

pub returns-in-Held : goal.returns-in-Held
returns-in-Held c =
    let t = c.args.self.now in
    held_finds t.hashing (keys_in c.args.keyed.now) (count_in c.args.keyed.now) t.mask t.slots.items c.requires.filled (key_of c.args.key.now) c.in-Held.row c.in-Held.ensures

pub returns-in-Free : goal.returns-in-Free
returns-in-Free c =
    let t = c.args.self.now in
    free_finds t.hashing (keys_in c.args.keyed.now) (count_in c.args.keyed.now) t.mask t.slots.items c.requires.filled (key_of c.args.key.now) _ c.in-Free.ensures

pub returns-in-Unknown : goal.returns-in-Unknown
returns-in-Unknown c =
    let t = c.args.self.now in
    unknown_finds t.hashing (keys_in c.args.keyed.now) (count_in c.args.keyed.now) t.mask t.slots.items c.requires.filled (key_of c.args.key.now) c.in-Unknown.ensures
