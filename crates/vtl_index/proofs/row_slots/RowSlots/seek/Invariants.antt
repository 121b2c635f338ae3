use Rattle.vtl_index.specs.RowKeys.{count_in, key_of, keys_in}
use Rattle.vtl_index.specs.RowSlots.{AreUsed, NoneMatches, start_of}
use Rattle.vtl_index.proofs.row_slots.RowSlots.seek.Given as goal

abbrev pub invariant-loop-place : goal.invariant-loop-place
invariant-loop-place l =
    AreUsed l.self.slots.items (count_in l.keyed) (start_of l.self.mask l.hash) l.place × NoneMatches l.self.hashing (keys_in l.keyed) l.self.slots.items (key_of l.key) (start_of l.self.mask l.hash) l.place
