use Rattle.vtl_index.proofs.RowSlotLemmas.{none_filled}
use Rattle.vtl_index.proofs.row_slots.RowSlots.new.Goals as goal

pub returns : goal.returns
returns c = none_filled _ _ _ _ _ _ c.requires c.in_ok-slots.ensures
