use Rattle.std.proofs.Common.{sym, ◌∙◌}
use Rattle.vtl_text.proofs.ByteOrder.{order_of_bytes}
use Rattle.vtl_text.proofs.shared_text.TxtOrd.cmp.Goals as goal

pub returns : goal.returns
returns c = rw (← c.as_str.ensures.bytes, ← c.as_str-2.ensures.bytes) c.cmp.ensures ∙ sym (order_of_bytes c.args.self.now c.args.other.now)
