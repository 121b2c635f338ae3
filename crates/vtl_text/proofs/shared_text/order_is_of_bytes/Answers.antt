use Rattle.vtl_text.proofs.ByteOrder.{order_of_bytes}
use Rattle.vtl_text.proofs.shared_text.order_is_of_bytes.Goals as goal

pub returns : goal.returns
returns c = λ s t. order_of_bytes s t
