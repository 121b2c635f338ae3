-- The parts of a line, without where their texts lie in memory.
use Rattle.std.specs.Prelude.{ℕ, List, flat_map}
use Rattle.vtl_status.specs.StatusLine.{Part, bytes_of, text, number}
use Rattle.vtl_status.specs.declared.status.Part.{Part as Said}
use Rattle.vtl_status.specs.declared.status.Part.TheVariants as said

abbrev pub part_view : Said → Part
part_view (said.Text t) = text t.now
part_view (said.Number n) = number n

abbrev pub said_bytes : Said → List ℕ
said_bytes part = bytes_of (part_view part)

abbrev pub all_said : List Said → List ℕ
all_said parts = flat_map said_bytes parts
