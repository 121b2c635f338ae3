use Rattle.std.proofs.Common.{◌≡◌, [], take}
use Rattle.csv.specs.Records.{fields_of, partial_of}
use Rattle.vtl_csv.specs.PlainLines.{slices_shown}
use Rattle.vtl_csv.proofs.structures_text.push_fields.Given as goal

abbrev pub invariant-loop-field : goal.invariant-loop-field
invariant-loop-field l = (fields_of l.record ≡ slices_shown (take l.field-index l.fields)) × (partial_of l.record ≡ [])
