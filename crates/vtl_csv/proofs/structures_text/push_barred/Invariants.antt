use Rattle.std.proofs.Common.{◌≡◌, ◌++◌, flat_map, take}
use Rattle.vtl_csv.specs.StructuresText.{barred}
use Rattle.vtl_csv.proofs.structures_text.push_barred.Given as goal

abbrev pub invariant-loop-code : goal.invariant-loop-code
invariant-loop-code l = l.field.items ≡ l.initial.field.items ++ flat_map barred (take l.code-index l.codes)
