use Rattle.std.proofs.Common.{◌≡◌, take}
use Rattle.vtl_csv.proofs.file_column.sorted.Given as goal

abbrev pub invariant-loop-text : goal.invariant-loop-text
invariant-loop-text l = l.sorted.items ≡ take l.text-index l.texts
