use Rattle.std.proofs.Common.{◌≡◌, take}
use Rattle.std.specs.Hash.FoldHasher as folding
use Rattle.std.specs.List.{fold}
use Rattle.vtl_rows.specs.Seen.{key_cells, with_cell}
use Rattle.vtl_rows.proofs.seen.hash_of.Given as goal

abbrev pub invariant-loop-key : goal.invariant-loop-key
invariant-loop-key l = l.state ≡ fold (with_cell folding.write) folding.initial (key_cells (take l.key-index l.keys) l.row)
