use Rattle.std.proofs.Common.{◌≡◌, map, take}
use Rattle.std.specs.Hash.FoldHasher as folding
use Rattle.std.specs.List.{fold}
use Rattle.vtl_index.specs.RowKeys.{begun, key_cell, with_cell}
use Rattle.vtl_index.proofs.row_keys.RowKey.hash.Given as goal

abbrev pub invariant-loop-at : goal.invariant-loop-at
invariant-loop-at l =
    l.state ≡ fold (with_cell folding.write) (begun l.fn.hashing) (map (key_cell l.self.p.now l.self.row.now) (take l.at-index l.self.columns.now))
