use Rattle.std.proofs.Common.{◌≤◌, ◌∙◌, ap, arith, length, map, sym}
use Rattle.std.proofs.lemmas.List.{take_all}
use Rattle.std.proofs.lemmas.List.Sums.{fold-append}
use Rattle.std.specs.Hash.FoldHasher as folding
use Rattle.std.specs.List.{fold}
use Rattle.vtl_index.specs.RowKeys.{begun, cells_hash, key_cell, key_of, salt_of, with_cell}
use Rattle.vtl_index.proofs.row_keys.RowKey.hash.Goals as goal

pub returns : goal.returns
unfolding cells_hash
returns c =
    let ended : length c.args.self.now.columns.now ≤ c.loop-at.at-index = omega arith in
    c.finish.ensures
    ∙ ap folding.finish (c.loop-at.invariant ∙ ap (λ columns. fold (with_cell folding.write) (begun c.args.hashing) (map (key_cell c.args.self.now.p.now c.args.self.now.row.now) columns)) (take_all c.loop-at.at-index c.args.self.now.columns.now ended)
    ∙ sym (fold-append (with_cell folding.write) folding.initial (salt_of c.args.hashing) (key_of c.args.self.now)))
