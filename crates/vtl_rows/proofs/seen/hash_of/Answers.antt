use Rattle.std.proofs.Common.{◌≤◌, ◌∙◌, ap, arith, length}
use Rattle.std.proofs.lemmas.List.{take_all}
use Rattle.std.specs.Hash.FoldHasher as folding
use Rattle.std.specs.List.{fold}
use Rattle.vtl_rows.specs.Seen.{key_cells, row_hash, with_cell}
use Rattle.vtl_rows.proofs.seen.hash_of.Goals as goal

pub returns : goal.returns
unfolding row_hash
returns c =
    let ended : length c.args.keys.now ≤ c.loop-key.key-index = omega arith in
    c.finish.ensures ∙ ap folding.finish (c.loop-key.invariant ∙ ap (λ keys. fold (with_cell folding.write) folding.initial (key_cells keys c.args.row.now)) (take_all c.loop-key.key-index c.args.keys.now ended))
