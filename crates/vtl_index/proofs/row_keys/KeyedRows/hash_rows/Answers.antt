use Rattle.std.proofs.Common.{◌≡◌, ◌∙◌, ap, arith}
use Rattle.vtl_index.specs.RowKeys.{hash_by, hashes_by, keys_in}
use Rattle.vtl_index.proofs.Blocks.{no_hashes, one_hash_more}
use Rattle.vtl_index.proofs.row_keys.KeyedRows.hash_rows.Goals as goal

pub loop-i-init : goal.loop-i-init
loop-i-init c = c.clear.ensures.items ∙ no_hashes c.args.hashing (keys_in c.args.self.now) c.args.first

pub loop-i-preserved : goal.loop-i-preserved
loop-i-preserved c =
    c.in_ok-push.ensures.items
    ∙ one_hash_more c.args.hashing (keys_in c.args.self.now) c.args.first c.loop-i.i c.hash.result c.loop-i.hashes.items (omega arith) c.loop-i.invariant (c.hash.ensures ∙ ap (hash_by c.args.hashing) c.key.ensures)

pub returns : goal.returns
returns c =
    let ended : c.loop-i.i ≡ c.args.end = omega (arith, c.requires) in
    c.loop-i.invariant ∙ ap (hashes_by c.args.hashing (keys_in c.args.self.now) c.args.first) ended
