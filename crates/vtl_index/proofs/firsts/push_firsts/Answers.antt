use Rattle.std.proofs.Common.{◌∙◌, ap, arith, sym}
use Rattle.vtl_index.specs.Finders.{hashing_of}
use Rattle.vtl_index.specs.GroupedRows.{lookup_of}
use Rattle.vtl_index.specs.RowIndex.{first_found}
use Rattle.vtl_index.specs.RowKeys.{hash_by, keys_in}
use Rattle.vtl_index.proofs.Asking.{one_first_more}
use Rattle.vtl_index.proofs.Blocks.{hash_read, hashes_count}
use Rattle.vtl_index.proofs.firsts.push_firsts.Goals as goal

pub index-requires : goal.index-requires
index-requires c =
    let count = hashes_count c.hashing.result (keys_in c.args.asked.now) c.args.first c.args.end c.hash_rows.new.hashes.items c.in_ok-hash_rows.ensures in
    let long = c.hash_rows.new.hashes.ok in
    omega (arith, count, long.0)

pub first_of-requires-clause-hash : goal.first_of-requires-clause-hash
first_of-requires-clause-hash c =
    let keys = keys_in c.args.asked.now in
    hash_read c.hashing.result keys c.args.first c.args.end c.hash_rows.new.hashes.items c.in_ok-hash_rows.ensures c.loop-i.i c.index.result.now (omega arith) (omega arith) c.index.ensures
    ∙ ap (λ hashing. hash_by hashing (keys c.loop-i.i)) c.hashing.ensures ∙ ap (hash_by (hashing_of c.args.finder.now)) (sym c.key.ensures)

pub loop-i-preserved : goal.loop-i-preserved
loop-i-preserved c =
    let x = lookup_of c.args.rows.now in
    c.in_ok-push.ensures.items ∙ one_first_more x (keys_in c.args.asked.now) c.loop-i.i c.first_of.result c.loop-i.firsts.items c.loop-i.invariant (c.first_of.ensures ∙ ap (first_found x) c.key.ensures)
