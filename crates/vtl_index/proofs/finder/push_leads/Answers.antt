use Rattle.std.proofs.Common.{◌∙◌, ap, arith, sym}
use Rattle.vtl_index.specs.RowKeys.{hash_by, key_at, keys_in}
use Rattle.vtl_index.proofs.Blocks.{hash_read, hashes_count}
use Rattle.vtl_index.proofs.LeadLemmas.{leads_more}
use Rattle.vtl_index.proofs.finder.push_leads.Goals as goal

pub index-requires : goal.index-requires
index-requires c =
    let count = hashes_count c.args.slots.now.hashing (keys_in c.args.keyed.now) c.args.first c.args.end c.hash_rows.new.hashes.items c.in_ok-hash_rows.ensures in
    let long = c.hash_rows.new.hashes.ok in
    omega (arith, count, long.0)

pub meet-requires-clause-hash : goal.meet-requires-clause-hash
meet-requires-clause-hash c =
    let keys = keys_in c.args.keyed.now in
    hash_read c.args.slots.now.hashing keys c.args.first c.args.end c.hash_rows.new.hashes.items c.in_ok-hash_rows.ensures c.loop-i.i c.index.result.now (omega arith) (omega arith) c.index.ensures
    ∙ ap (λ hashing. hash_by hashing (keys c.loop-i.i)) (sym c.loop-i.invariant.hashing)

pub loop-i-preserved : goal.loop-i-preserved
loop-i-preserved c =
    let keyed = c.args.keyed.now in
    record {
      hashing = c.meet.ensures.hashing ∙ c.loop-i.invariant.hashing;
      led = record {
        told =
            c.in_ok-push-in-Some.ensures.items
            ∙ leads_more (key_at keyed.p.now keyed.columns.now) keyed.table.now.rows c.loop-i.i c.in-Some.lead c.loop-i.leads.items (omega arith) c.loop-i.invariant.led.told c.in-Some.ensures.meets.0;
        filled = c.in-Some.ensures.meets.1;
      };
    }
