use Rattle.vtl_csv.proofs.StructuresTextLemmas.{set_written}
use Rattle.vtl_csv.proofs.structures_text.write_sets.Goals as goal

pub loop-i-preserved : goal.loop-i-preserved
loop-i-preserved c =
    let all = c.args.structures.now in
    set_written all.not_null all.sets c.loop-i.i c.at.result.0.now c.at.result.1.now c.not_null-list.result.now c.as_slice.result.now c.args.writer.now c.loop-i.writer c.write_components.new.writer c.at.ensures.entry
    c.not_null-list.ensures.list c.as_slice.ensures c.loop-i.invariant c.in_ok-write_components.ensures
