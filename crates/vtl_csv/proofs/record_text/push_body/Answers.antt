use Rattle.vtl_csv.proofs.RecordTextLemmas.{row_more}
use Rattle.vtl_csv.proofs.record_text.push_body.Goals as goal

pub loop-i-preserved : goal.loop-i-preserved
loop-i-preserved c =
    row_more c.args.profile.now c.args.row.now c.loop-i.i c.index-row-i.result c.args.text.now.items c.loop-i.text.items c.push_separator.new.text.items _ c.loop-i-test.true c.index-row-i.is c.loop-i.invariant c.in_ok-push_separator.ensures c.in_ok-push_cell_text.ensures
