use Rattle.std.proofs.Common.{◌<◌, length, arith, sym}
use Rattle.std.proofs.lemmas.List.{append-nil}
use Rattle.csv.specs.Writing.{escaped}
use Rattle.vtl_csv.proofs.RecordTextLemmas.{escaped_more}
use Rattle.vtl_csv.proofs.record_text.push_escaped.Goals as goal

pub loop-byte-init : goal.loop-byte-init
unfolding escaped
loop-byte-init c = sym (append-nil _)

pub loop-byte-preserved : goal.loop-byte-preserved
loop-byte-preserved c =
    let h : c.loop-byte.byte-index < length c.args.field.now = omega arith in
    escaped_more c.args.text.now.items c.loop-byte.text.items _ c.args.field.now c.loop-byte.byte-index h c.loop-byte.invariant c.in_ok-push_doubled.ensures
