use Rattle.std.proofs.Common.{◌≡◌, false, take, sym, ap, ◌∙◌, arith}
use Rattle.std.proofs.lemmas.List.{take_all}
use Rattle.std.specs.List.{list_any}
use Rattle.vtl_index.proofs.Slots.{filled_full}
use Rattle.vtl_index.specs.Buckets.{is_free}
use Rattle.vtl_index.proofs.bucket.fill.Goals as goal

pub returns-clause-filled : goal.returns-clause-filled
returns-clause-filled c =
    let whole : take c.loop-i.i c.loop-i.slots ≡ c.loop-i.slots = take_all c.loop-i.i c.loop-i.slots (omega arith) in
    let none : list_any is_free c.args.slots.now ≡ false = ap (list_any is_free) (sym (whole ∙ c.loop-i.invariant.0)) ∙ c.loop-i.invariant.1 in
    c.loop-i.invariant.0 ∙ sym (filled_full c.args.slot c.args.slots.now none)
