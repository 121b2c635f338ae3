use Rattle.std.proofs.Common.{◌≡◌, ◌+◌, ◌-◌, ◌<◌, ◌∙◌, ap, arith, length, subst, sym}
use Rattle.vtl_rows.specs.Seen.{IsNewUpTo, probes_of}
use Rattle.vtl_rows.proofs.Probed.{count_is, new_so_far, of_row, repeats_first, row_is}
use Rattle.vtl_rows.proofs.repeats.repeat_in_block.Goals as goal

pub add-requires : goal.add-requires
add-requires c =
    let keys = c.args.keys.now in
    let mask = c.loop-probe.seen.mask in
    let rows = c.args.table.now.rows in
    let count = c.args.end - c.args.first in
    let probes = c.deref-probe-items.result.now in
    let probed = c.deref-probe-items.ensures.value ∙ c.in_ok-probe_rows.ensures ∙ ap (λ m. probes_of keys m rows c.args.first count) (sym c.loop-probe.invariant.same_mask) in
    let counted = count_is keys mask rows c.args.first count probes probed in
    let row = row_is keys mask rows c.args.first count probes probed c.loop-probe.probe-index (record { start = 0; tag = 0; row = 0 }) (omega arith) in
    record {
      small = omega (arith, row, counted, c.requires.small, c.requires.from);
      of_row = of_row keys mask rows c.args.first count probes probed c.loop-probe.probe-index (record { start = 0; tag = 0; row = 0 }) (omega arith);
      covers = (subst (IsNewUpTo keys rows mask c.loop-probe.seen.slots.items) (sym row) c.loop-probe.invariant.new).1;
    }

pub returns-in-Repeat : goal.returns-in-Repeat
returns-in-Repeat c =
    let keys = c.args.keys.now in
    let rows = c.args.table.now.rows in
    let count = c.args.end - c.args.first in
    let probes = c.deref-probe-items.result.now in
    let probed = c.deref-probe-items.ensures.value ∙ c.in_ok-probe_rows.ensures in
    let counted = count_is keys c.args.seen.now.mask rows c.args.first count probes probed in
    let row = row_is keys c.args.seen.now.mask rows c.args.first count probes probed c.loop-probe.probe-index (record { start = 0; tag = 0; row = 0 }) (omega arith) in
    let within : c.args.first + c.loop-probe.probe-index < length rows = omega (arith, counted, c.requires.from, c.requires.within) in
    repeats_first keys c.loop-probe.seen.mask rows c.loop-probe.seen.slots.items _ (c.args.first + c.loop-probe.probe-index) row within c.loop-probe.invariant.new c.in-Repeat.ensures.tells

pub loop-probe-preserved : goal.loop-probe-preserved
loop-probe-preserved c =
    let keys = c.args.keys.now in
    let rows = c.args.table.now.rows in
    let count = c.args.end - c.args.first in
    let probes = c.deref-probe-items.result.now in
    let probed = c.deref-probe-items.ensures.value ∙ c.in_ok-probe_rows.ensures in
    let counted = count_is keys c.args.seen.now.mask rows c.args.first count probes probed in
    let row = row_is keys c.args.seen.now.mask rows c.args.first count probes probed c.loop-probe.probe-index (record { start = 0; tag = 0; row = 0 }) (omega arith) in
    let within : c.args.first + c.loop-probe.probe-index < length rows = omega (arith, counted, c.requires.from, c.requires.within) in
    let slots = c.add.new.self.slots.items in
    record {
      same_mask = c.add.ensures.same_mask ∙ c.loop-probe.invariant.same_mask;
      new = new_so_far keys c.loop-probe.seen.mask rows c.loop-probe.seen.slots.items _ (c.args.first + c.loop-probe.probe-index) row within c.loop-probe.invariant.new slots c.add.new.self.mask _ (omega arith) c.in-New.ensures.tells;
    }

pub returns : goal.returns
returns c =
    let keys = c.args.keys.now in
    let rows = c.args.table.now.rows in
    let probed = c.deref-probe-items.ensures.value ∙ c.in_ok-probe_rows.ensures in
    let counted = count_is keys c.args.seen.now.mask rows c.args.first (c.args.end - c.args.first) c.deref-probe-items.result.now probed in
    let ended : c.args.first + c.loop-probe.probe-index ≡ c.args.end = omega (arith, counted, c.requires.from) in
    subst (IsNewUpTo keys rows c.loop-probe.seen.mask c.loop-probe.seen.slots.items) ended c.loop-probe.invariant.new
