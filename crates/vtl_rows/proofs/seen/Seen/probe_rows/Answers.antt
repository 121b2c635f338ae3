use Rattle.std.proofs.Common.{◌≡◌, ◌-◌, ◌∙◌, ap, arith}
use Rattle.vtl_rows.specs.Seen.{probe_of, probes_of}
use Rattle.vtl_rows.proofs.Probed.{one_more}
use Rattle.vtl_rows.proofs.seen.Seen.probe_rows.Goals as goal

pub loop-i-preserved : goal.loop-i-preserved
loop-i-preserved c =
    let keys = c.args.keys.now in
    let mask = c.args.self.now.mask in
    let probe = c.probe_of.ensures ∙ ap (λ row. probe_of keys mask row c.loop-i.i) c.row_or_none.ensures in
    one_more keys mask c.args.table.now.rows c.args.first _ _ c.loop-i.invariant c.loop-i.i _ (omega arith) (omega arith) _ probe _ c.in_ok-push.ensures.items

pub returns : goal.returns
returns c =
    let ended : c.loop-i.i - c.args.first ≡ c.args.end - c.args.first = omega (arith, c.requires) in
    c.loop-i.invariant ∙ ap (probes_of c.args.keys.now c.args.self.now.mask c.args.table.now.rows c.args.first) ended
