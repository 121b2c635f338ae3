use Rattle.std.proofs.Common.{◌∙◌, ◌%◌, ◌/◌, ◌*◌, length, take, drop, ap, sym}
use Rattle.vtl_rows.proofs.CopiedRows.{one_more_copied, whole_before}
use Rattle.vtl_rows.proofs.copies.copied.Goals as goal

pub push_run-requires-clause-whole_runs : goal.push_run-requires-clause-whole_runs
push_run-requires-clause-whole_runs c =
    let whole = ap (λ w. length c.args.pages.now.items % w) c.width-width.ensures ∙ c.requires.whole in
    whole_before c.args.pages.now.items c.width-width.result _ whole (ap (λ l. l / c.width-width.result) c.len.ensures.items) c.loop-i.i c.loop-i.copy c.loop-i.row.items c.loop-i.invariant c.loop-i-test.true

pub loop-i-preserved : goal.loop-i-preserved
loop-i-preserved c =
    let whole = ap (λ w. length c.args.pages.now.items % w) c.width-width.ensures ∙ c.requires.whole in
    let run = c.run.ensures ∙ ap (λ w. take w (drop (c.loop-i.i * w) c.args.pages.now.items)) (sym c.width-width.ensures) in
    one_more_copied c.args.pages.now.items c.width-width.result _ whole (ap (λ l. l / c.width-width.result) c.len.ensures.items) c.loop-i.i c.loop-i.copy c.loop-i.row.items c.loop-i.invariant c.loop-i-test.true
    c.append_copies.new.cells.items c.run.result.now c.push_run.new.self c.push_run.new.run.items run c.in_ok-append_copies.ensures c.push_run.ensures.pages c.push_run.ensures.run
