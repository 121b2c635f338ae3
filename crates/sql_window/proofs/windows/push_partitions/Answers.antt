use Rattle.std.proofs.Common.{◌++◌, ◌≤◌, ◌<◌, [], length, get_or, map, sym, ap, subst, ◌∙◌, arith, append-nil}
use Rattle.std.specs.List.{concat}
use Rattle.std.proofs.lemmas.List.{take_all}
use Rattle.sql_from.specs.Standing.{sight_of}
use Rattle.vtl_frames.specs.Ranked.{AreInOrder}
use Rattle.vtl_frames.proofs.RunLemmas.{one_found, one_more}
use Rattle.sql_window.specs.Runs.{run_values, window_at}
use Rattle.sql_window.proofs.OrderLemmas.{stretch_order, stretch_values}
use Rattle.sql_window.proofs.windows.push_partitions.Goals as goal

pub loop-i-init : goal.loop-i-init
loop-i-init c = sym (append-nil c.args.out.now.items)

pub push_call-requires-clause-order : goal.push_call-requires-clause-order
push_call-requires-clause-order c =
    let v = sight_of c.args.p.now c.args.sources.now in
    let rows = c.args.table.now.rows in
    let cut = c.requires in
    let found = c.args.partitions.now in
    let i = c.loop-i.i in
    let one = one_found cut.partition rows cut.numbers found i cut.are (omega (arith, c.len-i-end.ensures, c.loop-i-test.true)) in
    subst (AreInOrder c.args.order.now rows) (sym c.stretch-run.ensures) (stretch_order v c.args.window.now cut.partition c.args.order.now rows (length c.args.table.now.columns) cut.numbers (get_or found i []) cut.sorted one)

pub loop-i-preserved : goal.loop-i-preserved
loop-i-preserved c =
    let v = sight_of c.args.p.now c.args.sources.now in
    let w = c.args.window.now in
    let rows = c.args.table.now.rows in
    let cut = c.requires in
    let found = c.args.partitions.now in
    let i = c.loop-i.i in
    let inside : i < length found = omega (arith, c.len-i-end.ensures, c.loop-i-test.true) in
    let one = one_found cut.partition rows cut.numbers found i cut.are inside in
    let before = c.loop-i.out.items in
    one_more (window_at v w rows) found i c.args.out.now.items before c.push_call.new.out.items inside c.loop-i.invariant
    (c.in_ok-push_call.ensures ∙ ap (λ r. before ++ run_values v w.call w.over rows r) c.stretch-run.ensures
    ∙ ap (λ l. before ++ l) (stretch_values v w cut.partition c.args.order.now rows (length c.args.table.now.columns) cut.numbers (get_or found i []) cut.sorted one))

pub returns : goal.returns
returns c =
    let v = sight_of c.args.p.now c.args.sources.now in
    let rows = c.args.table.now.rows in
    let found = c.args.partitions.now in
    let past : length found ≤ c.loop-i.i = omega (arith, c.len-i-end.ensures, c.loop-i-test.false) in
    c.loop-i.invariant ∙ ap (λ l. c.args.out.now.items ++ map (window_at v c.args.window.now rows) (concat l)) (take_all c.loop-i.i found past)
