use Rattle.std.proofs.Common.{◌++◌, ap, sym, ◌∙◌}
use Rattle.std.proofs.lemmas.Result.{on_ok_weaker}
use Rattle.vtl_cell.specs.Row.{column_of}
use Rattle.vtl_frames.specs.Framed.{at_each}
use Rattle.vtl_frames.specs.declared.picks.End.TheVariants as ends
use Rattle.sql_meaning.specs.Windows.{value_in}
use Rattle.vtl_frames.specs.Lent.{cells_in}
use Rattle.sql_window.proofs.CallLemmas.{end_values}
use Rattle.sql_window.proofs.calls.push_value.Goals as goal

pub returns-in-FirstValue : goal.returns-in-FirstValue
returns-in-FirstValue c =
    let p = c.args.p.now in
    let f = c.args.frame.now in
    let cells = cells_in c.args.lane.now in
    on_ok_weaker c.push_ends.result
    (λ e. e ∙ ap (λ l. c.args.out.now.items ++ l) (end_values p f ends.First c.frame_of.result cells c.frame_of.ensures ∙ ap (λ o. at_each (λ i. value_in p f o (column_of i cells) i cells) cells) (sym c.in-FirstValue.is)))
    c.push_ends.ensures.ok

pub returns-in-LastValue : goal.returns-in-LastValue
returns-in-LastValue c =
    let p = c.args.p.now in
    let f = c.args.frame.now in
    let cells = cells_in c.args.lane.now in
    on_ok_weaker c.push_ends-in-LastValue.result
    (λ e. e ∙ ap (λ l. c.args.out.now.items ++ l) (end_values p f ends.Last c.frame_of-in-LastValue.result cells c.frame_of-in-LastValue.ensures ∙ ap (λ o. at_each (λ i. value_in p f o (column_of i cells) i cells) cells) (sym c.in-LastValue.is)))
    c.push_ends-in-LastValue.ensures.ok
