use Rattle.std.proofs.Common.{◌≡◌, ◌<◌, ◌≤◌, length, sym, ap, ◌∙◌, arith}
use Rattle.std.specs.List.{flat_map}
use Rattle.std.proofs.lemmas.List.{take_all}
use Rattle.vtl_index.specs.Groups.{firsts}
use Rattle.vtl_series.specs.Series.{keys_by, tuple_rows}
use Rattle.vtl_series.proofs.GroupLemmas.{many_keys}
use Rattle.vtl_series.proofs.SeriesLemmas.{one_more}
use Rattle.vtl_series.proofs.series.filled.Goals as goal

pub push_one_group-requires : goal.push_one_group-requires
push_one_group-requires c =
    let many = c.len-group-end.ensures in
    let inside = c.loop-group-test.true in
    record {
      periods = c.requires.periods;
      fit = c.requires.fit;
      columns = c.loop-group.invariant.columns ∙ c.requires.columns;
      groups = c.in_ok-groups.ensures;
      group = omega (arith, many, inside);
      all = c.spans_of_table-all.ensures.value;
      within = c.spans_of_table-all.ensures.within;
      empty = c.loop-group.invariant.empty;
    }

pub loop-group-preserved : goal.loop-group-preserved
loop-group-preserved c =
    let by = c.args.by.now in
    let rows = c.args.table.now.rows in
    let keys = keys_by by rows in
    let many : length keys ≡ length (firsts c.in_ok-groups.groups) = many_keys by rows ∙ ap (λ l. length (firsts l)) (sym c.in_ok-groups.ensures) in
    let inside : c.loop-group.group < length keys = omega (arith, many, c.len-group-end.ensures, c.loop-group-test.true) in
    record {
      columns = c.push_one_group.ensures.columns ∙ c.loop-group.invariant.columns;
      rows = one_more (tuple_rows c.args.extent c.args.on by rows) keys c.loop-group.group c.loop-group.rows.rows c.push_one_group.new.rows.rows inside c.loop-group.invariant.rows c.in_ok-push_one_group.ensures.rows;
      empty = c.in_ok-push_one_group.ensures.empty;
    }

pub returns-clause-rows : goal.returns-clause-rows
returns-clause-rows c =
    let by = c.args.by.now in
    let rows = c.args.table.now.rows in
    let keys = keys_by by rows in
    let many : length keys ≡ length (firsts c.in_ok-groups.groups) = many_keys by rows ∙ ap (λ l. length (firsts l)) (sym c.in_ok-groups.ensures) in
    let past : length keys ≤ c.loop-group.group = omega (arith, many, c.len-group-end.ensures, c.loop-group-test.false) in
    c.loop-group.invariant.rows ∙ ap (flat_map (tuple_rows c.args.extent c.args.on by rows)) (take_all c.loop-group.group keys past)
