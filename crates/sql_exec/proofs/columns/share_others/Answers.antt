use Rattle.std.proofs.Common.{◌∙◌, ◌+◌, ap, sym, map, drop, arith}
use Rattle.std.specs.Prelude.{fold}
use Rattle.sql_tree.specs.View.{select_tree}
use Rattle.sql_check_parts.specs.Queries.{beside, kinds_of}
use Rattle.sql_from.specs.Held.{tables_held}
use Rattle.sql_check_laws.specs.Selects.{IsSelectTyped}
use Rattle.sql_exec.proofs.FromEach.{from_long, from_select}
use Rattle.sql_exec.proofs.QueryColumns.{drop_read}
use Rattle.sql_exec.proofs.Steps.{holds_mapped}
use Rattle.sql_exec.proofs.columns.share_others.Goals as goal

pub select_kinds-requires-clause-typed : goal.select_kinds-requires-clause-typed
select_kinds-requires-clause-typed c = holds_mapped (IsSelectTyped c.args.p.now (tables_held c.args.tables.now)) select_tree c.args.others.now c.loop-i.i c.index-others-i.result c.requires.typed c.loop-i-test.true c.index-others-i.is

pub loop-i-preserved : goal.loop-i-preserved
loop-i-preserved c =
    let tables = tables_held c.args.tables.now in
    let others = c.args.others.now in
    let i = c.loop-i.i in
    ap (λ kinds. fold (λ shared other. beside shared (kinds_of tables other)) kinds (map select_tree (drop (i + 1) others)))
    (c.share_kinds.ensures ∙ ap (beside c.loop-i.shared) (c.deref.ensures.value ∙ c.in_ok-kinds.ensures))
    ∙ sym (ap (λ ss. fold (λ shared other. beside shared (kinds_of tables other)) c.loop-i.shared (map select_tree ss)) (drop_read others i c.index-others-i.result c.loop-i-test.true c.index-others-i.is))
    ∙ c.loop-i.invariant

pub bounds-from-i : goal.bounds-from-i
bounds-from-i c = let long = from_long c.args.tables.now c.args.others.now c.args.from.now c.requires.from in omega (arith, long, c.loop-i-test.true)

pub select_kinds-requires-clause-from : goal.select_kinds-requires-clause-from
select_kinds-requires-clause-from c = from_select c.args.tables.now c.args.others.now c.args.from.now c.requires.from c.loop-i.i c.index-others-i.result c.index-from-i.result c.loop-i-test.true c.index-others-i.is c.index-from-i.is
