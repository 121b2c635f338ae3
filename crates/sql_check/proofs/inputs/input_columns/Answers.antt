use Rattle.std.proofs.Common.{IfOk, ◌≡◌, map, length, ap, sym, subst, ◌∙◌}
use Rattle.std.specs.Map.{keys_of}
use Rattle.std.specs.Prelude.{zip}
use Rattle.std.proofs.lemmas.List.{length-map}
use Rattle.sql_check_parts.specs.Statements.{column_entry, in_table_order}
use Rattle.sql_check_parts.specs.Told.{distinct_columns}
use Rattle.sql_check.proofs.InputColumns.{columns_beside, listed_in_order}
use Rattle.sql_check.proofs.inputs.input_columns.Goals as goal

pub of-requires : goal.of-requires
of-requires c =
    let key = c.as_slice.result.now in
    let cs = c.as_slice-columns.result.now in
    let keys = keys_of c.in_ok-key.key in
    let xs = in_table_order key cs in
    let start = c.new-listed.result in
    let first = c.put_those.new.self in
    let last = c.put_those-2.new.self in
    let names = listed_in_order (λ c. c.name) keys key cs start.names.items first.names.items last.names.items c.in_ok-key.ensures c.new-listed.ensures.names c.in_ok-put_those.ensures.names c.in_ok-put_those-2.ensures.names in
    let kinds = listed_in_order (λ c. c.kind) keys key cs start.kinds.items first.kinds.items last.kinds.items c.in_ok-key.ensures c.new-listed.ensures.kinds c.in_ok-put_those.ensures.kinds c.in_ok-put_those-2.ensures.kinds in
    ap length (c.deref-2.ensures.value ∙ kinds) ∙ length-map xs (λ c. c.kind) ∙ sym (ap length (c.deref.ensures.value ∙ names) ∙ length-map xs (λ c. c.name))

pub returns : goal.returns
returns c =
    let key = c.as_slice.result.now in
    let cs = c.as_slice-columns.result.now in
    let keys = keys_of c.in_ok-key.key in
    let xs = in_table_order key cs in
    let ks = c.deref-2.result.now in
    let start = c.new-listed.result in
    let first = c.put_those.new.self in
    let last = c.put_those-2.new.self in
    let names = listed_in_order (λ c. c.name) keys key cs start.names.items first.names.items last.names.items c.in_ok-key.ensures c.new-listed.ensures.names c.in_ok-put_those.ensures.names c.in_ok-put_those-2.ensures.names in
    let kinds = listed_in_order (λ c. c.kind) keys key cs start.kinds.items first.kinds.items last.kinds.items c.in_ok-key.ensures c.new-listed.ensures.kinds c.in_ok-put_those.ensures.kinds c.in_ok-put_those-2.ensures.kinds in
    let whole =
    ap (λ ns. zip ns ks) (c.deref.ensures.value ∙ names)
    ∙ ap (zip (map (λ c. c.name) xs)) (c.deref-2.ensures.value ∙ kinds)
    ∙ columns_beside xs
    ∙ ap (λ k. map column_entry (in_table_order k cs)) c.as_slice.ensures
    ∙ ap (λ l. map column_entry (in_table_order c.args.input.now.key l)) c.as_slice-columns.ensures in
    subst (λ all. IfOk c.of.result (λ columns. columns ≡ distinct_columns all)) whole c.of.ensures
