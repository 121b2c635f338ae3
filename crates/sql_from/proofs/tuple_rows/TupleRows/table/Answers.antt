use Rattle.std.proofs.Common.{◌≡◌, ◌∙◌, ap, sym, length, map, subst, arith}
use Rattle.std.specs.List.{AllByRecursion}
use Rattle.std.proofs.lemmas.List.{length-map}
use Rattle.std.proofs.lemmas.Result.{IfOk-weaker}
use Rattle.vtl_rows.specs.Gathered.{picked, picked_kind, pieces}
use Rattle.vtl_rows.specs.Tables.{column_kinds, listed}
use Rattle.sql_from.specs.Sources.{parts_of}
use Rattle.sql_from.proofs.Tabled.{kinds_picked, picks_within, rows_picked}
use Rattle.sql_from.proofs.tuple_rows.TupleRows.table.Goals as goal

pub gather_beside-requires-clause-some : goal.gather_beside-requires-clause-some
gather_beside-requires-clause-some c =
    omega (arith, c.args.self.now.is_whole, c.numbers.ensures.some, c.in_ok-columns.ensures.some)

pub gather_beside-requires-clause-within : goal.gather_beside-requires-clause-within
gather_beside-requires-clause-within c =
    let ts = parts_of c.args.self.now.sources.sources in
    let parts : map (λ t. listed t.now) c.deref.result.now ≡ ts = ap (map (λ t. listed t.now)) c.deref.ensures.value ∙ c.in_ok-tables.ensures in
    let many : length ts ≡ length c.deref.result.now = ap length (sym parts) ∙ length-map c.deref.result.now (λ t. listed t.now) in
    picks_within ts c.picks.result.now (length c.deref.result.now) c.picks.ensures many

pub gather_beside-requires-clause-kinds : goal.gather_beside-requires-clause-kinds
gather_beside-requires-clause-kinds c =
    let ss = c.args.self.now.sources.sources in
    let parts : map (λ t. listed t.now) c.deref.result.now ≡ parts_of ss = ap (map (λ t. listed t.now)) c.deref.ensures.value ∙ c.in_ok-tables.ensures in
    ap column_kinds c.in_ok-columns.ensures.columns ∙ kinds_picked ss ∙ sym (λ i. map (picked_kind (parts i)) (c.picks.ensures i))

pub returns-clause-rows : goal.returns-clause-rows
returns-clause-rows c =
    let s = c.args.self.now.sources in
    let tuples = c.args.self.now.tuples in
    let ts = parts_of s.sources in
    let parts : map (λ t. listed t.now) c.deref.result.now ≡ ts = ap (map (λ t. listed t.now)) c.deref.ensures.value ∙ c.in_ok-tables.ensures in
    let many : length c.deref.result.now ≡ length ts = sym (length-map c.deref.result.now (λ t. listed t.now)) ∙ ap length parts in
    let width : length ts ≡ tuples.width = length-map s.sources (λ u. u.1) ∙ sym c.args.self.now.is_whole in
    let whole : AllByRecursion (λ x. length x ≡ length ts) tuples.tuples = subst (λ n. AllByRecursion (λ x. length x ≡ n) tuples.tuples) (sym width) c.numbers.ensures.wide in
    let cut : pieces (length c.deref.result.now) c.numbers.result.now ≡ tuples.tuples = ap (λ n. pieces n c.numbers.result.now) (many ∙ width) ∙ c.numbers.ensures.numbers in
    IfOk-weaker c.gather_beside.result _ _
    (λ t rows. rows ∙ (λ i. map (picked (parts i) (c.picks.ensures i)) (cut i)) ∙ rows_picked ts tuples.tuples whole)
    c.gather_beside.ensures.rows
