use Rattle.std.proofs.Common.{rules, ◌≡◌, ◌∙◌, ap, sym, subst, false, get_or, length, ltb, lt-ltb, true≢false}
use Rattle.std.specs.Option.{is_some}
use Rattle.std.specs.Ordering.{is_lt}
use Rattle.std.proofs.lemmas.List.Sorted.{IsPartitionPoint-from_clause}
use Rattle.vtl_cell.specs.Row.{row_cmp, same_row}
use Rattle.vtl_index.specs.FirstRows.{IsFirst}
use Rattle.vtl_index.specs.RowKeys.{count_in, key_of, keys_in}
use Rattle.vtl_index.proofs.KeyOrder.{found_nowhere, found_there, parted}
use Rattle.vtl_index.proofs.row_order.find_in_order.Goals as goal

pub returns-in-Some : goal.returns-in-Some
returns-in-Some c =
    let keys = keys_in c.args.keyed.now in
    let order = c.args.order.now in
    let key = key_of c.args.key.now in
    let place = c.partition_point-place.result in
    let point = IsPartitionPoint-from_clause (λ i. is_lt (row_cmp (keys i) key)) order place c.partition_point-place.ensures.partitioned (parted keys (count_in c.args.keyed.now) order c.requires key) (λ a r q k. search rules) in
    let read = c.in-Some.ensures.lookup.3 in
    let is : get_or order place 0 ≡ c.in-Some.row.now = sym (read.1 0) in
    let here = sym c.has.ensures ∙ c.if-has.true in
    subst (IsFirst keys (count_in c.args.keyed.now) key) is
    (found_there keys (count_in c.args.keyed.now) order c.requires key place point read.0 (ap (λ i. same_row (keys i) key) is ∙ here))

pub returns-in_default : goal.returns-in_default
returns-in_default c =
    let keys = keys_in c.args.keyed.now in
    let order = c.args.order.now in
    let key = key_of c.args.key.now in
    let place = c.partition_point-place.result in
    let point = IsPartitionPoint-from_clause (λ i. is_lt (row_cmp (keys i) key)) order place c.partition_point-place.ensures.partitioned (parted keys (count_in c.args.keyed.now) order c.requires key) (λ a r q k. search rules) in
    let read = c.in-Some.ensures.lookup.3 in
    let is : get_or order place 0 ≡ c.in-Some.row.now = sym (read.1 0) in
    let unlike = sym c.has.ensures ∙ c.if-has.false in
    found_nowhere keys (count_in c.args.keyed.now) order c.requires key place point (λ h. ap (λ i. same_row (keys i) key) is ∙ unlike)

pub returns-in_default-2 : goal.returns-in_default-2
returns-in_default-2 c =
    let keys = keys_in c.args.keyed.now in
    let order = c.args.order.now in
    let key = key_of c.args.key.now in
    let place = c.partition_point-place.result in
    let point = IsPartitionPoint-from_clause (λ i. is_lt (row_cmp (keys i) key)) order place c.partition_point-place.ensures.partitioned (parted keys (count_in c.args.keyed.now) order c.requires key) (λ a r q k. search rules) in
    let past : ltb place (length order) ≡ false = sym c.get.ensures.lookup.0 ∙ ap is_some c.in_default.is in
    found_nowhere keys (count_in c.args.keyed.now) order c.requires key place point (λ h. absurd (true≢false (sym (lt-ltb place (length order) h) ∙ past)))
