use Rattle.std.proofs.Common.{◌<◌, ◌≤◌, ◌∙◌, ap, sym, length, take, List, ℕ, Bool, Bor}
use Rattle.std.specs.List.{filter, range_with_len}
use Rattle.std.proofs.lemmas.List.{take_all}
use Rattle.std.proofs.lemmas.List.Elements.{All-filter, All-same}
use Rattle.vtl_lists.proofs.Filters.{filter_true, first_within}
use Rattle.vtl_tree.specs.Environment.{DataSet}
use Rattle.vtl_tree.specs.Shown.{shown}
use Rattle.vtl_tree.specs.Structure.{key_width}
use Rattle.vtl_syntax.specs.declared.word_groups.Retain.TheVariants as retain
use Rattle.vtl_meaning.specs.Operators.{left_of}
use Rattle.vtl_meaning.specs.Sets.{has_point}
use Rattle.vtl_combine.specs.Operands.{all_have, left_at, retained}
use Rattle.vtl_combine.proofs.ChosenLemmas.{all_more_tests}
use Rattle.vtl_combine.proofs.intersections.common_rows.Goals as goal

pub loop-other-init : goal.loop-other-init
loop-other-init c =
    let range = range_with_len 0 (length c.args.operand.now.points) in
    c.in_ok-rows.ensures ∙ ap (range_with_len 0) (c.len.ensures.rows ∙ ap length c.table.ensures.points) ∙ sym (filter_true range)

pub retained-requires : goal.retained-requires
retained-requires c =
    let d = c.args.operand.now in
    let n = length d.points in
    let test : ℕ → Bool = all_have d (shown (take c.loop-other.other-index c.args.others.now)) c.args.made.now in
    All-same (λ i. i < n) c.deref.result.now (filter test (range_with_len 0 n)) (c.deref.ensures.value ∙ c.loop-other.invariant) (All-filter test (λ i. i < n) (range_with_len 0 n) (first_within n))

pub loop-other-preserved : goal.loop-other-preserved
loop-other-preserved c =
    let d = c.args.operand.now in
    let s = c.args.made.now in
    let test : ℕ → DataSet → Bool = λ i e. has_point (key_width s) (left_of e s) (left_at d s i) in
    let now : Bor DataSet → DataSet = λ e. e.now in
    all_more_tests test now c.args.others.now c.loop-other.other-index c.other-item.result (range_with_len 0 (length d.points)) c.loop-other.rows.items c.in_ok-rows-2.rows.items
    c.loop-other-test.true c.other-item.is c.loop-other.invariant (c.in_ok-rows-2.ensures ∙ ap (retained retain.True d c.other-item.result.now s) c.deref.ensures.value)

pub returns : goal.returns
returns c =
    let d = c.args.operand.now in
    let others = c.args.others.now in
    let past : length others ≤ c.loop-other.other-index = c.loop-other-test.false in
    c.loop-other.invariant ∙ ap (λ (l : List (Bor DataSet)). filter (all_have d (shown l) c.args.made.now) (range_with_len 0 (length d.points))) (take_all c.loop-other.other-index others past)
