use Rattle.std.proofs.Common.{◌≡◌, ◌<◌, ap, ◌∙◌, length, map, not}
use Rattle.std.proofs.lemmas.Result.{IfOk-weaker}
use Rattle.std.specs.List.{range_with_len}
use Rattle.std.proofs.lemmas.List.Elements.{All-same}
use Rattle.vtl_lists.proofs.Filters.{first_within}
use Rattle.vtl_rows.specs.Tables.{Tabled}
use Rattle.vtl_syntax.specs.declared.word_groups.Retain.TheVariants as retain
use Rattle.vtl_tree.specs.Structure.{key_width}
use Rattle.vtl_meaning.specs.Operators.{left_of}
use Rattle.vtl_meaning.specs.Sets.{difference_of, has_point}
use Rattle.vtl_combine.specs.Operands.{left_at, retained}
use Rattle.vtl_combine.proofs.OperandLemmas.{chosen_left}
use Rattle.vtl_combine.proofs.differences.reduced_rows.Goals as goal

pub retained-requires : goal.retained-requires
retained-requires c =
    let n = length c.args.a.now.points in
    All-same (λ i. i < n) c.deref.result.now (range_with_len 0 n) (c.deref.ensures.value ∙ c.in_ok-rows.ensures ∙ ap (range_with_len 0) (c.len.ensures.rows ∙ ap length c.table.ensures.points)) (first_within n)

pub returns-clause-rows : goal.returns-clause-rows
returns-clause-rows c =
    let a = c.args.a.now in
    let b = c.args.b.now in
    let s = c.args.made.now in
    let numbers = c.deref.ensures.value ∙ c.in_ok-rows.ensures ∙ ap (range_with_len 0) (c.len.ensures.rows ∙ ap length c.table.ensures.points) in
    let rows = c.deref-2.ensures.value ∙ c.in_ok-rows-2.ensures ∙ ap (retained retain.False a b s) numbers in
    IfOk-weaker c.chosen_rows.result (λ (t : Tabled). t.rows ≡ map (left_at a s) c.deref-2.result.now) (λ (t : Tabled). t.rows ≡ difference_of a b s)
    (λ t e. e ∙ ap (map (left_at a s)) rows ∙ chosen_left a s (λ r. not (has_point (key_width s) (left_of b s) r))) c.chosen_rows.ensures.rows
