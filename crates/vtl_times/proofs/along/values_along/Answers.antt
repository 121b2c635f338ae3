use Rattle.std.proofs.Common.{◌≡◌, ℕ, true, ◌<◌, [], ◌∷◌, length, map, ap, sym, subst, ◌∙◌}
use Rattle.std.specs.List.{AllByRecursion, list_any}
use Rattle.vtl_lists.proofs.Alls.{all_more}
use Rattle.vtl_cell.specs.Outcome.{Outcome}
use Rattle.vtl_cell.specs.declared.cell.Cell.{Cell}
use Rattle.vtl_rows.specs.Places.{row_at}
use Rattle.vtl_times.specs.Along.{value_at}
use Rattle.vtl_times.specs.InOrder.{IsSeries, has_number}
use Rattle.vtl_times.specs.Lists.{lists_of}
use Rattle.vtl_times.specs.Put.{put_each}
use Rattle.vtl_times.proofs.AlongLemmas.{StandsAt, all_points, length-put, one_series}
use Rattle.vtl_times.proofs.CutLists.{all_joined, any_alone, any_joined, cut_joined}
use Rattle.vtl_times.proofs.along.values_along.Goals as goal

pub put_back-requires : goal.put_back-requires
put_back-requires c =
    let d = c.args.a.now in
    let l = c.args.series.now in
    let P : ℕ → Type 0 = λ k. k < length d.points in
    let each = all_more (IsSeries d) (AllByRecursion P) (λ s (i : IsSeries d s). i.within) (lists_of l) c.requires.series.each in
    let all = subst (AllByRecursion P) (cut_joined l.counts.items l.numbers.items c.requires.whole) (all_joined P (lists_of l) each) in
    let many : length c.in_ok-values.values.items ≡ length d.points = c.in_ok-values.ensures ∙ c.len.ensures.rows ∙ ap length c.table.ensures.points in
    subst (AllByRecursion (λ k. k < length c.in_ok-values.values.items)) (sym c.deref.ensures.value) (subst (λ n. AllByRecursion (λ k. k < n) l.numbers.items) (sym many) all)

pub returns : goal.returns
returns c =
    let d = c.args.a.now in
    let l = c.args.series.now in
    let numbers = l.numbers.items in
    let v = value_at c.args.p.now c.args.along c.args.column d in
    let f : ℕ → Outcome Cell = λ k. v (row_at d.points k) in
    let old = c.in_ok-values.values.items in
    let new = c.put_back.new.values.items in
    let put : new ≡ put_each f numbers old = c.put_back.ensures f (c.in_ok-made.ensures ∙ ap (map f) (sym c.deref.ensures.value)) ∙ ap (λ ks. put_each f ks old) c.deref.ensures.value in
    let many : length new ≡ length d.points = ap length put ∙ length-put f numbers old ∙ c.in_ok-values.ensures ∙ c.len.ensures.rows ∙ ap length c.table.ensures.points in
    let none : StandsAt f [] old = λ j h e. cc in
    let all : (k : ℕ) → k < length d.points → list_any (has_number k) (numbers ∷ []) ≡ true
    = λ k h. any_alone k numbers ∙ ap (has_number k) (sym (cut_joined l.counts.items numbers c.requires.whole)) ∙ sym (any_joined k (lists_of l)) ∙ c.requires.series.all k h in
    all_points v d.points (numbers ∷ []) new many all (one_series f [] numbers old new put none)
