use Rattle.std.proofs.Common.{◌≡◌, ℕ, ◌+◌, ◌-◌, ◌<◌, ◌++◌, List, length, map, take, drop, get_or, ap, sym, subst, ◌∙◌, arith}
use Rattle.std.specs.List.{sum}
use Rattle.std.proofs.lemmas.List.{map-append}
use Rattle.std.proofs.lemmas.List.Sums.{sum_by_more}
use Rattle.vtl_cell.specs.Outcome.{Outcome}
use Rattle.vtl_cell.specs.Row.{Row}
use Rattle.vtl_cell.specs.declared.cell.Cell.{Cell}
use Rattle.vtl_frames.specs.Framed.{at_each}
use Rattle.vtl_frames.specs.Lanes.{lane_cells}
use Rattle.vtl_frames.proofs.RunLemmas.{cut_take}
use Rattle.vtl_rows.specs.Places.{row_at}
use Rattle.vtl_times.specs.Along.{value_along, value_at}
use Rattle.vtl_times.specs.InOrder.{IsSeries}
use Rattle.vtl_times.proofs.AlongLemmas.{along_run}
use Rattle.vtl_times.proofs.CutLists.{cut_at}
use Rattle.vtl_times.proofs.along.made_along.Goals as goal

pub loop-count-preserved : goal.loop-count-preserved
loop-count-preserved c =
    let d = c.args.a.now in
    let p = c.args.p.now in
    let w = c.args.along in
    let column = c.args.column in
    let counts = c.deref-count-items.result.now in
    let is = c.deref-count-items.ensures.value in
    let numbers = c.args.series.now.numbers.items in
    let i = c.loop-count.count-index in
    let from = c.loop-count.start in
    let n = get_or counts i 0 in
    let f : ℕ → Outcome Cell = λ k. value_at p w column d (row_at d.points k) in
    let run = take n (drop from numbers) in
    let at_place : IsSeries d (take n (drop (sum (take i counts)) numbers))
    = subst (λ (l : List ℕ). IsSeries d (take (get_or l i 0) (drop (sum (take i l)) numbers))) (sym is) (cut_at (IsSeries d) c.args.series.now.counts.items numbers i (subst (λ (l : List ℕ). i < length l) is c.loop-count-test.true) c.requires.series) in
    let series = subst (λ s. IsSeries d (take n (drop s numbers))) (sym c.loop-count.invariant.start) at_place in
    let size : (from + n) - from ≡ n = omega arith in
    let slice : take ((from + n) - from) (drop from c.deref.result.now) ≡ run = λ j. take (size j) (drop from (c.deref.ensures.value j)) in
    let along : List Row → List ℕ → List (Outcome Cell) = λ rows ks. at_each (λ m. value_along p w m (lane_cells rows ks column)) (lane_cells rows ks column) in
    let joined : take from numbers ++ run ≡ take (from + n) numbers = ap (λ m. take from numbers ++ take m (drop from numbers)) (sym size) ∙ cut_take from (from + n) numbers (omega arith) in
    record {
      start = ap (λ s. s + n) c.loop-count.invariant.start ∙ sym (sum_by_more (λ x. x) counts i 0 c.loop-count-test.true);
      made = c.in_ok-push_along.ensures
          ∙ ap (λ l. c.loop-count.made.items ++ l) ((λ j. along (c.table.ensures.points j) (slice j)) ∙ along_run p d run column series w)
          ∙ ap (λ l. l ++ map f run) c.loop-count.invariant.made
          ∙ sym (map-append f (take from numbers) run) ∙ ap (map f) joined;
    }
