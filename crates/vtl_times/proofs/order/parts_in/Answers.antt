use Rattle.std.proofs.Common.{◌≡◌, ◌<◌, ◌-◌, ℕ, List, length, drop, ap, sym, subst, ◌∙◌, arith}
use Rattle.std.specs.List.{AllByRecursion}
use Rattle.std.proofs.lemmas.List.Elements.{All-from_recursion, recursion_from_All}
use Rattle.vtl_lists.proofs.Alls.{all_drop, all_take}
use Rattle.vtl_cell.specs.Row.{Row}
use Rattle.vtl_frames.specs.Stretches.{stretches_of}
use Rattle.vtl_frames.proofs.RunLemmas.{one_found}
use Rattle.vtl_times.proofs.order.parts_in.Goals as goal

pub push_parts-requires-clause-within : goal.push_parts-requires-clause-within
push_parts-requires-clause-within c =
    let rows = c.args.a.now.points in
    let places = c.args.places.now in
    let keys = c.args.keys.now in
    let found = c.in_ok-groups.groups in
    let same : found ≡ stretches_of keys rows places = c.in_ok-groups.ensures ∙ ap (λ (l : List Row). stretches_of keys l places) c.table.ensures.points in
    let one = one_found keys rows places found c.loop-i.i same (omega (arith, c.len-i-end.ensures, c.loop-i-test.true)) in
    let P : ℕ → Type 0 = λ k. k < length rows in
    let all = all_take P (one.end - one.start) (drop one.start places) (all_drop P one.start places (recursion_from_All P places c.requires)) in
    let own = subst (AllByRecursion P) (sym (c.stretch.ensures ∙ one.is)) all in
    let there = subst (λ (l : List Row). AllByRecursion (λ k. k < length l) c.stretch.result.now) (sym c.table-in-loop-i.ensures.points) own in
    All-from_recursion (λ k. k < length c.table-in-loop-i.result.now.rows) c.stretch.result.now there
