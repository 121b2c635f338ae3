use Rattle.std.proofs.Common.{◌<◌, ◌≤◌, ◌+◌, Ok, length, map, drop, get_or, refl, ap, sym, subst, ◌∙◌, arith}
use Rattle.std.proofs.lemmas.List.{drop_all, drop_more, length-set}
use Rattle.vtl_lists.proofs.Alls.{all_get}
use Rattle.vtl_cell.specs.declared.cell.Cell.TheVariants as cells
use Rattle.vtl_times.specs.Put.{put_each}
use Rattle.vtl_times.proofs.PutLemmas.{goes_on, taken_next}
use Rattle.vtl_times.proofs.along.put_back.Goals as goal

pub loop-place-init : goal.loop-place-init
loop-place-init c = record { many = refl; put = λ f e. (c.into_iter-rest.ensures.rest ∙ e, refl) }

pub put-requires : goal.put-requires
put-requires c =
    let run = c.args.run.now in
    let i = c.loop-place.place-index in
    subst (λ m. get_or run i 0 < m) (sym c.loop-place.invariant.many) (all_get (λ k. k < length c.args.values.now.items) run i 0 c.loop-place-test.true c.requires)

pub loop-place-preserved : goal.loop-place-preserved
loop-place-preserved c =
    let run = c.args.run.now in
    let i = c.loop-place.place-index in
    let k = get_or run i 0 in
    let x = c.unwrap_or.result in
    let items = c.loop-place.values.items in
    record {
      many = ap length c.put.ensures ∙ length-set items k x ∙ c.loop-place.invariant.many;
      put = λ f e.
          let was = c.loop-place.invariant.put f e in
          let here = drop_more run i 0 c.loop-place-test.true in
          let both = taken_next c.loop-place.rest c.next.new.self c.next.result (Ok cells.Null) (f k) (map f (drop (i + 1) run)) c.loop-place.rest.rest.ok.0 c.next.ensures.cases (was.0 ∙ ap (map f) here) in
          (both.1, goes_on f k (drop (i + 1) run) items c.put.new.values.items (put_each f run c.args.values.now.items) x c.put.ensures (c.unwrap_or.ensures ∙ both.0) (ap (λ ks. put_each f ks items) (sym here) ∙ was.1));
    }

pub returns : goal.returns
returns c f e =
    let run = c.args.run.now in
    let i = c.loop-place.place-index in
    let past : length run ≤ i = omega (arith, c.loop-place-test.false) in
    ap (λ ks. put_each f ks c.loop-place.values.items) (sym (drop_all i run past)) ∙ (c.loop-place.invariant.put f e).1
