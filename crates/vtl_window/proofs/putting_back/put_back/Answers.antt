use Rattle.std.proofs.Common.{◌≡◌, ◌+◌, ◌<◌, ◌≤◌, length, drop, get_or, Ok, ap, sym, ◌∙◌, subst, arith}
use Rattle.std.specs.List.{range_with_len}
use Rattle.std.specs.Vec.Iter.{into_iter_items}
use Rattle.std.proofs.lemmas.List.{drop_all, drop_more, length-set}
use Rattle.std.proofs.lemmas.List.Elements.{recursion_from_All}
use Rattle.vtl_lists.proofs.Alls.{all_get}
use Rattle.vtl_cell.specs.Conversion.{as_kind}
use Rattle.vtl_cell.specs.Outcome.{Outcome, after, join}
use Rattle.vtl_cell.specs.declared.cell.Cell.{Cell}
use Rattle.vtl_cell.specs.declared.cell.Cell.TheVariants as cells
use Rattle.vtl_tree.proofs.Faults.{join_none}
use Rattle.vtl_meaning.specs.Points.{cell_or_null}
use Rattle.vtl_scalar.specs.Seen.{seen_of}
use Rattle.vtl_window.specs.Analyses.{cells_by, faults_of}
use Rattle.vtl_window.proofs.PutLemmas.{IsPutBack, begins, goes_on, put_each, taken_next}
use Rattle.vtl_window.proofs.putting_back.put_back.Goals as goal

pub loop-place-init : goal.loop-place-init
loop-place-init c =
    let places = c.args.places.now in
    let value : Outcome Cell → Outcome Cell = λ m. after m (as_kind c.args.p.now c.args.kind) in
    let many : length c.in_ok-cells.cells.items ≡ length places = omega (arith, c.in_ok-cells.ensures) in
    record {
      many = many;
      put = λ f e. begins value f places c.in_ok-cells.cells.items (seen_of c.args.seen.now) (into_iter_items c.into_iter-rest.result) c.requires.all c.requires.within many (c.into_iter-rest.ensures.rest ∙ e);
    }

pub put-requires : goal.put-requires
put-requires c =
    let places = c.args.places.now in
    let i = c.loop-place.place-index in
    subst (λ m. get_or places i 0 < m) (sym c.loop-place.invariant.many) (all_get (λ k. k < length places) places i 0 c.loop-place-test.true (recursion_from_All (λ k. k < length places) places c.requires.within))

pub loop-place-preserved : goal.loop-place-preserved
loop-place-preserved c =
    let places = c.args.places.now in
    let i = c.loop-place.place-index in
    let k = get_or places i 0 in
    let value : Outcome Cell → Outcome Cell = λ m. after m (as_kind c.args.p.now c.args.kind) in
    let x = c.unwrap_or-value.result in
    let items = c.loop-place.cells.items in
    let seen = seen_of c.loop-place.seen in
    record {
      many = ap length c.put.ensures ∙ length-set items k c.in_ok-noted.field-0 ∙ c.loop-place.invariant.many;
      put = λ f e.
          let was = c.loop-place.invariant.put f e in
          let made = cells_by (λ k. value (f k)) (range_with_len 0 (length places)) in
          let faults = join (seen_of c.args.seen.now) (faults_of (λ k. value (f k)) (range_with_len 0 (length places))) in
          goes_on value f k (drop (i + 1) places) x c.in_ok-noted.field-0 (into_iter_items c.loop-place.rest) (into_iter_items c.next.new.self) items c.put.new.cells.items made seen (seen_of c.noted.new.seen) faults
          (λ first behind g. let both = taken_next c.loop-place.rest c.next.new.self c.next.result (Ok cells.Null) first behind c.loop-place.rest.rest.ok.0 c.next.ensures.cases g in (c.unwrap_or-value.ensures ∙ both.0, both.1))
          c.put.ensures (c.in_ok-noted.ensures.cell (value x) c.in_kind.ensures) (c.in_ok-noted.ensures.seen (value x) c.in_kind.ensures)
          (subst (λ ks. IsPutBack value f ks (into_iter_items c.loop-place.rest) items seen made faults) (drop_more places i 0 c.loop-place-test.true) was);
    }

pub returns-clause-cells : goal.returns-clause-cells
returns-clause-cells c f e =
    let places = c.args.places.now in
    let i = c.loop-place.place-index in
    let past : length places ≤ i = omega (arith, c.loop-place-test.false) in
    let was = c.loop-place.invariant.put f e in
    ap (λ ks. put_each (λ k. cell_or_null (after (f k) (as_kind c.args.p.now c.args.kind))) ks c.loop-place.cells.items) (sym (drop_all i places past)) ∙ was.put

pub returns-clause-seen : goal.returns-clause-seen
returns-clause-seen c f e =
    let places = c.args.places.now in
    let i = c.loop-place.place-index in
    let past : length places ≤ i = omega (arith, c.loop-place-test.false) in
    let was = c.loop-place.invariant.put f e in
    let seen = seen_of c.loop-place.seen in
    sym (join_none seen) ∙ ap (λ ks. join seen (faults_of (λ k. after (f k) (as_kind c.args.p.now c.args.kind)) ks)) (sym (drop_all i places past)) ∙ was.noted
