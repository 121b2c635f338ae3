use Rattle.std.proofs.Common.{◌≡◌, ◌∙◌, ◌<◌, ◌++◌, ◌∷◌, [], length, map, ap, sym, subst}
use Rattle.std.specs.Slice.Iter.{chunks_exact_rest, chunks_exact_size}
use Rattle.vtl_rows.specs.Gathered.{picked, picked_kind, pieces}
use Rattle.vtl_rows.specs.Tables.{listed}
use Rattle.vtl_rows.proofs.Flats.{fits_alone}
use Rattle.vtl_rows.proofs.Gathered.{next_piece, no_piece, picked_row_fits, some_part}
use Rattle.vtl_rows.proofs.gather.gather_beside.Goals as goal

pub nonzero_div-tuples : goal.nonzero_div-tuples
nonzero_div-tuples c = some_part c.args.columns.items (picked_kind (map (λ t. listed t.now) c.args.parts.now)) c.args.picks.now (length c.args.parts.now) c.requires.some c.requires.within c.requires.kinds

pub chunks_exact-tuple-items-requires : goal.chunks_exact-tuple-items-requires
chunks_exact-tuple-items-requires c = some_part c.args.columns.items (picked_kind (map (λ t. listed t.now) c.args.parts.now)) c.args.picks.now (length c.args.parts.now) c.requires.some c.requires.within c.requires.kinds

pub loop-tuple-init-derived : goal.loop-tuple-init-derived
loop-tuple-init-derived c =
    let some = some_part c.args.columns.items (picked_kind (map (λ t. listed t.now) c.args.parts.now)) c.args.picks.now (length c.args.parts.now) c.requires.some c.requires.within c.requires.kinds in
    let size = ap chunks_exact_size c.into_iter-tuple-iterator.ensures.into_iter_gives ∙ c.chunks_exact-tuple-items.ensures.size in (
      subst (λ n. 0 < n) (sym size) some,
      tt,
    )

pub loop-tuple-init : goal.loop-tuple-init
loop-tuple-init c =
    let some = some_part c.args.columns.items (picked_kind (map (λ t. listed t.now) c.args.parts.now)) c.args.picks.now (length c.args.parts.now) c.requires.some c.requires.within c.requires.kinds in
    let size = ap chunks_exact_size c.into_iter-tuple-iterator.ensures.into_iter_gives ∙ c.chunks_exact-tuple-items.ensures.size in
    let f = picked (map (λ t. listed t.now) c.args.parts.now) c.args.picks.now in
    let rest = ap chunks_exact_rest c.into_iter-tuple-iterator.ensures.into_iter_gives ∙ c.chunks_exact-tuple-items.ensures.rest in
    record {
      next = subst (λ n. 0 < n) (sym size) some;
      finite = tt;
      size = size;
      columns = c.reserve_rows.ensures.columns ∙ c.new-table.ensures.columns;
      rows = ap (λ l. l ++ map f (pieces (length c.args.parts.now) (chunks_exact_rest c.into_iter-tuple-iterator.result))) (c.reserve_rows.ensures.rows ∙ c.new-table.ensures.rows)
          ∙ ap (λ ns. map f (pieces (length c.args.parts.now) ns)) rest;
      none = c.new-row.ensures.items;
    }

pub push_moved-requires : goal.push_moved-requires
push_moved-requires c =
    fits_alone _ _ _ _ _ c.loop-tuple.invariant.columns c.in_ok-append_picked.ensures c.loop-tuple.invariant.none
    (picked_row_fits (map (λ t. listed t.now) c.args.parts.now) c.parts_fit.ensures c.args.columns.items c.args.picks.now c.in-Some.tuple.now c.requires.kinds)

pub loop-tuple-preserved : goal.loop-tuple-preserved
loop-tuple-preserved c =
    let some = some_part c.args.columns.items (picked_kind (map (λ t. listed t.now) c.args.parts.now)) c.args.picks.now (length c.args.parts.now) c.requires.some c.requires.within c.requires.kinds in
    let steps = c.in-Some.ensures.steps in
    let size = c.loop-tuple.invariant.size in
    let same : chunks_exact_size c.next.new.self ≡ length c.args.parts.now = steps.0 ∙ size in
    let f = picked (map (λ t. listed t.now) c.args.parts.now) c.args.picks.now in
    let put = c.in_ok-push_moved.ensures.rows ∙ ap (λ l. c.loop-tuple.table.rows ++ l ∷ []) (c.in_ok-append_picked.ensures ∙ ap (λ l. l ++ f c.in-Some.tuple.now) c.loop-tuple.invariant.none) in
    record {
      next = subst (λ n. 0 < n) (sym same) some;
      finite = tt;
      size = same;
      columns = c.push_moved.ensures.columns ∙ c.loop-tuple.invariant.columns;
      rows = next_piece f (length c.args.parts.now) _ c.loop-tuple.table.rows (chunks_exact_rest c.loop-tuple.tuple-iterator) c.loop-tuple.invariant.rows c.push_moved.new.self.rows c.in-Some.tuple.now (chunks_exact_rest c.next.new.self) some steps.1.0 (steps.1.1 ∙ size) put;
      none = c.in_ok-push_moved.ensures.moved;
    }

pub returns-clause-rows : goal.returns-clause-rows
returns-clause-rows c =
    let short = subst (λ n. length (chunks_exact_rest c.loop-tuple.tuple-iterator) < n) c.loop-tuple.invariant.size c.in-None.ensures.steps.1.0 in
    no_piece (picked (map (λ t. listed t.now) c.args.parts.now) c.args.picks.now) (length c.args.parts.now) _ c.loop-tuple.table.rows (chunks_exact_rest c.loop-tuple.tuple-iterator) c.loop-tuple.invariant.rows short
