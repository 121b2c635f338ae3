use Rattle.std.proofs.Common.{◌≡◌, ◌∙◌, ◌<◌, length, ap, sym, subst}
use Rattle.std.specs.Slice.Iter.{chunks_exact_rest, chunks_exact_size}
use Rattle.vtl_expr.specs.Prepared.{prepared_exp}
use Rattle.vtl_join.specs.Gatherings.{point_of, points_of, width_of}
use Rattle.vtl_join_filter.specs.Sifting.{asked_of, so_far}
use Rattle.vtl_join_filter.proofs.Sifts.{each_done, each_more}
use Rattle.vtl_join_filter.proofs.sieve.Sieve.add_each.Goals as goal

pub chunks_exact-tuple-items-requires : goal.chunks_exact-tuple-items-requires
chunks_exact-tuple-items-requires c = subst (λ n. 0 < n) (sym c.width.ensures) c.requires.some

pub loop-tuple-init-derived : goal.loop-tuple-init-derived
loop-tuple-init-derived c =
    let size = ap chunks_exact_size c.into_iter-tuple-iterator.ensures.into_iter_gives ∙ c.chunks_exact-tuple-items.ensures.size ∙ c.width.ensures in (
      subst (λ n. 0 < n) (sym size) c.requires.some,
      tt,
    )

pub loop-tuple-init : goal.loop-tuple-init
loop-tuple-init c =
    let a = c.args.asked.now in
    let size = ap chunks_exact_size c.into_iter-tuple-iterator.ensures.into_iter_gives ∙ c.chunks_exact-tuple-items.ensures.size ∙ c.width.ensures in
    let rest = ap chunks_exact_rest c.into_iter-tuple-iterator.ensures.into_iter_gives ∙ c.chunks_exact-tuple-items.ensures.rest in
    record {
      next = subst (λ n. 0 < n) (sym size) c.requires.some;
      finite = tt;
      size = size;
      ready = c.requires;
      found = ap (λ ns. asked_of a (so_far a c.args.self.now) (points_of a.gathering ns)) rest;
    }

pub add-requires-clause-wide : goal.add-requires-clause-wide
add-requires-clause-wide c = c.in-Some.ensures.steps.1.1 ∙ c.loop-tuple.invariant.size

pub loop-tuple-preserved : goal.loop-tuple-preserved
loop-tuple-preserved c =
    let a = c.args.asked.now in
    let steps = c.in-Some.ensures.steps in
    let now = c.loop-tuple.invariant in
    let same : chunks_exact_size c.next.new.self ≡ width_of a.gathering = steps.0 ∙ now.size in
    record {
      next = subst (λ n. 0 < n) (sym same) c.requires.some;
      finite = tt;
      size = same;
      ready = c.in_ok-add.ensures.ready;
      found = each_more a.profile.now (prepared_exp a.condition) (point_of a.gathering) (width_of a.gathering) _ (so_far a c.loop-tuple.self) (chunks_exact_rest c.loop-tuple.tuple-iterator) now.found (so_far a c.add.new.self) c.in-Some.tuple.now (chunks_exact_rest c.next.new.self) c.requires.some steps.1.0 (steps.1.1 ∙ now.size) c.in_ok-add.ensures.found;
    }

pub returns-clause-found : goal.returns-clause-found
returns-clause-found c =
    let a = c.args.asked.now in
    let short = subst (λ n. length (chunks_exact_rest c.loop-tuple.tuple-iterator) < n) c.loop-tuple.invariant.size c.in-None.ensures.steps.1.0 in
    each_done a.profile.now (prepared_exp a.condition) (point_of a.gathering) (width_of a.gathering) _ (so_far a c.loop-tuple.self) (chunks_exact_rest c.loop-tuple.tuple-iterator) c.loop-tuple.invariant.found short
