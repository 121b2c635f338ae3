use Rattle.std.proofs.Common.{◌∙◌, subst, arith}
use Rattle.vtl_index.proofs.Adding.{place_more}
use Rattle.vtl_index.specs.Places.{KeepsOthers, TakesPlace}
use Rattle.vtl_index.proofs.places.Places.of.Goals as goal

pub loop-place-preserved : goal.loop-place-preserved
loop-place-preserved c = (
  c.in_ok-put.ensures.backed,
  c.in_ok-put.ensures.count ∙ c.loop-place.invariant.1,
  place_more c.args.keys.now.cells.now c.args.keys.now.width c.args.keys.now.count c.loop-place.places.buckets.items c.put.new.self.buckets.items c.loop-place.places.others c.put.new.self.others c.loop-place.place
      c.requires.apart (omega arith) (omega arith)
      (subst (λ k. KeepsOthers k c.loop-place.place c.loop-place.places.buckets.items c.loop-place.places.others c.put.new.self.buckets.items c.put.new.self.others) c.at-key.ensures c.in_ok-put.ensures.kept)
      (subst (λ k. TakesPlace k c.loop-place.place c.put.new.self.buckets.items c.put.new.self.others) c.at-key.ensures c.in_ok-put.ensures.taken) c.loop-place.invariant.2,
)
