use Rattle.std.proofs.Common.{◌≡◌, ◌<◌, All, length, ap, sym, subst, ◌∙◌}
use Rattle.std.specs.List.{flat_map}
use Rattle.std.proofs.lemmas.Result.{IfOk-weaker}
use Rattle.vtl_frames.specs.Stretches.{stretches_of}
use Rattle.vtl_timing.specs.Times.{time_place}
use Rattle.vtl_times.specs.InOrder.{AreSeries, group_keys, parts_of}
use Rattle.vtl_times.specs.Lists.{lists_of}
use Rattle.vtl_times.proofs.SeriesInOrder.{series_are}
use Rattle.vtl_times.proofs.order.series_in_order.Goals as goal

pub sorted_places-requires-clause-time : goal.sorted_places-requires-clause-time
sorted_places-requires-clause-time c = c.in_ok-time.ensures ∙ ap time_place c.structure.ensures.structure

pub parts_in-requires : goal.parts_in-requires
parts_in-requires c = subst (All (λ k. k < length c.args.a.now.points)) (sym c.deref.ensures.value) c.in_ok-places.ensures.within

pub returns-clause-series : goal.returns-clause-series
returns-clause-series c =
    let d = c.args.a.now in
    let time = c.in_ok-time.ensures ∙ ap time_place c.structure.ensures.structure in
    let keys = c.deref-2.ensures.value ∙ c.in_ok-keys.ensures ∙ ap group_keys c.structure-2.ensures.structure in
    let are = series_are d c.requires c.structure.ensures.points c.in_ok-places.places.items c.in_ok-places.ensures.order in
    IfOk-weaker c.parts_in.result (λ v. lists_of v ≡ flat_map (parts_of c.in_ok-time.time d.points) (stretches_of c.deref-2.result.now d.points c.deref.result.now)) (λ v. AreSeries d (lists_of v))
    (λ v e. subst (AreSeries d) (sym (e ∙ (λ i. flat_map (parts_of (time i) d.points) (stretches_of (keys i) d.points (c.deref.ensures.value i))))) are) c.parts_in.ensures.lists
