use Rattle.std.proofs.Common.{◌≡◌, ◌<◌, ◌∙◌, ap, sym, subst, length, slice_get}
use Rattle.std.specs.List.{list_any}
use Rattle.vtl_index.proofs.Putting.{bucket_within, slots_of_bucket}
use Rattle.vtl_index.specs.Buckets.{bucket_at, is_free, slots_in}
use Rattle.vtl_index.proofs.places.fill_bucket.Goals as goal

pub returns-clause-found : goal.returns-clause-found
returns-clause-found c =
    let at : c.bucket_at-at.result ≡ bucket_at c.args.slot.hash (length c.args.buckets.now.items) = c.bucket_at-at.ensures ∙ ap (bucket_at c.args.slot.hash) (c.len.ensures ∙ c.args.buckets.now.ok.0) in
    let within = subst (λ j. j < length c.args.buckets.now.items) (sym at) (bucket_within c.args.slot.hash (length c.args.buckets.now.items) c.requires) in
    c.fill.ensures.found
    ∙ ap (list_any is_free) (sym (slots_of_bucket c.args.buckets.now.items c.bucket_at-at.result c.index_mut-bucket.result.now within c.index_mut-bucket.ensures.value) ∙ ap (λ j. slots_in (slice_get c.args.buckets.now.items j)) at)
