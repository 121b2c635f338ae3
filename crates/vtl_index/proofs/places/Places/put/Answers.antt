use Rattle.std.proofs.Common.{◌≡◌, false, sym, refl, subst}
use Rattle.std.specs.List.{list_any}
use Rattle.vtl_lists.proofs.Tests.{on_err}
use Rattle.vtl_index.proofs.Putting.{backed_other, backed_same, finds_same, kept_filled, kept_other, same_slots, taken_filled, taken_other}
use Rattle.vtl_index.specs.Buckets.{is_free, slots_at}
use Rattle.vtl_index.proofs.places.Places.put.Goals as goal

pub returns-then-fill_bucket-clause-kept : goal.returns-then-fill_bucket-clause-kept
returns-then-fill_bucket-clause-kept c =
    kept_filled (record { hash = c.args.hash; place = c.args.place }) c.args.self.now.buckets.items c.fill_bucket.new.buckets.items c.args.self.now.others c.fill_bucket.ensures.filled c.requires.backed
    c.args.key.now c.requires.hash (sym c.if-fill_bucket.ensures.found)

pub returns-then-fill_bucket-clause-taken : goal.returns-then-fill_bucket-clause-taken
returns-then-fill_bucket-clause-taken c =
    taken_filled (record { hash = c.args.hash; place = c.args.place }) c.args.self.now.buckets.items c.fill_bucket.new.buckets.items c.args.self.now.others c.fill_bucket.ensures.filled c.requires.backed
    c.args.key.now c.requires.hash (sym c.if-fill_bucket.ensures.found)

pub returns-in_err-copied-clause-backed : goal.returns-in_err-copied-clause-backed
returns-in_err-copied-clause-backed c =
    backed_same c.args.self.now.buckets.items c.fill_bucket.new.buckets.items c.args.self.now.others c.args.self.now.others c.requires.backed
    (same_slots (record { hash = c.args.hash; place = c.args.place }) _ _ c.fill_bucket.ensures.filled (sym c.if-fill_bucket.ensures.found)) refl

pub returns-in_err-copied-clause-err : goal.returns-in_err-copied-clause-err
returns-in_err-copied-clause-err c =
    on_err c.from_residual.result
    (finds_same c.args.self.now.buckets.items c.fill_bucket.new.buckets.items c.args.self.now.others c.args.self.now.others
    (same_slots (record { hash = c.args.hash; place = c.args.place }) _ _ c.fill_bucket.ensures.filled (sym c.if-fill_bucket.ensures.found)) refl)

pub returns-in_err-insert-clause-backed : goal.returns-in_err-insert-clause-backed
returns-in_err-insert-clause-backed c =
    backed_same c.args.self.now.buckets.items c.fill_bucket.new.buckets.items c.args.self.now.others c.insert.new.self c.requires.backed
    (same_slots (record { hash = c.args.hash; place = c.args.place }) _ _ c.fill_bucket.ensures.filled (sym c.if-fill_bucket.ensures.found)) c.in_err-insert.ensures.err

pub returns-in_err-insert-clause-err : goal.returns-in_err-insert-clause-err
returns-in_err-insert-clause-err c =
    on_err c.from_residual-in_err-insert.result
    (finds_same c.args.self.now.buckets.items c.fill_bucket.new.buckets.items c.args.self.now.others c.insert.new.self
    (same_slots (record { hash = c.args.hash; place = c.args.place }) _ _ c.fill_bucket.ensures.filled (sym c.if-fill_bucket.ensures.found)) c.in_err-insert.ensures.err)

pub returns-clause-backed : goal.returns-clause-backed
returns-clause-backed c =
    backed_other c.args.key.now c.args.place c.in_ok-copied.field-0 c.in_ok-copied.ensures c.args.self.now.others c.insert.new.self c.in_ok-insert.ensures.updates.1 c.in_ok-insert.ensures.entries
    c.args.self.now.buckets.items c.fill_bucket.new.buckets.items c.requires.backed
    (same_slots (record { hash = c.args.hash; place = c.args.place }) _ _ c.fill_bucket.ensures.filled (sym c.if-fill_bucket.ensures.found))
    (subst (λ h. list_any is_free (slots_at c.args.self.now.buckets.items h) ≡ false) c.requires.hash (sym c.if-fill_bucket.ensures.found))

pub returns-clause-kept : goal.returns-clause-kept
returns-clause-kept c =
    kept_other c.args.key.now c.args.place c.in_ok-copied.field-0 c.in_ok-copied.ensures c.args.self.now.others c.insert.new.self c.in_ok-insert.ensures.updates.1 c.in_ok-insert.ensures.entries
    c.args.self.now.buckets.items c.fill_bucket.new.buckets.items c.requires.backed
    (same_slots (record { hash = c.args.hash; place = c.args.place }) _ _ c.fill_bucket.ensures.filled (sym c.if-fill_bucket.ensures.found))
    (subst (λ h. list_any is_free (slots_at c.args.self.now.buckets.items h) ≡ false) c.requires.hash (sym c.if-fill_bucket.ensures.found))

pub returns-clause-taken : goal.returns-clause-taken
returns-clause-taken c =
    taken_other c.args.key.now c.args.place c.in_ok-copied.field-0 c.in_ok-copied.ensures c.args.self.now.others c.insert.new.self c.in_ok-insert.ensures.updates.1 c.in_ok-insert.ensures.entries
    c.args.self.now.buckets.items c.fill_bucket.new.buckets.items c.requires.backed
    (same_slots (record { hash = c.args.hash; place = c.args.place }) _ _ c.fill_bucket.ensures.filled (sym c.if-fill_bucket.ensures.found))
    (subst (λ h. list_any is_free (slots_at c.args.self.now.buckets.items h) ≡ false) c.requires.hash (sym c.if-fill_bucket.ensures.found))
