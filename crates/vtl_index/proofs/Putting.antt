-- A place that is put: into a slot, or into the map where no slot is free.
use Rattle.std.proofs.Common.{◌≡◌, ℕ, zero, suc, ◌<◌, ◌-◌, Bool, true, false, cond, List, [], ◌∷◌, length, slice_get, get_or, Option, Some, None, Vec, IsSome, Ordering, Less, Equal, Greater, is_eq, is_some, refl, sym, ap, ◌∙◌, subst, arith, true≢false, eqb, eqb-true, eq-eqb}
use Rattle.std.proofs.lemmas.Nat.{and_le_r}
use Rattle.std.specs.BTreeMap.{get_by, insert_entry}
use Rattle.std.specs.Cmp.Lexicographic.{slice_cmp}
use Rattle.std.specs.List.{list_any}
use Rattle.std.specs.Map.{lookup}
use Rattle.std.specs.Ordering.{match_ordering}
use Rattle.std.specs.declared.alloc.Global.{Global}
use Rattle.vtl_cell.proofs.Orders.{derived_is}
use Rattle.vtl_cell.proofs.Rows.{row_cmp-ties, same_row-is, same_row-refl}
use Rattle.vtl_cell.specs.Row.{Row, same_row}
use Rattle.vtl_cell.specs.contracts.cell.CellOrd.TheImpl.{cmp-value}
use Rattle.vtl_cell.specs.declared.cell.Cell.{Cell}
use Rattle.vtl_index.proofs.Finding.{sought, sought_filled, sought_other, sought_taken, sought_unfit}
use Rattle.vtl_index.proofs.Slots.{filled_full}
use Rattle.vtl_index.specs.Buckets.{IsFilled, bucket_at, is_free, slots_at, slots_in}
use Rattle.vtl_index.specs.Keys.{key_hash}
use Rattle.vtl_index.specs.Places.{FindsSame, IsBacked, KeepsOthers, Others, TakesPlace, other_place, seek}
use Rattle.vtl_index.specs.declared.bucket.Bucket.{Bucket}
use Rattle.vtl_index.specs.declared.bucket.Slot.{Slot}

-- ---- one bucket
pub bucket_within : (hash n : ℕ) → 0 < n → bucket_at hash n < n
bucket_within hash n h = let le = and_le_r hash (n - 1) in omega (arith, le)

pub slots_of_bucket : (bs : List Bucket) (at : ℕ) (b : Bucket) → at < length bs → b ≡ get_or bs at b → slots_in (slice_get bs at) ≡ b.slots
slots_of_bucket [] at b h e = absurd (omega arith)
slots_of_bucket (x ∷ xs) zero b h e = ap (λ z. z.slots) (sym e)
slots_of_bucket (x ∷ xs) (suc i) b h e = slots_of_bucket xs i b (omega arith) e

pub slots_at_same : (bs : List Bucket) (g h : ℕ) → bucket_at g (length bs) ≡ bucket_at h (length bs) → slots_at bs g ≡ slots_at bs h
slots_at_same bs g h e = ap (λ j. slots_in (slice_get bs j)) e

-- by whether two hashes have one bucket
by_bucket : {P : Type 0} (m n : ℕ) → (m ≡ n → P) → ((m ≡ n → ⊥) → P) → P
by_bucket {P} m n same other = go (eqb m n) refl
  where
    go : (b : Bool) → eqb m n ≡ b → P
    go true e = same (eqb-true m n e)
    go false e = other (λ k. true≢false (sym (eq-eqb m n k) ∙ e))

-- ---- a slot was free
module _ (slot : Slot) (bs bs' : List Bucket) (others : Others) (put : IsFilled slot bs bs') (backed : IsBacked bs others) where
  -- full slots stay as they are
  full_stays : (hash : ℕ) → list_any is_free (slots_at bs hash) ≡ false → slots_at bs' hash ≡ slots_at bs hash
  full_stays hash full = by_bucket (bucket_at hash (length bs)) (bucket_at slot.hash (length bs)) (λ e. put.here hash e ∙ filled_full slot (slots_at bs hash) full) (put.there hash)

  pub backed_filled : IsBacked bs' others
  backed_filled key some = let full = backed key some in ap (list_any is_free) (full_stays (key_hash key) full) ∙ full

  pub kept_filled : (key : Row) → slot.hash ≡ key_hash key → list_any is_free (slots_at bs slot.hash) ≡ true → KeepsOthers key slot.place bs others bs' others
  kept_filled key hashed free passes k test unfit found = by_bucket (bucket_at (key_hash k) (length bs)) (bucket_at slot.hash (length bs)) here there
    where
      there : (bucket_at (key_hash k) (length bs) ≡ bucket_at slot.hash (length bs) → ⊥) → seek passes k bs' others ≡ seek passes k bs others
      there ne = ap (λ ss. sought passes (key_hash k) ss (other_place k others)) (put.there (key_hash k) ne)

      absent : list_any is_free (slots_at bs (key_hash k)) ≡ true → (o : Option ℕ) → other_place k others ≡ o → other_place k others ≡ None
      absent e None h = h
      absent e (Some x) h = absurd (true≢false (sym e ∙ backed k (ap is_some h)))

      here : bucket_at (key_hash k) (length bs) ≡ bucket_at slot.hash (length bs) → seek passes k bs' others ≡ seek passes k bs others
      here e =
          let open_slot = ap (list_any is_free) (slots_at_same bs (key_hash k) slot.hash e) ∙ free in
          ap (λ ss. sought passes (key_hash k) ss (other_place k others)) (put.here (key_hash k) e)
          ∙ sought_filled passes (key_hash k) slot (slots_at bs (key_hash k)) (other_place k others) unfit test open_slot (absent open_slot (other_place k others) refl)

  pub taken_filled : (key : Row) → slot.hash ≡ key_hash key → list_any is_free (slots_at bs slot.hash) ≡ true → TakesPlace key slot.place bs' others
  taken_filled key hashed free passes h one =
      subst (λ n. sought passes n (slots_at bs' n) (other_place key others) ≡ Some slot.place) hashed
      (ap (λ ss. sought passes slot.hash ss (other_place key others)) (put.here slot.hash refl) ∙ sought_taken passes slot (slots_at bs slot.hash) (other_place key others) free h one)

-- ---- no slot was free
pub same_slots : (slot : Slot) (bs bs' : List Bucket) → IsFilled slot bs bs' → list_any is_free (slots_at bs slot.hash) ≡ false → (hash : ℕ) → slots_at bs' hash ≡ slots_at bs hash
same_slots slot bs bs' put full hash = by_bucket (bucket_at hash (length bs)) (bucket_at slot.hash (length bs)) (λ e. put.here hash e ∙ filled_full slot (slots_at bs hash) (ap (list_any is_free) (slots_at_same bs hash slot.hash e) ∙ full)) (put.there hash)

-- nothing was put
pub finds_same : (bs bs' : List Bucket) (others others' : Others) → ((hash : ℕ) → slots_at bs' hash ≡ slots_at bs hash) → others'.entries ≡ others.entries → FindsSame bs others bs' others'
finds_same bs bs' others others' slots e passes k =
    ap (λ ss. sought passes (key_hash k) ss (other_place k others')) (slots (key_hash k)) ∙ ap (λ o. sought passes (key_hash k) (slots_at bs (key_hash k)) o) (place_same others others' k e)
  where
    place_same : (m n : Others) (k : Row) → n.entries ≡ m.entries → other_place k n ≡ other_place k m
    place_same m n k e = ap (λ es. lookup (λ v. is_eq (slice_cmp cmp-value.it k v.items)) es) e

pub backed_same : (bs bs' : List Bucket) (others others' : Others) → IsBacked bs others → ((hash : ℕ) → slots_at bs' hash ≡ slots_at bs hash) → others'.entries ≡ others.entries → IsBacked bs' others'
backed_same bs bs' others others' backed slots e key some =
    ap (list_any is_free) (slots (key_hash key)) ∙ backed key (subst IsSome (ap (λ es. lookup (λ v. is_eq (slice_cmp cmp-value.it key v.items)) es) e) some)

abbrev order : Row → Row → Ordering
order = slice_cmp cmp-value.it

is_equal : (o : Ordering) → is_eq o ≡ true → o ≡ Equal
is_equal Less e = absurd (true≢false (sym e))
is_equal Equal e = refl
is_equal Greater e = absurd (true≢false (sym e))

tied : (x y : Row) → order x y ≡ Equal → x ≡ y
tied x y e = row_cmp-ties x y (ap (λ f. slice_cmp f x y) (sym derived_is) ∙ e)

tie_is : (x y : Row) → is_eq (order x y) ≡ true → x ≡ y
tie_is x y e = tied x y (is_equal (order x y) e)

-- an entry of one key leaves those of others
kept_entries : (k : Row) (copy : Vec Cell Global) (place : ℕ) (es : List (Vec Cell Global × ℕ)) → is_eq (order k copy.items) ≡ false → lookup (λ v. is_eq (order k v.items)) (insert_entry (λ a b. order a.items b.items) es copy place) ≡ lookup (λ v. is_eq (order k v.items)) es
kept_entries k copy place [] ne = ap (λ b. cond b (Some place) None) ne
kept_entries k copy place (e ∷ es) ne = go (order copy.items e.0.items) refl (kept_entries k copy place es ne)
  where
    by_order : (o : Ordering) → order copy.items e.0.items ≡ o → lookup (λ v. is_eq (order k v.items)) (insert_entry (λ a b. order a.items b.items) (e ∷ es) copy place) ≡ lookup (λ v. is_eq (order k v.items)) (match_ordering o ((copy, place) ∷ e ∷ es) ((e.0, place) ∷ es) (e ∷ insert_entry (λ a b. order a.items b.items) es copy place))
    by_order o f = ap (λ z. lookup (λ v. is_eq (order k v.items)) (match_ordering z ((copy, place) ∷ e ∷ es) ((e.0, place) ∷ es) (e ∷ insert_entry (λ a b. order a.items b.items) es copy place))) f

    go : (o : Ordering) → order copy.items e.0.items ≡ o → lookup (λ v. is_eq (order k v.items)) (insert_entry (λ a b. order a.items b.items) es copy place) ≡ lookup (λ v. is_eq (order k v.items)) es → lookup (λ v. is_eq (order k v.items)) (insert_entry (λ a b. order a.items b.items) (e ∷ es) copy place) ≡ lookup (λ v. is_eq (order k v.items)) (e ∷ es)
    go Less f rest = by_order Less f ∙ ap (λ b. cond b (Some place) (lookup (λ v. is_eq (order k v.items)) (e ∷ es))) ne
    go Equal f rest =
        let unlike : is_eq (order k e.0.items) ≡ false = ap (λ r. is_eq (order k r)) (sym (tied copy.items e.0.items f)) ∙ ne in
        by_order Equal f ∙ ap (λ b. cond b (Some place) (lookup (λ v. is_eq (order k v.items)) es)) unlike ∙ sym (ap (λ b. cond b (Some e.1) (lookup (λ v. is_eq (order k v.items)) es)) unlike)
    go Greater f rest = by_order Greater f ∙ ap (λ o. cond (is_eq (order k e.0.items)) (Some e.1) o) rest

-- what the map says of a key after one more
module _ (key : Row) (place : ℕ) (copy : Vec Cell Global) (same : copy.items ≡ key) (m n : Others) (got : get_by (λ v. order copy.items v.items) n ≡ Some place) (put : n.entries ≡ insert_entry (λ a b. order a.items b.items) m.entries copy place) where
  placed_here : other_place key n ≡ Some place
  placed_here = subst (λ r. other_place r n ≡ Some place) same got

  placed_there : (k : Row) → same_row key k ≡ false → other_place k n ≡ other_place k m
  placed_there k ne = ap (λ es. lookup (λ v. is_eq (order k v.items)) es) put ∙ kept_entries k copy place m.entries (go (is_eq (order k copy.items)) refl)
    where
      go : (b : Bool) → is_eq (order k copy.items) ≡ b → is_eq (order k copy.items) ≡ false
      go true e = absurd (true≢false (sym (same_row-refl key) ∙ ap (same_row key) (sym (tie_is k copy.items e ∙ same)) ∙ ne))
      go false e = e

  module _ (bs bs' : List Bucket) (backed : IsBacked bs m) (slots : (hash : ℕ) → slots_at bs' hash ≡ slots_at bs hash) (full : list_any is_free (slots_at bs (key_hash key)) ≡ false) where
    pub backed_other : IsBacked bs' n
    backed_other k some = ap (list_any is_free) (slots (key_hash k)) ∙ go (same_row key k) refl
      where
        go : (b : Bool) → same_row key k ≡ b → list_any is_free (slots_at bs (key_hash k)) ≡ false
        go true e = subst (λ r. list_any is_free (slots_at bs (key_hash r)) ≡ false) (same_row-is key k e) full
        go false e = backed k (subst IsSome (placed_there k e) some)

    pub taken_other : TakesPlace key place bs' n
    taken_other passes h one =
        ap (λ ss. sought passes (key_hash key) ss (other_place key n)) (slots (key_hash key)) ∙ ap (λ o. sought passes (key_hash key) (slots_at bs (key_hash key)) o) placed_here
        ∙ sought_other passes (key_hash key) (slots_at bs (key_hash key)) place full h one

    pub kept_other : KeepsOthers key place bs m bs' n
    kept_other passes k test unfit found = ap (λ ss. sought passes (key_hash k) ss (other_place k n)) (slots (key_hash k)) ∙ go (same_row key k) refl
      where
        go : (b : Bool) → same_row key k ≡ b → sought passes (key_hash k) (slots_at bs (key_hash k)) (other_place k n) ≡ seek passes k bs m
        go true e =
            let none = found e in
            ap (λ o. sought passes (key_hash k) (slots_at bs (key_hash k)) o) (subst (λ r. other_place r n ≡ Some place) (same_row-is key k e) placed_here)
            ∙ sought_unfit passes (key_hash k) (slots_at bs (key_hash k)) place (other_place k m) unfit none ∙ sym none
        go false e = ap (λ o. sought passes (key_hash k) (slots_at bs (key_hash k)) o) (placed_there k e)
