-- Equal keys have one hash, so the first row of each is met where it is looked for.
use Rattle.std.proofs.Common.{◌≡◌, ◌≢◌, ℕ, ◌+◌, ◌-◌, ◌<◌, ◌≤◌, ◌^◌, inl, inr, List, Bool, true, false, ◌==◌, ◌&&◌, None, Some, eq-eqb, length, min, replicate, set, arith, refl, sym, ap, subst, ◌∙◌, true≢false}
use Rattle.std.proofs.lemmas.Bool.{cases_eq, cases_lt, and_parts}
use Rattle.std.proofs.lemmas.List.{get_or-replicate, get_or-set_other, get_or-set_same, get_or_past, length-replicate, length-set}
use Rattle.vtl_cell.specs.Row.{Row, same_row}
use Rattle.vtl_cell.proofs.Rows.{same_row-is, same_row-refl}
use Rattle.vtl_index.specs.FirstRows.{FindsFirst, IsFirst}
use Rattle.vtl_index.specs.RowKeys.{hash_by, tag_of}
use Rattle.vtl_index.specs.RowSlots.{AreUsed, IsFilled, IsFree, IsHeld, NoneMatches, Stands, end_of, is_match, slot_at, start_of}
use Rattle.vtl_index.specs.declared.row_keys.Hashing.{Hashing}
use Rattle.vtl_index.specs.declared.row_slots.RowSlot.{RowSlot}

abbrev none : RowSlot
none = record { tag = 0; row = 0 }

abbrev unused : RowSlot
unused = record { tag = 0; row = 2 ^ 32 - 1 }

module _ (hashing : Hashing) (keys : ℕ → Row) (n mask : ℕ) (slots : List RowSlot) where
  -- a slot holds no row that is not the first of its key
  abbrev IsLead : RowSlot → Type 0
  IsLead s = s.row < n → (j : ℕ) → j < s.row → same_row (keys j) (keys s.row) ≡ false

  -- the row of a slot that matches
  pub held_at : (key : Row) (place : ℕ) → start_of mask (hash_by hashing key) ≤ place → place < end_of mask slots (hash_by hashing key) → (slot_at slots place).row < n → is_match hashing keys key (slot_at slots place) ≡ true
      → AreUsed slots n (start_of mask (hash_by hashing key)) place → IsHeld hashing keys n mask slots key (slot_at slots place).row
  held_at key place behind within here match used =
      record {
        stands = record { place = place; behind = behind; within = within; matching = match; used = used_to };
        there = refl;
      }
    where
      used_to : AreUsed slots n (start_of mask (hash_by hashing key)) (place + 1)
      used_to q from to = elim (cases_eq q place) [
        | inl same ↦ subst (λ k. (slot_at slots k).row < n) (sym same) here
        | inr ne ↦ used q from (omega (arith, to, ne))
      ]

  -- a slot that was read, for a hash that is the key's
  pub held_now : (key : Row) (hash : ℕ) → hash ≡ hash_by hashing key → (place : ℕ) (slot : RowSlot) → slot ≡ slot_at slots place → start_of mask hash ≤ place → place < end_of mask slots hash → slot.row < n → slot.tag ≡ tag_of hash → same_row (keys slot.row) key ≡ true
      → AreUsed slots n (start_of mask hash) place → IsHeld hashing keys n mask slots key slot.row
  held_now key hash at place slot e behind within here tag same used =
      subst (λ s. IsHeld hashing keys n mask slots key s.row) (sym e)
      (held_at key place (subst (λ h. start_of mask h ≤ place) at behind) (subst (λ h. place < end_of mask slots h) at within) (subst (λ s. s.row < n) e here)
      (subst (λ s. is_match hashing keys key s ≡ true) e (ap (λ b. b && same_row (keys slot.row) key) (eq-eqb slot.tag (tag_of (hash_by hashing key)) (tag ∙ ap tag_of at)) ∙ same))
      (subst (λ h. AreUsed slots n (start_of mask h) place) at used))

  module _ (i : ℕ) (filled : IsFilled hashing keys n mask slots i) where
    -- no row before has a key that no slot matches up to a place, where its slot would stand before that place
    pub none_before : (key : Row) (stop : ℕ) → NoneMatches hashing keys slots key (start_of mask (hash_by hashing key)) stop
        → ((place : ℕ) → place < end_of mask slots (hash_by hashing key) → AreUsed slots n (start_of mask (hash_by hashing key)) (place + 1) → place < stop)
        → (j : ℕ) → j < i → same_row (keys j) key ≡ false
    none_before key stop unlike reach j h = go (same_row (keys j) key) refl
      where
        go : (b : Bool) → same_row (keys j) key ≡ b → same_row (keys j) key ≡ false
        go false e = e
        go true e =
            let stands : Stands hashing keys n mask slots key = subst (Stands hashing keys n mask slots) (same_row-is (keys j) key e) (filled.stands j h) in
            absurd (true≢false (sym stands.matching ∙ unlike stands.place stands.behind (reach stands.place stands.within stands.used)))

    pub none_at_free : (key : Row) (place : ℕ) → IsFree hashing keys n mask slots key place → (j : ℕ) → j < i → same_row (keys j) key ≡ false
    none_at_free key place free = none_before key place free.none reach
      where
        reach : (q : ℕ) → q < end_of mask slots (hash_by hashing key) → AreUsed slots n (start_of mask (hash_by hashing key)) (q + 1) → q < place
        reach q within used = elim (cases_lt q place) [
          | inl less ↦ less
          | inr more ↦ let taken = used place free.behind (omega (arith, more)) in absurd (omega (arith, taken, free.free))
        ]

    -- a row that is held is the first that has its key
    pub held_first : (key : Row) (row : ℕ) → IsHeld hashing keys n mask slots key row → IsFirst keys n key row
    held_first key row held =
        let match = and_parts ((slot_at slots held.stands.place).tag == tag_of (hash_by hashing key)) (same_row (keys (slot_at slots held.stands.place).row) key) held.stands.matching in
        let here : same_row (keys row) key ≡ true = subst (λ r. same_row (keys r) key ≡ true) held.there match.1 in
        let in_use : (slot_at slots held.stands.place).row < n = held.stands.used held.stands.place held.stands.behind (omega arith) in
        record {
          within = subst (λ r. r < n) held.there in_use;
          here = here;
          before = λ j h.
              subst (λ k. same_row (keys j) k ≡ false) (same_row-is (keys row) key here)
              (subst (λ r. j < r → same_row (keys j) (keys r) ≡ false) held.there (filled.firsts held.stands.place in_use j) h);
        }

    -- ---- one more row, whose key stands in a slot
    pub one_more : Stands hashing keys n mask slots (keys i) → IsFilled hashing keys n mask slots (i + 1)
    one_more stands = record { stands = all; firsts = filled.firsts }
      where
        all : (j : ℕ) → j < i + 1 → Stands hashing keys n mask slots (keys j)
        all j h = elim (cases_eq j i) [
          | inl same ↦ subst (λ k. Stands hashing keys n mask slots (keys k)) (sym same) stands
          | inr ne ↦ filled.stands j (omega (arith, h, ne))
        ]

    -- ---- or is put into a free one
    module _ (within : i < n) (place : ℕ) (free : IsFree hashing keys n mask slots (keys i) place) where
      abbrev new : RowSlot
      new = record { tag = tag_of (hash_by hashing (keys i)); row = i }

      abbrev now : List RowSlot
      now = set slots place new

      inside : place < length slots
      inside = omega (arith, free.within)

      here : slot_at now place ≡ new
      here = get_or-set_same slots place new none inside

      there : (k : ℕ) → k ≢ place → slot_at now k ≡ slot_at slots k
      there k ne = get_or-set_other slots place k new none ne

      still_end : (hash : ℕ) → end_of mask now hash ≡ end_of mask slots hash
      still_end hash = ap (min (start_of mask hash + 128)) (length-set slots place new)

      still_used : (start stop : ℕ) → AreUsed slots n start stop → AreUsed now n start stop
      still_used start stop used k from to = elim (cases_eq k place) [
        | inl same ↦ let r = ap (λ q. (slot_at now q).row) same ∙ ap (λ s. s.row) here in omega (arith, r, within)
        | inr ne ↦ let r = ap (λ s. s.row) (there k ne) in let u = used k from to in omega (arith, r, u)
      ]

      still_stands : (key : Row) → Stands hashing keys n mask slots key → Stands hashing keys n mask now key
      still_stands key stands =
          let in_use = stands.used stands.place stands.behind (omega arith) in
          let ne : stands.place ≢ place = λ same. let r = ap (λ k. (slot_at slots k).row) same in absurd (omega (arith, r, in_use, free.free)) in
          record {
            place = stands.place;
            behind = stands.behind;
            within = subst (λ e. stands.place < e) (sym (still_end (hash_by hashing key))) stands.within;
            matching = ap (is_match hashing keys key) (there stands.place ne) ∙ stands.matching;
            used = still_used (start_of mask (hash_by hashing key)) (stands.place + 1) stands.used;
          }

      put_stands : Stands hashing keys n mask now (keys i)
      put_stands =
          record {
            place = place;
            behind = free.behind;
            within = subst (λ e. place < e) (sym (still_end (hash_by hashing (keys i)))) free.within;
            matching =
                ap (is_match hashing keys (keys i)) here ∙ ap (λ b. b && same_row (keys i) (keys i)) (eq-eqb (tag_of (hash_by hashing (keys i))) (tag_of (hash_by hashing (keys i))) refl)
                ∙ same_row-refl (keys i);
            used = used_to;
          }
        where
          used_to : AreUsed now n (start_of mask (hash_by hashing (keys i))) (place + 1)
          used_to q from to = elim (cases_eq q place) [
            | inl same ↦ let r = ap (λ k. (slot_at now k).row) same ∙ ap (λ s. s.row) here in omega (arith, r, within)
            | inr ne ↦ still_used (start_of mask (hash_by hashing (keys i))) place free.used q from (omega (arith, to, ne))
          ]

      pub put_filled : IsFilled hashing keys n mask now (i + 1)
      put_filled = record { stands = all; firsts = firsts }
        where
          all : (j : ℕ) → j < i + 1 → Stands hashing keys n mask now (keys j)
          all j h = elim (cases_eq j i) [
            | inl same ↦ subst (λ k. Stands hashing keys n mask now (keys k)) (sym same) put_stands
            | inr ne ↦ still_stands (keys j) (filled.stands j (omega (arith, h, ne)))
          ]

          firsts : (q : ℕ) → IsLead (slot_at now q)
          firsts q = elim (cases_eq q place) [
            | inl same ↦
                subst (λ k. IsLead (slot_at now k)) (sym same)
                (subst IsLead (sym here) (λ h j less. none_at_free (keys i) place free j less))
            | inr ne ↦ subst IsLead (sym (there q ne)) (filled.firsts q)
          ]

      pub put_first : IsFirst keys n (keys i) i
      put_first = record { within = within; here = same_row-refl (keys i); before = none_at_free (keys i) place free }

  -- ---- what a search tells, where all rows stand in the slots
  pub held_finds : IsFilled hashing keys n mask slots n → (key : Row) (row : ℕ) → IsHeld hashing keys n mask slots key row → FindsFirst keys n key (Some row)
  held_finds filled key row held = held_first n filled key row held

  pub free_finds : IsFilled hashing keys n mask slots n → (key : Row) (place : ℕ) → IsFree hashing keys n mask slots key place → FindsFirst keys n key None
  free_finds filled key place free = none_at_free n filled key place free

  pub unknown_finds : IsFilled hashing keys n mask slots n → (key : Row) → NoneMatches hashing keys slots key (start_of mask (hash_by hashing key)) (end_of mask slots (hash_by hashing key)) → FindsFirst keys n key None
  unknown_finds filled key unlike = none_before n filled key (end_of mask slots (hash_by hashing key)) unlike (λ q within used. within)

-- ---- slots of no rows
pub none_filled : (hashing : Hashing) (keys : ℕ → Row) (n mask count : ℕ) (slots : List RowSlot) → n < 2 ^ 32 → slots ≡ replicate count (record { tag = 0; row = 2 ^ 32 - 1 }) → IsFilled hashing keys n mask slots 0
none_filled hashing keys n mask count slots few e =
    record {
      stands = λ j h. absurd (omega (arith, h));
      firsts = subst (λ l. (q : ℕ) → (slot_at l q).row < n → (j : ℕ) → j < (slot_at l q).row → same_row (keys j) (keys (slot_at l q).row) ≡ false) (sym e) firsts;
    }
  where
    firsts : (q : ℕ) → (slot_at (replicate count unused) q).row < n → (j : ℕ) → j < (slot_at (replicate count unused) q).row
        → same_row (keys j) (keys (slot_at (replicate count unused) q).row) ≡ false
    firsts q h j less = elim (cases_lt q count) [
      | inl inside ↦
          let r = ap (λ s. s.row) (get_or-replicate count q unused none inside) in absurd (omega (arith, r, h, few))
      | inr past ↦
          let l = length-replicate count unused in
          let r = ap (λ s. s.row) (get_or_past (replicate count unused) q none (omega (arith, l, past))) in
          absurd (omega (arith, r, less))
    ]
