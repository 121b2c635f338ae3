-- Rows that tie have one hash, so each is met where it is looked for.
use Rattle.std.proofs.Common.{◌≡◌, ◌≢◌, bit_and, eq-eqb, ℕ, ◌+◌, ◌<◌, ◌≤◌, inl, inr, List, [], ◌∷◌, Bool, true, false, ◌&&◌, map, set, arith, refl, sym, ap, ◌∙◌, subst}
use Rattle.std.specs.Hash.FoldHasher as folding
use Rattle.std.specs.List.{fold}
use Rattle.std.specs.Ordering.{is_eq}
use Rattle.std.proofs.lemmas.Bool.{cases_eq, cases_order, and_parts}
use Rattle.std.proofs.lemmas.List.{get_or-set_same, get_or-set_other}
use Rattle.vtl_cell.specs.Row.{Row, column_of}
use Rattle.vtl_cell.specs.Sorted.{by_keys, key_cmp}
use Rattle.vtl_cell.proofs.Cells.{same_cell-is}
use Rattle.vtl_rows.specs.declared.column.SortKey.{SortKey}
use Rattle.vtl_rows.specs.declared.seen.Probe.{Probe}
use Rattle.vtl_rows.specs.declared.seen.Slot.{Slot}
use Rattle.vtl_rows.specs.Keys.{key_of, tie_by}
use Rattle.vtl_rows.specs.Places.{row_at}
use Rattle.vtl_rows.specs.Seen.{AreUsed, Covers, IsFree, IsNew, Stands, key_cells, probe_of, row_hash, slot_at, tag_of, with_cell}
use Rattle.vtl_rows.proofs.Ties.{both_tie}

-- ---- ties
cell_tied : (k : SortKey) (r s : Row) → is_eq (key_cmp (key_of k) r s) ≡ true → column_of k.column r ≡ column_of k.column s
cell_tied k r s e = go k.falling e
  where
    go : (falling : Bool) → is_eq (key_cmp (record { place = k.column; falling = falling }) r s) ≡ true → column_of k.column r ≡ column_of k.column s
    go true e = sym (same_cell-is (column_of k.column s) (column_of k.column r) e)
    go false e = same_cell-is (column_of k.column r) (column_of k.column s) e

pub tied_cells : (keys : List SortKey) (r s : Row) → tie_by keys r s ≡ true → key_cells keys r ≡ key_cells keys s
tied_cells [] r s e = refl
tied_cells (k ∷ ks) r s e =
    let both = and_parts (is_eq (key_cmp (key_of k) r s)) (tie_by ks r s) (sym (both_tie (key_cmp (key_of k) r s) (by_keys (map key_of ks) r s)) ∙ e) in
    ap (λ x. x ∷ key_cells ks r) (cell_tied k r s both.0) ∙ ap (λ xs. column_of k.column s ∷ xs) (tied_cells ks r s both.1)

tied_hash : (keys : List SortKey) (r s : Row) → tie_by keys r s ≡ true → row_hash keys r ≡ row_hash keys s
unfolding row_hash
tied_hash keys r s e = ap (λ cells. folding.finish (fold (with_cell folding.write) folding.initial cells)) (tied_cells keys r s e)

-- ---- a free slot, and no match before it
module _ (keys : List SortKey) (rows : List Row) (mask i : ℕ) (slots : List Slot) (covers : Covers keys rows mask slots i) (place : ℕ) where
  abbrev probe : Probe
  probe = probe_of keys mask (row_at rows i) i

  module _ (free : IsFree keys rows slots probe place) where
    pub none_ties : IsNew keys rows i
    none_ties j h = go (tie_by keys (row_at rows j) (row_at rows i)) refl
      where
        go : (b : Bool) → tie_by keys (row_at rows j) (row_at rows i) ≡ b → tie_by keys (row_at rows j) (row_at rows i) ≡ false
        go false e = e
        go true e =
            let hash = tied_hash keys (row_at rows j) (row_at rows i) e in
            let stands = covers j h in
            let start : (probe_of keys mask (row_at rows j) j).start ≡ probe.start = ap (λ n. bit_and n mask) hash in
            let from : probe.start ≤ stands.place = subst (λ n. n ≤ stands.place) start stands.behind in
            let tag : (slot_at slots stands.place).tag ≡ probe.tag = stands.tagged ∙ ap tag_of hash in
            elim (cases_order stands.place place) [
              | inl same ↦
                  let row : (slot_at slots place).row ≡ j = subst (λ k. (slot_at slots k).row ≡ j) same stands.held in
                  absurd (omega (arith, row, free.free, h))
              | inr away ↦ elim away [
                | inl less ↦
                    sym (ap (λ b. b && tie_by keys (row_at rows (slot_at slots stands.place).row) (row_at rows i)) (eq-eqb (slot_at slots stands.place).tag probe.tag tag)
                    ∙ ap (λ n. tie_by keys (row_at rows n) (row_at rows i)) stands.held)
                    ∙ free.none stands.place from less
                | inr more ↦
                    let used = stands.used place (subst (λ n. n ≤ place) (sym start) free.behind) more in
                    absurd (omega (arith, used, free.free))
              ]
            ]

    -- the row is put into the slot
    pub covered : (slots' : List Slot) → slots' ≡ set slots place (record { tag = probe.tag; row = i }) → Covers keys rows mask slots' (i + 1)
    covered slots' e = subst (λ l. Covers keys rows mask l (i + 1)) (sym e) all
      where
        new : Slot
        new = record { tag = probe.tag; row = i }

        none : Slot
        none = record { tag = 0; row = 0 }

        here : slot_at (set slots place new) place ≡ new
        here = get_or-set_same slots place new none free.within

        there : (k : ℕ) → k ≢ place → slot_at (set slots place new) k ≡ slot_at slots k
        there k ne = get_or-set_other slots place k new none ne

        still_used : (start end : ℕ) → AreUsed slots start end i → AreUsed (set slots place new) start end (i + 1)
        still_used start end used k from to = elim (cases_eq k place) [
          | inl same ↦ let r : (slot_at (set slots place new) k).row ≡ i = subst (λ n. (slot_at (set slots place new) n).row ≡ i) (sym same) (ap (λ s. s.row) here) in omega (arith, r)
          | inr ne ↦ let r : (slot_at (set slots place new) k).row ≡ (slot_at slots k).row = ap (λ s. s.row) (there k ne) in let u = used k from to in omega (arith, r, u)
        ]

        before : (j : ℕ) → j < i → Stands (set slots place new) (probe_of keys mask (row_at rows j) j) (i + 1)
        before j h =
            let stands = covers j h in
            let ne : stands.place ≢ place = λ same. let row : (slot_at slots place).row ≡ j = subst (λ k. (slot_at slots k).row ≡ j) same stands.held in absurd (omega (arith, row, free.free, h)) in
            record {
              place = stands.place;
              behind = stands.behind;
              tagged = ap (λ s. s.tag) (there stands.place ne) ∙ stands.tagged;
              held = ap (λ s. s.row) (there stands.place ne) ∙ stands.held;
              used = still_used (probe_of keys mask (row_at rows j) j).start stands.place stands.used;
            }

        all : Covers keys rows mask (set slots place new) (i + 1)
        all j h = elim (cases_eq j i) [
          | inl same ↦
              subst (λ n. Stands (set slots place new) (probe_of keys mask (row_at rows n) n) (i + 1)) (sym same)
              (record { place = place; behind = free.behind; tagged = ap (λ s. s.tag) here; held = ap (λ s. s.row) here; used = still_used probe.start place free.used })
          | inr ne ↦ before j (omega (arith, h, ne))
        ]
