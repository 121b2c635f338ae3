-- The probes of the rows of a block.
use Rattle.std.proofs.Common.{◌≡◌, ℕ, ◌+◌, ◌<◌, List, [], ◌∷◌, ◌++◌, length, slice_index_or, arith, refl, sym, ap, ◌∙◌, subst}
use Rattle.std.proofs.lemmas.List.FromFn.{get_or-map-range_with_len, length-map-range_with_len, map-range_with_len_more}
use Rattle.vtl_cell.specs.Row.{Row}
use Rattle.vtl_rows.specs.declared.column.SortKey.{SortKey}
use Rattle.vtl_rows.specs.declared.seen.Probe.{Probe}
use Rattle.vtl_rows.specs.declared.seen.Slot.{Slot}
use Rattle.vtl_rows.specs.Keys.{IsFirstSame, tie_by}
use Rattle.vtl_rows.specs.Places.{row_at}
use Rattle.vtl_rows.specs.Seen.{Covers, IsNew, IsNewUpTo, Repeats, probe_of, probes_of}
use Rattle.vtl_rows.proofs.Firsts.{first_same, one_apart}

module _ (keys : List SortKey) (mask : ℕ) (rows : List Row) (first : ℕ) where
  abbrev probe_at : ℕ → Probe
  probe_at i = probe_of keys mask (row_at rows i) i

  module _ (count : ℕ) (probes : List Probe) (e : probes ≡ probes_of keys mask rows first count) where
    -- the row behind them is looked for too
    pub one_more : (i more : ℕ) → first + count ≡ i → count + 1 ≡ more → (probe : Probe) → probe ≡ probe_at i → (probes' : List Probe) → probes' ≡ probes ++ probe ∷ [] → probes' ≡ probes_of keys mask rows first more
    one_more i more next m probe p probes' pushed =
        pushed ∙ ap (λ l. l ++ probe ∷ []) e ∙ ap (λ p. probes_of keys mask rows first count ++ p ∷ []) p
        ∙ sym (map-range_with_len_more probe_at first count i next) ∙ ap (probes_of keys mask rows first) m

    pub count_is : length probes ≡ count
    count_is = ap length e ∙ length-map-range_with_len probe_at first count

    module _ (k : ℕ) (none : Probe) (within : k < length probes) where
      probe_is : slice_index_or probes k none ≡ probe_at (first + k)
      probe_is =
          let counted = count_is in
          let k' : k < count = omega (arith, within, counted) in
          ap (λ l. slice_index_or l k none) e ∙ get_or-map-range_with_len probe_at first count k (first + k) none k' refl

      pub row_is : (slice_index_or probes k none).row ≡ first + k
      row_is = ap (λ p. p.row) probe_is

      pub of_row : slice_index_or probes k none ≡ probe_at (slice_index_or probes k none).row
      of_row = probe_is ∙ ap probe_at (sym row_is)

-- ---- what is told of the next row
module _ (keys : List SortKey) (mask : ℕ) (rows : List Row) (slots : List Slot) (row i : ℕ) (same : row ≡ i) (within : i < length rows) (before : IsNewUpTo keys rows mask slots i) where
  pub repeats_first : Repeats keys rows row → IsFirstSame (tie_by keys) rows row
  repeats_first told =
      let before' = subst (IsNewUpTo keys rows mask slots) (sym same) before in
      first_same (tie_by keys) rows row told.0 (omega (arith, same, within)) before'.0 told.1 told.2

  pub new_so_far : (slots' : List Slot) (mask' next : ℕ) → i + 1 ≡ next → IsNew keys rows row × Covers keys rows mask' slots' (row + 1) → IsNewUpTo keys rows mask' slots' next
  new_so_far slots' mask' next e told =
      let before' = subst (IsNewUpTo keys rows mask slots) (sym same) before in
      let n : row + 1 ≡ next = omega (arith, same, e) in
      subst (IsNewUpTo keys rows mask' slots') n (one_apart (tie_by keys) rows row (omega (arith, same, within)) before'.0 told.0, told.1)
