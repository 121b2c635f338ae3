-- The first row that has a key is its lead.
use Rattle.std.proofs.Common.{◌≡◌, ℕ, ◌+◌, ◌<◌, ◌≤◌, List, [], ◌∷◌, ◌++◌, Option, None, Some, length, take, arith, sym, ap, ◌∙◌, true≢false}
use Rattle.std.specs.List.{position_or_len}
use Rattle.std.specs.Option.{unwrap_or}
use Rattle.std.proofs.lemmas.List.{get_or-map, length-map, take_more}
use Rattle.std.proofs.lemmas.List.Sums.{position_or_len_is}
use Rattle.vtl_cell.specs.Row.{Row, same_row}
use Rattle.vtl_cell.proofs.Rows.{same_row-is, same_row-refl}
use Rattle.vtl_rows.specs.Places.{row_at}
use Rattle.vtl_index.proofs.Ranges.{none_pass}
use Rattle.vtl_index.specs.FirstRows.{FindsFirst, IsFirst}
use Rattle.vtl_index.specs.Leads.{leads_of, rows_with}

-- a row's own key is found
pub own_is_found : (keys : ℕ → Row) (n i : ℕ) (found : Option ℕ) → i < n → FindsFirst keys n (keys i) found → IsFirst keys n (keys i) (unwrap_or found i)
own_is_found keys n i None h none = absurd (true≢false (sym (same_row-refl (keys i)) ∙ none i h))
own_is_found keys n i (Some lead) h first = first

module _ (key : Row → Row) (rows : List Row) where
  abbrev pub lead_of : Row → ℕ
  lead_of r = position_or_len (λ s. same_row (key s) (key r)) rows

  pub lead_is : (i lead : ℕ) → IsFirst (λ j. key (row_at rows j)) (length rows) (key (row_at rows i)) lead → lead_of (row_at rows i) ≡ lead
  lead_is i lead first =
      let within : lead ≤ length rows = omega (arith, first.within) in
      position_or_len_is (λ s. same_row (key s) (key (row_at rows i))) rows lead [] within first.before (λ h. first.here)

  -- one more lead
  pub leads_more : (i lead : ℕ) (leads : List ℕ) → i < length rows → leads ≡ take i (leads_of key rows) → IsFirst (λ j. key (row_at rows j)) (length rows) (key (row_at rows i)) lead
      → leads ++ lead ∷ [] ≡ take (i + 1) (leads_of key rows)
  leads_more i lead leads h e first =
      let count = length-map rows lead_of in
      let within : i < length (leads_of key rows) = omega (arith, h, count) in
      ap (λ l. l ++ lead ∷ []) e ∙ ap (λ k. take i (leads_of key rows) ++ k ∷ []) (sym (get_or-map lead_of rows i [] 0 h ∙ lead_is i lead first))
      ∙ sym (take_more (leads_of key rows) i 0 within)

  -- ---- the rows of a key that is not found
  pub no_rows : (k : Row) → FindsFirst (λ j. key (row_at rows j)) (length rows) k None → [] ≡ rows_with key rows k
  no_rows k none = sym (none_pass (λ j. same_row (key (row_at rows j)) k) (length rows) none)

  pub lead_key : (k : Row) (lead : ℕ) → IsFirst (λ j. key (row_at rows j)) (length rows) k lead → rows_with key rows (key (row_at rows lead)) ≡ rows_with key rows k
  lead_key k lead first = ap (rows_with key rows) (same_row-is (key (row_at rows lead)) k first.here)
