-- What a look-up finds.
use Rattle.std.proofs.Common.{◌≡◌, ◌∙◌, ℕ, ◌<◌, ◌≤◌, Bool, true, false, List, [], Option, None, Some, arith, cond, get_or, length, refl, ap, subst, sym}
use Rattle.std.specs.Prelude.{slice_get}
use Rattle.std.specs.List.{position_or_len}
use Rattle.std.specs.Option.{unwrap_or}
use Rattle.std.proofs.lemmas.List.Sums.{fails_before_first, passes_at_first, position_or_len_is}
use Rattle.vtl_cell.specs.Row.{Row, same_row}
use Rattle.vtl_index.specs.FirstRows.{FindsFirst, IsFirst}
use Rattle.vtl_index.specs.GroupedRows.{keys_of}
use Rattle.vtl_index.specs.Groups.{rows_led}
use Rattle.vtl_index.specs.Leads.{leads_of, rows_with}
use Rattle.vtl_index.specs.RowIndex.{RowLookup, first_found, found_rows, is_sought}
use Rattle.vtl_index.specs.RowKeys.{key_at}
use Rattle.vtl_index.proofs.KeyGroups.{rows_of_key}
use Rattle.vtl_index.proofs.LeadLemmas.{lead_key, no_rows}
use Rattle.vtl_index.proofs.Seeking.{first_place}

module _ (x : RowLookup) (k : Row) where
  abbrev keys : ℕ → Row
  keys = keys_of x

  pub not_sought : is_sought x.nulls k ≡ false → [] ≡ found_rows x k
  not_sought e = sym (ap (λ b. cond b (rows_with (key_at x.p x.key) x.rows k) []) e)

  sought : is_sought x.nulls k ≡ true → rows_with (key_at x.p x.key) x.rows k ≡ found_rows x k
  sought e = sym (ap (λ b. cond b (rows_with (key_at x.p x.key) x.rows k) []) e)

  pub lead_found : is_sought x.nulls k ≡ true → (leads : List ℕ) → leads ≡ leads_of (key_at x.p x.key) x.rows → (lead : ℕ) → IsFirst keys (length x.rows) k lead → rows_led leads (get_or leads lead 0) ≡ found_rows x k
  lead_found e leads is lead first =
      ap (λ l. rows_led l (get_or l lead 0)) is ∙ rows_of_key (key_at x.p x.key) x.rows lead first.within ∙ lead_key (key_at x.p x.key) x.rows k lead first ∙ sought e

  pub none_found : is_sought x.nulls k ≡ true → FindsFirst keys (length x.rows) k None → [] ≡ found_rows x k
  none_found e none = no_rows (key_at x.p x.key) x.rows k none ∙ sought e

  -- ---- the first of them
  abbrev has_key : Row → Bool
  has_key r = same_row (key_at x.p x.key r) k

  first_stands : is_sought x.nulls k ≡ true → first_found x k ≡ position_or_len has_key x.rows
  first_stands e = ap (λ l. unwrap_or (slice_get l 0) (length x.rows)) (sym (sought e)) ∙ first_place has_key x.rows []

  pub first_not_sought : is_sought x.nulls k ≡ false → length x.rows ≡ first_found x k
  first_not_sought e = ap (λ l. unwrap_or (slice_get l 0) (length x.rows)) (not_sought e)

  pub first_sought : is_sought x.nulls k ≡ true → (found : Option ℕ) → FindsFirst keys (length x.rows) k found → unwrap_or found (length x.rows) ≡ first_found x k
  first_sought e None none = ap (λ l. unwrap_or (slice_get l 0) (length x.rows)) (none_found e none)
  first_sought e (Some lead) first =
      let within : lead ≤ length x.rows = omega (arith, first.within) in
      sym (first_stands e ∙ position_or_len_is has_key x.rows lead [] within first.before (λ h. first.here))

  -- ---- all of them, by the first
  module _ (first : ℕ) (is_first : first ≡ first_found x k) where
    at_first : position_or_len has_key x.rows < length x.rows → IsFirst keys (length x.rows) k (position_or_len has_key x.rows)
    at_first less = record { within = less; here = passes_at_first has_key x.rows [] less; before = λ j before. fails_before_first has_key x.rows j [] before }

    pub led_by_first : (leads : List ℕ) → leads ≡ leads_of (key_at x.p x.key) x.rows → first < length x.rows → rows_led leads (get_or leads first 0) ≡ found_rows x k
    led_by_first leads is h = go (is_sought x.nulls k) refl
      where
        go : (b : Bool) → is_sought x.nulls k ≡ b → rows_led leads (get_or leads first 0) ≡ found_rows x k
        go false e = let past = first_not_sought e in absurd (omega (arith, h, is_first, past))
        go true e =
            let at = is_first ∙ first_stands e in
            lead_found e leads is first (subst (IsFirst keys (length x.rows) k) (sym at) (at_first (subst (λ n. n < length x.rows) at h)))

    pub none_by_first : length x.rows ≤ first → [] ≡ found_rows x k
    none_by_first h = go (is_sought x.nulls k) refl
      where
        go : (b : Bool) → is_sought x.nulls k ≡ b → [] ≡ found_rows x k
        go false e = not_sought e
        go true e = let at = is_first ∙ first_stands e in none_found e (λ j less. fails_before_first has_key x.rows j [] (omega (arith, less, h, at)))
