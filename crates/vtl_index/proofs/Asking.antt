-- The first rows that are found by rows which ask.
use Rattle.std.proofs.Common.{◌≡◌, ◌∙◌, ℕ, ◌+◌, ◌<◌, List, [], ◌∷◌, ◌++◌, arith, get_or, inl, inr, length, map, min, ap, sym}
use Rattle.std.specs.List.{range_with_len}
use Rattle.std.proofs.lemmas.Bool.{cases_lt}
use Rattle.std.proofs.lemmas.List.{get_or_default, get_or_past, length-map}
use Rattle.std.proofs.lemmas.List.FromFn.{get_or-map-range_with_len, length-range_with_len, map-range_with_len_more}
use Rattle.std.proofs.lemmas.Simd.{map-map}
use Rattle.vtl_cell.specs.Row.{Row}
use Rattle.vtl_rows.specs.Places.{row_at}
use Rattle.vtl_index.specs.Matches.{Matched, asked_keys, firsts_by}
use Rattle.vtl_index.specs.RowIndex.{RowLookup, first_found}
use Rattle.vtl_index.specs.RowKeys.{as_it_is, key_at}
use Rattle.vtl_index.specs.Seekers.{columns_in, first_meant}
use Rattle.vtl_index.specs.declared.row_keys.KeyColumn.{KeyColumn}
use Rattle.vtl_index.specs.declared.row_keys.NullKeys.TheVariants.{Found}
use Rattle.vtl_index.proofs.Ranges.{all_indexed}
use Rattle.vtl_index.proofs.Seeking.{first_is, sought_of}

-- past the last row there is one without cells
asked_row : (rows : List Row) (i : ℕ) → row_at rows (min i (length rows)) ≡ row_at rows i
asked_row rows i = elim (cases_lt i (length rows)) [
  | inl less ↦ let at : min i (length rows) ≡ i = omega (arith, less) in ap (row_at rows) at
  | inr past ↦ get_or_past rows (min i (length rows)) [] (omega (arith, past)) ∙ sym (get_or_past rows i [] past)
]

-- one first row more
pub one_first_more : (x : RowLookup) (keys : ℕ → Row) (i first : ℕ) (firsts : List ℕ) → firsts ≡ firsts_by x keys i → first ≡ first_found x (keys i) → firsts ++ first ∷ [] ≡ firsts_by x keys (i + 1)
one_first_more x keys i first firsts are is =
    let same : 0 + i ≡ i = omega arith in
    ap (λ l. l ++ first ∷ []) are ∙ ap (λ f. firsts_by x keys i ++ f ∷ []) is ∙ sym (map-range_with_len_more (λ j. first_found x (keys j)) 0 i i same)

module _ (m : Matched) (firsts : List ℕ) (are : firsts ≡ firsts_by m.index (asked_keys m) (length m.asking + 1)) where
  abbrev first_asked : ℕ → ℕ
  first_asked i = first_found m.index (asked_keys m i)

  pub firsts_count : length firsts ≡ length m.asking + 1
  firsts_count = ap length are ∙ length-map (range_with_len 0 (length m.asking + 1)) first_asked ∙ length-range_with_len 0 (length m.asking + 1)

  -- the number that is read for a row
  pub first_read : (i place first : ℕ) → place ≡ min i (length m.asking) → first ≡ get_or firsts place first → first ≡ first_found m.index (asked_keys m i)
  first_read i place first at read =
      let count = firsts_count in
      let within : place < length firsts = omega (arith, at, count) in
      let inside : place < length m.asking + 1 = omega (arith, at) in
      let same : 0 + place ≡ place = omega arith in
      read ∙ get_or_default firsts place first 0 within ∙ ap (λ l. get_or l place 0) are
      ∙ get_or-map-range_with_len first_asked 0 (length m.asking + 1) place place 0 inside same
      ∙ ap first_asked at ∙ ap (λ r. first_found m.index (key_at m.index.p m.at r)) (asked_row m.asking i)

-- cells as they are
module _ (x : RowLookup) (asked : List KeyColumn) (rows : List Row) (nulls : x.nulls ≡ Found) (own : x.key ≡ map as_it_is (columns_in x.key)) (at : asked ≡ map as_it_is (columns_in asked)) where
  abbrev meant : Row → ℕ
  meant = first_meant (sought_of (columns_in x.key) (columns_in asked) x.rows)

  abbrev asking : Matched
  asking = record { index = x; at = asked; asking = rows }

  abbrev asked_first : ℕ → ℕ
  asked_first i = first_found x (asked_keys asking i)

  abbrev meant_first : ℕ → ℕ
  meant_first i = meant (row_at rows i)

  same_first : asked_first ≡ meant_first
  same_first = λ t i. first_is x asked (row_at rows i) nulls own at t

  pub firsts_meant : firsts_by x (asked_keys asking) (length rows) ≡ map meant rows
  firsts_meant =
      ap (λ f. map f (range_with_len 0 (length rows))) same_first ∙ sym (map-map meant (row_at rows) (range_with_len 0 (length rows)))
      ∙ ap (map meant) (all_indexed rows [])
