-- The hashes of the keys of a block of rows.
use Rattle.std.proofs.Common.{◌≡◌, ◌∙◌, ℕ, ◌+◌, ◌-◌, ◌<◌, ◌≤◌, List, [], ◌∷◌, ◌++◌, arith, get_or, length, map, ap, sym}
use Rattle.std.specs.List.{range_with_len}
use Rattle.std.proofs.lemmas.List.{get_or_default, length-map}
use Rattle.std.proofs.lemmas.List.FromFn.{get_or-map-range_with_len, length-range_with_len, map-range_with_len_more}
use Rattle.vtl_cell.specs.Row.{Row}
use Rattle.vtl_index.specs.RowKeys.{hash_by, hashes_by}
use Rattle.vtl_index.specs.declared.row_keys.Hashing.{Hashing}

module _ (hashing : Hashing) (keys : ℕ → Row) (first : ℕ) where
  abbrev hash_at : ℕ → ℕ
  hash_at i = hash_by hashing (keys i)

  pub no_hashes : [] ≡ hashes_by hashing keys first first
  no_hashes = let none : 0 ≡ first - first = omega arith in ap (λ n. map hash_at (range_with_len first n)) none

  pub one_hash_more : (i hash : ℕ) (hashes : List ℕ) → first ≤ i → hashes ≡ hashes_by hashing keys first i → hash ≡ hash_by hashing (keys i) → hashes ++ hash ∷ [] ≡ hashes_by hashing keys first (i + 1)
  one_hash_more i hash hashes from are is =
      let here : first + (i - first) ≡ i = omega (arith, from) in
      let count : i - first + 1 ≡ i + 1 - first = omega (arith, from) in
      ap (λ l. l ++ hash ∷ []) are ∙ ap (λ h. map hash_at (range_with_len first (i - first)) ++ h ∷ []) is ∙ sym (map-range_with_len_more hash_at first (i - first) i here)
      ∙ ap (λ n. map hash_at (range_with_len first n)) count

  module _ (end : ℕ) (hashes : List ℕ) (are : hashes ≡ hashes_by hashing keys first end) where
    pub hashes_count : length hashes ≡ end - first
    hashes_count = ap length are ∙ length-map (range_with_len first (end - first)) hash_at ∙ length-range_with_len first (end - first)

    pub hash_read : (i hash : ℕ) → first ≤ i → i < end → hash ≡ get_or hashes (i - first) hash → hash ≡ hash_by hashing (keys i)
    hash_read i hash from to read =
        let count = hashes_count in
        let inside : i - first < length hashes = omega (arith, from, to, count) in
        let place : i - first < end - first = omega (arith, from, to) in
        let here : first + (i - first) ≡ i = omega (arith, from) in
        read ∙ get_or_default hashes (i - first) hash 0 inside ∙ ap (λ l. get_or l (i - first) 0) are
        ∙ get_or-map-range_with_len hash_at first (end - first) (i - first) i 0 place here
