-- Tuples in a flat list of numbers.
use Rattle.std.proofs.Common.{◌≡◌, ℕ, zero, suc, ◌+◌, ◌*◌, ◌/◌, ◌<◌, ◌≤◌, List, [], ◌∷◌, length, get_or, map, take, drop, arith, refl, sym, ap, ◌∙◌, subst}
use Rattle.std.specs.List.{AllByRecursion, range_with_len}
use Rattle.std.specs.Simd.{first_chunks}
use Rattle.std.proofs.lemmas.List.{length-take-le, length-drop, drop-drop}
use Rattle.std.proofs.lemmas.List.FromFn.{length-range_with_len}
use Rattle.std.proofs.lemmas.Nat.{mul-le}
use Rattle.std.proofs.Math.Nat.{le_refl, mul-div_cancel}
use Rattle.vtl_rows.specs.Gathered.{pieces}
use Rattle.vtl_rows.proofs.Gathered.{length-pieces, pieces-next, pieces-none}
use Rattle.sql_from.specs.Tuples.{IsFlat}

tuple_ends : (width n i : ℕ) → i < n → i * width + width ≤ n * width
tuple_ends width n i h = let up = mul-le (i + 1) width n width (omega arith) (le_refl width) in omega (arith, up)

chunk_at : (width n i : ℕ) (ns : List ℕ) (d : List ℕ) → i < n → get_or (first_chunks width n ns) i d ≡ take width (drop (i * width) ns)
chunk_at width zero i ns d h = absurd (omega arith)
chunk_at width (suc n) zero ns d h = let z : 0 ≡ 0 * width = omega arith in ap (λ k. take width (drop k ns)) z
chunk_at width (suc n) (suc i) ns d h =
    let on : width + i * width ≡ suc i * width = omega arith in
    chunk_at width n i (drop width ns) d (omega arith) ∙ ap (take width) (drop-drop (i * width) width ns ∙ ap (λ k. drop k ns) on)

chunks_wide : (width n : ℕ) (ns : List ℕ) → length ns ≡ n * width → AllByRecursion (λ x. length x ≡ width) (first_chunks width n ns)
chunks_wide width zero ns e = tt
chunks_wide width (suc n) ns e =
    let l = length-drop width ns in
    (length-take-le width ns (omega (arith, e)), chunks_wide width n (drop width ns) (omega (arith, e, l)))

module _ (width n : ℕ) (ns : List ℕ) (tuples : List (List ℕ)) (flat : IsFlat width n ns) (seen : pieces width ns ≡ tuples) where
  count_is : length ns / width ≡ n
  count_is = ap (λ k. k / width) flat.whole ∙ mul-div_cancel n flat.wide

  pub tuples_counted : n ≡ length tuples
  tuples_counted = sym (ap length (sym seen) ∙ length-pieces width ns ∙ count_is)

  pub tuples_few : length tuples ≤ length ns
  tuples_few = let up = mul-le n 1 n width (le_refl n) flat.wide in omega (arith, up, flat.whole, tuples_counted)

  pub tuple_within : (i : ℕ) → i < length tuples → i * width + width ≤ length ns
  tuple_within i h = let e = tuple_ends width n i (omega (arith, h, tuples_counted)) in omega (arith, e, flat.whole)

  pub tuple_read : (i : ℕ) (d : List ℕ) → i < length tuples → take width (drop (i * width) ns) ≡ get_or tuples i d
  tuple_read i d h = sym (ap (λ k. get_or (first_chunks width k ns) i d) count_is ∙ chunk_at width n i ns d (omega (arith, h, tuples_counted))) ∙ ap (λ r. get_or r i d) seen

  pub tuple_wide : (i : ℕ) → i < length tuples → length (take width (drop (i * width) ns)) ≡ width
  tuple_wide i h = let w = tuple_within i h in let l = length-drop (i * width) ns in length-take-le width (drop (i * width) ns) (omega (arith, w, l))

  pub all_wide : AllByRecursion (λ x. length x ≡ width) tuples
  all_wide = subst (AllByRecursion (λ x. length x ≡ width)) (ap (λ k. first_chunks width k ns) (sym count_is) ∙ seen) (chunks_wide width n ns flat.whole)

-- ---- tuples of one number
pub each_alone : (js : List ℕ) → pieces 1 js ≡ map (λ j. j ∷ []) js
each_alone [] = pieces-none 1 [] (omega arith)
each_alone (j ∷ js) = pieces-next 1 (j ∷ []) js (omega arith) refl ∙ ap (λ l. (j ∷ []) ∷ l) (each_alone js)

pub alone_flat : (count : ℕ) (ns : List ℕ) → ns ≡ range_with_len 0 count → IsFlat 1 count ns
alone_flat count ns e = let all = ap length e ∙ length-range_with_len 0 count in record { wide = omega arith; whole = omega (arith, all) }
