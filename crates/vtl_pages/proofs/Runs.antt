-- A run lies within one block, which a shift and a mask find.
use Rattle.std.proofs.Common.{◌≡◌, ℕ, zero, suc, ◌+◌, ◌-◌, ◌*◌, ◌/◌, ◌%◌, ◌^◌, ◌<◌, ◌≤◌, bit_and, sym, ap, ◌∙◌, subst, arith, zero-mul}
use Rattle.std.proofs.lemmas.Nat.{div-add-mod', div_below, row_fits, and_mask}
use Rattle.std.proofs.Math.Nat.{mul_assoc, add-mul, add-mul-mod_self_right}
use Rattle.vtl_pages.specs.Laid.{HasRuns}
use Rattle.vtl_pages.specs.Stored.{Stored, block_size, spot}

-- a part of one of m runs of the width w ends within them all
within_runs : (w m o k : ℕ) → 0 < w → o < m * w → o % w + k ≤ w → o + k ≤ m * w
within_runs w m o k some lt fit =
    let cut : o / w * w + o % w ≡ o = div-add-mod' o w in
    let row : o / w * w + w ≤ m * w = row_fits (o / w) w m w (div_below o w m some lt) (omega arith) in omega arith

at_later : (first step q o : ℕ) → spot first step (q + 1) o ≡ first + q * step + o
at_later first step q o = let one : q + 1 ≡ suc q = omega arith in ap (λ n. spot first step n o) one

module _ {X : Type 0} (s : Stored X) (room width front runs shift : ℕ) (h : HasRuns s room width front runs shift) where
  pub still_runs : (t : Stored X) (more : ℕ) → t.first ≡ s.first → t.step ≡ s.step → more < 2 ^ 63 → HasRuns t more width front runs shift
  still_runs t more a b few = record { wide = h.wide; some = h.some; first = a ∙ h.first; step = b ∙ h.step; bits = h.bits; power = h.power; few = few }

  pub in_one_block : (i k block place : ℕ) → i % width + k ≤ width → spot s.first s.step block place ≡ i → place < block_size s.first s.step block → place + k ≤ block_size s.first s.step block
  in_one_block i k zero place fit at lt =
      let same : i ≡ place = omega arith in
      subst (λ n. place + k ≤ n) (sym h.first) (within_runs width front place k h.wide (subst (λ n. place < n) h.first lt) (subst (λ n. n % width + k ≤ width) same fit))
  in_one_block i k (suc q) place fit at lt =
      let first = h.first in
      let turned : q * s.step ≡ q * runs * width = ap (λ n. q * n) h.step ∙ sym (mul_assoc q runs width) in
      let sum : (front + q * runs) * width ≡ front * width + q * runs * width = add-mul front (q * runs) width in
      let same : i ≡ place + (front + q * runs) * width = omega arith in
      let rest : i % width ≡ place % width = ap (λ n. n % width) same ∙ add-mul-mod_self_right place (front + q * runs) width in
      subst (λ n. place + k ≤ n) (sym h.step) (within_runs width runs place k h.wide (subst (λ n. place < n) h.step lt) (subst (λ n. n + k ≤ width) rest fit))

  -- where a place is by the numbers of runs, it is by the sizes of the blocks
  pub spot_same : (block place i : ℕ) → spot (front * width) (runs * width) block place ≡ i → spot s.first s.step block place ≡ i
  spot_same block place i e = (λ k. spot (h.first k) (h.step k) block place) ∙ e

  pub size_same : (block : ℕ) → block_size s.first s.step block ≡ block_size (front * width) (runs * width) block
  size_same block = λ k. block_size (h.first k) (h.step k) block

module _ (width front runs shift : ℕ) (power : runs ≡ 2 ^ shift) where
  masked : (r : ℕ) → bit_and r (runs - 1) ≡ r % runs
  masked r = subst (λ n. bit_and r (n - 1) ≡ r % n) (sym power) (and_mask r shift)

  pub later_spot : (r : ℕ) → front ≤ r → spot (front * width) (runs * width) ((r - front) / 2 ^ shift + 1) (bit_and (r - front) (runs - 1) * width) ≡ r * width
  later_spot r le =
      let k = r - front in
      let cut : k / runs * runs + k % runs ≡ k = div-add-mod' k runs in
      let parts : (k / runs * runs + k % runs) * width ≡ k / runs * runs * width + k % runs * width = add-mul (k / runs * runs) (k % runs) width in
      let turned : k / runs * runs * width ≡ k / runs * (runs * width) = mul_assoc (k / runs) runs width in
      let whole : (front + k) * width ≡ front * width + k * width = add-mul front k width in
      let all : front + k ≡ r = omega arith in
      let block : k / 2 ^ shift * (runs * width) ≡ k / runs * (runs * width) = (λ i. k / (sym power i) * (runs * width)) in
      let place : bit_and k (runs - 1) * width ≡ k % runs * width = ap (λ n. n * width) (masked k) in
      let later : k * width ≡ k / runs * (runs * width) + k % runs * width = ap (λ n. n * width) (sym cut) ∙ parts ∙ ap (λ n. n + k % runs * width) turned in
      let goal_is : front * width + k * width ≡ r * width = sym whole ∙ ap (λ n. n * width) all in
      let number = at_later (front * width) (runs * width) (k / 2 ^ shift) (bit_and k (runs - 1) * width) in
      omega arith

pub some_of : (n w : ℕ) → 0 < n * w → 0 < n
some_of zero w lt = absurd (omega (arith, zero-mul w))
some_of (suc n) w lt = omega arith
