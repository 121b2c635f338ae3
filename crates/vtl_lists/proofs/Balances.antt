-- What items give that are joined two by two.
use Rattle.std.proofs.Common.{◌≡◌, ℕ, zero, suc, ◌+◌, ◌^◌, ◌≤◌, List, [], ◌∷◌, length, map, arith, refl, sym, ap, ◌∙◌}
use Rattle.std.specs.List.{AllByRecursion}
use Rattle.vtl_lists.specs.Balanced.{balanced, first_or, gathered, paired, rounds}

-- ---- what holds of each item holds of what they are joined to, if joining keeps it
module _ {A : Type 0} (f : A → A → A) (P : A → Type 0) (kept : (x y : A) → P x → P y → P (f x y)) where
  paired_kept : (xs : List A) → AllByRecursion P xs → AllByRecursion P (paired f xs)
  paired_kept [] all = tt
  paired_kept (x ∷ []) all = all
  paired_kept (x ∷ y ∷ rest) all = (kept x y all.0 all.1.0, paired_kept rest all.1.1)

  rounds_kept : (n : ℕ) (xs : List A) → AllByRecursion P xs → AllByRecursion P (rounds f n xs)
  rounds_kept zero xs all = all
  rounds_kept (suc n) xs all = rounds_kept n (paired f xs) (paired_kept xs all)

  first_kept : (d : A) (xs : List A) → P d → AllByRecursion P xs → P (first_or d xs)
  first_kept d [] p all = p
  first_kept d (x ∷ xs) p all = all.0

  pub balanced_kept : (d : A) (xs : List A) → P d → AllByRecursion P xs → P (balanced f d xs)
  balanced_kept d xs p all = first_kept d (rounds f (length xs) xs) p (rounds_kept (length xs) xs all)

-- ---- another form of the items is joined likewise
module _ {A B : Type 0} (f : A → A → A) (g : B → B → B) (h : A → B) (same : (x y : A) → h (f x y) ≡ g (h x) (h y)) where
  paired_mapped : (xs : List A) → map h (paired f xs) ≡ paired g (map h xs)
  paired_mapped [] = refl
  paired_mapped (x ∷ []) = refl
  paired_mapped (x ∷ y ∷ rest) = ap (λ z. z ∷ map h (paired f rest)) (same x y) ∙ ap (λ zs. g (h x) (h y) ∷ zs) (paired_mapped rest)

  rounds_mapped : (n : ℕ) (xs : List A) → map h (rounds f n xs) ≡ rounds g n (map h xs)
  rounds_mapped zero xs = refl
  rounds_mapped (suc n) xs = rounds_mapped n (paired f xs) ∙ ap (rounds g n) (paired_mapped xs)

  first_mapped : (d : A) (xs : List A) → h (first_or d xs) ≡ first_or (h d) (map h xs)
  first_mapped d [] = refl
  first_mapped d (x ∷ xs) = refl

  sizes : (xs : List A) → length xs ≡ length (map h xs)
  sizes [] = refl
  sizes (x ∷ xs) = ap suc (sizes xs)

  pub balanced_mapped : (d : A) (xs : List A) → h (balanced f d xs) ≡ balanced g (h d) (map h xs)
  balanced_mapped d xs = first_mapped d (rounds f (length xs) xs) ∙ ap (first_or (h d)) (rounds_mapped (length xs) xs ∙ ap (λ n. rounds g n (map h xs)) (sizes xs))

-- ---- as many rounds as there are items leave one at most
module _ {A : Type 0} (f : A → A → A) where
  paired_fewer : (n : ℕ) (xs : List A) → length xs ≤ suc (suc n) → length (paired f xs) ≤ suc n
  paired_fewer n [] few = omega arith
  paired_fewer n (x ∷ []) few = omega arith
  paired_fewer zero (x ∷ y ∷ []) few = omega arith
  paired_fewer zero (x ∷ y ∷ z ∷ rest) few = absurd (omega (arith, few))
  paired_fewer (suc n) (x ∷ y ∷ rest) few = let less = paired_shorter rest in omega (arith, less, few)
    where
      paired_shorter : (ys : List A) → length (paired f ys) ≤ length ys
      paired_shorter [] = omega arith
      paired_shorter (a ∷ []) = omega arith
      paired_shorter (a ∷ b ∷ ys) = let less = paired_shorter ys in omega (arith, less)

  one_stays : (n : ℕ) (xs : List A) → length xs ≤ 1 → rounds f n xs ≡ xs
  one_stays zero xs few = refl
  one_stays (suc n) [] few = one_stays n [] few
  one_stays (suc n) (x ∷ []) few = one_stays n (x ∷ []) few
  one_stays (suc n) (x ∷ y ∷ rest) few = absurd (omega (arith, few))

  pub one_left : (n : ℕ) (xs : List A) → length xs ≤ suc n → length (rounds f n xs) ≤ 1
  one_left zero xs few = few
  one_left (suc n) xs few = one_left n (paired f xs) (paired_fewer n xs few)

-- ---- a round more changes nothing
module _ {A : Type 0} (f : A → A → A) where
  paired_shorter : (xs : List A) → length (paired f xs) ≤ length xs
  paired_shorter [] = omega arith
  paired_shorter (x ∷ []) = omega arith
  paired_shorter (x ∷ y ∷ xs) = let less = paired_shorter xs in omega (arith, less)

  -- where two and more are joined, fewer are left
  pub paired_less : (xs : List A) → 2 ≤ length xs → suc (length (paired f xs)) ≤ length xs
  paired_less [] two = absurd (omega (arith, two))
  paired_less (x ∷ []) two = absurd (omega (arith, two))
  paired_less (x ∷ y ∷ xs) two = let less = paired_shorter xs in omega (arith, less)

  enough : (n m : ℕ) (xs : List A) → length xs ≤ suc n → length xs ≤ suc m → rounds f n xs ≡ rounds f m xs
  enough zero m xs few other = sym (one_stays f m xs few)
  enough (suc n) zero xs few other = one_stays f (suc n) xs other
  enough (suc n) (suc m) xs few other = enough n m (paired f xs) (paired_fewer f n xs few) (paired_fewer f m xs other)

  pub balanced_paired : (d : A) (xs : List A) → balanced f d (paired f xs) ≡ balanced f d xs
  balanced_paired d [] = refl
  balanced_paired d (x ∷ xs) =
      let short = paired_shorter (x ∷ xs) in
      ap (first_or d) (enough (length (paired f (x ∷ xs))) (length xs) (paired f (x ∷ xs)) (omega arith) (omega (arith, short)))

  pub balanced_one : (d : A) (xs : List A) → length xs ≤ 1 → balanced f d xs ≡ first_or d xs
  balanced_one d xs few = ap (first_or d) (one_stays f (length xs) xs few)

-- the same of a form of the items
module _ {A B : Type 0} (f : B → B → B) (h : A → B) (before after : List A) (joined : map h after ≡ paired f (map h before)) where
  sizes_kept : (xs : List A) → length (map h xs) ≡ length xs
  sizes_kept [] = refl
  sizes_kept (x ∷ xs) = ap suc (sizes_kept xs)

  pub form_less : 2 ≤ length before → suc (length after) ≤ length before
  form_less two =
      let size = sizes_kept before in
      let left = sym (sizes_kept after) ∙ ap length joined in
      let less = paired_less f (map h before) (omega (arith, two, size)) in
      omega (arith, size, left, less)

  pub form_stays : (d : B) (whole : B) → balanced f d (map h before) ≡ whole → balanced f d (map h after) ≡ whole
  form_stays d whole e = ap (balanced f d) joined ∙ balanced_paired f d (map h before) ∙ e

pub form_one : {A B : Type 0} (f : B → B → B) (h : A → B) (d : B) (xs : List A) (whole : B) → length xs ≤ 1 → balanced f d (map h xs) ≡ whole → first_or d (map h xs) ≡ whole
form_one f h d [] whole few e = e
form_one f h d (x ∷ []) whole few e = e
form_one f h d (x ∷ y ∷ xs) whole few e = absurd (omega (arith, few))

-- ---- where it does not matter how items are grouped, they give what they give one behind the other
module _ {A : Type 0} (f : A → A → A) (u : A) (grouped : (x y z : A) → f (f x y) z ≡ f x (f y z)) (unit : (x : A) → f x u ≡ x) where
  paired_gathered : (xs : List A) → gathered f u (paired f xs) ≡ gathered f u xs
  paired_gathered [] = refl
  paired_gathered (x ∷ []) = refl
  paired_gathered (x ∷ y ∷ rest) = grouped x y (gathered f u (paired f rest)) ∙ ap (λ a. f x (f y a)) (paired_gathered rest)

  rounds_gathered : (n : ℕ) (xs : List A) → gathered f u (rounds f n xs) ≡ gathered f u xs
  rounds_gathered zero xs = refl
  rounds_gathered (suc n) xs = rounds_gathered n (paired f xs) ∙ paired_gathered xs

  first_gathered : (xs : List A) → length xs ≤ 1 → first_or u xs ≡ gathered f u xs
  first_gathered [] few = refl
  first_gathered (x ∷ []) few = sym (unit x)
  first_gathered (x ∷ y ∷ rest) few = absurd (omega (arith, few))

  pub balanced_gathered : (xs : List A) → balanced f u xs ≡ gathered f u xs
  balanced_gathered xs = first_gathered (rounds f (length xs) xs) (one_left f (length xs) xs (omega arith)) ∙ rounds_gathered (length xs) xs

-- ---- what joining makes one more at most becomes one more for each doubling of the number of items
module _ {A : Type 0} (f : A → A → A) (Q : ℕ → A → Type 0) (more : (m n : ℕ) (x : A) → m ≤ n → Q m x → Q n x) (joined : (m : ℕ) (x y : A) → Q m x → Q m y → Q (suc m) (f x y)) where
  within_more : (m n : ℕ) (xs : List A) → m ≤ n → AllByRecursion (Q m) xs → AllByRecursion (Q n) xs
  within_more m n [] le all = tt
  within_more m n (x ∷ xs) le all = (more m n x le all.0, within_more m n xs le all.1)

  paired_within : (m : ℕ) (xs : List A) → AllByRecursion (Q m) xs → AllByRecursion (Q (suc m)) (paired f xs)
  paired_within m [] all = tt
  paired_within m (x ∷ []) all = within_more m (suc m) (x ∷ []) (omega arith) all
  paired_within m (x ∷ y ∷ rest) all = (joined m x y all.0 all.1.0, paired_within m rest all.1.1)

  halved : (k : ℕ) (xs : List A) → length xs ≤ k + k → length (paired f xs) ≤ k
  halved k [] few = omega arith
  halved zero (x ∷ xs) few = absurd (omega (arith, few))
  halved (suc k) (x ∷ []) few = omega arith
  halved (suc k) (x ∷ y ∷ rest) few = let less = halved k rest (omega (arith, few)) in omega (arith, less)

  doubled : (k : ℕ) → 2 ^ suc k ≡ 2 ^ k + 2 ^ k
  doubled k = omega arith

  rounds_within : (k n m : ℕ) (xs : List A) → length xs ≤ 2 ^ k → AllByRecursion (Q m) xs → AllByRecursion (Q (m + k)) (rounds f n xs)
  rounds_within zero n m xs few all = rw (one_stays f n xs few) (within_more m (m + zero) xs (omega arith) all)
  rounds_within (suc k) zero m xs few all = within_more m (m + suc k) xs (omega arith) all
  rounds_within (suc k) (suc n) m xs few all =
      within_more (suc m + k) (m + suc k) (rounds f n (paired f xs)) (omega arith)
      (rounds_within k n (suc m) (paired f xs) (halved (2 ^ k) xs (let d = doubled k in omega (arith, few, d))) (paired_within m xs all))

  first_within : (m : ℕ) (d : A) (xs : List A) → Q m d → AllByRecursion (Q m) xs → Q m (first_or d xs)
  first_within m d [] own all = own
  first_within m d (x ∷ xs) own all = all.0

  pub balanced_within : (k m : ℕ) (d : A) (xs : List A) → length xs ≤ 2 ^ k → Q m d → AllByRecursion (Q m) xs → Q (m + k) (balanced f d xs)
  balanced_within k m d xs few own all = first_within (m + k) d (rounds f (length xs) xs) (more m (m + k) d (omega arith) own) (rounds_within k (length xs) m xs few all)

-- a number is at most the power of two of itself
pub below_power : (n : ℕ) → n ≤ 2 ^ n
below_power zero = omega arith
below_power (suc n) =
    let less = below_power n in
    let twice : 2 ^ suc n ≡ 2 ^ n + 2 ^ n = omega arith in
    let some = positive n in
    omega (arith, less, twice, some)
  where
    positive : (k : ℕ) → 1 ≤ 2 ^ k
    positive zero = omega arith
    positive (suc k) =
        let less = positive k in
        let twice : 2 ^ suc k ≡ 2 ^ k + 2 ^ k = omega arith in
        omega (arith, less, twice)
