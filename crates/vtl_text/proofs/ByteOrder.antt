-- Texts stand in the same order by their characters and by their bytes in UTF-8: of two characters the lower has the lower bytes.
use Rattle.std.proofs.Common.{◌≡◌, ℕ, ◌+◌, ◌/◌, ◌%◌, ◌<◌, ◌≤◌, List, [], ◌∷◌, ◌++◌, refl, sym, ap, ◌∙◌, ◌⊎◌, ⊎_elim, arith, nat_cmp}
use Rattle.std.specs.declared.cmp.Ordering.{Ordering}
use Rattle.std.specs.declared.cmp.Ordering.TheVariants.{Less, Equal, Greater}
use Rattle.std.specs.Ordering.{ordering_then, ordering_reverse}
use Rattle.std.specs.Cmp.Lexicographic.{slice_cmp}
use Rattle.std.proofs.lemmas.Cmp.{nat_list_cmp_total}
use Rattle.std.proofs.lemmas.Bool.Decides.{nat_tests}
use Rattle.std.proofs.Math.Utf8.{encode, encodes}
use Rattle.std.proofs.lemmas.Bool.{cases_lt}
use Rattle.std.proofs.lemmas.Str.{encode_ascii}

abbrev by_number : List ℕ → List ℕ → Ordering
by_number = slice_cmp nat_cmp

below : (x y : ℕ) → x < y → nat_cmp x y ≡ Less
below x y h = grind (arith, nat_tests)

level : (x : ℕ) → nat_cmp x x ≡ Equal
level x = grind (arith, nat_tests)

-- the first two items decide
first_below : (x y : ℕ) (xs ys : List ℕ) → x < y → by_number (x ∷ xs) (y ∷ ys) ≡ Less
first_below x y xs ys h = ap (λ r. ordering_then r (by_number xs ys)) (below x y h)

-- or those behind them, where the first two are the same
first_same : (x y : ℕ) (xs ys : List ℕ) → x ≡ y → by_number (x ∷ xs) (y ∷ ys) ≡ by_number xs ys
first_same x y xs ys e = ap (λ z. ordering_then (nat_cmp x z) (by_number xs ys)) (sym e) ∙ ap (λ r. ordering_then r (by_number xs ys)) (level x)

same_front : (front xs ys : List ℕ) → by_number (front ++ xs) (front ++ ys) ≡ by_number xs ys
same_front [] xs ys = refl
same_front (x ∷ front) xs ys = first_same x x (front ++ xs) (front ++ ys) refl ∙ same_front front xs ys

split : (x y : ℕ) → x ≤ y → (x < y) ⊎ (x ≡ y)
split x y h = search arith

at_most : (x y : ℕ) (xs ys : List ℕ) → x ≤ y → (x ≡ y → by_number xs ys ≡ Less) → by_number (x ∷ xs) (y ∷ ys) ≡ Less
at_most x y xs ys h rest = ⊎_elim (λ lt. first_below x y xs ys lt) (λ e. first_same x y xs ys e ∙ rest e) (split x y h)

-- ---- the bytes of a character, by how many they are
two : (c : ℕ) → 128 ≤ c → c < 2048 → encode c ≡ (192 + c / 64) ∷ (128 + c % 64) ∷ []
unfolding encode
two c h k = grind (arith, nat_tests)

three : (c : ℕ) → 2048 ≤ c → c < 65536 → encode c ≡ (224 + c / 4096) ∷ (128 + c / 64 % 64) ∷ (128 + c % 64) ∷ []
unfolding encode
three c h k = grind (arith, nat_tests)

four : (c : ℕ) → 65536 ≤ c → encode c ≡ (240 + c / 262144) ∷ (128 + c / 4096 % 64) ∷ (128 + c / 64 % 64) ∷ (128 + c % 64) ∷ []
unfolding encode
four c h = grind (arith, nat_tests)

-- ---- the lower of two characters has the lower bytes, whatever stands behind them
abbrev last : ℕ → List ℕ → List ℕ
last c xs = (128 + c % 64) ∷ xs

abbrev last_two : ℕ → List ℕ → List ℕ
last_two c xs = (128 + c / 64 % 64) ∷ last c xs

abbrev last_three : ℕ → List ℕ → List ℕ
last_three c xs = (128 + c / 4096 % 64) ∷ last_two c xs

from_one : (c d : ℕ) (xs ys : List ℕ) → c < d → c < 128 → by_number (encode c ++ xs) (encode d ++ ys) ≡ Less
from_one c d xs ys lt size =
    ⊎_elim (λ h. rw (encode_ascii c size, encode_ascii d h) (first_below c d xs ys lt))
    (λ k. ⊎_elim (λ h. rw (encode_ascii c size, two d k h) (first_below c (192 + d / 64) xs (last d ys) (omega arith)))
    (λ l. ⊎_elim (λ h. rw (encode_ascii c size, three d l h) (first_below c (224 + d / 4096) xs (last_two d ys) (omega arith)))
    (λ m. rw (encode_ascii c size, four d m) (first_below c (240 + d / 262144) xs (last_three d ys) (omega arith)))
    (cases_lt d 65536)) (cases_lt d 2048)) (cases_lt d 128)

from_two : (c d : ℕ) (xs ys : List ℕ) → c < d → 128 ≤ c → c < 2048 → by_number (encode c ++ xs) (encode d ++ ys) ≡ Less
from_two c d xs ys lt low size =
    ⊎_elim (λ h. rw (two c low size, two d (omega arith) h)
    (at_most (192 + c / 64) (192 + d / 64) (last c xs) (last d ys) (omega arith)
    (λ e. first_below (128 + c % 64) (128 + d % 64) xs ys (omega arith))))
    (λ l. ⊎_elim (λ h. rw (two c low size, three d l h) (first_below (192 + c / 64) (224 + d / 4096) (last c xs) (last_two d ys) (omega arith)))
    (λ m. rw (two c low size, four d m) (first_below (192 + c / 64) (240 + d / 262144) (last c xs) (last_three d ys) (omega arith)))
    (cases_lt d 65536)) (cases_lt d 2048)

from_three : (c d : ℕ) (xs ys : List ℕ) → c < d → 2048 ≤ c → c < 65536 → by_number (encode c ++ xs) (encode d ++ ys) ≡ Less
from_three c d xs ys lt low size =
    ⊎_elim (λ h. rw (three c low size, three d (omega arith) h)
    (at_most (224 + c / 4096) (224 + d / 4096) (last_two c xs) (last_two d ys) (omega arith)
    (λ e. at_most (128 + c / 64 % 64) (128 + d / 64 % 64) (last c xs) (last d ys) (omega arith)
    (λ f. first_below (128 + c % 64) (128 + d % 64) xs ys (omega arith)))))
    (λ m. rw (three c low size, four d m) (first_below (224 + c / 4096) (240 + d / 262144) (last_two c xs) (last_three d ys) (omega arith)))
    (cases_lt d 65536)

from_four : (c d : ℕ) (xs ys : List ℕ) → c < d → 65536 ≤ c → by_number (encode c ++ xs) (encode d ++ ys) ≡ Less
from_four c d xs ys lt low =
    rw (four c low, four d (omega arith))
    (at_most (240 + c / 262144) (240 + d / 262144) (last_three c xs) (last_three d ys) (omega arith)
    (λ e. at_most (128 + c / 4096 % 64) (128 + d / 4096 % 64) (last_two c xs) (last_two d ys) (omega arith)
    (λ f. at_most (128 + c / 64 % 64) (128 + d / 64 % 64) (last c xs) (last d ys) (omega arith)
    (λ g. first_below (128 + c % 64) (128 + d % 64) xs ys (omega arith)))))

lower : (c d : ℕ) (xs ys : List ℕ) → c < d → by_number (encode c ++ xs) (encode d ++ ys) ≡ Less
lower c d xs ys lt =
    ⊎_elim (λ h. from_one c d xs ys lt h)
    (λ k. ⊎_elim (λ h. from_two c d xs ys lt k h)
    (λ l. ⊎_elim (λ h. from_three c d xs ys lt l h) (λ m. from_four c d xs ys lt m)
    (cases_lt c 65536)) (cases_lt c 2048)) (cases_lt c 128)

-- ---- texts
higher : (xs ys : List ℕ) → by_number ys xs ≡ Less → by_number xs ys ≡ Greater
higher xs ys h = nat_list_cmp_total.antisymm xs ys ∙ ap ordering_reverse h

some_bytes : (c : ℕ) (xs : List ℕ) → by_number [] (encode c ++ xs) ≡ Less
some_bytes c xs =
    ⊎_elim (λ h. rw (encode_ascii c h) refl)
    (λ k. ⊎_elim (λ h. rw (two c k h) refl)
    (λ l. ⊎_elim (λ h. rw (three c l h) refl) (λ m. rw (four c m) refl)
    (cases_lt c 65536)) (cases_lt c 2048)) (cases_lt c 128)

pub order_of_bytes : (s t : List ℕ) → by_number s t ≡ by_number (encodes s) (encodes t)
order_of_bytes [] [] = refl
order_of_bytes [] (d ∷ t) = sym (some_bytes d (encodes t))
order_of_bytes (c ∷ s) [] = sym (higher (encodes (c ∷ s)) [] (some_bytes c (encodes s)))
order_of_bytes (c ∷ s) (d ∷ t) =
    ⊎_elim (λ lt. first_below c d s t lt ∙ sym (lower c d (encodes s) (encodes t) lt))
    (λ le. ⊎_elim (λ gt. higher (c ∷ s) (d ∷ t) (first_below d c t s gt) ∙ sym (higher (encodes (c ∷ s)) (encodes (d ∷ t)) (lower d c (encodes t) (encodes s) gt)))
    (λ e. first_same c d s t (sym e) ∙ order_of_bytes s t ∙ sym (same_front (encode c) (encodes s) (encodes t)) ∙ ap (λ z. by_number (encode c ++ encodes s) (encode z ++ encodes t)) (sym e))
    (split d c le))
    (cases_lt c d)
