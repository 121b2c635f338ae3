-- The digits of a number, written from the last one on.
use Rattle.std.proofs.Common.{ℕ, zero, suc, ◌≡◌, ◌+◌, ◌-◌, ◌/◌, ◌%◌, ◌^◌, ◌<◌, ◌≤◌, cond, List, [], ◌∷◌, ◌++◌, length, refl, ap, sym, ◌∙◌, arith, append_assoc, length-append}
use Rattle.std.specs.Prelude.{◌==◌}
use Rattle.std.specs.Fmt.{decimal}
use Rattle.std.proofs.lemmas.Bool.{eq-eqb, ne_eqb}
use Rattle.std.proofs.lemmas.Fmt.{decimal_step, decimal_digit, decimal_nonempty, length-decimal-le}
use Rattle.vtl_decimal.specs.Written.{last_digits, shortest_digits, behind_point}

-- one digit less
pub last_digits-suc : (w n : ℕ) → last_digits (suc w) n ≡ last_digits w (n / 10) ++ ((48 + n % 10) ∷ [])
unfolding last_digits
last_digits-suc w n = refl

pub last_digits-none : (n : ℕ) → last_digits 0 n ≡ []
unfolding last_digits
last_digits-none n = refl

pub length-last_digits : (w n : ℕ) → length (last_digits w n) ≡ w
length-last_digits zero n = ap length (last_digits-none n)
length-last_digits (suc w) n =
    ap length (last_digits-suc w n) ∙ (length-append (last_digits w (n / 10)) ((48 + n % 10) ∷ []) ∙ omega (arith, length-last_digits w (n / 10)))

-- the step of the loop
pub last_digits_step : (w i n : ℕ) (t : List ℕ) → i < w → last_digits (w - i) n ++ t ≡ last_digits (w - (i + 1)) (n / 10) ++ ((48 + n % 10) ∷ t)
last_digits_step w i n t h =
    let one_less : w - i ≡ suc (w - (i + 1)) = omega arith in
    ap (λ k. last_digits k n ++ t) one_less
    ∙ ap (λ l. l ++ t) (last_digits-suc (w - (i + 1)) n)
    ∙ append_assoc (last_digits (w - (i + 1)) (n / 10)) ((48 + n % 10) ∷ []) t

pub last_digits_done : (w i n : ℕ) (t : List ℕ) → w ≤ i → last_digits (w - i) n ++ t ≡ t
last_digits_done w i n t h =
    let none : w - i ≡ 0 = omega arith in
    ap (λ k. last_digits k n ++ t) none ∙ ap (λ l. l ++ t) (last_digits-none n)

-- ---- behind the point
pub shortest_digits-suc : (w n : ℕ) → shortest_digits (suc w) n ≡ cond (n % 10 == 0) (shortest_digits w (n / 10)) (last_digits (suc w) n)
unfolding shortest_digits
shortest_digits-suc w n = refl

pub shortest_digits-none : (n : ℕ) → shortest_digits 0 n ≡ []
unfolding shortest_digits
shortest_digits-none n = refl

pub shortest_digits_zero : (w n : ℕ) → 0 < w → n % 10 ≡ 0 → shortest_digits w n ≡ shortest_digits (w - 1) (n / 10)
shortest_digits_zero zero n h e = absurd (omega arith)
shortest_digits_zero (suc w) n h e =
    let one_less : suc w - 1 ≡ w = omega arith in
    shortest_digits-suc w n ∙ ap (λ b. cond b (shortest_digits w (n / 10)) (last_digits (suc w) n)) (eq-eqb (n % 10) 0 e) ∙ ap (λ k. shortest_digits k (n / 10)) (sym one_less)

pub shortest_digits_nonzero : (w n : ℕ) → 0 < w → 0 < n % 10 → shortest_digits w n ≡ last_digits w n
shortest_digits_nonzero zero n h e = absurd (omega arith)
shortest_digits_nonzero (suc w) n h e =
    shortest_digits-suc w n ∙ ap (λ b. cond b (shortest_digits w (n / 10)) (last_digits (suc w) n)) (ne_eqb (n % 10) 0 (λ z. absurd (omega arith)))

pointed : (ds : List ℕ) → 0 < length ds → behind_point ds ≡ 46 ∷ ds
pointed [] h = absurd (omega arith)
pointed (d ∷ ds) h = refl

pub behind_point_some : (w n : ℕ) → 0 < w → 0 < n % 10 → behind_point (shortest_digits w n) ≡ 46 ∷ last_digits w n
behind_point_some w n h e =
    ap behind_point (shortest_digits_nonzero w n h e) ∙ pointed (last_digits w n) (omega (arith, length-last_digits w n))

pub behind_point_none : (n : ℕ) → behind_point (shortest_digits 0 n) ≡ []
behind_point_none n = ap behind_point (shortest_digits-none n)

-- ---- before the point
pub decimal_front : (n : ℕ) (t : List ℕ) → 10 ≤ n → n < 10 ^ 19 → decimal n ++ t ≡ decimal (n / 10) ++ ((48 + n % 10) ∷ t)
decimal_front n t h small =
    ap (λ l. l ++ t) (decimal_step n h (omega arith)) ∙ append_assoc (decimal (n / 10)) ((48 + n % 10) ∷ []) t

pub decimal_last : (n : ℕ) (t : List ℕ) → n < 10 → decimal n ++ t ≡ (48 + n) ∷ t
decimal_last n t h = ap (λ l. l ++ t) (decimal_digit n h)

pub decimal_room : (n m : ℕ) (t u : List ℕ) → n < 10 ^ 19 → m < 10 ^ 19 → decimal n ++ t ≡ decimal m ++ u → length t < length u + 19
decimal_room n m t u h k e =
    omega (arith, ap length e, length-append (decimal n) t, length-append (decimal m) u, decimal_nonempty n (omega arith), length-decimal-le 19 m (omega arith) k (omega arith))

pub ruleset written_digits = (last_digits_step, last_digits_done, shortest_digits_zero, behind_point_some, behind_point_none, decimal_front, decimal_last, decimal_room)
