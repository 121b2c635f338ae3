-- Combinations of numbers, one more number after the other.
use Rattle.std.proofs.Common.{◌≡◌, ℕ, zero, suc, ◌+◌, true, false, ◌||◌, List, [], ◌∷◌, ◌++◌, map, refl, sym, ap, ◌∙◌, append_assoc, arith, ne_eqb, true≢false}
use Rattle.std.specs.Prelude.{nat_eq}
use Rattle.std.specs.List.{flat_map, list_any}
use Rattle.std.proofs.lemmas.Grind.{flat_map-append}
use Rattle.std.proofs.lemmas.List.{append-nil}
use Rattle.std.proofs.lemmas.List.Folds.{flat_map-map}
use Rattle.vtl_tuples.specs.Tuples.{combinations}
use Rattle.vtl_tuples.proofs.Lists.{flat_map-flat_map, flat_map_each}
use Rattle.vtl_join.specs.Crossing.{combined, up_to}
use Rattle.vtl_join.proofs.Stepping.{range_more}

pub combined_step : (front : List ℕ) (count : ℕ) (rest : List ℕ) → flat_map (λ k. combined (front ++ k ∷ []) rest) (up_to count) ≡ combined front (count ∷ rest)
combined_step front count rest =
    let C = combinations (map up_to rest) in
    let one : (k : ℕ) → combined (front ++ k ∷ []) rest ≡ flat_map (λ t. front ++ t) (map (λ t. k ∷ t) C) = λ k.
    flat_map_each (λ t. (front ++ k ∷ []) ++ t) (λ t. front ++ (k ∷ t)) (λ t. append_assoc front (k ∷ []) t) C ∙ sym (flat_map-map (λ t. front ++ t) (λ t. k ∷ t) C) in
    flat_map_each (λ k. combined (front ++ k ∷ []) rest) (λ k. flat_map (λ t. front ++ t) (map (λ t. k ∷ t) C)) one (up_to count)
    ∙ sym (flat_map-flat_map (λ t. front ++ t) (λ k. map (λ t. k ∷ t) C) (up_to count))

pub combined_more : (f : ℕ → List ℕ) (before old new one : List ℕ) (n : ℕ) → old ≡ before ++ flat_map f (up_to n) → new ≡ old ++ one → one ≡ f n → new ≡ before ++ flat_map f (up_to (n + 1))
combined_more f before old new one n o e is =
    e ∙ ap (λ l. l ++ one) o ∙ ap (λ l. (before ++ flat_map f (up_to n)) ++ l) (is ∙ sym (append-nil (f n)))
    ∙ append_assoc before (flat_map f (up_to n)) (f n ++ []) ∙ ap (λ l. before ++ l) (sym (flat_map-append f (up_to n) (n ∷ [])) ∙ ap (flat_map f) (sym (range_more n)))

nothing : (ns : List ℕ) → flat_map (λ n. map (λ t. n ∷ t) []) ns ≡ []
nothing [] = refl
nothing (n ∷ ns) = nothing ns

pub no_combinations : (counts : List ℕ) → list_any (λ n. nat_eq n 0) counts ≡ true → combinations (map up_to counts) ≡ []
no_combinations [] e = absurd (true≢false (sym e))
no_combinations (zero ∷ counts) e = refl
no_combinations (suc n ∷ counts) e =
    let not_zero : nat_eq (suc n) 0 ≡ false = ne_eqb (suc n) 0 (λ z. absurd (omega (arith, z))) in
    let later : list_any (λ m. nat_eq m 0) counts ≡ true = ap (λ b. b || list_any (λ m. nat_eq m 0) counts) (sym not_zero) ∙ e in
    ap (λ ts. flat_map (λ k. map (λ t. k ∷ t) ts) (up_to (suc n))) (no_combinations counts later) ∙ nothing (up_to (suc n))

pub none_combined : (front counts : List ℕ) → list_any (λ n. nat_eq n 0) counts ≡ true → [] ≡ combined front counts
none_combined front counts e = sym (ap (flat_map (λ t. front ++ t)) (no_combinations counts e))
