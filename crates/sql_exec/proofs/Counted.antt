-- Steps of a query of one select.
use Rattle.std.proofs.Common.{◌≡◌, ◌∙◌, ℕ, ◌+◌, ◌<◌, ◌≤◌, true, ◌||◌, List, [], ◌∷◌, drop, length, map, refl, ap, arith, subst, sym}
use Rattle.std.specs.Prelude.{◌==◌}
use Rattle.std.specs.List.{list_any}
use Rattle.sql_tree.specs.Trees.{QueryTree, SelectTree}
use Rattle.sql_meaning.specs.Plans.{Ways, indexed_in, is_indexed}
use Rattle.sql_meaning.specs.declared.plan.Indexed.{Indexed}
use Rattle.sql_from.specs.Steps.{IsPlainJoin, most_steps}
use Rattle.sql_meaning.specs.Tables.{Base}

joins_listed : (xs : List Indexed) (n : ℕ) → list_any (λ j. j == n) (map (λ i. i.join) xs) ≡ is_indexed xs n
joins_listed [] n = refl
joins_listed (x ∷ xs) n = ap (λ b. (x.join == n) || b) (joins_listed xs n)

-- before the only select no step is taken, and behind it not too many
pub record Taken (b : Base) (s : SelectTree) (place old new : ℕ) : Type 0 where
  pub none : place ≡ 0 → new ≡ old
  pub most : new ≤ old + most_steps b s

-- the one select, with the joins that the plan lists for it
pub select_taken : (b : Base) (w : Ways) (q : QueryTree) (s x : SelectTree) (rest : QueryTree) (place old now new : ℕ) → q ≡ s ∷ [] → place < length q → drop place q ≡ x ∷ rest → is_indexed (indexed_in w 0) 0 ≡ true → IsPlainJoin s
    → Taken b s place old now → (joins : List ℕ) → joins ≡ map (λ i. i.join) (indexed_in w place) → (list_any (λ n. n == 0) joins ≡ true → IsPlainJoin x → new ≤ now + most_steps b x) → new ≤ old + most_steps b s
select_taken b w q s x rest place old now new one h here listed plain taken joins are bound =
    let many : length q ≡ length (s ∷ []) = ap (λ l. length l) one in
    let zero : place ≡ 0 = omega (arith, many, h) in
    let both : x ∷ rest ≡ s ∷ [] = sym here ∙ (λ i. drop (zero i) (one i)) in
    let same : x ≡ s = cc in
    let there : list_any (λ n. n == 0) joins ≡ true = ap (list_any (λ n. n == 0)) are ∙ joins_listed (indexed_in w place) 0 ∙ ap (λ n. is_indexed (indexed_in w n) 0) zero ∙ listed in
    let most = bound there (subst IsPlainJoin (sym same) plain) in
    let steps = ap (most_steps b) same in
    let nothing = taken.none zero in
    omega (arith, most, steps, nothing)
