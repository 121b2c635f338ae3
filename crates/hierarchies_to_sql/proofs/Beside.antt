-- Sources beside the combinations are written one by one.
use Rattle.std.proofs.Common.{◌≡◌, ◌<◌, ◌≤◌, ◌+◌, ℕ, zero, suc, min, List, [], ◌∷◌, ◌++◌, get_or, length, refl, sym, ap, take, ◌∙◌, arith}
use Rattle.vtl_tree.specs.declared.structure.Component.{Component}
use Rattle.sql_tree.specs.Trees.{JoinTree, Text}
use Rattle.selects_to_sql.specs.Queries.{alias_of}
use Rattle.hierarchies_to_sql.specs.RuleItems.{aliases_from, join_as, joins_as}

pub aliases_more : (n i : ℕ) → aliases_from i (suc n) ≡ aliases_from i n ++ alias_of (i + n) ∷ []
aliases_more zero i = let same : i ≡ i + 0 = omega arith in ap (λ m. alias_of m ∷ []) same
aliases_more (suc n) i = let same : suc i + n ≡ i + suc n = omega arith in ap (λ l. alias_of i ∷ l) (aliases_more n (suc i) ∙ ap (λ m. aliases_from (suc i) n ++ alias_of m ∷ []) same)

module _ (first : Text) (ys : List Component) where
  abbrev joins : List Text → List Text → List JoinTree
  joins aliases xs = joins_as first ys aliases xs

  pub joins_more : (aliases xs : List Text) (i : ℕ) (alias x : Text) → i < length aliases → i < length xs → alias ≡ get_or aliases i alias → x ≡ get_or xs i x → joins (take (i + 1) aliases) (take (i + 1) xs) ≡ joins (take i aliases) (take i xs) ++ join_as first ys alias x ∷ []
  joins_more [] xs i alias x h k at bt = absurd (omega (arith, h))
  joins_more (a ∷ aliases) [] i alias x h k at bt = absurd (omega (arith, k))
  joins_more (a ∷ aliases) (b ∷ xs) zero alias x h k at bt = ap (λ (z : Text). join_as first ys z b ∷ []) (sym at) ∙ ap (λ (z : Text). join_as first ys alias z ∷ []) (sym bt)
  joins_more (a ∷ aliases) (b ∷ xs) (suc i) alias x h k at bt =
      let next : suc i + 1 ≡ suc (i + 1) = omega arith in
      ap (λ n. joins (take n (a ∷ aliases)) (take n (b ∷ xs))) next
      ∙ ap (λ l. join_as first ys a b ∷ l) (joins_more aliases xs i alias x (omega (arith, h)) (omega (arith, k)) at bt)

  pub joins_all : (aliases xs : List Text) (i : ℕ) → min (length aliases) (length xs) ≤ i → joins (take i aliases) (take i xs) ≡ joins aliases xs
  joins_all [] xs zero h = refl
  joins_all [] xs (suc i) h = refl
  joins_all (a ∷ aliases) [] zero h = refl
  joins_all (a ∷ aliases) [] (suc i) h = refl
  joins_all (a ∷ aliases) (b ∷ xs) zero h = absurd (omega (arith, h))
  joins_all (a ∷ aliases) (b ∷ xs) (suc i) h = ap (λ l. join_as first ys a b ∷ l) (joins_all aliases xs i (omega (arith, h)))
