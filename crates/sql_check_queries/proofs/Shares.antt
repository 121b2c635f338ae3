-- Kinds that columns share by place.
use Rattle.std.proofs.Common.{ℕ, zero, suc, ◌<◌, ◌≤◌, ◌≡◌, ◌∙◌, min, length, take, drop, set, get_or, List, [], ◌∷◌, ◌++◌, refl, ap, arith}
use Rattle.std.specs.Prelude.{Option, option_and_then}
use Rattle.std.proofs.lemmas.List.{take-append-drop}
use Rattle.vtl_cell.specs.ScalarKinds.{shared_kind}
use Rattle.vtl_cell.specs.declared.kind.Kind.{Kind}
use Rattle.sql_check_parts.specs.Queries.{beside}

-- one more column
pub beside_more : (cs : List (Option Kind)) (kinds : List Kind) (i : ℕ) (c v : Option Kind) (k : Kind) → i < length cs → i < length kinds
    → v ≡ option_and_then (λ shared. shared_kind shared (get_or kinds i k)) (get_or cs i c)
    → take (suc i) (set cs i v) ++ beside (drop (suc i) (set cs i v)) (drop (suc i) kinds) ≡ take i cs ++ beside (drop i cs) (drop i kinds)
beside_more [] kinds i c v k h l e = absurd (omega (arith, h))
beside_more (o ∷ cs) [] i c v k h l e = absurd (omega (arith, l))
beside_more (o ∷ cs) (kind ∷ kinds) zero c v k h l e = ap (λ x. x ∷ beside cs kinds) e
beside_more (o ∷ cs) (kind ∷ kinds) (suc i) c v k h l e = ap (λ xs. o ∷ xs) (beside_more cs kinds i c v k (omega (arith, h)) (omega (arith, l)) e)

beside_none : (cs : List (Option Kind)) → beside cs [] ≡ cs
beside_none [] = refl
beside_none (c ∷ cs) = refl

-- all columns that there are in both
pub beside_end : (cs : List (Option Kind)) (kinds : List Kind) (i : ℕ) → min (length cs) (length kinds) ≤ i → take i cs ++ beside (drop i cs) (drop i kinds) ≡ cs
beside_end [] kinds zero h = refl
beside_end [] kinds (suc i) h = refl
beside_end (c ∷ cs) [] zero h = refl
beside_end (c ∷ cs) [] (suc i) h = ap (λ xs. c ∷ xs) (ap (λ xs. take i cs ++ xs) (beside_none (drop i cs)) ∙ take-append-drop i cs)
beside_end (c ∷ cs) (kind ∷ kinds) zero h = absurd (omega (arith, h))
beside_end (c ∷ cs) (kind ∷ kinds) (suc i) h = ap (λ xs. c ∷ xs) (beside_end cs kinds i (omega (arith, h)))
