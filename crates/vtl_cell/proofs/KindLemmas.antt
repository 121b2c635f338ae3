-- Operands that meet kinds.
use Rattle.std.proofs.Common.{◌≡◌, ◌∙◌, ◌<◌, ◌-◌, ◌+◌, ◌&&◌, ℕ, List, [], ◌∷◌, false, length, drop, get_or, refl, ap, arith}
use Rattle.std.proofs.lemmas.List.{drop_more}
use Rattle.std.specs.Prelude.{option_and_then}
use Rattle.vtl_lists.proofs.Tests.{and_false}
use Rattle.vtl_cell.specs.ScalarKinds.{common_kind, meet, meets, shared_kind}
use Rattle.vtl_cell.specs.declared.kind.Kind.{Kind}

-- more operands than are wanted
pub meet_long : (ws gs : List Kind) → length ws < length gs → meet ws gs ≡ false
meet_long [] [] h = absurd (omega (arith, h))
meet_long [] (g ∷ gs) h = refl
meet_long (w ∷ ws) [] h = refl
meet_long (w ∷ ws) (g ∷ gs) h =
    let rest : meet ws gs ≡ false = meet_long ws gs (omega (arith, h)) in ap (λ b. meets w g && b) rest ∙ and_false (meets w g)

-- one more of the kinds from the end
pub kinds_step : (kinds : List Kind) (i : ℕ) (d : Kind) → i < length kinds
    → common_kind (drop (length kinds - (i + 1)) kinds) ≡ option_and_then (shared_kind (get_or kinds (length kinds - 1 - i) d)) (common_kind (drop (length kinds - i) kinds))
kinds_step kinds i d h =
    let at : length kinds - (i + 1) < length kinds = omega (arith, h) in
    let same : length kinds - 1 - i ≡ length kinds - (i + 1) = omega arith in
    let next : length kinds - (i + 1) + 1 ≡ length kinds - i = omega (arith, h) in
    rw (drop_more kinds (length kinds - (i + 1)) d at, same, next) refl
