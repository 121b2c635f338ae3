-- The structures of the operands.
use Rattle.std.proofs.Common.{◌≡◌, ℕ, zero, suc, ◌<◌, List, [], ◌∷◌, length, get_or, ap, ◌∙◌, arith}
use Rattle.std.proofs.lemmas.List.{length-map}
use Rattle.vtl_meaning.specs.Joined.{structures_of}
use Rattle.vtl_join.specs.declared.joined.Operand.{Operand}
use Rattle.vtl_join.specs.Joining.{sets_of}

pub structure_at : (os : List Operand) (i : ℕ) (o : Operand) → i < length os → o ≡ get_or os i o → o.set.structure ≡ get_or (structures_of (sets_of os)) i o.set.structure
structure_at [] i o h e = absurd (omega (arith, h))
structure_at (x ∷ os) zero o h e = ap (λ (y : Operand). y.set.structure) e
structure_at (x ∷ os) (suc i) o h e = structure_at os i o (omega (arith, h)) e

pub structures_many : (os : List Operand) → length (structures_of (sets_of os)) ≡ length os
structures_many os = length-map (sets_of os) (λ d. d.structure) ∙ length-map os (λ o. o.set)
