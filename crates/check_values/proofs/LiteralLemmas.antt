-- Calls of few operands.
use Rattle.std.proofs.Common.{suc, ◌≡◌, ◌<◌, ◌&&◌, List, [], ◌∷◌, Bool, true, length, refl, ap, arith}
use Rattle.std.specs.Prelude.{map}
use Rattle.vtl_syntax.specs.Trees.{Exp, exps_of}
use Rattle.check_values.specs.Operators.{exps_length}
use Rattle.check_values.specs.Literals.{second_passes, third_passes}

pub second_short : {A : Type 0} (test : Exp → Bool) (view : A → Exp) (xs : List A) → length xs < 2 → second_passes test (exps_of (map view xs)) ≡ true
second_short test view [] h = refl
second_short test view (x ∷ []) h = refl
second_short test view (x ∷ y ∷ zs) h = absurd (omega (arith, h))

pub places_short : {A : Type 0} (start size : Exp → Bool) (view : A → Exp) (xs : List A) → length xs < 2 → second_passes start (exps_of (map view xs)) && third_passes size (exps_of (map view xs)) ≡ true
places_short start size view [] h = refl
places_short start size view (x ∷ []) h = refl
places_short start size view (x ∷ y ∷ zs) h = absurd (omega (arith, h))

pub as_many : {A : Type 0} (view : A → Exp) (xs : List A) → exps_length (exps_of (map view xs)) ≡ length xs
as_many view [] = refl
as_many view (x ∷ xs) = ap suc (as_many view xs)
