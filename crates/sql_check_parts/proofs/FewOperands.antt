-- Calls of few operands.
use Rattle.std.proofs.Common.{◌≡◌, ◌<◌, ◌&&◌, List, [], ◌∷◌, Bool, true, length, refl, arith}
use Rattle.std.specs.Prelude.{map}
use Rattle.sql_tree.specs.Trees.{Exp, exps_of}
use Rattle.sql_check_parts.specs.Literals.{second_passes, third_passes}

pub second_short : {A : Type 0} (test : Exp → Bool) (view : A → Exp) (xs : List A) → length xs < 2 → second_passes test (exps_of (map view xs)) ≡ true
second_short test view [] h = refl
second_short test view (x ∷ []) h = refl
second_short test view (x ∷ y ∷ zs) h = absurd (omega (arith, h))

pub places_short : {A : Type 0} (start size : Exp → Bool) (view : A → Exp) (xs : List A) → length xs < 2 → second_passes start (exps_of (map view xs)) && third_passes size (exps_of (map view xs)) ≡ true
places_short start size view [] h = refl
places_short start size view (x ∷ []) h = refl
places_short start size view (x ∷ y ∷ zs) h = absurd (omega (arith, h))
