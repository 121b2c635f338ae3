-- What holds of what a typing gives, where no rule is broken.
use Rattle.std.specs.Prelude.{◌≡◌, false, [], ◌∷◌, Result, Ok, Err}
use Rattle.check_faults.specs.Rules.{Tests}

abbrev pub Gives : {A E : Type 0} → (A → Type 0) → Result A E → Type 0
Gives P (Ok x) = P x
Gives P (Err rule) = Unit {0}

-- no test is broken
abbrev pub ArePassed : Tests → Type 0
ArePassed [] = Unit {0}
ArePassed (test ∷ tests) = (test.1 ≡ false) × ArePassed tests
