-- What an answer of the program tells of a typing.
use Rattle.std.specs.Prelude.{◌≡◌, Result, Ok, Err}
use Rattle.check_faults.specs.declared.error.TypeErr.{TypeErr}
use Rattle.check_faults.specs.declared.error.TypeErr.TheVariants as err
use Rattle.check_faults.specs.declared.rules.Rule.{Rule}

-- the answer is what is typed, as it is seen, or the rule that is broken; or it tells of want of memory
abbrev pub Answers : {A B : Type 0} → (A → B) → Result A TypeErr → Result B Rule → Type 0
Answers view (Ok x) typing = typing ≡ Ok (view x)
Answers view (Err (err.Broken rule)) typing = typing ≡ Err rule
Answers view (Err err.OutOfMemory) typing = Unit {0}
