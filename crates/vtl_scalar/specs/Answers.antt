-- What an answer of the program tells of a value or a fault.
use Rattle.std.specs.Prelude.{◌≡◌, Result, Ok, Err}
use Rattle.vtl_decimal.specs.declared.number.Fault.TheVariants.{DivZero, Range}
use Rattle.vtl_cell.specs.Outcome.{Outcome}
use Rattle.vtl_scalar.specs.declared.error.ScalarErr.{ScalarErr}
use Rattle.vtl_scalar.specs.declared.error.ScalarErr.TheVariants as err

-- the answer is the value, as it is seen, or the fault, or tells of want of memory
abbrev pub AnswersBy : {A B : Type 0} → (A → B) → Result A ScalarErr → Outcome B → Type 0
AnswersBy view (Ok x) m = m ≡ Ok (view x)
AnswersBy view (Err err.DivZero) m = m ≡ Err DivZero
AnswersBy view (Err err.Range) m = m ≡ Err Range
AnswersBy view (Err err.OutOfMemory) m = Unit {0}

-- the same, of a value that is seen as it is
abbrev pub Answers : {A : Type 0} → Result A ScalarErr → Outcome A → Type 0
Answers = AnswersBy (λ x. x)
