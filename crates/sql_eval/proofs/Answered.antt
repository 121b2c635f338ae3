-- Answers that are told of equal values.
use Rattle.std.proofs.Common.{◌≡◌, Result, subst, sym}
use Rattle.vtl_cell.specs.Outcome.{Outcome}
use Rattle.vtl_scalar.specs.Answers.{AnswersBy}
use Rattle.vtl_scalar.specs.declared.error.ScalarErr.{ScalarErr}

pub AnswersBy_same : {A B : Type 0} (view : A → B) (r : Result A ScalarErr) (m n : Outcome B) → n ≡ m → AnswersBy view r m → AnswersBy view r n
AnswersBy_same view r m n e a = subst (λ o. AnswersBy view r o) (sym e) a
