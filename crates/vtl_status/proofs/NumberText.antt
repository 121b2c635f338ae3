-- The digits of a number, the last one apart.
use Rattle.std.proofs.Common.{ℕ, ◌+◌, ◌/◌, ◌%◌, ◌^◌, ◌<◌, ◌≤◌, List, [], ◌∷◌, Option, Result, decimal, subst, sym}
use Rattle.std.proofs.lemmas.Fmt.{decimal_digit, decimal_step}
use Rattle.std.specs.Result.{OnOk, OnErr}
use Rattle.std.proofs.lemmas.Result.{on_err_weaker, on_ok_weaker}
use Rattle.vtl_files.specs.Outside.{TakesAll}
use Rattle.vtl_files.specs.Whole.{TakesFront}
use Rattle.vtl_status.proofs.LineLemmas.{all_after, front_after, front_before}

-- one digit
pub digit_whole : {T E : Type 0} (r : Result T E) (t u : Option (List ℕ)) (n : ℕ) → n < 10 → OnOk r (TakesAll t u ((48 + n) ∷ [])) → OnOk r (TakesAll t u (decimal n))
digit_whole r t u n small = on_ok_weaker r (subst (λ l. TakesAll t u l) (sym (decimal_digit n small)))

pub digit_front : {T E : Type 0} (r : Result T E) (t u : Option (List ℕ)) (n : ℕ) → n < 10 → OnErr r (TakesFront t u ((48 + n) ∷ [])) → OnErr r (TakesFront t u (decimal n))
digit_front r t u n small = on_err_weaker r (subst (λ l. TakesFront t u l) (sym (decimal_digit n small)))

-- the digits before the last one, and then that one
module _ (n : ℕ) (large : 10 ≤ n) (fits : n < 2 ^ 64) where
  pub digits_start : (t u : Option (List ℕ)) → TakesFront t u (decimal (n / 10)) → TakesFront t u (decimal n)
  digits_start t u f = subst (λ l. TakesFront t u l) (sym (decimal_step n large fits)) (front_before t u (decimal (n / 10)) ((48 + n % 10) ∷ []) f)

  pub digits_whole : {T E : Type 0} (r : Result T E) (t u v : Option (List ℕ)) → TakesAll t u (decimal (n / 10)) → OnOk r (TakesAll u v ((48 + n % 10) ∷ [])) → OnOk r (TakesAll t v (decimal n))
  digits_whole r t u v all = on_ok_weaker r (λ last. subst (λ l. TakesAll t v l) (sym (decimal_step n large fits)) (all_after t u v (decimal (n / 10)) ((48 + n % 10) ∷ []) all last))

  pub digits_front : {T E : Type 0} (r : Result T E) (t u v : Option (List ℕ)) → TakesAll t u (decimal (n / 10)) → OnErr r (TakesFront u v ((48 + n % 10) ∷ [])) → OnErr r (TakesFront t v (decimal n))
  digits_front r t u v all = on_err_weaker r (λ last. subst (λ l. TakesFront t v l) (sym (decimal_step n large fits)) (front_after t u v (decimal (n / 10)) ((48 + n % 10) ∷ []) all last))
