-- What a typing gives, step by step.
use Rattle.std.proofs.Common.{◌≡◌, Bool, true, false, cond, [], ◌∷◌, Result, Ok, Err, refl, subst}
use Rattle.vtl_lists.specs.Results.{◌>>=◌}
use Rattle.check_faults.specs.Rules.{ruled, Tests}
use Rattle.check_faults.specs.declared.rules.Rule.{Rule}
use Rattle.check_laws.specs.Gives.{ArePassed, Gives}

-- what one step gives goes on to the next
pub then : {A B : Type 0} (P : A → Type 0) (Q : B → Type 0) (r : Result A Rule) (f : A → Result B Rule) → Gives P r → ((x : A) → P x → Gives Q (f x)) → Gives Q (r >>= f)
then P Q (Ok x) f h g = g x h
then P Q (Err rule) f h g = tt

pub weaker : {A : Type 0} (P Q : A → Type 0) (r : Result A Rule) → ((x : A) → P x → Q x) → Gives P r → Gives Q r
weaker P Q (Ok x) f h = f x h
weaker P Q (Err rule) f h = tt

-- where there is a result, this holds of it
pub given : {A : Type 0} (P : A → Type 0) (r : Result A Rule) (x : A) → Gives P r → r ≡ Ok x → P x
given P r x h e = subst (Gives P) e h

-- where tests are asked, none is broken
pub tested : {A : Type 0} (P : A → Type 0) (tests : Tests) (x : A) → (ArePassed tests → P x) → Gives P (ruled tests x)
tested P [] x h = h tt
tested P (test ∷ tests) x h = go test.1 refl (tested P tests x)
  where
    go : (b : Bool) → test.1 ≡ b → ((ArePassed tests → P x) → Gives P (ruled tests x)) → Gives P (cond b (Err test.0) (ruled tests x))
    go true e ih = tt
    go false e ih = ih (λ k. h (e, k))

-- one step before others
pub after : {A B : Type 0} (Q : B → Type 0) (r : Result A Rule) (f : A → Result B Rule) → ((x : A) → Gives Q (f x)) → Gives Q (r >>= f)
after Q (Ok x) f g = g x
after Q (Err rule) f g = tt

-- tests before others
pub tested-then : {B : Type 0} (Q : B → Type 0) (tests : Tests) (f : Unit {0} → Result B Rule) → (ArePassed tests → Gives Q (f tt)) → Gives Q (ruled tests (tt {0}) >>= f)
tested-then Q tests f g = then (λ u. ArePassed tests) Q (ruled tests (tt {0})) f (tested (λ u. ArePassed tests) tests tt (λ k. k)) (λ u k. g k)

-- two facts of what is given
pub both : {A : Type 0} (P Q : A → Type 0) (r : Result A Rule) → Gives P r → Gives Q r → Gives (λ x. P x × Q x) r
both P Q (Ok x) h k = (h, k)
both P Q (Err rule) h k = tt

pub anything : {A : Type 0} (r : Result A Rule) → Gives (λ x. Unit {0}) r
anything (Ok x) = tt
anything (Err rule) = tt

-- what is given where something holds
pub under : {A : Type 0} (H : Type 0) (P : A → Type 0) (r : Result A Rule) → (H → Gives P r) → Gives (λ x. H → P x) r
under H P (Ok x) f = f
under H P (Err rule) f = tt

-- tests of which none is broken
pub passed : (tests : Tests) → ruled tests (tt {0}) ≡ Ok tt → ArePassed tests
passed tests e = given (λ u. ArePassed tests) (ruled tests (tt {0})) tt (tested (λ u. ArePassed tests) tests tt (λ k. k)) e
