-- What holds of that which a reading gives, step by step.
use Rattle.std.proofs.Common.{◌≡◌, Bool, true, false, Option, None, Some, refl, subst}
use Rattle.std.specs.Prelude.{if◌then◌else◌}
use Rattle.vtl_lists.specs.Options.{◌>>=◌, given}

-- what is given, if anything is, is so
pub record Gives {A : Type 0} (P : A → Type 0) (r : Option A) : Type 0 where
  pub holds : (a : A) → r ≡ Some a → P a

pub none_gives : {A : Type 0} {P : A → Type 0} → Gives P None
none_gives = record { holds = λ a e. cc }

same_value : {A : Type 0} (a b : A) → Some a ≡ Some b → a ≡ b
same_value a b e = cc

pub some_gives : {A : Type 0} {P : A → Type 0} (x : A) → P x → Gives P (Some x)
some_gives {P = P} x h = record { holds = λ a e. subst P (same_value x a e) h }

-- one reading, and then another at its result
pub follow : {A B : Type 0} {P : A → Type 0} {Q : B → Type 0} (r : Option A) (f : A → Option B) → Gives P r → ((a : A) → P a → Gives Q (f a)) → Gives Q (r >>= f)
follow None f h k = none_gives
follow (Some a) f h k = k a (h.holds a refl)

-- one of two readings
pub either : {A B : Type 0} {P : A → Type 0} {Q : B → Type 0} (r : Option A) (f : A → Option B) (other : Option B) → Gives P r → ((a : A) → P a → Gives Q (f a)) → Gives Q other → Gives Q (given r f other)
either None f other h k o = o
either (Some a) f other h k o = k a (h.holds a refl)

-- one of two ways
pub either_way : {A B : Type 0} {P : A → Type 0} (Q : B → Type 0) (r : Option A) (f : A → B) (other : B) → Gives P r → ((a : A) → P a → Q (f a)) → Q other → Q (given r f other)
either_way Q None f other h k o = o
either_way Q (Some a) f other h k o = k a (h.holds a refl)

-- a reading under a test
pub under_test : {B : Type 0} {Q : B → Type 0} (b : Bool) (x y : Option B) → (b ≡ true → Gives Q x) → (b ≡ false → Gives Q y) → Gives Q (if b then x else y)
under_test true x y h k = h refl
under_test false x y h k = k refl

pub weaker : {A : Type 0} {P Q : A → Type 0} {r : Option A} → Gives P r → ((a : A) → P a → Q a) → Gives Q r
weaker h k = record { holds = λ a e. k a (h.holds a e) }

pub itself : {A : Type 0} (r : Option A) → Gives (λ a. r ≡ Some a) r
itself r = record { holds = λ a e. e }
