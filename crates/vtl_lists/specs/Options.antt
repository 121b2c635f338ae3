-- One thing after another, where there may be none.
use Rattle.std.specs.Prelude.{Option, Some, None}

-- first one, and then the other at its value
infixl 10 ◌>>=◌
abbrev pub ◌>>=◌ : {A B : Type 0} → Option A → (A → Option B) → Option B
None >>= f = None
Some x >>= f = f x

-- what is made of a value, or another thing where there is none
abbrev pub given : {A B : Type 0} → Option A → (A → B) → B → B
given None f other = other
given (Some x) f other = f x
