-- One thing after another, where the first error ends it.
use Rattle.std.specs.Prelude.{Result, Ok, Err}

-- first one, and then the other at its value
infixl 10 ◌>>=◌
abbrev pub ◌>>=◌ : {A B E : Type 0} → Result A E → (A → Result B E) → Result B E
(Ok x) >>= f = f x
(Err e) >>= f = Err e
