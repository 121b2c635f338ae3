-- Where a string can end.
use Rattle.std.specs.Prelude.{◌≡◌, ◌≤◌, ℕ, List, ◌∷◌, ◌++◌, length}
use Rattle.vtl_lexer.specs.Spelling.{doubled}

-- a `"` stands at this place, and before it each one is doubled
pub record EndsAt (text : List ℕ) (place : ℕ) : Type 0 where
  pub inner : List ℕ
  pub rest : List ℕ
  pub split : text ≡ doubled inner ++ 34 ∷ rest
  pub is : place ≡ length (doubled inner)

pub record IsLongestEnd (text : List ℕ) (place : ℕ) : Type 0 where
  pub ends : EndsAt text place
  pub longest : (other : ℕ) → EndsAt text other → other ≤ place

abbrev pub EndsNowhere : List ℕ → Type 0
EndsNowhere text = (place : ℕ) → EndsAt text place → ⊥
