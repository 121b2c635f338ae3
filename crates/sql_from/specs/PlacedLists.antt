-- Lists by place.
use Rattle.std.specs.Prelude.{◌≡◌, ℕ, ◌<◌, ◌++◌, ◌==◌, List, [], ◌∷◌, length, get_or, if◌then◌else◌}
use Rattle.std.specs.Global.{Vec}

-- the list at each place below a number is the wanted one
pub record AreLists {X : Type 0} (wanted : ℕ → List X) (count : ℕ) (lists : List (Vec X)) : Type 0 where
  pub at : (i : ℕ) (other : Vec X) → i < count → (get_or lists i other).items ≡ wanted i

-- the list at one place has this behind its others
pub record IsPutAt {X : Type 0} (place : ℕ) (item : X) (before now : List (Vec X)) : Type 0 where
  pub at : (i : ℕ) (other : Vec X) → i < length before → (get_or now i other).items ≡ (get_or before i other).items ++ (if i == place then item ∷ [] else [])
