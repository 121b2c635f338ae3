-- When the items of one list tell which items of all lists agree.
use Rattle.std.specs.Prelude.{◌≡◌, Bool, true, List, filter, Option, Some}
use Rattle.std.specs.List.{AllByRecursion}
use Rattle.std.specs.Option.{option_to_list}

-- an item that, for items that are of these, tells whether they agree: those that agree with it
pub record Leads {X : Type 0} (IsOf : X → Type 0) (agree : X → X → Bool) (r : X) : Type 0 where
  pub of : IsOf r
  pub self : agree r r ≡ true
  pub turned : (x : X) → IsOf x → agree x r ≡ true → agree r x ≡ true
  pub covers : (x y : X) → IsOf x → IsOf y → agree r x ≡ true → agree r y ≡ true → agree x y ≡ true

-- it finds the one item of a list that agrees with it, or nothing where none does
abbrev pub FindsOnly : {X O : Type 0} → (X → X → Bool) → (O → List X) → (X → O → Option X) → X → O → Type 0
FindsOnly agree items find r o = filter (agree r) (items o) ≡ option_to_list (find r o)

-- and so in every list but its own, where it finds itself
pub record Finds {X O : Type 0} (IsOf : X → Type 0) (agree : X → X → Bool) (items : O → List X) (find : X → O → Option X) (pre : List O) (lead : O) (post : List O) (r : X) : Type 0 where
  pub leads : Leads IsOf agree r
  pub own : find r lead ≡ Some r
  pub before : AllByRecursion (FindsOnly agree items find r) pre
  pub behind : AllByRecursion (FindsOnly agree items find r) post
