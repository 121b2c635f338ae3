-- Tuples of items, one of each of several lists.
use Rattle.std.specs.Prelude.{Bool, true, ◌&&◌, List, [], ◌∷◌, ◌++◌, map, filter, Option, None, is_some}
use Rattle.std.specs.List.{flat_map, list_all}
use Rattle.std.specs.Option.{option_and_then, option_to_list}
use Rattle.vtl_lists.specs.Each.{each_some}

-- every way to take one item of each list
abbrev pub combinations : {X : Type 0} → List (List X) → List (List X)
combinations [] = [] ∷ []
combinations (xs ∷ rest) = flat_map (λ x. map (λ t. x ∷ t) (combinations rest)) xs

-- each two items of a tuple agree
abbrev pub all_agree : {X : Type 0} → (X → X → Bool) → List X → Bool
all_agree agree [] = true
all_agree agree (x ∷ xs) = list_all (agree x) xs && all_agree agree xs

-- the tuples of items that agree
abbrev pub matching : {X : Type 0} → (X → X → Bool) → List (List X) → List (List X)
matching agree xss = filter (all_agree agree) (combinations xss)

-- ---- one list after the other
-- a tuple with one more item
abbrev pub and_item : {X : Type 0} → List X → X → List X
and_item t x = t ++ x ∷ []

-- an item agrees with each of a tuple
abbrev pub goes_with : {X : Type 0} → (X → X → Bool) → List X → X → Bool
goes_with agree t x = list_all (λ y. agree y x) t

-- each tuple with each item that goes with it
abbrev pub matched_with : {X : Type 0} → (X → X → Bool) → List (List X) → List X → List (List X)
matched_with agree ts xs = flat_map (λ t. map (and_item t) (filter (goes_with agree t) xs)) ts

-- each tuple with each item
abbrev pub crossed_with : {X : Type 0} → List (List X) → List X → List (List X)
crossed_with ts xs = flat_map (λ t. map (and_item t) xs) ts

-- ---- from the items of one list, the lead
-- for each item of the lead the tuple of what it finds in every list, where it finds something in each
abbrev pub led : {X Y O : Type 0} → (X → O → Option Y) → List O → List X → List (List Y)
led find os lead = flat_map (λ x. option_to_list (each_some (find x) os)) lead

-- for each item of the lead what it finds in each list, or nothing
abbrev pub led_or_none : {X Y O : Type 0} → (X → O → Option Y) → List O → List X → List (List (Option Y))
led_or_none find os lead = map (λ x. map (find x) os) lead

-- no part is missing
abbrev pub is_whole : {Y : Type 0} → List (Option Y) → Bool
is_whole t = list_all is_some t

-- the first part, where it is there
abbrev pub front_part : {X : Type 0} → List (Option X) → Option X
front_part [] = None
front_part (part ∷ t) = part

-- each tuple with what its first part finds in one more list
abbrev pub led_with : {X O : Type 0} → (X → O → Option X) → List (List (Option X)) → O → List (List (Option X))
led_with find ts o = map (λ t. t ++ option_and_then (λ x. find x o) (front_part t) ∷ []) ts
