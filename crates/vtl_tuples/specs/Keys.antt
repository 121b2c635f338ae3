-- Items each once, and tuples of the items of each key.
use Rattle.std.specs.Prelude.{◌≡◌, Bool, true, false, not, cond, List, [], ◌∷◌, ◌++◌, map, filter, Option, None, Some}
use Rattle.std.specs.List.{find, flat_map, list_any}
use Rattle.std.specs.Option.{option_and_then, option_map_or}

-- a test that two items are the same one
pub record TellsApart {K : Type 0} (same : K → K → Bool) : Type 0 where
  pub is : (j k : K) → same j k ≡ true → j ≡ k
  pub self : (k : K) → same k k ≡ true

-- the items of a list, each once, in the order in which they first come
abbrev pub each_once : {X : Type 0} → (X → X → Bool) → List X → List X
each_once same [] = []
each_once same (x ∷ xs) = x ∷ filter (λ y. not (same x y)) (each_once same xs)

-- an item behind others, unless it is the same as one of them
abbrev pub and_once : {X : Type 0} → (X → X → Bool) → List X → X → List X
and_once same xs x = cond (list_any (λ y. same y x) xs) xs (xs ++ x ∷ [])

-- the first item with a key
abbrev pub item_at : {X K : Type 0} → (K → K → Bool) → (X → K) → List X → K → Option X
item_at same key xs k = find (λ x. same (key x) k) xs

-- the keys of all lists, each once
abbrev pub keys_of : {X K : Type 0} → (K → K → Bool) → (X → K) → List (List X) → List K
keys_of same key xss = each_once same (flat_map (map key) xss)

-- of each list the item with a key, or nothing
abbrev pub items_at : {X K : Type 0} → (K → K → Bool) → (X → K) → List (List X) → K → List (Option X)
items_at same key xss k = map (λ xs. item_at same key xs k) xss

-- a tuple for each key that some list has
abbrev pub filled : {X K : Type 0} → (K → K → Bool) → (X → K) → List (List X) → List (List (Option X))
filled same key xss = map (items_at same key xss) (keys_of same key xss)

-- ---- one list after the other
-- the key of the first part that is there
abbrev pub key_in : {X K : Type 0} → (X → K) → List (Option X) → Option K
key_in key [] = None
key_in key (None ∷ t) = key_in key t
key_in key (Some x ∷ t) = Some (key x)

-- a tuple has a key
abbrev pub has_key : {X K : Type 0} → (K → K → Bool) → (X → K) → K → List (Option X) → Bool
has_key same key k t = option_map_or (λ j. same j k) (key_in key t) false

-- Each tuple with the item of its key, or nothing; then each item whose key no tuple has, behind as many missing parts as there were
-- lists before.
abbrev pub filled_with : {X K : Type 0} → (K → K → Bool) → (X → K) → List (List X) → List (List (Option X)) → List X → List (List (Option X))
filled_with same key before ts xs =
    map (λ t. t ++ option_and_then (item_at same key xs) (key_in key t) ∷ []) ts
    ++ map (λ x. map (λ ys. None) before ++ Some x ∷ []) (filter (λ x. not (list_any (has_key same key (key x)) ts)) xs)
