-- Sorting lists whose items are related, where each two compare alike.
use Rattle.lineage_laws.proofs.Togethers.{together_and, together_more}
use Rattle.lineage_laws.specs.Agree.{Together, and, none}
use Rattle.std.proofs.Common.{◌≡◌, Bool, true, false, cond, List, [], ◌∷◌}
use Rattle.vtl_lists.specs.Sorting.{insert_by, sorted_by}

-- each item compares with all later ones as in the other list
pub data Compared {X Y : Type 0} (le : X → X → Bool) (lt : Y → Y → Bool) : List X → List Y → Type 0 where
  nothing : Compared le lt [] []
  later : {x : X} {y : Y} {xs : List X} {ys : List Y} → Together (λ u v. le x u ≡ lt y v) xs ys → Compared le lt xs ys → Compared le lt (x ∷ xs) (y ∷ ys)

module _ {X Y : Type 0} (le : X → X → Bool) (lt : Y → Y → Bool) where
  insert_together : (R : X → Y → Type 0) (x : X) (y : Y) → R x y → (xs : List X) (ys : List Y) → Together (λ u v. R u v × (le x u ≡ lt y v)) xs ys → Together R (insert_by le x xs) (insert_by lt y ys)
  insert_together R x y h _ _ none = and h none
  insert_together R x y h _ _ (and {x = u} {y = v} {xs = xs} {ys = ys} k t) = go (le x u) (lt y v) k.1 (together_more (λ a b. R a b × (le x a ≡ lt y b)) R (λ a b q. q.0) xs ys t) (insert_together R x y h xs ys t)
    where
      go : (b c : Bool) → b ≡ c → Together R xs ys → Together R (insert_by le x xs) (insert_by lt y ys) → Together R (cond b (x ∷ u ∷ xs) (u ∷ insert_by le x xs)) (cond c (y ∷ v ∷ ys) (v ∷ insert_by lt y ys))
      go true true e r i = and h (and k.0 r)
      go false false e r i = and k.0 i
      go true false e r i = cc
      go false true e r i = cc

  pub sorted_together : (R : X → Y → Type 0) (xs : List X) (ys : List Y) → Together R xs ys → Compared le lt xs ys → Together R (sorted_by le xs) (sorted_by lt ys)
  sorted_together R _ _ none c = none
  sorted_together R _ _ (and {x = x} {y = y} {xs = xs} {ys = ys} h t) (later k c) =
      insert_together R x y h (sorted_by le xs) (sorted_by lt ys) (sorted_together (λ u v. R u v × (le x u ≡ lt y v)) xs ys (together_and R (λ u v. le x u ≡ lt y v) xs ys t k) c)
