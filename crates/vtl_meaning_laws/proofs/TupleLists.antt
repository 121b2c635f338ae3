-- Items of a list, and the one that passes a test.
use Rattle.std.specs.Option.{option_to_list}
use Rattle.std.specs.List.{AllByRecursion, Contains, filter, find, list_any}
use Rattle.std.proofs.Common.{◌≡◌, zero, suc, Bool, true, false, cond, ◌||◌, List, [], ◌∷◌, map, Option, Some, None, refl, sym, ap, ◌∙◌, subst, arith, true≢false}
use Rattle.std.proofs.lemmas.List.{length-map}
use Rattle.std.proofs.Math.ListN.{get_or-map}
use Rattle.vtl_lists.proofs.Alls.{all_get, all_more}
use Rattle.vtl_meaning_laws.specs.Found.{IsOneThat}

-- ---- items of a list
pub item_has : {X : Type 0} (P : X → Type 0) (xs : List X) (x : X) → AllByRecursion P xs → Contains xs x → P x
item_has P xs x all c = subst P c.2 (all_get P xs c.0 x c.1 all)

contains_later : {X : Type 0} (y : X) (xs : List X) (x : X) → Contains xs x → Contains (y ∷ xs) x
contains_later y xs x c = (suc c.0, omega (arith, c.1), c.2)

pub each_contained : {X : Type 0} (xs : List X) → AllByRecursion (Contains xs) xs
each_contained [] = tt
each_contained (x ∷ xs) = ((zero, omega arith, refl), all_more (Contains xs) (Contains (x ∷ xs)) (contains_later x xs) xs (each_contained xs))

pub contains_map : {X Y : Type 0} (f : X → Y) (xs : List X) (x : X) → Contains xs x → Contains (map f xs) (f x)
contains_map f xs x c = (c.0, simp (length-map) c.1, get_or-map f xs c.0 x ∙ ap f c.2)

pub contains_kept : {X : Type 0} (p : X → Bool) (xs : List X) (x : X) → Contains xs x → p x ≡ true → Contains (filter p xs) x
contains_kept p [] x c e = absurd (omega (arith, c.1))
contains_kept p (y ∷ xs) x (zero, few, same) e = subst (λ (b : Bool). Contains (cond b (y ∷ filter p xs) (filter p xs)) x) (sym (ap p same ∙ e)) (zero, omega arith, same)
contains_kept p (y ∷ xs) x (suc k, few, same) e = go (p y) (contains_kept p xs x (k, omega (arith, few), same) e)
  where
    go : (b : Bool) → Contains (filter p xs) x → Contains (cond b (y ∷ filter p xs) (filter p xs)) x
    go true c = contains_later y (filter p xs) x c
    go false c = c

pub any_contained : {X : Type 0} (same : X → X → Bool) → ((x y : X) → same x y ≡ true → x ≡ y) → (xs : List X) (x : X) → list_any (λ y. same y x) xs ≡ true → Contains xs x
any_contained same is [] x e = absurd (true≢false (sym e))
any_contained same is (y ∷ xs) x e = go (same y x) refl e (any_contained same is xs x)
  where
    go : (b : Bool) → same y x ≡ b → (b || list_any (λ z. same z x) xs) ≡ true → (list_any (λ z. same z x) xs ≡ true → Contains xs x) → Contains (y ∷ xs) x
    go true f g ih = (zero, omega arith, is y x f)
    go false f g ih = contains_later y xs x (ih g)

pub contained_any : {X : Type 0} (p : X → Bool) (xs : List X) (x : X) → Contains xs x → p x ≡ true → list_any p xs ≡ true
contained_any p [] x c e = absurd (omega (arith, c.1))
contained_any p (y ∷ xs) x (zero, few, same) e = ap (λ b. b || list_any p xs) (ap p same ∙ e)
contained_any p (y ∷ xs) x (suc k, few, same) e = later (p y) (contained_any p xs x (k, omega (arith, few), same) e)
  where
    later : (b : Bool) → list_any p xs ≡ true → (b || list_any p xs) ≡ true
    later true f = refl
    later false f = f

-- ---- the one that passes a test
pub found_is : {X : Type 0} (p : X → Bool) (xs : List X) → IsOneThat p xs (find p xs)
found_is p [] = tt
found_is {X = X} p (x ∷ xs) = go (p x) refl (find p xs) (found_is p xs)
  where
    go : (b : Bool) → p x ≡ b → (o : Option X) → IsOneThat p xs o → IsOneThat p (x ∷ xs) (cond b (Some x) o)
    go true e o h = ((zero, omega arith, refl), e)
    go false e None h = (e, h)
    go false e (Some y) h = (contains_later x xs y h.0, h.1)

pub none_found : {X : Type 0} (p : X → Bool) (xs : List X) → AllByRecursion (λ x. p x ≡ false) xs → find p xs ≡ None
none_found p [] all = refl
none_found p (x ∷ xs) all = ap (λ b. cond b (Some x) (find p xs)) all.0 ∙ none_found p xs all.1

only_item : {X : Type 0} (o : Option X) (x : X) → Contains (option_to_list o) x → o ≡ Some x
only_item None x c = absurd (omega (arith, c.1))
only_item (Some y) x (zero, few, same) = ap Some same
only_item (Some y) x (suc k, few, same) = absurd (omega (arith, few))

pub one_is_found : {X : Type 0} (p : X → Bool) (xs : List X) (o : Option X) → filter p xs ≡ option_to_list (find p xs) → IsOneThat p xs o → find p xs ≡ o
one_is_found p xs None e h = none_found p xs h
one_is_found p xs (Some x) e h = only_item (find p xs) x (subst (λ l. Contains l x) e (contains_kept p xs x h.0 h.1))
