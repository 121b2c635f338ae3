-- What functions on lists make of related lists is related.
use Rattle.lineage_laws.specs.Agree.{Both, Together, and, both, neither, none}
use Rattle.std.proofs.Common.{◌≡◌, suc, Bool, true, false, not, cond, ◌&&◌, ◌||◌, List, [], ◌∷◌, ◌++◌, length, map, Option, Some, refl, sym, ap, ◌∙◌}
use Rattle.std.proofs.lemmas.List.Sums.{length-filter}
use Rattle.std.specs.List.{AllByRecursion, filter, find, flat_map, list_all, list_any}
use Rattle.std.specs.Option.{option_map_or, option_to_list}
use Rattle.std.specs.Prelude.{count_by, is_some, option_map}
use Rattle.vtl_tuples.specs.Keys.{each_once}

module _ {X Y : Type 0} (R : X → Y → Type 0) where
  pub together_append : (xs : List X) (ys : List Y) (us : List X) (vs : List Y) → Together R xs ys → Together R us vs → Together R (xs ++ us) (ys ++ vs)
  together_append _ _ us vs none t = t
  together_append _ _ us vs (and {xs = xs} {ys = ys} h s) t = and h (together_append xs ys us vs s t)

  keep_both : (x : X) (y : Y) (us : List X) (vs : List Y) (b c : Bool) → b ≡ c → R x y → Together R us vs → Together R (cond b (x ∷ us) us) (cond c (y ∷ vs) vs)
  keep_both x y us vs true true e h t = and h t
  keep_both x y us vs false false e h t = t
  keep_both x y us vs true false e h t = cc
  keep_both x y us vs false true e h t = cc

  pub together_filter : (p : X → Bool) (q : Y → Bool) → ((x : X) (y : Y) → R x y → p x ≡ q y) → (xs : List X) (ys : List Y) → Together R xs ys → Together R (filter p xs) (filter q ys)
  together_filter p q e _ _ none = none
  together_filter p q e _ _ (and {x = x} {y = y} {xs = xs} {ys = ys} h t) = keep_both x y (filter p xs) (filter q ys) (p x) (q y) (e x y h) h (together_filter p q e xs ys t)

  pub together_once : (p : X → X → Bool) (q : Y → Y → Bool) → ((x : X) (y : Y) (u : X) (v : Y) → R x y → R u v → p x u ≡ q y v) → (xs : List X) (ys : List Y) → Together R xs ys → Together R (each_once p xs) (each_once q ys)
  together_once p q e _ _ none = none
  together_once p q e _ _ (and {x = x} {y = y} {xs = xs} {ys = ys} h t) = and h (together_filter (λ u. not (p x u)) (λ v. not (q y v)) (λ u v k. ap not (e x y u v h k)) (each_once p xs) (each_once q ys) (together_once p q e xs ys t))

  pub found_both : (x : X) (y : Y) (o : Option X) (u : Option Y) (b c : Bool) → b ≡ c → R x y → Both R o u → Both R (cond b (Some x) o) (cond c (Some y) u)
  found_both x y o u true true e h t = both h
  found_both x y o u false false e h t = t
  found_both x y o u true false e h t = cc
  found_both x y o u false true e h t = cc

  pub together_find : (p : X → Bool) (q : Y → Bool) → ((x : X) (y : Y) → R x y → p x ≡ q y) → (xs : List X) (ys : List Y) → Together R xs ys → Both R (find p xs) (find q ys)
  together_find p q e _ _ none = neither
  together_find p q e _ _ (and {x = x} {y = y} {xs = xs} {ys = ys} h t) = found_both x y (find p xs) (find q ys) (p x) (q y) (e x y h) h (together_find p q e xs ys t)

  pub together_length : (xs : List X) (ys : List Y) → Together R xs ys → length xs ≡ length ys
  together_length _ _ none = refl
  together_length _ _ (and {xs = xs} {ys = ys} h t) = ap suc (together_length xs ys t)

  pub together_all : (p : X → Bool) (q : Y → Bool) → ((x : X) (y : Y) → R x y → p x ≡ q y) → (xs : List X) (ys : List Y) → Together R xs ys → list_all p xs ≡ list_all q ys
  together_all p q e _ _ none = refl
  together_all p q e _ _ (and {x = x} {y = y} {xs = xs} {ys = ys} h t) = λ i. e x y h i && together_all p q e xs ys t i

  pub together_any : (p : X → Bool) (q : Y → Bool) → ((x : X) (y : Y) → R x y → p x ≡ q y) → (xs : List X) (ys : List Y) → Together R xs ys → list_any p xs ≡ list_any q ys
  together_any p q e _ _ none = refl
  together_any p q e _ _ (and {x = x} {y = y} {xs = xs} {ys = ys} h t) = λ i. e x y h i || together_any p q e xs ys t i

  pub both_some : (o : Option X) (u : Option Y) → Both R o u → is_some o ≡ is_some u
  both_some _ _ neither = refl
  both_some _ _ (both h) = refl

  pub both_list : (o : Option X) (u : Option Y) → Both R o u → Together R (option_to_list o) (option_to_list u)
  both_list _ _ neither = none
  both_list _ _ (both h) = and h none

module _ {X Y A B : Type 0} (R : X → Y → Type 0) (Q : A → B → Type 0) where
  pub together_map : (f : X → A) (g : Y → B) → ((x : X) (y : Y) → R x y → Q (f x) (g y)) → (xs : List X) (ys : List Y) → Together R xs ys → Together Q (map f xs) (map g ys)
  together_map f g h _ _ none = none
  together_map f g h _ _ (and {x = x} {y = y} {xs = xs} {ys = ys} r t) = and (h x y r) (together_map f g h xs ys t)

  pub together_flat : (f : X → List A) (g : Y → List B) → ((x : X) (y : Y) → R x y → Together Q (f x) (g y)) → (xs : List X) (ys : List Y) → Together R xs ys → Together Q (flat_map f xs) (flat_map g ys)
  together_flat f g h _ _ none = none
  together_flat f g h _ _ (and {x = x} {y = y} {xs = xs} {ys = ys} r t) = together_append Q (f x) (g y) (flat_map f xs) (flat_map g ys) (h x y r) (together_flat f g h xs ys t)

  pub both_map : (f : X → A) (g : Y → B) → ((x : X) (y : Y) → R x y → Q (f x) (g y)) → (o : Option X) (u : Option Y) → Both R o u → Both Q (option_map f o) (option_map g u)
  both_map f g h _ _ neither = neither
  both_map f g h _ _ (both {x = x} {y = y} r) = both (h x y r)

module _ {X Y A : Type 0} (R : X → Y → Type 0) where
  -- the values are the same where those of related items are
  pub same_map : (f : X → A) (g : Y → A) → ((x : X) (y : Y) → R x y → f x ≡ g y) → (xs : List X) (ys : List Y) → Together R xs ys → map f xs ≡ map g ys
  same_map f g h _ _ none = refl
  same_map f g h _ _ (and {x = x} {y = y} {xs = xs} {ys = ys} r t) = λ i. h x y r i ∷ same_map f g h xs ys t i

  pub same_flat : (f : X → List A) (g : Y → List A) → ((x : X) (y : Y) → R x y → f x ≡ g y) → (xs : List X) (ys : List Y) → Together R xs ys → flat_map f xs ≡ flat_map g ys
  same_flat f g h _ _ none = refl
  same_flat f g h _ _ (and {x = x} {y = y} {xs = xs} {ys = ys} r t) = λ i. h x y r i ++ same_flat f g h xs ys t i

-- each item with itself
pub together_self : {X A B : Type 0} (Q : A → B → Type 0) (f : X → A) (g : X → B) → ((x : X) → Q (f x) (g x)) → (xs : List X) → Together Q (map f xs) (map g xs)
together_self Q f g h [] = none
together_self Q f g h (x ∷ xs) = and (h x) (together_self Q f g h xs)

pub together_more : {X Y : Type 0} (R Q : X → Y → Type 0) → ((x : X) (y : Y) → R x y → Q x y) → (xs : List X) (ys : List Y) → Together R xs ys → Together Q xs ys
together_more R Q h _ _ none = none
together_more R Q h _ _ (and {x = x} {y = y} {xs = xs} {ys = ys} r t) = and (h x y r) (together_more R Q h xs ys t)

-- what holds of each item of both lists is told too
pub together_with : {X Y : Type 0} (R : X → Y → Type 0) (P : X → Type 0) (Q : Y → Type 0) (xs : List X) (ys : List Y) → Together R xs ys → AllByRecursion P xs → AllByRecursion Q ys → Together (λ x y. R x y × P x × Q y) xs ys
together_with R P Q _ _ none h k = none
together_with R P Q _ _ (and {x = x} {y = y} {xs = xs} {ys = ys} r t) h k = and (r, h.0, k.0) (together_with R P Q xs ys t h.1 k.1)

pub both_value : {X Y A : Type 0} (R : X → Y → Type 0) (f : X → A) (g : Y → A) (c : A) → ((x : X) (y : Y) → R x y → f x ≡ g y) → (o : Option X) (u : Option Y) → Both R o u → option_map_or f o c ≡ option_map_or g u c
both_value R f g c h _ _ neither = refl
both_value R f g c h _ _ (both {x = x} {y = y} r) = h x y r

pub together_and : {X Y : Type 0} (R Q : X → Y → Type 0) (xs : List X) (ys : List Y) → Together R xs ys → Together Q xs ys → Together (λ x y. R x y × Q x y) xs ys
together_and R Q _ _ none k = none
together_and R Q _ _ (and {x = x} {y = y} {xs = xs} {ys = ys} r t) (and q k) = and (r, q) (together_and R Q xs ys t k)

pub together_left : {X Y : Type 0} (R : X → Y → Type 0) (P : X → Type 0) (Q : Y → Type 0) (S : X → Y → Type 0) → ((x : X) (y : Y) → R x y → P x → Q y → S x y) → (xs : List X) (ys : List Y) → Together R xs ys → AllByRecursion P xs → AllByRecursion Q ys → Together S xs ys
together_left R P Q S f _ _ none h k = none
together_left R P Q S f _ _ (and {x = x} {y = y} {xs = xs} {ys = ys} r t) h k = and (f x y r h.0 k.0) (together_left R P Q S f xs ys t h.1 k.1)

pub same_count : {X Y : Type 0} (R : X → Y → Type 0) (p : X → Bool) (q : Y → Bool) → ((x : X) (y : Y) → R x y → p x ≡ q y) → (xs : List X) (ys : List Y) → Together R xs ys → count_by p xs ≡ count_by q ys
same_count R p q e xs ys t = sym (length-filter p xs) ∙ together_length R (filter p xs) (filter q ys) (together_filter R p q e xs ys t) ∙ length-filter q ys
