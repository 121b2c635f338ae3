-- Named structures stay what they are as more are put, and as one of them gains a component.
use Rattle.std.proofs.Common.{◌≡◌, ℕ, zero, suc, ◌<◌, Bool, true, false, cond, ◌&&◌, ◌||◌, nat_le, List, [], ◌∷◌, ◌++◌, length, slice_get, Some, None, Result, Ok, Err, subst, refl, sym, ap, ◌∙◌, arith}
use Rattle.std.specs.Prelude.{OnOk, OnErr}
use Rattle.std.specs.List.{list_all}
use Rattle.std.specs.Map.{keys_of, lookup, set_value}
use Rattle.std.specs.Option.{option_map_or}
use Rattle.std.proofs.lemmas.Bool.{and_parts, and_from}
use Rattle.std.proofs.lemmas.Bool.Decides.{nat_tests}
use Rattle.std.proofs.lemmas.Map.Steps.{set_value_same}
use Rattle.vtl_lists.specs.Apart.{all_apart}
use Rattle.vtl_tree.specs.declared.structure.Component.{Component}
use Rattle.vtl_tree.specs.declared.structure.Structure.{Structure}
use Rattle.vtl_text.proofs.Apart.{apart_push}
use Rattle.vtl_text.proofs.NamedItems.{set_twice}
use Rattle.vtl_tree.specs.Structure.{names_of, same_name, most_components}
use Rattle.vtl_tree.specs.Structures.{AreStructures, Named, are_declarable, components_of, Fits, has_name, is_declarable, is_declarable_component, is_declarable_entry, structure_of, with_component}

-- a test that all pass is passed by each
pub all_at : {X : Type 0} (p : X → Bool) (xs : List X) (i : ℕ) (x : X) → list_all p xs ≡ true → slice_get xs i ≡ Some x → p x ≡ true
all_at p [] i x h e = cc
all_at p (y ∷ ys) zero x h e = let s : y ≡ x = cc in ap p (sym s) ∙ (and_parts (p y) (list_all p ys) h).0
all_at p (y ∷ ys) (suc i) x h e = all_at p ys i x (and_parts (p y) (list_all p ys) h).1 e

pub all_found : (test : List ℕ → Bool) (xs : Named) (s : Structure) → list_all is_declarable_entry xs ≡ true → lookup test xs ≡ Some s → is_declarable s ≡ true
all_found test [] s h e = cc
all_found test (x ∷ xs) s h e = go (test x.0) (all_found test xs s parts.1) e
  where
    parts : (is_declarable x.1 ≡ true) × (list_all is_declarable_entry xs ≡ true)
    parts = and_parts (is_declarable x.1) (list_all is_declarable_entry xs) h

    go : (b : Bool) → (lookup test xs ≡ Some s → is_declarable s ≡ true) → cond b (Some x.1) (lookup test xs) ≡ Some s → is_declarable s ≡ true
    go true ih q = let same : x.1 ≡ s = cc in ap is_declarable (sym same) ∙ parts.0
    go false ih q = ih q

pub all_push : {X : Type 0} (p : X → Bool) (xs : List X) (x : X) → list_all p xs ≡ true → p x ≡ true → list_all p (xs ++ x ∷ []) ≡ true
all_push p [] x h e = and_from (p x) true e refl
all_push p (y ∷ ys) x h e =
    let parts = and_parts (p y) (list_all p ys) h in
    and_from (p y) (list_all p (ys ++ x ∷ [])) parts.0 (all_push p ys x parts.1 e)

pub keys_push : {T : Type 0} (xs : List (List ℕ × T)) (name : List ℕ) (s : T) → keys_of (xs ++ (name, s) ∷ []) ≡ keys_of xs ++ name ∷ []
keys_push [] name s = refl
keys_push (x ∷ xs) name s = ap (λ ks. x.0 ∷ ks) (keys_push xs name s)

-- structures stay so with one more of a new name
pub put_are : (xs : Named) (name : List ℕ) (s : Structure) → AreStructures xs → has_name name xs ≡ false → is_declarable s ≡ true → AreStructures (xs ++ (name, s) ∷ [])
put_are xs name s h e d = record {
  declarable = all_push is_declarable_entry xs (name, s) h.declarable d;
  distinct = ap (all_apart same_name) (keys_push xs name s) ∙ apart_push (keys_of xs) name h.distinct e;
}

-- a name that is not there has no structure
pub not_found : (xs : Named) (name : List ℕ) → has_name name xs ≡ false → lookup (same_name name) xs ≡ None
not_found [] name e = refl
not_found (x ∷ xs) name e = go (same_name name x.0) (not_found xs name) e
  where
    go : (b : Bool) → (has_name name xs ≡ false → lookup (same_name name) xs ≡ None) → (b || has_name name xs) ≡ false → cond b (Some x.1) (lookup (same_name name) xs) ≡ None
    go true ih q = cc
    go false ih q = ih q

-- one more component begins a data set, or is the last of the one that is there
pub begins_data_set : (xs : Named) (name : List ℕ) (x : Component) → has_name name xs ≡ false → with_component name x xs ≡ xs ++ (name, structure_of (x ∷ [])) ∷ []
begins_data_set [] name x e = refl
begins_data_set (y ∷ ys) name x e = go (same_name name y.0) (begins_data_set ys name x) e
  where
    go : (b : Bool) → (has_name name ys ≡ false → with_component name x ys ≡ ys ++ (name, structure_of (x ∷ [])) ∷ []) → (b || has_name name ys) ≡ false → cond b ((y.0, structure_of (y.1.components ++ x ∷ [])) ∷ ys) (y ∷ with_component name x ys) ≡ y ∷ (ys ++ (name, structure_of (x ∷ [])) ∷ [])
    go true ih q = cc
    go false ih q = ap (λ l. y ∷ l) (ih q)

pub goes_on : (xs : Named) (name : List ℕ) (x : Component) (s : Structure) → lookup (same_name name) xs ≡ Some s → set_value (same_name name) xs (structure_of (s.components ++ x ∷ [])) ≡ with_component name x xs
goes_on [] name x s e = cc
goes_on (y ∷ ys) name x s e = go (same_name name y.0) (goes_on ys name x s) e
  where
    go : (b : Bool) → (lookup (same_name name) ys ≡ Some s → set_value (same_name name) ys (structure_of (s.components ++ x ∷ [])) ≡ with_component name x ys)
        → cond b (Some y.1) (lookup (same_name name) ys) ≡ Some s
        → cond b ((y.0, structure_of (s.components ++ x ∷ [])) ∷ ys) (y ∷ set_value (same_name name) ys (structure_of (s.components ++ x ∷ [])))
        ≡ cond b ((y.0, structure_of (y.1.components ++ x ∷ [])) ∷ ys) (y ∷ with_component name x ys)
    go true ih q = let same : y.1 ≡ s = cc in ap (λ t. (y.0, structure_of (t.components ++ x ∷ [])) ∷ ys) (sym same)
    go false ih q = ap (λ l. y ∷ l) (ih q)

-- a name without a structure is not there
pub not_there : (xs : Named) (name : List ℕ) → lookup (same_name name) xs ≡ None → has_name name xs ≡ false
not_there [] name e = refl
not_there (x ∷ xs) name e = go (same_name name x.0) (not_there xs name) e
  where
    go : (b : Bool) → (lookup (same_name name) xs ≡ None → has_name name xs ≡ false) → cond b (Some x.1) (lookup (same_name name) xs) ≡ None → (b || has_name name xs) ≡ false
    go true ih q = cc
    go false ih q = ih q

names_push : (xs : List Component) (x : Component) → names_of (xs ++ x ∷ []) ≡ names_of xs ++ x.name ∷ []
names_push [] x = refl
names_push (y ∷ ys) x = ap (λ ks. y.name ∷ ks) (names_push ys x)

length_push : {X : Type 0} (xs : List X) (x : X) → length (xs ++ x ∷ []) ≡ suc (length xs)
length_push [] x = refl
length_push (y ∷ ys) x = ap suc (length_push ys x)

pub one_is_declarable : (x : Component) → is_declarable_component x ≡ true → is_declarable (structure_of (x ∷ [])) ≡ true
one_is_declarable x e = and_from (is_declarable_component x) true e refl

pub more_is_declarable : (xs : List Component) (x : Component) → are_declarable xs ≡ true → Fits x xs → are_declarable (xs ++ x ∷ []) ≡ true
more_is_declarable xs x h f =
    let parts = and_parts (nat_le 1 (length xs) && nat_le (length xs) most_components && all_apart same_name (names_of xs)) (list_all is_declarable_component xs) h in
    let front = and_parts (nat_le 1 (length xs) && nat_le (length xs) most_components) (all_apart same_name (names_of xs)) parts.0 in
    let few : (nat_le 1 (length (xs ++ x ∷ [])) && nat_le (length (xs ++ x ∷ [])) most_components) ≡ true = and_from (nat_le 1 (length (xs ++ x ∷ []))) (nat_le (length (xs ++ x ∷ [])) most_components) (ap (nat_le 1) (length_push xs x) ∙ some (length xs)) (ap (λ n. nat_le n most_components) (length_push xs x) ∙ below (length xs) f.2) in
    and_from (nat_le 1 (length (xs ++ x ∷ [])) && nat_le (length (xs ++ x ∷ [])) most_components && all_apart same_name (names_of (xs ++ x ∷ []))) (list_all is_declarable_component (xs ++ x ∷ []))
    (and_from (nat_le 1 (length (xs ++ x ∷ [])) && nat_le (length (xs ++ x ∷ [])) most_components) (all_apart same_name (names_of (xs ++ x ∷ []))) few
    (ap (all_apart same_name) (names_push xs x) ∙ apart_push (names_of xs) x.name front.1 f.1))
    (all_push is_declarable_component xs x parts.1 f.0)
  where
    some : (n : ℕ) → nat_le 1 (suc n) ≡ true
    some n = grind (arith, nat_tests)

    below : (n : ℕ) → n < most_components → nat_le (suc n) most_components ≡ true
    below n l = grind (arith, nat_tests)

keys_kept : (xs : Named) (name : List ℕ) (x : Component) → has_name name xs ≡ true → keys_of (with_component name x xs) ≡ keys_of xs
keys_kept [] name x e = cc
keys_kept (y ∷ ys) name x e = go (same_name name y.0) (keys_kept ys name x) e
  where
    go : (b : Bool) → (has_name name ys ≡ true → keys_of (with_component name x ys) ≡ keys_of ys) → (b || has_name name ys) ≡ true → keys_of (cond b ((y.0, structure_of (y.1.components ++ x ∷ [])) ∷ ys) (y ∷ with_component name x ys)) ≡ y.0 ∷ keys_of ys
    go true ih q = refl
    go false ih q = ap (λ ks. y.0 ∷ ks) (ih q)

all_kept : (xs : Named) (name : List ℕ) (x : Component) → list_all is_declarable_entry xs ≡ true → Fits x (components_of name xs) → list_all is_declarable_entry (with_component name x xs) ≡ true
all_kept [] name x h f = and_from (is_declarable (structure_of (x ∷ []))) true (one_is_declarable x f.0) refl
all_kept (y ∷ ys) name x h f = go (same_name name y.0) (all_kept ys name x parts.1) f
  where
    parts : (is_declarable y.1 ≡ true) × (list_all is_declarable_entry ys ≡ true)
    parts = and_parts (is_declarable y.1) (list_all is_declarable_entry ys) h

    go : (b : Bool) → (Fits x (components_of name ys) → list_all is_declarable_entry (with_component name x ys) ≡ true) → Fits x (option_map_or (λ s. s.components) (cond b (Some y.1) (lookup (same_name name) ys)) [])
        → list_all is_declarable_entry (cond b ((y.0, structure_of (y.1.components ++ x ∷ [])) ∷ ys) (y ∷ with_component name x ys)) ≡ true
    go true ih q = and_from (are_declarable (y.1.components ++ x ∷ [])) (list_all is_declarable_entry ys) (more_is_declarable y.1.components x parts.0 q) parts.1
    go false ih q = and_from (is_declarable y.1) (list_all is_declarable_entry (with_component name x ys)) parts.0 (ih q)

-- structures stay so with one more component that fits its data set
pub add_are : (xs : Named) (name : List ℕ) (x : Component) → AreStructures xs → Fits x (components_of name xs) → AreStructures (with_component name x xs)
add_are xs name x h f = record {
  declarable = all_kept xs name x h.declarable f;
  distinct = go (has_name name xs) refl;
}
  where
    go : (b : Bool) → has_name name xs ≡ b → all_apart same_name (keys_of (with_component name x xs)) ≡ true
    go true e = ap (all_apart same_name) (keys_kept xs name x e) ∙ h.distinct
    go false e = ap (λ l. all_apart same_name (keys_of l)) (begins_data_set xs name x e) ∙ ap (all_apart same_name) (keys_push xs name (structure_of (x ∷ []))) ∙ apart_push (keys_of xs) name h.distinct e

-- what a new data set of one component leaves
pub began : {A E : Type 0} (xs old new : Named) (name : List ℕ) (x : Component) (s : Structure) (r : Result A E) → old ≡ xs → lookup (same_name name) xs ≡ None
    → s ≡ structure_of (x ∷ []) → OnOk r (new ≡ old ++ (name, s) ∷ []) → OnOk r (new ≡ with_component name x xs)
began xs old new name x s (Ok a) same none e q = q ∙ ap (λ l. l ++ (name, s) ∷ []) same ∙ ap (λ t. xs ++ (name, t) ∷ []) e ∙ sym (begins_data_set xs name x (not_there xs name none))
began xs old new name x s (Err a) same none e q = tt

pub kept_same : {X T E : Type 0} (xs old new : X) (r : Result T E) → old ≡ xs → OnErr r (new ≡ old) → OnErr r (new ≡ xs)
kept_same xs old new (Ok x) same e = tt
kept_same xs old new (Err e) same k = k ∙ same

pub stays_same : {X T E : Type 0} (xs old new : X) (r : Result T E) → old ≡ xs → OnOk r (new ≡ old) → OnOk r (new ≡ xs)
stays_same xs old new (Ok x) same k = k ∙ same
stays_same xs old new (Err e) same k = tt
