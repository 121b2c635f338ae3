-- Columns by their names: where they stand, and that the order of columns does not matter.
use Rattle.std.proofs.Common.{◌≡◌, ℕ, suc, ◌+◌, Bool, true, false, cond, ◌||◌, not, List, [], ◌∷◌, ◌++◌, Some, refl, sym, ap, ◌∙◌, subst, arith}
use Rattle.std.proofs.lemmas.Bool.{false≢true}
use Rattle.std.specs.Cmp.Lexicographic.{nat_list_eq_equiv}
use Rattle.std.specs.List.{AllByRecursion, filter, list_any}
use Rattle.std.specs.Option.{option_map_or}
use Rattle.vtl_lists.specs.Apart.{all_apart}
use Rattle.vtl_lists.proofs.Aparts.{apart_parts}
use Rattle.vtl_lists.proofs.Sorts.{AllByRecursion-filter}
use Rattle.vtl_lists.proofs.Alls.{all_append, all_back, all_from_filtered, all_front, all_with}
use Rattle.vtl_cell.specs.declared.kind.Kind.TheVariants as k
use Rattle.vtl_tree.specs.Structure.{IsStructure, columns_of, names_of, of_role, same_name, same_role}
use Rattle.vtl_tree.specs.declared.structure.Component.{Component}
use Rattle.vtl_tree.specs.declared.structure.Role.{Role}
use Rattle.vtl_tree.specs.declared.structure.Role.TheVariants as role
use Rattle.vtl_tree.specs.declared.structure.Structure.{Structure}
use Rattle.vtl_tree.specs.Names.{component_of, is_among}
use Rattle.vtl_tree.specs.Columns.{kind_named, place_of}
use Rattle.vtl_tree.proofs.NotNullLemmas.{same_itself}
use Rattle.vtl_meaning.specs.Made.{IsColumnAt}
use Rattle.vtl_meaning.proofs.Lists as lists
use Rattle.vtl_meaning.proofs.Places.{same_name-is, same_name-sym}

-- ---- names
pub among-any : (name : List ℕ) (names : List (List ℕ)) → is_among name names ≡ list_any (same_name name) names
among-any name [] = refl
among-any name (n ∷ names) = ap (λ b. b || is_among name names) (same_name-sym n name) ∙ ap (λ b. same_name name n || b) (among-any name names)

-- ---- a component by its name
-- this is the first component of its name
abbrev pub IsFound : List Component → Component → Type 0
IsFound xs y = component_of y.name xs ≡ Some y

pub name-found : (name : List ℕ) (xs : List Component) (y : Component) → component_of name xs ≡ Some y → y.name ≡ name
name-found name [] y e = cc
name-found name (x ∷ xs) y e = go (same_name x.name name) refl e (name-found name xs y)
  where
    go : (b : Bool) → same_name x.name name ≡ b → cond b (Some x) (component_of name xs) ≡ Some y → (component_of name xs ≡ Some y → y.name ≡ name) → y.name ≡ name
    go true h e ih = let s : x ≡ y = cc in ap (λ z. z.name) (sym s) ∙ same_name-is x.name name h
    go false h e ih = ih e

-- what holds of each holds of the one that is found
pub at-found : (P : Component → Type 0) (name : List ℕ) (xs : List Component) (y : Component) → AllByRecursion P xs → component_of name xs ≡ Some y → P y
at-found P name [] y all e = cc
at-found P name (x ∷ xs) y all e = go (same_name x.name name) e (at-found P name xs y all.1)
  where
    go : (b : Bool) → cond b (Some x) (component_of name xs) ≡ Some y → (component_of name xs ≡ Some y → P y) → P y
    go true e ih = let s : x ≡ y = cc in subst P s all.0
    go false e ih = ih e

-- it is found among those that a test keeps, if it passes
pub found-filter : (p : Component → Bool) (name : List ℕ) (xs : List Component) (y : Component) → component_of name xs ≡ Some y → p y ≡ true → component_of name (filter p xs) ≡ Some y
found-filter p name [] y e h = cc
found-filter p name (x ∷ xs) y e h = go (same_name x.name name) refl (p x) refl e (λ k. found-filter p name xs y k h)
  where
    go : (b : Bool) → same_name x.name name ≡ b → (c : Bool) → p x ≡ c → cond b (Some x) (component_of name xs) ≡ Some y → (component_of name xs ≡ Some y → component_of name (filter p xs) ≡ Some y) → component_of name (cond c (x ∷ filter p xs) (filter p xs)) ≡ Some y
    go true hb true hc e ih = ap (λ b. cond b (Some x) (component_of name (filter p xs))) hb ∙ e
    go true hb false hc e ih = let s : x ≡ y = cc in absurd (false≢true (sym hc ∙ ap p s ∙ h))
    go false hb true hc e ih = ap (λ b. cond b (Some x) (component_of name (filter p xs))) hb ∙ ih e
    go false hb false hc e ih = ih e

-- ---- where a column stands
pub at-place : (name : List ℕ) (xs : List Component) (y : Component) → component_of name xs ≡ Some y → IsColumnAt (place_of name xs) name y.kind xs
at-place name [] y e = cc
at-place name (x ∷ xs) y e = go (same_name x.name name) refl e (at-place name xs y)
  where
    go : (b : Bool) → same_name x.name name ≡ b → cond b (Some x) (component_of name xs) ≡ Some y → (component_of name xs ≡ Some y → IsColumnAt (place_of name xs) name y.kind xs) → IsColumnAt (cond (not b) (1 + place_of name xs) 0) name y.kind (x ∷ xs)
    go true h e ih = let s : x ≡ y = cc in (same_name-is x.name name h, ap (λ z. z.kind) s)
    go false h e ih = let n : suc (place_of name xs) ≡ 1 + place_of name xs = omega arith in subst (λ n. IsColumnAt n name y.kind (x ∷ xs)) n (ih e)

pub kind-found : (name : List ℕ) (xs : List Component) (y : Component) → component_of name xs ≡ Some y → kind_named name xs ≡ y.kind
kind-found name xs y e = ap (λ o. option_map_or (λ x. x.kind) o k.Null) e

-- ---- components with distinct names
-- no other component has its name
abbrev pub IsAlone : List Component → Component → Type 0
IsAlone xs y = AllByRecursion (λ x. same_name x.name y.name ≡ true → x ≡ y) xs

abbrev pub HasName : List Component → Component → Type 0
HasName xs y = list_any (λ x. same_name x.name y.name) xs ≡ true

alone-found : (xs : List Component) (y : Component) → IsAlone xs y → HasName xs y → IsFound xs y
alone-found [] y alone has = absurd (false≢true has)
alone-found (x ∷ xs) y alone has = go (same_name x.name y.name) refl has (alone-found xs y alone.1)
  where
    go : (b : Bool) → same_name x.name y.name ≡ b → (b || list_any (λ x. same_name x.name y.name) xs) ≡ true → (HasName xs y → IsFound xs y) → cond b (Some x) (component_of y.name xs) ≡ Some y
    go true h has ih = ap Some (alone.0 h)
    go false h has ih = ih has

-- a name stands among more
has-more : (x : Component) (xs : List Component) (y : Component) → HasName xs y → HasName (x ∷ xs) y
has-more x xs y h = go (same_name x.name y.name)
  where
    go : (b : Bool) → (b || list_any (λ x. same_name x.name y.name) xs) ≡ true
    go true = refl
    go false = h

pub has-itself : (xs : List Component) → AllByRecursion (HasName xs) xs
has-itself [] = tt
has-itself (x ∷ xs) = (ap (λ b. b || list_any (λ z. same_name z.name x.name) xs) (same_itself x.name), lists.weaker (HasName xs) (HasName (x ∷ xs)) xs (has-more x xs) (has-itself xs))

-- names that are apart
apart-from : (name : List ℕ) (xs : List Component) → AllByRecursion (λ n. same_name name n ≡ false) (names_of xs) → AllByRecursion (λ y. same_name name y.name ≡ false) xs
apart-from name xs h = lists.unmapped (λ n. same_name name n ≡ false) (λ x. x.name) xs h

pub all-alone : (xs : List Component) → all_apart same_name (names_of xs) ≡ true → AllByRecursion (IsAlone xs) xs
all-alone [] h = tt
all-alone (x ∷ xs) h = (first, lists.joined (λ y. same_name x.name y.name ≡ false) (IsAlone xs) (IsAlone (x ∷ xs)) xs (λ y no alone. ((λ yes. absurd (false≢true (sym no ∙ yes))), alone)) others (all-alone xs parts.1))
  where
    parts : AllByRecursion (λ n. same_name x.name n ≡ false) (names_of xs) × (all_apart same_name (names_of xs) ≡ true)
    parts = apart_parts same_name x.name (names_of xs) h

    others : AllByRecursion (λ y. same_name x.name y.name ≡ false) xs
    others = apart-from x.name xs parts.0

    first : IsAlone (x ∷ xs) x
    first = ((λ _. refl), lists.weaker (λ y. same_name x.name y.name ≡ false) (λ y. same_name y.name x.name ≡ true → y ≡ x) xs (λ y no yes. absurd (false≢true (sym no ∙ same_name-sym x.name y.name ∙ yes))) others)

-- ---- the columns of a structure
-- what holds of each component holds of each column, and back
pub of-columns : (P : Component → Type 0) (s : Structure) → AllByRecursion P s.components → AllByRecursion P (columns_of s)
of-columns P s h =
    all_append P (of_role role.Identifier s ++ of_role role.Measure s) (of_role role.Attribute s) (all_append P (of_role role.Identifier s) (of_role role.Measure s) (some role.Identifier) (some role.Measure)) (some role.Attribute)
  where
    some : (r : Role) → AllByRecursion P (of_role r s)
    some r = AllByRecursion-filter P (λ x. same_role x.role r) s.components h

role-cases : (r : Role) (P : Type 0) → (same_role r role.Identifier ≡ true → P) → (same_role r role.Measure ≡ true → P) → (same_role r role.Attribute ≡ true → P) → P
role-cases role.Identifier P f g h = f refl
role-cases role.Measure P f g h = g refl
role-cases role.Attribute P f g h = h refl

pub from-columns : (P : Component → Type 0) (s : Structure) → AllByRecursion P (columns_of s) → AllByRecursion P s.components
from-columns P s h =
    lists.joined If Two P s.components (λ x f g. role-cases x.role (P x) f g.0 g.1)
    (all_from_filtered P (λ x. same_role x.role role.Identifier) s.components (all_front P (of_role role.Identifier s) (of_role role.Measure s) before))
    (all_with (λ x. same_role x.role role.Measure ≡ true → P x) (λ x. same_role x.role role.Attribute ≡ true → P x) s.components
    (all_from_filtered P (λ x. same_role x.role role.Measure) s.components (all_back P (of_role role.Identifier s) (of_role role.Measure s) before))
    (all_from_filtered P (λ x. same_role x.role role.Attribute) s.components (all_back P (of_role role.Identifier s ++ of_role role.Measure s) (of_role role.Attribute s) h)))
  where
    If : Component → Type 0
    If x = same_role x.role role.Identifier ≡ true → P x

    Two : Component → Type 0
    Two x = (same_role x.role role.Measure ≡ true → P x) × (same_role x.role role.Attribute ≡ true → P x)

    before : AllByRecursion P (of_role role.Identifier s ++ of_role role.Measure s)
    before = all_front P (of_role role.Identifier s ++ of_role role.Measure s) (of_role role.Attribute s) h

-- each component is found among the columns
pub in-columns : (s : Structure) → IsStructure s → AllByRecursion (IsFound (columns_of s)) s.components
in-columns s is =
    lists.joined (λ y. IsAlone (columns_of s) y) (λ y. HasName (columns_of s) y) (IsFound (columns_of s)) s.components (alone-found (columns_of s))
    (lists.weaker (IsAlone s.components) (IsAlone (columns_of s)) s.components (λ y alone. of-columns (λ x. same_name x.name y.name ≡ true → x ≡ y) s alone) (all-alone s.components is.distinct))
    (from-columns (HasName (columns_of s)) s (has-itself (columns_of s)))

pub into-columns : (s : Structure) → IsStructure s → (name : List ℕ) (y : Component) → component_of name s.components ≡ Some y → component_of name (columns_of s) ≡ Some y
into-columns s is name y e =
    ap (λ n. component_of n (columns_of s)) (sym (name-found name s.components y e)) ∙ at-found (IsFound (columns_of s)) name s.components y (in-columns s is) e

pub all-found : (s : Structure) → IsStructure s → AllByRecursion (IsFound s.components) s.components
all-found s is = lists.joined (IsAlone s.components) (HasName s.components) (IsFound s.components) s.components (alone-found s.components) (all-alone s.components is.distinct) (has-itself s.components)
