-- Where columns stand, and the cells of a point at their places.
use Rattle.std.proofs.Common.{◌≡◌, ℕ, zero, suc, ◌+◌, ◌≤◌, Bool, true, false, not, ◌&&◌, ◌||◌, List, [], ◌∷◌, ◌++◌, length, map, take, refl, sym, ap, ◌∙◌, subst, arith, append_assoc, length-append}
use Rattle.std.specs.List.{AllByRecursion, filter, list_any}
use Rattle.std.proofs.lemmas.Bool.{and_parts}
use Rattle.std.proofs.lemmas.Cmp.{nat_list_eq_equiv}
use Rattle.std.proofs.lemmas.List.{length-map}
use Rattle.std.proofs.lemmas.Slice.Eq.{bytes_eq-Decides}
use Rattle.std.proofs.Math.Seq.{take-append_seam}
use Rattle.vtl_lists.specs.Apart.{all_apart}
use Rattle.vtl_lists.proofs.Aparts.{all_apart-filter, apart_parts}
use Rattle.vtl_lists.proofs.Alls.{all_append, all_each, all_filtered, all_more}
use Rattle.vtl_cell.specs.Kinds.{is_null, is_of}
use Rattle.vtl_cell.specs.Row.{Row, column_of}
use Rattle.vtl_cell.specs.declared.cell.Cell.{Cell}
use Rattle.vtl_rows.specs.Tables.{cells_at, fits_kinds}
use Rattle.vtl_tree.specs.DataSet.{is_point}
use Rattle.vtl_tree.specs.Structure.{IsStructure, columns_of, key_width, names_of, of_role, same_name, same_role}
use Rattle.vtl_tree.specs.declared.structure.Component.{Component}
use Rattle.vtl_tree.specs.declared.structure.Role.{Role}
use Rattle.vtl_tree.specs.declared.structure.Role.TheVariants as role
use Rattle.vtl_tree.specs.declared.structure.Structure.{Structure}
use Rattle.vtl_tree.specs.Columns.{identifiers_of, measures_of, others_of, place_of, places_in}
use Rattle.vtl_tree.proofs.NotNullLemmas.{same_itself}
use Rattle.vtl_meaning.specs.Made.{AreAmong, HasIdentifiers}
use Rattle.vtl_meaning.proofs.ValueKinds.{IsOf, cell_is_of, point_from, point_parts}

-- ---- lists
-- what holds of all_each value of a function holds of all_each item, and back
pub all_of_map : {X Y : Type 0} (f : X → Y) (P : Y → Type 0) (xs : List X) → AllByRecursion P (map f xs) → AllByRecursion (λ x. P (f x)) xs
all_of_map f P [] all = tt
all_of_map f P (x ∷ xs) all = (all.0, all_of_map f P xs all.1)

-- ---- names
pub same_name-is : (a b : List ℕ) → same_name a b ≡ true → a ≡ b
same_name-is a b e = (bytes_eq-Decides a b).0 e

pub same_name-sym : (a b : List ℕ) → same_name a b ≡ same_name b a
same_name-sym a b = nat_list_eq_equiv.symm a b

abbrev namesakes : Component → Component → Bool
namesakes x y = same_name x.name y.name

-- ---- places
pub place_here : (name : List ℕ) (x : Component) (xs : List Component) → same_name x.name name ≡ true → place_of name (x ∷ xs) ≡ zero
place_here name x xs e = rw e refl

pub place_later : (name : List ℕ) (x : Component) (xs : List Component) → same_name x.name name ≡ false → place_of name (x ∷ xs) ≡ suc (place_of name xs)
place_later name x xs e = rw e (omega arith)

pub places_by_names : (xs ys : List Component) → places_in xs ys ≡ map (λ n. place_of n xs) (names_of ys)
places_by_names xs [] = refl
places_by_names xs (y ∷ ys) = ap (λ l. place_of y.name xs ∷ l) (places_by_names xs ys)

pub places_of_namesakes : (xs ys zs : List Component) → names_of ys ≡ names_of zs → places_in xs ys ≡ places_in xs zs
places_of_namesakes xs ys zs e = places_by_names xs ys ∙ ap (map (λ n. place_of n xs)) e ∙ sym (places_by_names xs zs)

-- a column before all of these changes nothing
pub cells_behind : (x : Component) (xs : List Component) (v : Cell) (r : Row) (ys : List Component) → AllByRecursion (λ n. same_name x.name n ≡ false) (names_of ys) → cells_at (places_in (x ∷ xs) ys) (v ∷ r) ≡ cells_at (places_in xs ys) r
cells_behind x xs v r [] all = refl
cells_behind x xs v r (y ∷ ys) all =
    ap (λ i. column_of i (v ∷ r) ∷ cells_at (places_in (x ∷ xs) ys) (v ∷ r)) (place_later y.name x xs all.0)
    ∙ ap (λ l. column_of (place_of y.name xs) r ∷ l) (cells_behind x xs v r ys all.1)

-- the cells at the first columns are the first cells
pub first_cells : (xs more : List Component) (r : Row) → all_apart same_name (names_of xs) ≡ true → length xs ≤ length r → cells_at (places_in (xs ++ more) xs) r ≡ take (length xs) r
first_cells [] more r apart h = refl
first_cells (x ∷ xs) more [] apart h = absurd (omega arith)
first_cells (x ∷ xs) more (v ∷ r) apart h =
    let parts = apart_parts same_name x.name (names_of xs) apart in
    let few : length xs ≤ length r = omega arith in
    ap (λ i. column_of i (v ∷ r) ∷ cells_at (places_in (x ∷ xs ++ more) xs) (v ∷ r)) (place_here x.name x (xs ++ more) (same_itself x.name))
    ∙ ap (λ l. v ∷ l) (cells_behind x (xs ++ more) v r xs parts.0 ∙ first_cells xs more r parts.1 few)

-- ---- points of lists of columns
pub point_append : (xs ys : List Component) (r q : Row) → is_point xs r ≡ true → is_point ys q ≡ true → is_point (xs ++ ys) (r ++ q) ≡ true
point_append [] ys [] q h i = i
point_append [] ys (v ∷ r) q h i = cc
point_append (x ∷ xs) ys [] q h i = cc
point_append (x ∷ xs) ys (v ∷ r) q h i =
    let parts = point_parts x xs v r h in
    point_from x (xs ++ ys) v (r ++ q) parts.0 parts.1 (point_append xs ys r q parts.2 i)

pub point_front : (xs ys : List Component) (r : Row) → is_point (xs ++ ys) r ≡ true → is_point xs (take (length xs) r) ≡ true
point_front [] ys r h = refl
point_front (x ∷ xs) ys [] h = cc
point_front (x ∷ xs) ys (v ∷ r) h =
    let parts = point_parts x (xs ++ ys) v r h in
    point_from x xs v (take (length xs) r) parts.0 parts.1 (point_front xs ys r parts.2)

pub point_length : (xs : List Component) (r : Row) → is_point xs r ≡ true → length r ≡ length xs
point_length [] [] h = refl
point_length [] (v ∷ r) h = cc
point_length (x ∷ xs) [] h = cc
point_length (x ∷ xs) (v ∷ r) h = ap suc (point_length xs r (point_parts x xs v r h).2)

-- a point depends on kinds and roles alone
pub point_of_same : (xs ys : List Component) (r : Row) → map (λ x. x.kind) xs ≡ map (λ x. x.kind) ys → map (λ x. x.role) xs ≡ map (λ x. x.role) ys → is_point xs r ≡ true → is_point ys r ≡ true
point_of_same [] [] r e g h = h
point_of_same [] (y ∷ ys) r e g h = cc
point_of_same (x ∷ xs) [] r e g h = cc
point_of_same (x ∷ xs) (y ∷ ys) [] e g h = cc
point_of_same (x ∷ xs) (y ∷ ys) (v ∷ r) e g h =
    let parts = point_parts x xs v r h in
    let kinds : x.kind ≡ y.kind = cc in
    let roles : x.role ≡ y.role = cc in
    let more_kinds : map (λ z. z.kind) xs ≡ map (λ z. z.kind) ys = cc in
    let more_roles : map (λ z. z.role) xs ≡ map (λ z. z.role) ys = cc in
    point_from y ys v r (subst (λ z. IsOf z v) kinds parts.0) (subst (λ z. not (same_role z role.Identifier && is_null v) ≡ true) roles parts.1)
    (point_of_same xs ys r more_kinds more_roles parts.2)

-- ---- roles
abbrev pub IsIdentifier : Component → Type 0
IsIdentifier x = same_role x.role role.Identifier ≡ true

abbrev pub IsOther : Component → Type 0
IsOther x = same_role x.role role.Identifier ≡ false

pub identifier_role : (r : Role) → same_role r role.Identifier ≡ true → r ≡ role.Identifier
identifier_role role.Identifier h = refl
identifier_role role.Measure h = cc
identifier_role role.Attribute h = cc

pub measure_role : (r : Role) → same_role r role.Measure ≡ true → same_role r role.Identifier ≡ false
measure_role role.Identifier h = cc
measure_role role.Measure h = refl
measure_role role.Attribute h = refl

pub attribute_role : (r : Role) → same_role r role.Attribute ≡ true → same_role r role.Identifier ≡ false
attribute_role role.Identifier h = cc
attribute_role role.Measure h = refl
attribute_role role.Attribute h = refl

pub are_identifiers : (s : Structure) → AllByRecursion IsIdentifier (identifiers_of s)
are_identifiers s = all_filtered (λ x. same_role x.role role.Identifier) s.components

pub are_measures : (s : Structure) → AllByRecursion IsOther (measures_of s)
are_measures s = all_more (λ x. same_role x.role role.Measure ≡ true) IsOther (λ x. measure_role x.role) (measures_of s) (all_filtered (λ x. same_role x.role role.Measure) s.components)

pub columns_split : (s : Structure) → columns_of s ≡ identifiers_of s ++ others_of s
columns_split s = append_assoc (of_role role.Identifier s) (of_role role.Measure s) (of_role role.Attribute s)

pub are_others : (s : Structure) → AllByRecursion IsOther (others_of s)
are_others s =
    all_append IsOther (measures_of s) (of_role role.Attribute s) (are_measures s)
    (all_more (λ x. same_role x.role role.Attribute ≡ true) IsOther (λ x. attribute_role x.role) (of_role role.Attribute s) (all_filtered (λ x. same_role x.role role.Attribute) s.components))

-- columns that are no identifiers want kinds alone
pub point_of_others : (xs : List Component) (r : Row) → AllByRecursion IsOther xs → fits_kinds (map (λ x. x.kind) xs) r ≡ true → is_point xs r ≡ true
point_of_others [] [] all h = refl
point_of_others [] (v ∷ r) all h = cc
point_of_others (x ∷ xs) [] all h = cc
point_of_others (x ∷ xs) (v ∷ r) all h =
    let parts = and_parts (is_of x.kind v) (fits_kinds (map (λ y. y.kind) xs) r) h in
    point_from x xs v r parts.0 (ap (λ b. not (b && is_null v)) all.0) (point_of_others xs r all.1 parts.1)

-- identifiers of the same kinds
pub point_of_identifiers : (xs ys : List Component) (r : Row) → AllByRecursion IsIdentifier xs → AllByRecursion IsIdentifier ys → map (λ x. x.kind) xs ≡ map (λ x. x.kind) ys → is_point xs r ≡ true → is_point ys r ≡ true
point_of_identifiers xs ys r a b e h = point_of_same xs ys r e (roles xs ys a b e) h
  where
    roles : (us vs : List Component) → AllByRecursion IsIdentifier us → AllByRecursion IsIdentifier vs → map (λ x. x.kind) us ≡ map (λ x. x.kind) vs → map (λ x. x.role) us ≡ map (λ x. x.role) vs
    roles [] [] f g q = refl
    roles [] (v ∷ vs) f g q = cc
    roles (u ∷ us) [] f g q = cc
    roles (u ∷ us) (v ∷ vs) f g q =
        let more : map (λ x. x.kind) us ≡ map (λ x. x.kind) vs = cc in
        let one : u.role ≡ v.role = identifier_role u.role f.0 ∙ sym (identifier_role v.role g.0) in
        ap (λ z. z ∷ map (λ x. x.role) us) one ∙ ap (λ l. v.role ∷ l) (roles us vs f.1 g.1 more)

-- ---- structures
names_filtered : (p : Component → Bool) (xs : List Component) → all_apart same_name (names_of xs) ≡ true → all_apart same_name (names_of (filter p xs)) ≡ true
names_filtered p xs h = apart_names (filter p xs) (all_apart-filter namesakes p xs (names_apart xs h))
  where
    none_named : (x : Component) (us : List Component) → list_any (same_name x.name) (names_of us) ≡ list_any (namesakes x) us
    none_named x [] = refl
    none_named x (u ∷ us) = ap (λ b. same_name x.name u.name || b) (none_named x us)

    same_apart : (us : List Component) → all_apart same_name (names_of us) ≡ all_apart namesakes us
    same_apart [] = refl
    same_apart (u ∷ us) = ap (λ b. not b && all_apart same_name (names_of us)) (none_named u us) ∙ ap (λ b. not (list_any (namesakes u) us) && b) (same_apart us)

    names_apart : (us : List Component) → all_apart same_name (names_of us) ≡ true → all_apart namesakes us ≡ true
    names_apart us e = sym (same_apart us) ∙ e

    apart_names : (us : List Component) → all_apart namesakes us ≡ true → all_apart same_name (names_of us) ≡ true
    apart_names us e = same_apart us ∙ e

pub identifiers_apart : (s : Structure) → IsStructure s → all_apart same_name (names_of (identifiers_of s)) ≡ true
identifiers_apart s h = names_filtered (λ x. same_role x.role role.Identifier) s.components h.distinct

pub length-names : (xs ys : List Component) → names_of xs ≡ names_of ys → length xs ≡ length ys
length-names xs ys e = sym (length-map xs (λ x. x.name)) ∙ ap length e ∙ length-map ys (λ x. x.name)

pub key_width_same : (s a : Structure) → HasIdentifiers s (identifiers_of a) → key_width s ≡ key_width a
key_width_same s a h = length-names (identifiers_of s) (identifiers_of a) h.0

-- the cells of a structure's identifiers are the first ones, in all_each row that begins with a point of it
pub key_cells : (a s : Structure) (r : Row) → IsStructure a → HasIdentifiers s (identifiers_of a) → key_width a ≤ length r → cells_at (places_in (columns_of a) (identifiers_of s)) r ≡ take (key_width a) r
key_cells a s r w h l =
    ap (λ ps. cells_at ps r) (places_of_namesakes (columns_of a) (identifiers_of s) (identifiers_of a) h.0)
    ∙ ap (λ xs. cells_at (places_in xs (identifiers_of a)) r) (columns_split a)
    ∙ first_cells (identifiers_of a) (others_of a) r (identifiers_apart a w) l

-- a point begins with the cells of its identifiers
pub key_of_point : (a : Structure) (r : Row) → is_point (columns_of a) r ≡ true → is_point (identifiers_of a) (take (key_width a) r) ≡ true
key_of_point a r h = point_front (identifiers_of a) (others_of a) r (subst (λ xs. is_point xs r ≡ true) (columns_split a) h)

pub key_within : (a : Structure) (r : Row) → is_point (columns_of a) r ≡ true → key_width a ≤ length r
key_within a r h =
    let same : length r ≡ length (identifiers_of a ++ others_of a) = point_length (identifiers_of a ++ others_of a) r (subst (λ xs. is_point xs r ≡ true) (columns_split a) h) in
    let both : length (identifiers_of a ++ others_of a) ≡ length (identifiers_of a) + length (others_of a) = length-append (identifiers_of a) (others_of a) in
    omega (arith, same, both)

pub key_for : (s a : Structure) (k : Row) → HasIdentifiers s (identifiers_of a) → is_point (identifiers_of a) k ≡ true → is_point (identifiers_of s) k ≡ true
key_for s a k h i = point_of_identifiers (identifiers_of a) (identifiers_of s) k (are_identifiers a) (are_identifiers s) (sym h.1) i

-- a key and cells of the other columns make a point
pub joined_point_is : (s : Structure) (zs : List Component) (k vs : Row) → columns_of s ≡ identifiers_of s ++ zs → AllByRecursion IsOther zs → is_point (identifiers_of s) k ≡ true → fits_kinds (map (λ x. x.kind) zs) vs ≡ true → is_point (columns_of s) (k ++ vs) ≡ true
joined_point_is s zs k vs e all h i =
    subst (λ xs. is_point xs (k ++ vs) ≡ true) (sym e) (point_append (identifiers_of s) zs k vs h (point_of_others zs vs all i))

pub key_of_joined : (s : Structure) (k vs : Row) → is_point (identifiers_of s) k ≡ true → take (key_width s) (k ++ vs) ≡ k
key_of_joined s k vs h = ap (λ n. take n (k ++ vs)) (sym (point_length (identifiers_of s) k h)) ∙ take-append_seam k vs

-- cells of columns that are among those of a point are of their kinds
pub cells_fit : (ys xs : List Component) (r : Row) → AreAmong ys xs → is_point xs r ≡ true → fits_kinds (map (λ y. y.kind) ys) (cells_at (places_in xs ys) r) ≡ true
cells_fit [] xs r all h = refl
cells_fit (y ∷ ys) xs r all h = rw (cell_is_of (place_of y.name xs) y.name y.kind xs r all.0 h) (cells_fit ys xs r all.1 h)
