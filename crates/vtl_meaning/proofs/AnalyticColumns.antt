-- Where columns stand, and what stands in them.
use Rattle.std.proofs.Common.{◌≡◌, ℕ, zero, suc, Bool, true, false, not, cond, ◌&&◌, List, [], ◌∷◌, ◌++◌, length, map, take, Option, Some, refl, sym, ap, ◌∙◌}
use Rattle.std.specs.List.{AllByRecursion, filter, find}
use Rattle.std.proofs.lemmas.Cmp.{nat_list_eq_equiv}
use Rattle.vtl_lists.specs.Apart.{all_apart}
use Rattle.vtl_cell.specs.Kinds.{is_null, is_of}
use Rattle.vtl_lists.specs.Perm.{Perm, empty, keep, chain}
use Rattle.vtl_cell.specs.Row.{Row, column_of}
use Rattle.vtl_cell.specs.declared.cell.Cell.{Cell}
use Rattle.vtl_lists.proofs.Aparts.{all_apart-Perm, apart_parts}
use Rattle.vtl_lists.proofs.Perms.{Perm-append_back, Perm-map, Perm-middle}
use Rattle.vtl_lists.proofs.Alls.{all_append, all_filtered, all_more}
use Rattle.vtl_rows.specs.Tables.{cells_at}
use Rattle.vtl_tree.specs.DataSet.{is_point}
use Rattle.vtl_tree.specs.Structure.{IsStructure, columns_of, names_of, of_role, same_name, same_role}
use Rattle.vtl_tree.specs.declared.structure.Component.{Component}
use Rattle.vtl_tree.specs.declared.structure.Role.{Role}
use Rattle.vtl_tree.specs.declared.structure.Role.TheVariants as role
use Rattle.vtl_tree.specs.declared.structure.Structure.{Structure}
use Rattle.vtl_tree.specs.Columns.{identifiers_of, others_of, places_in}
use Rattle.vtl_tree.specs.Names.{component_of}
use Rattle.vtl_tree.proofs.NotNullLemmas.{same_itself}
use Rattle.vtl_meaning.proofs.GroupPoints.{HasCell}
use Rattle.vtl_meaning.proofs.Places.{cells_behind, columns_split, place_here, same_name-sym, attribute_role, measure_role}

-- ---- names
-- of items with distinct names each is found by its own
module _ {X : Type 0} (name : X → List ℕ) where
  abbrev by_name : List ℕ → List X → Option X
  by_name n xs = find (λ x. same_name (name x) n) xs

  later : (x : X) (xs ys : List X) → AllByRecursion (λ n. same_name (name x) n ≡ false) (map name ys) → AllByRecursion (λ y. by_name (name y) xs ≡ Some y) ys → AllByRecursion (λ y. by_name (name y) (x ∷ xs) ≡ Some y) ys
  later x xs [] apart all = tt
  later x xs (y ∷ ys) apart all = (ap (λ b. cond b (Some x) (by_name (name y) xs)) apart.0 ∙ all.0, later x xs ys apart.1 all.1)

  pub own_found : (xs : List X) → all_apart same_name (map name xs) ≡ true → AllByRecursion (λ y. by_name (name y) xs ≡ Some y) xs
  own_found [] e = tt
  own_found (x ∷ xs) e =
      let parts = apart_parts same_name (name x) (map name xs) e in
      (ap (λ b. cond b (Some x) (by_name (name x) xs)) (same_itself (name x)), later x xs xs parts.0 (own_found xs parts.1))

-- ---- columns are the components, ordered by their roles
pub by_roles : (xs : List Component) → Perm (filter (λ x. same_role x.role role.Identifier) xs ++ filter (λ x. same_role x.role role.Measure) xs ++ filter (λ x. same_role x.role role.Attribute) xs) xs
by_roles [] = empty
by_roles (x ∷ xs) = go x.role (by_roles xs)
  where
    of : Role → List Component
    of r = filter (λ y. same_role y.role r) xs

    put : Role → Role → List Component
    put r t = cond (same_role r t) (x ∷ of t) (of t)

    go : (r : Role) → Perm (of role.Identifier ++ of role.Measure ++ of role.Attribute) xs → Perm (put r role.Identifier ++ put r role.Measure ++ put r role.Attribute) (x ∷ xs)
    go role.Identifier ih = keep x ih
    go role.Measure ih = chain (Perm-append_back (of role.Attribute) (Perm-middle (of role.Identifier) x (of role.Measure))) (keep x ih)
    go role.Attribute ih = chain (Perm-middle (of role.Identifier ++ of role.Measure) x (of role.Attribute)) (keep x ih)

columns_apart : (a : Structure) → IsStructure a → all_apart same_name (names_of (columns_of a)) ≡ true
columns_apart a w = all_apart-Perm same_name same_name-sym (Perm-map (λ (x : Component). x.name) (by_roles a.components)) ∙ w.distinct

-- each column is found by its name
pub columns_found : (a : Structure) → IsStructure a → AllByRecursion (λ y. component_of y.name (columns_of a) ≡ Some y) (columns_of a)
columns_found a w = own_found (λ (x : Component). x.name) (columns_of a) (columns_apart a w)

-- ---- cells
last_of : (a b d : Bool) → (a && b && d) ≡ true → d ≡ true
last_of true true d e = e
last_of true false d e = cc
last_of false b d e = cc

-- the cells at the first columns are the first cells
first_cells : (xs more : List Component) (r : Row) → all_apart same_name (names_of (xs ++ more)) ≡ true → is_point (xs ++ more) r ≡ true → cells_at (places_in (xs ++ more) xs) r ≡ take (length xs) r
first_cells [] more r apart h = refl
first_cells (x ∷ xs) more [] apart h = cc
first_cells (x ∷ xs) more (v ∷ r) apart h =
    let parts = apart_parts same_name x.name (names_of (xs ++ more)) apart in
    ap (λ i. column_of i (v ∷ r) ∷ cells_at (places_in (x ∷ xs ++ more) xs) (v ∷ r)) (place_here x.name x (xs ++ more) (same_itself x.name))
    ∙ ap (λ l. v ∷ l) (cells_behind x (xs ++ more) v r xs (names_front xs more parts.0) ∙ first_cells xs more r parts.1 (rest h))
  where
    names_front : (us vs : List Component) → AllByRecursion (λ n. same_name x.name n ≡ false) (names_of (us ++ vs)) → AllByRecursion (λ n. same_name x.name n ≡ false) (names_of us)
    names_front [] vs all = tt
    names_front (u ∷ us) vs all = (all.0, names_front us vs all.1)

    rest : is_point (x ∷ xs ++ more) (v ∷ r) ≡ true → is_point (xs ++ more) r ≡ true
    rest e = last_of (is_of x.kind v) (not (same_role x.role role.Identifier && is_null v)) (is_point (xs ++ more) r) e

pub identifier_cells : (a : Structure) (r : Row) → IsStructure a → is_point (columns_of a) r ≡ true → cells_at (places_in (columns_of a) (identifiers_of a)) r ≡ take (length (identifiers_of a)) r
identifier_cells a r w h =
    let same = columns_split a in
    ap (λ xs. cells_at (places_in xs (identifiers_of a)) r) same
    ∙ first_cells (identifiers_of a) (others_of a) r (ap (λ xs. all_apart same_name (names_of xs)) (sym same) ∙ columns_apart a w) (ap (λ xs. is_point xs r) (sym same) ∙ h)

-- cells of their kinds make a point
pub cells_are : (f : Component → Cell) (ys : List Component) → AllByRecursion (λ y. HasCell y (f y)) ys → is_point ys (map f ys) ≡ true
cells_are f [] all = refl
cells_are f (y ∷ ys) all = λ i. all.0.0 i && all.0.1 i && cells_are f ys all.1 i

-- ---- columns that are no identifiers
abbrev pub IsOther : Component → Type 0
IsOther x = same_role x.role role.Identifier ≡ false

pub are_others : (s : Structure) → AllByRecursion IsOther (others_of s)
are_others s =
    all_append IsOther (of_role role.Measure s) (of_role role.Attribute s)
    (all_more (λ x. same_role x.role role.Measure ≡ true) IsOther (λ x. measure_role x.role) (of_role role.Measure s) (all_filtered (λ x. same_role x.role role.Measure) s.components))
    (all_more (λ x. same_role x.role role.Attribute ≡ true) IsOther (λ x. attribute_role x.role) (of_role role.Attribute s) (all_filtered (λ x. same_role x.role role.Attribute) s.components))
