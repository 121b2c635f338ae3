-- Columns of one operand that stand among those of another.
use Rattle.std.proofs.Common.{◌≡◌, ℕ, zero, suc, ◌+◌, true, cond, not, Bool, List, [], ◌∷◌, map, Some, None, refl, sym, ap, ◌∙◌, subst}
use Rattle.std.specs.List.{AllByRecursion, filter}
use Rattle.std.proofs.lemmas.Bool.{and_parts}
use Rattle.vtl_lists.proofs.Sorts.{AllByRecursion-filter}
use Rattle.vtl_lists.proofs.Alls.{all_filtered}
use Rattle.vtl_cell.specs.declared.kind.Kind.{Kind}
use Rattle.vtl_tree.specs.Structure.{columns_of, same_name}
use Rattle.vtl_tree.specs.declared.structure.Component.{Component}
use Rattle.vtl_tree.specs.declared.structure.Role.TheVariants as role
use Rattle.vtl_tree.specs.declared.structure.Structure.{Structure}
use Rattle.vtl_tree.specs.Choices.{is_identifier}
use Rattle.vtl_tree.specs.Measures.{is_measure}
use Rattle.vtl_tree.specs.Names.{component_of}
use Rattle.vtl_tree.specs.Operands.{agree, is_within}
use Rattle.vtl_tree.specs.Pairs.{contains}
use Rattle.vtl_tree.specs.declared.operands.Compared.TheVariants as compared
use Rattle.vtl_tree.proofs.Twins.{HasTwin}
use Rattle.vtl_tree.specs.Columns.{identifiers_of, measures_of, place_of}
use Rattle.vtl_meaning.specs.Made.{AreAmong, IsColumnAt}
use Rattle.vtl_meaning.specs.Shapes.{IsShaped}
use Rattle.vtl_meaning.proofs.FoundColumns.{IsFound, all-found, at-place, found-filter, in-columns, into-columns}
use Rattle.vtl_meaning.proofs.Lists as lists
use Rattle.check_laws.proofs.Twins.{within-twins}

-- the column of this name and kind stands where its name says
abbrev pub IsAmong : List Component → Component → Type 0
IsAmong xs y = IsColumnAt (place_of y.name xs) y.name y.kind xs

-- ---- columns with other codes
module _ (f : Component → Component) (name-stays : (x : Component) → (f x).name ≡ x.name) (kind-stays : (x : Component) → (f x).kind ≡ x.kind) where
  column-mapped : (place : ℕ) (name : List ℕ) (kind : Kind) (xs : List Component) → IsColumnAt place name kind xs → IsColumnAt place name kind (map f xs)
  column-mapped place name kind [] h = h
  column-mapped zero name kind (x ∷ xs) h = (name-stays x ∙ h.0, kind-stays x ∙ h.1)
  column-mapped (suc place) name kind (x ∷ xs) h = column-mapped place name kind xs h

  place-mapped : (name : List ℕ) (xs : List Component) → place_of name (map f xs) ≡ place_of name xs
  place-mapped name [] = refl
  place-mapped name (x ∷ xs) = ap (λ n. cond (not (same_name n name)) (1 + place_of name (map f xs)) 0) (name-stays x) ∙ ap (λ place. cond (not (same_name x.name name)) (1 + place) 0) (place-mapped name xs)

  pub among-mapped : (xs zs : List Component) → AreAmong zs xs → AreAmong zs (map f xs)
  among-mapped xs zs h = lists.weaker (IsAmong xs) (IsAmong (map f xs)) zs (λ z at. subst (λ place. IsColumnAt place z.name z.kind (map f xs)) (sym (place-mapped z.name xs)) (column-mapped (place_of z.name xs) z.name z.kind xs at)) h

  pub mapped-among : (xs zs : List Component) → AreAmong xs zs → AreAmong (map f xs) zs
  mapped-among xs zs h =
      lists.mapped (IsAmong zs) f xs (lists.weaker (IsAmong zs) (λ x. IsAmong zs (f x)) xs (λ x at. subst (λ kind. IsColumnAt (place_of (f x).name zs) (f x).name kind zs) (sym (kind-stays x)) (subst (λ name. IsColumnAt (place_of name zs) name x.kind zs) (sym (name-stays x)) at)) h)

-- ---- components among those of their own structure
pub own-columns : (a : Structure) → IsShaped a → AllByRecursion (IsAmong (columns_of a)) a.components
own-columns a ia = lists.weaker (IsFound (columns_of a)) (IsAmong (columns_of a)) a.components (λ x e. at-place x.name (columns_of a) x e) (in-columns a ia.well_formed)

pub own-measures : (a : Structure) → IsShaped a → AreAmong (measures_of a) (columns_of a)
own-measures a ia = AllByRecursion-filter (IsAmong (columns_of a)) is_measure a.components (own-columns a ia)

-- a component that is found and passes stands among those that pass
pub found-among : (p : Component → Bool) (xs : List Component) (x : Component) → IsFound xs x → p x ≡ true → IsAmong (filter p xs) x
found-among p xs x found passes = at-place x.name (filter p xs) x (found-filter p x.name xs x found passes)

pub own-identifiers : (a : Structure) → IsShaped a → AreAmong (identifiers_of a) (identifiers_of a)
own-identifiers a ia =
    lists.joined (IsFound a.components) (λ x. is_identifier x ≡ true) (IsAmong (identifiers_of a)) (identifiers_of a) (found-among is_identifier a.components)
    (AllByRecursion-filter (IsFound a.components) is_identifier a.components (all-found a ia.well_formed)) (all_filtered is_identifier a.components)

-- ---- the same columns in two operands
-- a column with a twin among others
twin-at : (ys : List Component) (x : Component) → (t : HasTwin compared.Kinds ys x) → (zs : List Component) → component_of x.name zs ≡ Some t.twin → IsAmong zs x
twin-at ys x t zs e = subst (λ kind. IsColumnAt (place_of x.name zs) x.name kind zs) (sym t.kind) (at-place x.name zs t.twin e)

within-identifiers : (xs ys : List Component) → is_within compared.Kinds role.Identifier xs ys ≡ true → AreAmong (filter is_identifier xs) (filter is_identifier ys)
within-identifiers xs ys e =
    lists.joined (HasTwin compared.Kinds ys) (λ x. is_identifier x ≡ true) (IsAmong (filter is_identifier ys)) (filter is_identifier xs)
    (λ x t yes. twin-at ys x t (filter is_identifier ys) (found-filter is_identifier x.name ys t.twin t.found (ap (λ r. is_identifier (record { name = x.name; role = r; kind = x.kind; codes = None })) (sym t.role) ∙ yes)))
    (within-twins compared.Kinds role.Identifier xs ys e) (all_filtered is_identifier xs)

pub contained-identifiers : (a b : Structure) → contains a b ≡ true → AreAmong (identifiers_of b) (identifiers_of a)
contained-identifiers a b e = within-identifiers b.components a.components e

pub same-identifiers : (a b : Structure) → agree compared.Kinds role.Identifier a.components b.components ≡ true → AreAmong (identifiers_of b) (identifiers_of a) × AreAmong (identifiers_of a) (identifiers_of b)
same-identifiers a b e =
    let both = and_parts (is_within compared.Kinds role.Identifier a.components b.components) (is_within compared.Kinds role.Identifier b.components a.components) e in
    (within-identifiers b.components a.components both.1, within-identifiers a.components b.components both.0)

pub same-measures : (a b : Structure) → IsShaped b → agree compared.Kinds role.Measure a.components b.components ≡ true → AreAmong (measures_of a) (columns_of b)
same-measures a b ib e =
    lists.weaker (HasTwin compared.Kinds b.components) (IsAmong (columns_of b)) (filter is_measure a.components)
    (λ x t. twin-at b.components x t (columns_of b) (into-columns b ib.well_formed x.name t.twin t.found))
    (within-twins compared.Kinds role.Measure a.components b.components (and_parts (is_within compared.Kinds role.Measure a.components b.components) (is_within compared.Kinds role.Measure b.components a.components) e).0)
