-- The columns of a structure stand at the places of their own names.
use Rattle.std.proofs.Common.{◌≡◌, ℕ, zero, suc, ◌||◌, Bool, true, false, List, [], ◌∷◌, ◌++◌, refl, sym, ap, ◌∙◌, subst}
use Rattle.std.specs.List.{AllByRecursion, filter, list_any}
use Rattle.vtl_lists.specs.Apart.{all_apart}
use Rattle.vtl_cell.specs.declared.kind.Kind.{Kind}
use Rattle.vtl_lists.proofs.Aparts.{all_apart-Perm, apart_parts}
use Rattle.vtl_lists.proofs.Perms.{Perm-map}
use Rattle.vtl_lists.proofs.Alls.{all_back, all_front, all_more}
use Rattle.vtl_tree.specs.Structure.{IsStructure, columns_of, names_of, same_name, same_role}
use Rattle.vtl_tree.specs.declared.structure.Component.{Component}
use Rattle.vtl_tree.specs.declared.structure.Role.TheVariants as role
use Rattle.vtl_tree.specs.declared.structure.Structure.{Structure}
use Rattle.vtl_tree.specs.Columns.{identifiers_of, measures_of, others_of, place_of}
use Rattle.vtl_tree.proofs.NotNullLemmas.{same_itself}
use Rattle.vtl_meaning.specs.Made.{AreAmong, IsColumnAt}
use Rattle.vtl_meaning.proofs.Kept.{column_front, column_within, place_front}
use Rattle.vtl_meaning.proofs.Places.{columns_split, identifiers_apart, place_here, place_later, same_name-sym}
use Rattle.vtl_meaning.proofs.AnalyticColumns.{by_roles}

-- ---- columns among others
-- a column that there is has its name there
pub column_any : (place : ℕ) (name : List ℕ) (kind : Kind) (xs : List Component) → IsColumnAt place name kind xs → list_any (λ x. same_name x.name name) xs ≡ true
column_any place name kind [] i = absurd i
column_any zero name kind (x ∷ xs) i = ap (λ n. same_name n name || list_any (λ y. same_name y.name name) xs) i.0 ∙ ap (λ b. b || list_any (λ y. same_name y.name name) xs) (same_itself name)
column_any (suc place) name kind (x ∷ xs) i = either (same_name x.name name) (column_any place name kind xs i)
  where
    either : (b : Bool) → list_any (λ y. same_name y.name name) xs ≡ true → (b || list_any (λ y. same_name y.name name) xs) ≡ true
    either true e = refl
    either false e = e

pub among_front : (ys xs zs : List Component) → AreAmong ys xs → AreAmong ys (xs ++ zs)
among_front ys xs zs all =
    all_more (λ y. IsColumnAt (place_of y.name xs) y.name y.kind xs) (λ y. IsColumnAt (place_of y.name (xs ++ zs)) y.name y.kind (xs ++ zs))
    (λ y i. subst (λ n. IsColumnAt n y.name y.kind (xs ++ zs)) (sym (place_front y.name xs zs (column_within (place_of y.name xs) y.name y.kind xs i))) (column_front (place_of y.name xs) y.name y.kind xs zs i)) ys all

among_later : (x : Component) (ys xs : List Component) → AllByRecursion (λ n. same_name x.name n ≡ false) (names_of ys) → AreAmong ys xs → AreAmong ys (x ∷ xs)
among_later x [] xs h all = tt
among_later x (y ∷ ys) xs h all = (subst (λ n. IsColumnAt n y.name y.kind (x ∷ xs)) (sym (place_later y.name x xs h.0)) all.0, among_later x ys xs h.1 all.1)

-- ---- columns among themselves
pub own_among : (xs : List Component) → all_apart same_name (names_of xs) ≡ true → AreAmong xs xs
own_among [] e = tt
own_among (x ∷ xs) e =
    let parts = apart_parts same_name x.name (names_of xs) e in
    (subst (λ n. IsColumnAt n x.name x.kind (x ∷ xs)) (sym (place_here x.name x xs (same_itself x.name))) (refl, refl), among_later x xs xs parts.0 (own_among xs parts.1))

pub columns_apart : (a : Structure) → IsStructure a → all_apart same_name (names_of (columns_of a)) ≡ true
columns_apart a w = all_apart-Perm same_name same_name-sym (Perm-map (λ x. x.name) (by_roles a.components)) ∙ w.distinct

pub own_columns : (a : Structure) → IsStructure a → AreAmong (columns_of a) (columns_of a)
own_columns a w = own_among (columns_of a) (columns_apart a w)

pub own_identifiers : (a : Structure) → IsStructure a → AreAmong (identifiers_of a) (identifiers_of a)
own_identifiers a w = own_among (identifiers_of a) (identifiers_apart a w)

pub own_measures : (a : Structure) → IsStructure a → AreAmong (measures_of a) (columns_of a)
own_measures a w =
    let P : Component → Type 0 = λ y. IsColumnAt (place_of y.name (columns_of a)) y.name y.kind (columns_of a) in
    all_front P (measures_of a) (filter (λ x. same_role x.role role.Attribute) a.components) (all_back P (identifiers_of a) (others_of a) (subst (AllByRecursion P) (columns_split a) (own_columns a w)))
