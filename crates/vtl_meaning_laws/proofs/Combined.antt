-- The columns of a set operator's result.
use Rattle.std.specs.List.{AllByRecursion, filter, position_or_len}
use Rattle.std.proofs.Common.{◌≡◌, ℕ, zero, suc, Bool, true, false, List, [], ◌∷◌, ◌++◌, map, refl, sym, ap, ◌∙◌, subst, arith}
use Rattle.std.proofs.lemmas.List.{append-nil, map-append}
use Rattle.std.proofs.lemmas.List.Elements.{filter-append}
use Rattle.vtl_lists.proofs.Alls.{all_filtered, all_more}
use Rattle.vtl_lists.proofs.Sorts.{AllByRecursion-map}
use Rattle.vtl_lists.proofs.Filters.{filter_all, filter_none}
use Rattle.vtl_cell.specs.Row.{Row, column_of}
use Rattle.vtl_cell.specs.declared.kind.Kind.{Kind}
use Rattle.vtl_rows.specs.Tables.{cells_at}
use Rattle.vtl_tree.specs.Choices.{is_identifier}
use Rattle.vtl_tree.specs.Columns.{identifiers_of, measures_of, place_of, places_in}
use Rattle.vtl_tree.specs.DataSet.{IsDataSet, is_point}
use Rattle.vtl_tree.specs.Operands.{agreed, agreed_identifiers}
use Rattle.vtl_tree.specs.Structure.{columns_of, names_of, same_name, same_role}
use Rattle.vtl_tree.specs.declared.structure.Component.{Component}
use Rattle.vtl_tree.specs.declared.structure.Role.{Role}
use Rattle.vtl_tree.specs.declared.structure.Role.TheVariants as role
use Rattle.vtl_tree.specs.declared.structure.Structure.{Structure}
use Rattle.vtl_meaning.specs.Operators.{left_of}
use Rattle.vtl_meaning.specs.Points.{with_points}
use Rattle.vtl_meaning.specs.LookUps.{values_named}
use Rattle.vtl_meaning.specs.Made.{AreAmong, IsColumnAt, IsCombined, component_kinds}
use Rattle.vtl_meaning.proofs.Places.{identifier_role, places_of_namesakes, measure_role}
use Rattle.vtl_meaning.proofs.SetsFolds.{each_own, own_cells, agreed_role}

-- ---- identifiers and measures
pub agreed_roles : (r : Role) (bs : List Structure) (xs : List Component) → AllByRecursion (λ x. same_role x.role r ≡ same_role role.Identifier r) (agreed_identifiers bs xs)
agreed_roles r bs xs =
    AllByRecursion-map (agreed bs) (λ x. same_role x.role r ≡ same_role role.Identifier r) (filter is_identifier xs)
    (all_more (λ x. is_identifier x ≡ true) (λ x. same_role (agreed bs x).role r ≡ same_role role.Identifier r) (λ x e. ap (λ t. same_role t r) (agreed_role bs x ∙ identifier_role x.role e)) (filter is_identifier xs) (all_filtered is_identifier xs))

module _ (a : Structure) (bs : List Structure) (s : Structure) (i : IsCombined a bs s) where
  pub combined_identifiers : identifiers_of s ≡ agreed_identifiers bs a.components
  combined_identifiers =
      let p : Component → Bool = λ x. same_role x.role role.Identifier in
      let ids = agreed_identifiers bs a.components in
      ap (filter p) i.shape ∙ filter-append p ids (measures_of a) ∙ ap (λ l. l ++ filter p (measures_of a)) (filter_all p ids (agreed_roles role.Identifier bs a.components))
      ∙ ap (λ l. ids ++ l) (filter_none p (measures_of a) (all_more (λ x. same_role x.role role.Measure ≡ true) (λ x. p x ≡ false) (λ x e. measure_role x.role e) (measures_of a) (all_filtered (λ x. same_role x.role role.Measure) a.components)))
      ∙ append-nil ids

  pub combined_measures : measures_of s ≡ measures_of a
  combined_measures =
      let p : Component → Bool = λ x. same_role x.role role.Measure in
      let ids = agreed_identifiers bs a.components in
      ap (filter p) i.shape ∙ filter-append p ids (measures_of a) ∙ ap (λ l. l ++ filter p (measures_of a)) (filter_none p ids (agreed_roles role.Measure bs a.components))
      ∙ filter_all p (measures_of a) (all_filtered p a.components)

  pub combined_columns : names_of (columns_of s) ≡ names_of (identifiers_of a) ++ names_of (measures_of a)
  combined_columns =
      ap names_of i.no_attributes ∙ map-append (λ x. x.name) (identifiers_of s) (measures_of s) ∙ ap (λ l. l ++ names_of (measures_of s)) i.identifiers.0
      ∙ ap (λ l. names_of (identifiers_of a) ++ names_of l) combined_measures

-- ---- columns of the same names and kinds
abbrev IsAt : ℕ → List ℕ → Kind → List (List ℕ) → List Kind → Type 0
IsAt place name kind [] ks = ⊥
IsAt place name kind (n ∷ ns) [] = ⊥
IsAt zero name kind (n ∷ ns) (k ∷ ks) = (n ≡ name) × (k ≡ kind)
IsAt (suc place) name kind (n ∷ ns) (k ∷ ks) = IsAt place name kind ns ks

at_from : (place : ℕ) (name : List ℕ) (kind : Kind) (xs : List Component) → IsColumnAt place name kind xs → IsAt place name kind (names_of xs) (component_kinds xs)
at_from place name kind [] i = i
at_from zero name kind (x ∷ xs) i = i
at_from (suc place) name kind (x ∷ xs) i = at_from place name kind xs i

at_back : (place : ℕ) (name : List ℕ) (kind : Kind) (xs : List Component) → IsAt place name kind (names_of xs) (component_kinds xs) → IsColumnAt place name kind xs
at_back place name kind [] i = i
at_back zero name kind (x ∷ xs) i = i
at_back (suc place) name kind (x ∷ xs) i = at_back place name kind xs i

place_by_names : (name : List ℕ) (xs : List Component) → position_or_len (λ n. same_name n name) (names_of xs) ≡ place_of name xs
place_by_names name [] = refl
place_by_names name (x ∷ xs) = go (same_name x.name name) refl (place_by_names name xs)
  where
    go : (b : Bool) → same_name x.name name ≡ b → position_or_len (λ n. same_name n name) (names_of xs) ≡ place_of name xs → position_or_len (λ n. same_name n name) (names_of (x ∷ xs)) ≡ place_of name (x ∷ xs)
    go true e ih = rw e refl
    go false e ih = rw e (omega (arith, ih))

pub place_same : (name : List ℕ) (xs zs : List Component) → names_of xs ≡ names_of zs → place_of name xs ≡ place_of name zs
place_same name xs zs e = sym (place_by_names name xs) ∙ ap (position_or_len (λ n. same_name n name)) e ∙ place_by_names name zs

pub among_same : (ys xs zs : List Component) → names_of xs ≡ names_of zs → component_kinds xs ≡ component_kinds zs → AreAmong ys xs → AreAmong ys zs
among_same ys xs zs e f all = all_more (λ y. IsColumnAt (place_of y.name xs) y.name y.kind xs) (λ y. IsColumnAt (place_of y.name zs) y.name y.kind zs) one ys all
  where
    one : (y : Component) → IsColumnAt (place_of y.name xs) y.name y.kind xs → IsColumnAt (place_of y.name zs) y.name y.kind zs
    one y i =
        at_back (place_of y.name zs) y.name y.kind zs
        (subst (λ ks. IsAt (place_of y.name zs) y.name y.kind (names_of zs) ks) f
        (subst (λ ns. IsAt (place_of y.name zs) y.name y.kind ns (component_kinds xs)) e
        (subst (λ n. IsAt n y.name y.kind (names_of xs) (component_kinds xs)) (place_same y.name xs zs e) (at_from (place_of y.name xs) y.name y.kind xs i))))

-- a part of a tuple of identifiers, by another structure of the same identifiers
pub named_same : (xs zs ys : List Component) (k : Row) → names_of xs ≡ names_of zs → values_named xs ys k ≡ values_named zs ys k
named_same xs zs [] k e = refl
named_same xs zs (y ∷ ys) k e = ap (λ n. column_of n k ∷ values_named xs ys k) (place_same y.name xs zs e) ∙ ap (λ l. column_of (place_of y.name zs) k ∷ l) (named_same xs zs ys k e)

-- ---- points in their own columns
pub own_points : (t s : Structure) (d : List Row) → IsDataSet t d → names_of (columns_of t) ≡ names_of (columns_of s) → left_of (with_points t d) s ≡ d
own_points t s d h e =
    let f : Row → Row = cells_at (places_in (columns_of t) (columns_of t)) in
    ap (λ ps. map (cells_at ps) d) (places_of_namesakes (columns_of t) (columns_of s) (columns_of t) (sym e))
    ∙ each_own f d (all_more (λ r. is_point (columns_of t) r ≡ true) (λ r. f r ≡ r) (λ r w. own_cells t r h.well_formed w) d h.typed)
