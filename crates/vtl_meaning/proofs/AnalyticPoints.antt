-- The points of the result: their columns, their keys, and that they are a data set.
use Rattle.std.proofs.Common.{◌≡◌, ℕ, true, not, ◌&&◌, ◌||◌, List, [], ◌∷◌, ◌++◌, map, take, length, Ok, Err, Option, Some, None, refl, sym, ap, ◌∙◌, subst}
use Rattle.std.specs.Prelude.{IfOk}
use Rattle.std.specs.List.{AllByRecursion, list_any}
use Rattle.std.specs.Option.{option_map_or}
use Rattle.std.proofs.Math.Seq.{take-append_seam}
use Rattle.std.proofs.lemmas.List.{length-map, map-append}
use Rattle.vtl_lists.specs.Apart.{all_apart}
use Rattle.vtl_lists.proofs.Alls.{all_append, all_both, all_front, all_more}
use Rattle.vtl_lists.proofs.Sorts.{AllByRecursion-map}
use Rattle.vtl_cell.specs.Kinds.{is_null}
use Rattle.vtl_cell.specs.Outcome.{Outcome, faults_by}
use Rattle.vtl_cell.specs.Profile.{IsOfProfile}
use Rattle.vtl_cell.specs.Row.{Row, column_of, same_key, same_row}
use Rattle.vtl_decimal.specs.Settings.{Settings}
use Rattle.vtl_cell.specs.declared.cell.Cell.{Cell}
use Rattle.vtl_rows.specs.Tables.{cells_at}
use Rattle.vtl_tree.specs.DataSet.{AreOfProfile, IsDataSet, is_point}
use Rattle.vtl_tree.specs.Environment.{DataSet}
use Rattle.vtl_tree.specs.Structure.{columns_of, key_width}
use Rattle.vtl_tree.specs.declared.structure.Component.{Component}
use Rattle.vtl_tree.specs.declared.structure.Structure.{Structure}
use Rattle.vtl_tree.specs.Trees as nodes
use Rattle.vtl_tree.specs.Trees.{AnalyticTree, ValueTree}
use Rattle.vtl_tree.specs.Columns.{identifiers_of, others_of, place_of, places_in}
use Rattle.vtl_tree.specs.Names.{component_of}
use Rattle.vtl_meaning.specs.Aggregates.{Made, group_fault as point_fault}
use Rattle.vtl_meaning.specs.Points.{cell_or_null}
use Rattle.vtl_meaning.proofs.GroupKinds.{GivesOf, GivesOfProfile}
use Rattle.vtl_meaning.proofs.GroupPoints.{HasCell, found_cell, column_gives, value_is, unless_has}
use Rattle.vtl_meaning.specs.Analytics.{analytic_of, made_of, point_of, tree_value, value_for}
use Rattle.vtl_meaning.specs.AnalyticShapes.{IsAnalyzed, IsMadeColumn, IsMadeOrStays}
use Rattle.vtl_meaning.specs.Windows.{call_value}
use Rattle.vtl_meaning.proofs.CallKinds.{call_is}
use Rattle.vtl_meaning.proofs.CallProfiles.{call_gives, stays_proper}
use Rattle.vtl_meaning.proofs.AnalyticColumns.{IsOther, are_others, cells_are, columns_found, identifier_cells}
use Rattle.vtl_meaning.proofs.Places.{columns_split}

-- ---- keys that stay
pub any_by_key : (n m : ℕ) (f : Row → Row) (key : Row) (points : List Row) → AllByRecursion (λ r. take n (f r) ≡ take m r) points → list_any (λ q. same_row key (take n q)) (map f points) ≡ list_any (λ q. same_row key (take m q)) points
any_by_key n m f key [] all = refl
any_by_key n m f key (r ∷ points) all = λ i. same_row key (all.0 i) || any_by_key n m f key points all.1 i

pub keys_apart : (n m : ℕ) (f : Row → Row) (points : List Row) → AllByRecursion (λ r. take n (f r) ≡ take m r) points → all_apart (same_key n) (map f points) ≡ all_apart (same_key m) points
keys_apart n m f [] all = refl
keys_apart n m f (r ∷ points) all =
    ap (λ b. not b && all_apart (same_key n) (map f points)) (ap (λ key. list_any (λ q. same_row key (take n q)) (map f points)) all.0 ∙ any_by_key n m f (take m r) points all.1)
    ∙ ap (λ b. not (list_any (λ q. same_row (take m r) (take m q)) points) && b) (keys_apart n m f points all.1)

-- ---- the result
module _ (p : Settings) (spec : AnalyticTree) (d : DataSet) (s : Structure) (i : IsAnalyzed p spec d.structure s) where
  abbrev xs : List Component
  xs = columns_of d.structure

  abbrev made : Made
  made = made_of p spec d

  -- an identifier keeps its cell
  kept_cell : (y : Component) (r : Row) → value_for spec y ≡ None → made y r ≡ Ok (column_of (place_of y.name xs) r)
  kept_cell y r e = ap (λ o. option_map_or (λ v. tree_value p d y.kind v r) o (Ok (column_of (place_of y.name xs) r))) e

  kept_cells : (r : Row) (ys : List Component) → AllByRecursion (λ y. value_for spec y ≡ None) ys → point_of made ys r ≡ cells_at (places_in xs ys) r
  kept_cells r [] all = refl
  kept_cells r (y ∷ ys) all = λ j. cell_or_null (kept_cell y r all.0 j) ∷ kept_cells r ys all.1 j

  module _ (h : IsDataSet d.structure d.points) where
    abbrev IsRow : Row → Type 0
    IsRow r = is_point xs r ≡ true

    pub key_of_point : (r : Row) → IsRow r → take (key_width s) (point_of made (columns_of s) r) ≡ take (key_width d.structure) r
    key_of_point r t =
        let f : Component → Cell = λ y. cell_or_null (made y r) in
        let ids = identifiers_of s in
        ap (λ zs. take (length ids) (map f zs)) (columns_split s)
        ∙ ap (take (length ids)) (map-append f ids (others_of s))
        ∙ ap (λ n. take n (map f ids ++ map f (others_of s))) (sym (length-map ids f))
        ∙ take-append_seam (map f ids) (map f (others_of s))
        ∙ kept_cells r ids i.free
        ∙ ap (λ zs. cells_at (places_in xs zs) r) i.identifiers
        ∙ identifier_cells d.structure r h.well_formed t

    -- a column that is made
    made_is : (y : Component) (r : Row) → IsRow r → IsMadeColumn p spec xs y → GivesOf y.kind (made y r)
    made_is y r t e = go (value_for spec y) e
      where
        go : (o : Option ValueTree) → IsMadeOrStays p xs y o → GivesOf y.kind (option_map_or (λ v. tree_value p d y.kind v r) o (Ok (column_of (place_of y.name xs) r)))
        go None f = (found_cell y.name y xs r f t).0
        go (Some (nodes.scalar x)) f = f.of_kind r t
        go (Some (nodes.analytic call)) f = call_is p d call y.kind r f.0 t h.typed

    cells_have : (r : Row) → IsRow r → AllByRecursion (λ y. HasCell y (cell_or_null (made y r))) (columns_of s)
    cells_have r t =
        subst (AllByRecursion (λ y. HasCell y (cell_or_null (made y r)))) (sym (columns_split s))
        (all_append (λ y. HasCell y (cell_or_null (made y r))) (identifiers_of s) (others_of s)
        (all_both (λ y. value_for spec y ≡ None) (λ y. component_of y.name xs ≡ Some y) (λ y. HasCell y (cell_or_null (made y r))) stays (identifiers_of s) i.free found)
        (all_both (IsMadeColumn p spec xs) IsOther (λ y. HasCell y (cell_or_null (made y r))) others (others_of s) i.columns (are_others s)))
      where
        found : AllByRecursion (λ y. component_of y.name (columns_of d.structure) ≡ Some y) (identifiers_of s)
        found =
            let P : Component → Type 0 = λ y. component_of y.name (columns_of d.structure) ≡ Some y in
            subst (AllByRecursion P) (sym i.identifiers) (all_front P (identifiers_of d.structure) (others_of d.structure) (subst (AllByRecursion P) (columns_split d.structure) (columns_found d.structure h.well_formed)))

        stays : (y : Component) → value_for spec y ≡ None → component_of y.name (columns_of d.structure) ≡ Some y → HasCell y (cell_or_null (made_of p spec d y r))
        stays y e f = subst (λ m. HasCell y (cell_or_null m)) (sym (kept_cell y r e)) (found_cell y.name y (columns_of d.structure) r f t)

        others : (y : Component) → IsMadeColumn p spec (columns_of d.structure) y → IsOther y → HasCell y (cell_or_null (made_of p spec d y r))
        others y e o = (value_is y (made_of p spec d y r) (made_is y r t e), ap (λ b. not (b && is_null (cell_or_null (made_of p spec d y r)))) o)

    points_are : IsDataSet s (map (point_of made (columns_of s)) d.points)
    points_are =
        let f : Row → Row = point_of made (columns_of s) in
        record {
          well_formed = i.well_formed;
          typed = AllByRecursion-map f (λ r. is_point (columns_of s) r ≡ true) d.points (all_more IsRow (λ r. is_point (columns_of s) (f r) ≡ true) (λ r t. cells_are (λ y. cell_or_null (made y r)) (columns_of s) (cells_have r t)) d.points h.typed);
          distinct = keys_apart (key_width s) (key_width d.structure) f d.points (all_more IsRow (λ r. take (key_width s) (f r) ≡ take (key_width d.structure) r) key_of_point d.points h.typed) ∙ h.distinct;
        }

    pub result_is : IfOk (analytic_of p spec d s) (IsDataSet s)
    result_is = unless_has (IsDataSet s) (faults_by (point_fault made (columns_of s)) d.points) (map (point_of made (columns_of s)) d.points) points_are

  -- ---- integers of the profile
  module _ (h : AreOfProfile p d.points) where
    abbrev IsProper : Row → Type 0
    IsProper r = AllByRecursion (IsOfProfile p) r

    value_gives : (m : Outcome Cell) → GivesOfProfile p m → IsOfProfile p (cell_or_null m)
    value_gives (Ok v) g = g
    value_gives (Err f) g = tt

    made_gives : (y : Component) (r : Row) → IsProper r → IsMadeOrStays p xs y (value_for spec y) → GivesOfProfile p (made y r)
    made_gives y r t e = go (value_for spec y) e
      where
        go : (o : Option ValueTree) → IsMadeOrStays p (columns_of d.structure) y o → GivesOfProfile p (option_map_or (λ v. tree_value p d y.kind v r) o (Ok (column_of (place_of y.name (columns_of d.structure)) r)))
        go None f = column_gives p (place_of y.name (columns_of d.structure)) r t
        go (Some (nodes.scalar x)) f = f.of_profile r t
        go (Some (nodes.analytic call)) f = stays_proper p y.kind (call_value p d call r) (call_gives p d call r f.1 h)

    kept_gives : (y : Component) (r : Row) → IsProper r → value_for spec y ≡ None → GivesOfProfile p (made y r)
    kept_gives y r t e = subst (GivesOfProfile p) (sym (kept_cell y r e)) (column_gives p (place_of y.name xs) r t)

    proper_point : (r : Row) → IsProper r → IsProper (point_of made (columns_of s) r)
    proper_point r t =
        let f : Component → Cell = λ y. cell_or_null (made y r) in
        AllByRecursion-map f (IsOfProfile p) (columns_of s) (subst (AllByRecursion (λ y. IsOfProfile p (f y))) (sym (columns_split s))
        (all_append (λ y. IsOfProfile p (f y)) (identifiers_of s) (others_of s)
        (all_more (λ y. value_for spec y ≡ None) (λ y. IsOfProfile p (f y)) (λ y e. value_gives (made y r) (kept_gives y r t e)) (identifiers_of s) i.free)
        (all_more (IsMadeColumn p spec xs) (λ y. IsOfProfile p (f y)) (λ y e. value_gives (made y r) (made_gives y r t e)) (others_of s) i.columns)))

    pub result_is_proper : IfOk (analytic_of p spec d s) (AreOfProfile p)
    result_is_proper =
        let f : Row → Row = point_of made (columns_of s) in
        unless_has (AreOfProfile p) (faults_by (point_fault made (columns_of s)) d.points) (map f d.points)
        (AllByRecursion-map f IsProper d.points (all_more IsProper (λ r. IsProper (f r)) proper_point d.points h))
