-- The points of the result: their columns, their keys, and that they are a data set.
use Rattle.std.proofs.Common.{◌≡◌, ℕ, zero, suc, pos, Bool, true, false, not, ◌&&◌, ◌||◌, cond, List, [], ◌∷◌, map, take, length, Ok, Err, Option, Some, None, refl, sym, ap, ◌∙◌, subst, arith}
use Rattle.std.specs.Prelude.{IfOk, option_and_then}
use Rattle.std.specs.List.{AllByRecursion, filter, list_any}
use Rattle.std.specs.Option.{option_map_or}
use Rattle.std.proofs.Math.Seq.{take-append_seam}
use Rattle.vtl_lists.specs.Apart.{all_apart}
use Rattle.vtl_cell.specs.Groups.{count_of_points}
use Rattle.vtl_cell.specs.Kinds.{is_null, is_of}
use Rattle.vtl_decimal.specs.declared.number.Fault.{Fault}
use Rattle.vtl_cell.specs.Outcome.{Outcome, faults_by, join, unless}
use Rattle.vtl_cell.specs.Profile.{IsOfProfile}
use Rattle.vtl_decimal.specs.Range.{fit_integer}
use Rattle.vtl_cell.specs.Row.{Row, column_of, same_key, same_row}
use Rattle.vtl_decimal.specs.Settings.{Settings}
use Rattle.vtl_cell.specs.declared.cell.Cell.{Cell}
use Rattle.vtl_cell.specs.declared.cell.Cell.TheVariants as c
use Rattle.vtl_cell.specs.declared.kind.Kind.{Kind}
use Rattle.vtl_cell.specs.declared.kind.Kind.TheVariants as k
use Rattle.vtl_cell.specs.declared.operator.AggKind.{AggKind}
use Rattle.vtl_cell.specs.declared.operator.AggKind.TheVariants as agg
use Rattle.vtl_lists.proofs.Aparts.{all_apart-filter}
use Rattle.vtl_lists.proofs.Sorts.{AllByRecursion-filter, AllByRecursion-map}
use Rattle.vtl_lists.proofs.Alls.{all_append, all_filtered, all_more}
use Rattle.vtl_lists.proofs.Tests.{then_some}
use Rattle.vtl_cell.specs.AggregateKinds.{aggregate_kind}
use Rattle.vtl_rows.specs.Tables.{cells_at}
use Rattle.vtl_tree.specs.DataSet.{AreOfProfile, IsDataSet, is_point}
use Rattle.vtl_tree.specs.Environment.{DataSet}
use Rattle.vtl_tree.specs.Structure.{columns_of, key_width, names_of, of_role, same_name, same_role}
use Rattle.vtl_tree.specs.declared.expression.AggCall.{AggCall}
use Rattle.vtl_tree.specs.declared.structure.Component.{Component}
use Rattle.vtl_tree.specs.declared.structure.Role.TheVariants as role
use Rattle.vtl_tree.specs.declared.structure.Structure.{Structure}
use Rattle.vtl_tree.specs.Trees.{AggTree}
use Rattle.vtl_tuples.specs.Keys.{each_once}
use Rattle.vtl_tuples.proofs.Onces.{once_apart}
use Rattle.vtl_tree.specs.Columns.{identifiers_of, others_of, place_of}
use Rattle.vtl_tree.specs.Names.{component_of}
use Rattle.vtl_meaning.specs.Aggregates.{Condition, Made, aggregate_of, call_for, condition_fault, condition_of, group_fault, group_point, is_kept, made_of, made_value}
use Rattle.vtl_meaning.specs.Points.{cell_or_null}
use Rattle.vtl_meaning.specs.GroupExpressions.{aggregated}
use Rattle.vtl_meaning.specs.Groups.{keys_by, places_named, points_with}
use Rattle.vtl_meaning.specs.AggregateShapes.{IsAggregated, IsMadeColumn, given_kind, given_of}
use Rattle.vtl_meaning.proofs.GroupKinds.{GivesOf, GivesOfProfile, IsOf, group_gives, group_is, integer_is, null_is_of, whole_gives}
use Rattle.vtl_meaning.proofs.Places.{columns_split, point_append, point_length, attribute_role, measure_role}

-- ---- lists
pub all_once : (P : Row → Type 0) (xs : List Row) → AllByRecursion P xs → AllByRecursion P (each_once same_row xs)
all_once P [] all = tt
all_once P (x ∷ xs) all = (all.0, AllByRecursion-filter P (λ y. not (same_row x y)) (each_once same_row xs) (all_once P xs all.1))

pub unless_has : {X : Type 0} (P : X → Type 0) (f : Option Fault) (x : X) → P x → IfOk (unless f x) P
unless_has P None x h = h
unless_has P (Some f) x h = tt

-- ---- columns of a point
point_parts : (x : Component) (xs : List Component) (v : Cell) (r : Row) → is_point (x ∷ xs) (v ∷ r) ≡ true → IsOf x.kind v × (not (same_role x.role role.Identifier && is_null v) ≡ true) × (is_point xs r ≡ true)
point_parts x xs v r h = parts (is_of x.kind v) (not (same_role x.role role.Identifier && is_null v)) (is_point xs r) h
  where
    parts : (a b d : Bool) → (a && b && d) ≡ true → (a ≡ true) × (b ≡ true) × (d ≡ true)
    parts true true true e = (refl, refl, refl)
    parts true true false e = cc
    parts true false d e = cc
    parts false b d e = cc

point_from : (x : Component) (xs : List Component) (v : Cell) (r : Row) → IsOf x.kind v → not (same_role x.role role.Identifier && is_null v) ≡ true → is_point xs r ≡ true → is_point (x ∷ xs) (v ∷ r) ≡ true
point_from x xs v r a b d = λ i. a i && b i && d i

-- the cell of a component that is there
abbrev pub HasCell : Component → Cell → Type 0
HasCell y v = IsOf y.kind v × (not (same_role y.role role.Identifier && is_null v) ≡ true)

pub found_cell : (name : List ℕ) (y : Component) (xs : List Component) (r : Row) → component_of name xs ≡ Some y → is_point xs r ≡ true → HasCell y (column_of (place_of name xs) r)
found_cell name y [] r e h = cc
found_cell name y (x ∷ xs) [] e h = cc
found_cell name y (x ∷ xs) (v ∷ r) e h = go (same_name x.name name) refl e (λ later. found_cell name y xs r later parts.2)
  where
    parts : IsOf x.kind v × (not (same_role x.role role.Identifier && is_null v) ≡ true) × (is_point xs r ≡ true)
    parts = point_parts x xs v r h

    go : (b : Bool) → same_name x.name name ≡ b → cond b (Some x) (component_of name xs) ≡ Some y → (component_of name xs ≡ Some y → HasCell y (column_of (place_of name xs) r)) → HasCell y (column_of (place_of name (x ∷ xs)) (v ∷ r))
    go true t f ih =
        let here : place_of name (x ∷ xs) ≡ zero = rw t refl in
        let same : x ≡ y = cc in
        subst (λ n. HasCell y (column_of n (v ∷ r))) (sym here) (subst (λ z. HasCell z v) same (parts.0, parts.1))
    go false t f ih =
        let later : place_of name (x ∷ xs) ≡ suc (place_of name xs) = rw t (omega arith) in
        subst (λ n. HasCell y (column_of n (v ∷ r))) (sym later) (ih f)

-- the cells of identifiers that are there make a key
pub found_key : (ys xs : List Component) (r : Row) → AllByRecursion (λ y. component_of y.name xs ≡ Some y) ys → is_point xs r ≡ true → is_point ys (cells_at (places_named (names_of ys) xs) r) ≡ true
found_key [] xs r all h = refl
found_key (y ∷ ys) xs r all h =
    let cell = found_cell y.name y xs r all.0 h in
    point_from y ys (column_of (place_of y.name xs) r) (cells_at (places_named (names_of ys) xs) r) cell.0 cell.1 (found_key ys xs r all.1 h)

-- ---- columns that are no identifiers
abbrev IsOther : Component → Type 0
IsOther x = same_role x.role role.Identifier ≡ false

are_others : (s : Structure) → AllByRecursion IsOther (others_of s)
are_others s =
    all_append IsOther (of_role role.Measure s) (of_role role.Attribute s)
    (all_more (λ x. same_role x.role role.Measure ≡ true) IsOther (λ x. measure_role x.role) (of_role role.Measure s) (all_filtered (λ x. same_role x.role role.Measure) s.components))
    (all_more (λ x. same_role x.role role.Attribute ≡ true) IsOther (λ x. attribute_role x.role) (of_role role.Attribute s) (all_filtered (λ x. same_role x.role role.Attribute) s.components))

-- ---- values
module _ (p : Settings) (xs : List Component) (points : List Row) where
  abbrev PointsFit : Type 0
  PointsFit = AllByRecursion (λ r. is_point xs r ≡ true) points

  aggregated_is : (f : AggKind) (component : Option (List ℕ)) (given : Kind) → given_of xs f component ≡ Some given → PointsFit → GivesOf given (aggregated p xs f component points)
  aggregated_is f (Some name) given e all =
      let t = then_some (component_of name xs) (λ x. aggregate_kind f x.kind) given e in
      group_is p f t.0.kind given (map (column_of (place_of name xs)) points) t.2
      (AllByRecursion-map (column_of (place_of name xs)) (IsOf t.0.kind) points (all_more (λ r. is_point xs r ≡ true) (λ r. IsOf t.0.kind (column_of (place_of name xs) r)) (λ r h. (found_cell name t.0 xs r t.1 h).0) points all))
  aggregated_is agg.Count None given e all =
      let same : k.Int ≡ given = cc in
      subst (λ z. GivesOf z (count_of_points p points)) same (integer_is (fit_integer p.scale (pos (length points))))
  aggregated_is f None given e all = cc

  made_is : (spec : AggTree) (y : Component) → IsMadeColumn spec.items xs y → PointsFit → GivesOf y.kind (made_value p xs spec.items y points)
  made_is spec y e all = go (call_for spec.items y.name) e
    where
      go : (o : Option AggCall) → option_and_then (given_kind xs) o ≡ Some y.kind → GivesOf y.kind (option_map_or (λ a. aggregated p xs a.kind a.component points) o (Ok c.Null))
      go None f = cc
      go (Some a) f = aggregated_is a.kind a.component y.kind f all

pub value_is : (y : Component) (m : Outcome Cell) → GivesOf y.kind m → IsOf y.kind (cell_or_null m)
value_is y (Ok v) h = h
value_is y (Err f) h = null_is_of y.kind

values_are : (made : Made) (key : Row) (ys : List Component) → AllByRecursion IsOther ys → AllByRecursion (λ y. GivesOf y.kind (made y key)) ys → is_point ys (map (λ y. cell_or_null (made y key)) ys) ≡ true
values_are made key [] others all = refl
values_are made key (y ∷ ys) others all =
    point_from y ys (cell_or_null (made y key)) (map (λ z. cell_or_null (made z key)) ys) (value_is y (made y key) all.0) (ap (λ b. not (b && is_null (cell_or_null (made y key)))) others.0)
    (values_are made key ys others.1 all.1)

-- ---- keys of points
keys_back : (n : ℕ) (f : Row → Row) (keys : List Row) → AllByRecursion (λ key. take n (f key) ≡ key) keys → map (take n) (map f keys) ≡ keys
keys_back n f [] all = refl
keys_back n f (key ∷ keys) all = λ i. all.0 i ∷ keys_back n f keys all.1 i

any_by_key : (n : ℕ) (r : Row) (d : List Row) → list_any (same_key n r) d ≡ list_any (same_row (take n r)) (map (take n) d)
any_by_key n r [] = refl
any_by_key n r (q ∷ d) = ap (λ b. same_row (take n r) (take n q) || b) (any_by_key n r d)

apart_by_key : (n : ℕ) (d : List Row) → all_apart (same_key n) d ≡ all_apart same_row (map (take n) d)
apart_by_key n [] = refl
apart_by_key n (r ∷ d) = λ i. not (any_by_key n r d i) && apart_by_key n d i

-- ---- the result
module _ (p : Settings) (spec : AggTree) (d : DataSet) (s : Structure) (i : IsAggregated spec d.structure s) (h : IsDataSet d.structure d.points) where
  abbrev columns : List Component
  columns = columns_of d.structure

  abbrev places : List ℕ
  places = places_named spec.grouping columns

  abbrev at : Condition
  at = condition_of p spec columns d.points

  abbrev made : Made
  made = made_of p spec columns d.points

  abbrev kept : List Row
  kept = filter (is_kept at spec.having) (keys_by places d.points)

  abbrev pub IsKey : Row → Type 0
  IsKey key = is_point (identifiers_of s) key ≡ true

  pub keys_are : AllByRecursion IsKey (keys_by places d.points)
  keys_are =
      let key_is : (r : Row) → is_point columns r ≡ true → IsKey (cells_at places r) = λ r t. subst (λ names. is_point (identifiers_of s) (cells_at (places_named names columns) r) ≡ true) i.grouping (found_key (identifiers_of s) columns r i.identifiers t) in
      all_once IsKey (map (cells_at places) d.points) (AllByRecursion-map (cells_at places) IsKey d.points (all_more (λ r. is_point columns r ≡ true) (λ r. IsKey (cells_at places r)) key_is d.points h.typed))

  made_are : (key : Row) → AllByRecursion (λ y. GivesOf y.kind (made y key)) (others_of s)
  made_are key =
      let all : AllByRecursion (λ r. is_point columns r ≡ true) (points_with places d.points key) = AllByRecursion-filter (λ r. is_point columns r ≡ true) (λ r. same_row (cells_at places r) key) d.points h.typed in
      all_more (IsMadeColumn spec.items columns) (λ y. GivesOf y.kind (made y key)) (λ y e. made_is p columns (points_with places d.points key) spec y e all) (others_of s) i.columns

  pub point_is : (key : Row) → IsKey key → is_point (columns_of s) (group_point made (others_of s) key) ≡ true
  point_is key t =
      subst (λ zs. is_point zs (group_point made (others_of s) key) ≡ true) (sym (columns_split s))
      (point_append (identifiers_of s) (others_of s) key (map (λ y. cell_or_null (made y key)) (others_of s)) t (values_are made key (others_of s) (are_others s) (made_are key)))

  pub key_of_point : (key : Row) → IsKey key → take (key_width s) (group_point made (others_of s) key) ≡ key
  key_of_point key t = ap (λ n. take n (group_point made (others_of s) key)) (sym (point_length (identifiers_of s) key t)) ∙ take-append_seam key (map (λ y. cell_or_null (made y key)) (others_of s))

  pub kept_are : AllByRecursion IsKey kept
  kept_are = AllByRecursion-filter IsKey (is_kept at spec.having) (keys_by places d.points) keys_are

  points_are : IsDataSet s (map (group_point made (others_of s)) kept)
  points_are =
      let f = group_point made (others_of s) in
      let back = keys_back (key_width s) f kept (all_more IsKey (λ key. take (key_width s) (f key) ≡ key) key_of_point kept kept_are) in
      let apart = all_apart-filter same_row (is_kept at spec.having) (keys_by places d.points) (once_apart same_row (map (cells_at places) d.points)) in
      record {
        well_formed = i.well_formed;
        typed = AllByRecursion-map f (λ r. is_point (columns_of s) r ≡ true) kept (all_more IsKey (λ key. is_point (columns_of s) (f key) ≡ true) point_is kept kept_are);
        distinct = apart_by_key (key_width s) (map f kept) ∙ ap (all_apart same_row) back ∙ apart;
      }

  pub result_is : IfOk (aggregate_of p spec d s) (IsDataSet s)
  result_is = unless_has (IsDataSet s) (join (faults_by (condition_fault at spec.having) (keys_by places d.points)) (faults_by (group_fault made (others_of s)) kept)) (map (group_point made (others_of s)) kept) points_are

-- ---- integers of the profile
pub column_gives : (p : Settings) (i : ℕ) (r : Row) → AllByRecursion (IsOfProfile p) r → IsOfProfile p (column_of i r)
column_gives p i [] all = tt
column_gives p zero (v ∷ r) all = all.0
column_gives p (suc i) (v ∷ r) all = column_gives p i r all.1

cells_give : (p : Settings) (places : List ℕ) (r : Row) → AllByRecursion (IsOfProfile p) r → AllByRecursion (IsOfProfile p) (cells_at places r)
cells_give p [] r all = tt
cells_give p (i ∷ places) r all = (column_gives p i r all, cells_give p places r all)

pub value_gives : (p : Settings) (m : Outcome Cell) → GivesOfProfile p m → IsOfProfile p (cell_or_null m)
value_gives p (Ok v) h = h
value_gives p (Err f) h = tt

module _ (p : Settings) (spec : AggTree) (d : DataSet) (s : Structure) (h : AreOfProfile p d.points) where
  abbrev IsProper : Row → Type 0
  IsProper r = AllByRecursion (IsOfProfile p) r

  proper_aggregate : (xs : List Component) (f : AggKind) (component : Option (List ℕ)) (points : List Row) → AllByRecursion IsProper points → GivesOfProfile p (aggregated p xs f component points)
  proper_aggregate xs f None points all = whole_gives p (pos (length points))
  proper_aggregate xs f (Some name) points all =
      let at : Row → Cell = column_of (place_of name xs) in
      group_gives p f (map at points) (AllByRecursion-map at (IsOfProfile p) points (all_more IsProper (λ r. IsOfProfile p (at r)) (λ r. column_gives p (place_of name xs) r) points all))

  proper_value : (xs : List Component) (y : Component) (points : List Row) → AllByRecursion IsProper points → GivesOfProfile p (made_value p xs spec.items y points)
  proper_value xs y points all = go (call_for spec.items y.name)
    where
      go : (o : Option AggCall) → GivesOfProfile p (option_map_or (λ a. aggregated p xs a.kind a.component points) o (Ok c.Null))
      go None = tt
      go (Some a) = proper_aggregate xs a.kind a.component points all

  pub result_is_proper : IfOk (aggregate_of p spec d s) (AreOfProfile p)
  result_is_proper =
      let xs = columns_of d.structure in
      let places = places_named spec.grouping xs in
      let at = condition_of p spec xs d.points in
      let made = made_of p spec xs d.points in
      let keys = keys_by places d.points in
      let kept = filter (is_kept at spec.having) keys in
      let keys_proper = all_once IsProper (map (cells_at places) d.points) (AllByRecursion-map (cells_at places) IsProper d.points (all_more IsProper (λ r. IsProper (cells_at places r)) (λ r. cells_give p places r) d.points h)) in
      let point : (key : Row) → IsProper key → IsProper (group_point made (others_of s) key) =
      λ key t. all_append (IsOfProfile p) key (map (λ y. cell_or_null (made y key)) (others_of s)) t (values key (others_of s)) in
      unless_has (AreOfProfile p) (join (faults_by (condition_fault at spec.having) keys) (faults_by (group_fault made (others_of s)) kept)) (map (group_point made (others_of s)) kept)
      (AllByRecursion-map (group_point made (others_of s)) IsProper kept (all_more IsProper (λ key. IsProper (group_point made (others_of s) key)) point kept (AllByRecursion-filter IsProper (is_kept at spec.having) keys keys_proper)))
    where
      values : (key : Row) (ys : List Component) → AllByRecursion (IsOfProfile p) (map (λ y. cell_or_null (made_of p spec (columns_of d.structure) d.points y key)) ys)
      values key [] = tt
      values key (y ∷ ys) =
          let places = places_named spec.grouping (columns_of d.structure) in
          let members = AllByRecursion-filter IsProper (λ r. same_row (cells_at places r) key) d.points h in
          (value_gives p (made_of p spec (columns_of d.structure) d.points y key) (proper_value (columns_of d.structure) y (points_with places d.points key) members), values key ys)
