-- By all identifiers all_each point is a group of its own.
use Rattle.std.proofs.Common.{◌≡◌, ℕ, true, List, [], ◌∷◌, ◌++◌, map, take, Some, None, Ok, Err, refl, sym, ap, ◌∙◌, subst, true≢false}
use Rattle.std.specs.List.{AllByRecursion, filter, find}
use Rattle.std.specs.Prelude.{IfOk}
use Rattle.std.specs.Option.{option_and_then, option_map_or, option_to_list}
use Rattle.std.proofs.Math.IntN.{+ℤ_idl}
use Rattle.vtl_lists.proofs.Alls.{all_both, all_each, all_more}
use Rattle.vtl_lists.proofs.Tests.{then_some}
use Rattle.vtl_cell.specs.AggregateKinds.{aggregate_kind}
use Rattle.vtl_cell.specs.Groups.{group_value}
use Rattle.vtl_cell.specs.Kinds.{is_of}
use Rattle.vtl_cell.specs.ScalarArithmetic.{integer, number}
use Rattle.vtl_decimal.specs.Range.{fit_integer, fit_number}
use Rattle.vtl_cell.specs.Outcome.{Outcome, fault_in, faults_by, join, unless}
use Rattle.vtl_cell.specs.Row.{Row, column_of, same_key, same_row}
use Rattle.vtl_cell.specs.declared.cell.Cell.{Cell}
use Rattle.vtl_cell.specs.declared.cell.Cell.TheVariants as c
use Rattle.vtl_cell.specs.declared.kind.Kind.{Kind}
use Rattle.vtl_cell.specs.declared.kind.Kind.TheVariants as k
use Rattle.vtl_cell.specs.declared.operator.AggKind.{AggKind}
use Rattle.vtl_cell.specs.declared.operator.AggKind.TheVariants as agg
use Rattle.vtl_cell.proofs.Rows.{same_row-is, same_row-refl}
use Rattle.vtl_decimal.specs.Settings.{Settings}
use Rattle.vtl_rows.specs.Tables.{cells_at}
use Rattle.vtl_tree.specs.Columns.{identifiers_of, others_of, place_of, places_in}
use Rattle.vtl_tree.specs.DataSet.{Distinct, IsDataSet, is_point}
use Rattle.vtl_tree.specs.Environment.{DataSet}
use Rattle.vtl_tree.specs.Names.{component_of}
use Rattle.vtl_tree.specs.Trees.{AggTree}
use Rattle.vtl_tree.specs.Structure.{columns_of, key_width, names_of}
use Rattle.vtl_tree.specs.declared.structure.Component.{Component}
use Rattle.vtl_tree.specs.declared.structure.Structure.{Structure}
use Rattle.vtl_tuples.specs.Keys.{each_once}
use Rattle.vtl_tuples.proofs.Lists.{filter_same, map-map, map_same}
use Rattle.vtl_tuples.proofs.Onces.{once_already}
use Rattle.vtl_meaning.specs.Aggregates.{Made, aggregate_of, condition_of, group_fault, group_point, made_of, measure_call}
use Rattle.vtl_meaning.specs.AggregateShapes.{IsAggregated}
use Rattle.vtl_meaning.specs.GroupExpressions.{aggregated}
use Rattle.vtl_meaning.specs.Groups.{keys_by, places_named, points_with}
use Rattle.vtl_meaning.specs.Operators.{left_of}
use Rattle.vtl_meaning.specs.Points.{cell_or_null}
use Rattle.vtl_meaning.proofs.GroupPoints.{found_cell}
use Rattle.vtl_meaning.proofs.JoinAgreements.{only_one, own_found}
use Rattle.vtl_meaning.proofs.JoinKept.{apart_map}
use Rattle.vtl_meaning.proofs.Kept.{shown_split}
use Rattle.vtl_meaning.proofs.Places.{all_of_map, key_cells, key_within, places_by_names, places_of_namesakes}
use Rattle.vtl_aggregate_laws.specs.Parts.{grouped}
use Rattle.vtl_aggregate_laws.proofs.Evaluated.{all_kept, made_are}
use Rattle.vtl_aggregate_laws.proofs.Sums.{integer_given, number_given}

-- ---- of one value
least_of_one : (p : Settings) (v : Cell) → group_value p agg.Min (v ∷ []) ≡ Ok v
least_of_one p c.Null = refl
least_of_one p (c.Bool b) = refl
least_of_one p (c.Int n) = refl
least_of_one p (c.Num n) = refl
least_of_one p (c.Text t) = refl
least_of_one p (c.Day t) = refl
least_of_one p (c.Period t) = refl

greatest_of_one : (p : Settings) (v : Cell) → group_value p agg.Max (v ∷ []) ≡ Ok v
greatest_of_one p c.Null = refl
greatest_of_one p (c.Bool b) = refl
greatest_of_one p (c.Int n) = refl
greatest_of_one p (c.Num n) = refl
greatest_of_one p (c.Text t) = refl
greatest_of_one p (c.Day t) = refl
greatest_of_one p (c.Period t) = refl

-- a sum of one value is that value, where it has one: of an integer, a number or null
abbrev IsAddable : Cell → Type 0
IsAddable c.Null = Unit {0}
IsAddable (c.Int n) = Unit {0}
IsAddable (c.Num n) = Unit {0}
IsAddable (c.Bool b) = ⊥
IsAddable (c.Text t) = ⊥
IsAddable (c.Day t) = ⊥
IsAddable (c.Period t) = ⊥

sum_of_one : (p : Settings) (v w : Cell) → IsAddable v → group_value p agg.Sum (v ∷ []) ≡ Ok w → w ≡ v
sum_of_one p c.Null w h e = cc
sum_of_one p (c.Int n) w h e = sym (integer_given p n w (ap (λ k. integer (fit_integer p.scale k)) (sym (+ℤ_idl n)) ∙ e))
sum_of_one p (c.Num n) w h e = sym (number_given p n w (ap (λ k. number (fit_number k)) (sym (+ℤ_idl n)) ∙ e))
sum_of_one p (c.Bool b) w h e = absurd h
sum_of_one p (c.Text t) w h e = absurd h
sum_of_one p (c.Day t) w h e = absurd h
sum_of_one p (c.Period t) w h e = absurd h

-- what is summed is of such a kind
added : (kind given : Kind) (v : Cell) → aggregate_kind agg.Sum kind ≡ Some given → is_of kind v ≡ true → IsAddable v
added kind given c.Null e h = tt
added kind given (c.Int n) e h = tt
added kind given (c.Num n) e h = tt
added k.Bool given (c.Bool b) e h = cc
added kind given (c.Bool b) e h = absurd (true≢false (sym h))
added k.Text given (c.Text t) e h = cc
added kind given (c.Text t) e h = absurd (true≢false (sym h))
added k.Day given (c.Day t) e h = cc
added kind given (c.Day t) e h = absurd (true≢false (sym h))
added k.Period given (c.Period t) e h = cc
added kind given (c.Period t) e h = absurd (true≢false (sym h))

-- ---- groups of one point
-- of points with other keys, the one with the key of one of them is that one
own_group : (n : ℕ) (d : List Row) → Distinct n d → AllByRecursion (λ q. filter (λ r. same_row (take n r) (take n q)) d ≡ q ∷ []) d
own_group n d apart = all_more (λ q. find (λ r. same_key n r q) d ≡ Some q) (λ q. filter (λ r. same_row (take n r) (take n q)) d ≡ q ∷ []) one d found
  where
    any : AllByRecursion (λ q. Unit {0}) d
    any = all_each (λ q. Unit {0}) (λ q. tt) d

    turned : (r q : Row) → same_key n r q ≡ true → same_key n q r ≡ true
    turned r q e = ap (same_row (take n q)) (same_row-is (take n r) (take n q) e) ∙ same_row-refl (take n q)

    found : AllByRecursion (λ q. find (λ r. same_key n r q) d ≡ Some q) d
    found = own_found (λ q. Unit {0}) (same_key n) (λ q r. same_key n r q) (λ q u. same_row-refl (take n q)) (λ q r u v e. e) d any apart

    one : (q : Row) → find (λ r. same_key n r q) d ≡ Some q → filter (λ r. same_row (take n r) (take n q)) d ≡ q ∷ []
    one q e =
        only_one (λ x. Unit {0}) (same_key n) (λ r. same_key n r q) d any apart
        (λ y z u v f g. ap (λ k. same_row k (take n z)) (same_row-is (take n y) (take n q) f) ∙ turned z q g)
        ∙ ap option_to_list e

module _ (p : Settings) (f : AggKind) (d : DataSet) (s : Structure) (called : (name : List ℕ) → measure_call f name ≡ record { kind = f; component = Some name }) (i : IsAggregated (grouped f (names_of (identifiers_of d.structure))) d.structure s) (h : IsDataSet d.structure d.points) where
  abbrev a : Structure
  a = d.structure

  abbrev n : ℕ
  n = key_width a

  abbrev xs : List Component
  xs = columns_of a

  abbrev names : List (List ℕ)
  names = names_of (identifiers_of a)

  abbrev places : List ℕ
  places = places_named names xs

  abbrev made : Made
  made = made_of p (grouped f names) xs d.points

  abbrev cell : Component → Row → Cell
  cell y r = column_of (place_of y.name xs) r

  key_of_point : (r : Row) → is_point xs r ≡ true → cells_at places r ≡ take n r
  key_of_point r w = ap (λ is. cells_at is r) (sym (places_by_names xs (identifiers_of a))) ∙ key_cells a a r h.well_formed (refl, refl) (key_within a r w)

  keys : keys_by places d.points ≡ map (take n) d.points
  keys =
      ap (each_once same_row) (map_same (cells_at places) (take n) d.points (all_more (λ r. is_point xs r ≡ true) (λ r. cells_at places r ≡ take n r) key_of_point d.points h.typed))
      ∙ once_already same_row (map (take n) d.points) (apart_map (take n) same_row d.points ∙ h.distinct)

  group : AllByRecursion (λ q. points_with places d.points (take n q) ≡ q ∷ []) d.points
  group =
      all_more (λ q. filter (λ r. same_row (take n r) (take n q)) d.points ≡ q ∷ []) (λ q. points_with places d.points (take n q) ≡ q ∷ [])
      (λ q e. filter_same (λ r. same_row (cells_at places r) (take n q)) (λ r. same_row (take n r) (take n q)) d.points (all_more (λ r. is_point xs r ≡ true) (λ r. same_row (cells_at places r) (take n q) ≡ same_row (take n r) (take n q)) (λ r w. ap (λ k. same_row k (take n q)) (key_of_point r w)) d.points h.typed) ∙ e)
      d.points (own_group n d.points h.distinct)

  one_value : (y : Component) (q : Row) → points_with places d.points (take n q) ≡ q ∷ [] → made y (take n q) ≡ group_value p f (cell y q ∷ [])
  one_value y q e =
      ap (λ call. option_map_or (λ b. aggregated p xs b.kind b.component (points_with places d.points (take n q))) (Some call) (Ok c.Null)) (called y.name)
      ∙ ap (λ l. group_value p f (map (cell y) l)) e

  -- the aggregate gives all_each value of a point as it is
  abbrev Keeps : List Component → Row → Type 0
  Keeps ys q = AllByRecursion (λ y. group_value p f (cell y q ∷ []) ≡ Ok (cell y q)) ys

  no_fault : (q : Row) (ys : List Component) → points_with places d.points (take n q) ≡ q ∷ [] → Keeps ys q → faults_by (λ y. fault_in (made y (take n q))) ys ≡ None
  no_fault q [] e k = refl
  no_fault q (y ∷ ys) e k = ap (λ m. join (fault_in m) (faults_by (λ z. fault_in (made z (take n q))) ys)) (one_value y q e ∙ k.0) ∙ no_fault q ys e k.1

  no_faults : (l : List Row) → AllByRecursion (λ q. points_with places d.points (take n q) ≡ q ∷ []) l → AllByRecursion (Keeps (others_of s)) l → faults_by (group_fault made (others_of s)) (map (take n) l) ≡ None
  no_faults [] all k = refl
  no_faults (q ∷ l) all k = ap (λ o. join o (faults_by (group_fault made (others_of s)) (map (take n) l))) (no_fault q (others_of s) all.0 k.0) ∙ no_faults l all.1 k.1

  cells_there : (q : Row) (ys : List Component) → points_with places d.points (take n q) ≡ q ∷ [] → Keeps ys q → map (λ y. cell_or_null (made y (take n q))) ys ≡ cells_at (places_in xs ys) q
  cells_there q [] e k = refl
  cells_there q (y ∷ ys) e k = ap (λ m. cell_or_null m ∷ map (λ z. cell_or_null (made z (take n q))) ys) (one_value y q e ∙ k.0) ∙ ap (λ l. cell y q ∷ l) (cells_there q ys e k.1)

  abbrev IsAlone : Row → Type 0
  IsAlone q = (is_point xs q ≡ true) × (points_with places d.points (take n q) ≡ q ∷ [])

  are_alone : AllByRecursion IsAlone d.points
  are_alone = all_both (λ q. is_point xs q ≡ true) (λ q. points_with places d.points (take n q) ≡ q ∷ []) IsAlone (λ q w e. (w, e)) d.points h.typed group

  point_there : (q : Row) → IsAlone q → Keeps (others_of s) q → group_point made (others_of s) (take n q) ≡ cells_at (places_in xs (columns_of s)) q
  point_there q alone k =
      ap (λ l. take n q ++ l) (cells_there q (others_of s) alone.1 k)
      ∙ ap (λ z. z ++ cells_at (places_in xs (others_of s)) q) (sym (ap (λ is. cells_at is q) (places_of_namesakes xs (identifiers_of s) (identifiers_of a) i.grouping) ∙ key_cells a a q h.well_formed (refl, refl) (key_within a q alone.0)))
      ∙ sym (shown_split xs s q)

  by_identifiers : AllByRecursion (Keeps (others_of s)) d.points → aggregate_of p (grouped f names) d s ≡ Ok (left_of d s)
  by_identifiers keeps =
      all_kept (condition_of p (grouped f names) xs d.points) made (others_of s) (keys_by places d.points)
      ∙ ap (λ ks. unless (faults_by (group_fault made (others_of s)) ks) (map (group_point made (others_of s)) ks)) keys
      ∙ ap (λ o. unless o (map (group_point made (others_of s)) (map (take n) d.points))) (no_faults d.points group keeps)
      ∙ ap Ok
      (map-map (group_point made (others_of s)) (take n) d.points
      ∙ map_same (λ q. group_point made (others_of s) (take n q)) (cells_at (places_in xs (columns_of s))) d.points
      (all_both IsAlone (Keeps (others_of s)) (λ q. group_point made (others_of s) (take n q) ≡ cells_at (places_in xs (columns_of s)) q) point_there d.points are_alone keeps))

  -- where all_each group has its values, these are the values of its point
  whole_values : (out : List Row) → aggregate_of p (grouped f names) d s ≡ Ok out → AllByRecursion (λ q. AllByRecursion (λ y. made y (take n q) ≡ Ok (cell_or_null (made y (take n q)))) (others_of s)) d.points
  whole_values out e =
      all_of_map (take n) (λ key. AllByRecursion (λ y. made y key ≡ Ok (cell_or_null (made y key))) (others_of s)) d.points
      (subst (AllByRecursion (λ key. AllByRecursion (λ y. made y key ≡ Ok (cell_or_null (made y key))) (others_of s))) keys (made_are (condition_of p (grouped f names) xs d.points) made (others_of s) (keys_by places d.points) out e).values)

pub least_by_identifiers : (p : Settings) (d : DataSet) (s : Structure) → IsAggregated (grouped agg.Min (names_of (identifiers_of d.structure))) d.structure s → IsDataSet d.structure d.points → aggregate_of p (grouped agg.Min (names_of (identifiers_of d.structure))) d s ≡ Ok (left_of d s)
least_by_identifiers p d s i h =
    by_identifiers p agg.Min d s (λ name. refl) i h
    (all_each (λ q. AllByRecursion (λ y. group_value p agg.Min (column_of (place_of y.name (columns_of d.structure)) q ∷ []) ≡ Ok (column_of (place_of y.name (columns_of d.structure)) q)) (others_of s))
    (λ q. all_each (λ y. group_value p agg.Min (column_of (place_of y.name (columns_of d.structure)) q ∷ []) ≡ Ok (column_of (place_of y.name (columns_of d.structure)) q)) (λ y. least_of_one p (column_of (place_of y.name (columns_of d.structure)) q)) (others_of s)) d.points)

pub greatest_by_identifiers : (p : Settings) (d : DataSet) (s : Structure) → IsAggregated (grouped agg.Max (names_of (identifiers_of d.structure))) d.structure s → IsDataSet d.structure d.points → aggregate_of p (grouped agg.Max (names_of (identifiers_of d.structure))) d s ≡ Ok (left_of d s)
greatest_by_identifiers p d s i h =
    by_identifiers p agg.Max d s (λ name. refl) i h
    (all_each (λ q. AllByRecursion (λ y. group_value p agg.Max (column_of (place_of y.name (columns_of d.structure)) q ∷ []) ≡ Ok (column_of (place_of y.name (columns_of d.structure)) q)) (others_of s))
    (λ q. all_each (λ y. group_value p agg.Max (column_of (place_of y.name (columns_of d.structure)) q ∷ []) ≡ Ok (column_of (place_of y.name (columns_of d.structure)) q)) (λ y. greatest_of_one p (column_of (place_of y.name (columns_of d.structure)) q)) (others_of s)) d.points)

pub sum_by_identifiers : (p : Settings) (d : DataSet) (s : Structure) → IsAggregated (grouped agg.Sum (names_of (identifiers_of d.structure))) d.structure s → IsDataSet d.structure d.points → IfOk (aggregate_of p (grouped agg.Sum (names_of (identifiers_of d.structure))) d s) (λ out. out ≡ left_of d s)
sum_by_identifiers p d s i h = go (aggregate_of p (grouped agg.Sum (names_of (identifiers_of d.structure))) d s) refl
  where
    xs : List Component
    xs = columns_of d.structure

    spec : AggTree
    spec = grouped agg.Sum (names_of (identifiers_of d.structure))

    cell : Component → Row → Cell
    cell y q = column_of (place_of y.name xs) q

    addable : (q : Row) → is_point xs q ≡ true → (ys : List Component) → AllByRecursion (λ y. option_and_then (λ x. aggregate_kind agg.Sum x.kind) (component_of y.name xs) ≡ Some y.kind) ys → AllByRecursion (λ y. IsAddable (cell y q)) ys
    addable q w [] all = tt
    addable q w (y ∷ ys) all =
        let found = then_some (component_of y.name xs) (λ x. aggregate_kind agg.Sum x.kind) y.kind all.0 in
        (added found.0.kind y.kind (cell y q) found.2 (found_cell y.name found.0 xs q found.1 w).0, addable q w ys all.1)

    kept : (q : Row) (ys : List Component) → points_with (places_named (names_of (identifiers_of d.structure)) xs) d.points (take (key_width d.structure) q) ≡ q ∷ [] → AllByRecursion (λ y. IsAddable (cell y q)) ys
        → AllByRecursion (λ y. made_of p spec xs d.points y (take (key_width d.structure) q) ≡ Ok (cell_or_null (made_of p spec xs d.points y (take (key_width d.structure) q)))) ys → AllByRecursion (λ y. group_value p agg.Sum (cell y q ∷ []) ≡ Ok (cell y q)) ys
    kept q [] e add all = tt
    kept q (y ∷ ys) e add all =
        let w = cell_or_null (made_of p spec xs d.points y (take (key_width d.structure) q)) in
        let sum : group_value p agg.Sum (cell y q ∷ []) ≡ Ok w = sym (one_value p agg.Sum d s (λ name. refl) i h y q e) ∙ all.0 in
        (sum ∙ ap Ok (sum_of_one p (cell y q) w add.0 sum), kept q ys e add.1 all.1)

    go : (m : Outcome (List Row)) → aggregate_of p spec d s ≡ m → IfOk m (λ out. out ≡ left_of d s)
    go (Err g) e = tt
    go (Ok out) e =
        let keeps = all_both (λ q. IsAlone p agg.Sum d s (λ name. refl) i h q) (λ q. AllByRecursion (λ y. made_of p spec xs d.points y (take (key_width d.structure) q) ≡ Ok (cell_or_null (made_of p spec xs d.points y (take (key_width d.structure) q)))) (others_of s)) (λ q. AllByRecursion (λ y. group_value p agg.Sum (cell y q ∷ []) ≡ Ok (cell y q)) (others_of s))
        (λ q alone all. kept q (others_of s) alone.1 (addable q alone.0 (others_of s) i.columns) all) d.points (are_alone p agg.Sum d s (λ name. refl) i h) (whole_values p agg.Sum d s (λ name. refl) i h out e) in
        let same : Ok out ≡ Ok (left_of d s) = sym e ∙ by_identifiers p agg.Sum d s (λ name. refl) i h keeps in
        cc same
