-- `having` is a filter of the same aggregates.
use Rattle.std.specs.Prelude.{IfOk}
use Rattle.std.specs.List.{AllByRecursion, filter, position_or_len}
use Rattle.std.specs.Option.{option_map_or}
use Rattle.std.proofs.Common.{◌≡◌, ℕ, zero, suc, Bool, true, false, ◌||◌, List, [], ◌∷◌, ◌++◌, map, length, Option, Some, None, Ok, Err, refl, sym, ap, ◌∙◌, subst, true≢false, arith}
use Rattle.std.proofs.lemmas.Cmp.{nat_list_eq_equiv}
use Rattle.std.proofs.lemmas.List.{append-nil}
use Rattle.std.proofs.lemmas.Slice.Eq.{bytes_eq-Decides}
use Rattle.vtl_lists.proofs.Sorts.{AllByRecursion-filter}
use Rattle.vtl_lists.proofs.Alls.{all_both, all_more}
use Rattle.vtl_cell.specs.Outcome.{Outcome, fault_in, faults_by, join, unless}
use Rattle.vtl_cell.specs.Outcomes.{is_true}
use Rattle.vtl_cell.specs.Row.{Row, column_of}
use Rattle.vtl_cell.specs.declared.cell.Cell.{Cell}
use Rattle.vtl_cell.specs.declared.cell.Cell.TheVariants.{Null}
use Rattle.vtl_decimal.specs.Settings.{Settings}
use Rattle.vtl_decimal.specs.declared.number.Fault.{Fault}
use Rattle.vtl_tree.specs.Clauses.{filter_of}
use Rattle.vtl_tree.specs.Columns.{identifiers_of, others_of, place_of}
use Rattle.vtl_tree.specs.CompExp.{CompExp, CompExps, aggregate, call, column, comp_exp, const, no_comp_exps}
use Rattle.vtl_tree.specs.DataSet.{IsDataSet, is_point}
use Rattle.vtl_tree.specs.Environment.{DataSet}
use Rattle.vtl_tree.specs.Names.{is_among}
use Rattle.vtl_tree.specs.Structure.{columns_of, names_of, same_name}
use Rattle.vtl_tree.specs.Value.{called, value, values}
use Rattle.vtl_tree.specs.declared.specifications.AggItems.TheVariants as items
use Rattle.vtl_tree.specs.declared.specifications.AggTarget.{AggTarget}
use Rattle.vtl_tree.specs.declared.structure.Component.{Component}
use Rattle.vtl_tree.specs.declared.structure.Structure.{Structure}
use Rattle.vtl_tree.proofs.Faults.{join_none}
use Rattle.vtl_tuples.proofs.Lists.{filter-map, filter_same}
use Rattle.vtl_meaning.specs.Aggregates.{Condition, Made, aggregate_of, call_for, condition_of, each_group, group_fault, group_point, made_of}
use Rattle.vtl_meaning.specs.AggregateShapes.{IsAggregated}
use Rattle.vtl_meaning.specs.GroupExpressions.{aggregated, grouped_cell, value_at_group, values_over}
use Rattle.vtl_meaning.specs.Groups.{keys_by, places_named, points_with}
use Rattle.vtl_meaning.specs.Points.{cell_or_null}
use Rattle.vtl_meaning.proofs.GroupPoints.{keys_are}
use Rattle.vtl_meaning.proofs.Places.{point_length, columns_split}
use Rattle.vtl_aggregate_laws.specs.Filters.{AreFiltersOf, IsFilterOf, targets_where}
use Rattle.vtl_aggregate_laws.proofs.ColumnCells.{behind, by_name}
use Rattle.vtl_aggregate_laws.proofs.Evaluated.{IsValue, faults_same, made_are}

-- ---- the cell of a grouping identifier
key_cell : (name : List ℕ) (ids more : List Component) (key rest : Row) → length key ≡ length ids → is_among name (names_of ids) ≡ true → column_of (place_of name (ids ++ more)) (key ++ rest) ≡ column_of (position_or_len (same_name name) (names_of ids)) key
key_cell name [] more key rest n e = absurd (true≢false (sym e))
key_cell name (x ∷ ids) more [] rest n e = absurd (omega (arith, n))
key_cell name (x ∷ ids) more (v ∷ key) rest n e = go (same_name x.name name) refl e (key_cell name ids more key rest (omega (arith, n)))
  where
    turned : same_name name x.name ≡ same_name x.name name
    turned = nat_list_eq_equiv.symm name x.name

    go : (b : Bool) → same_name x.name name ≡ b → (b || is_among name (names_of ids)) ≡ true → (is_among name (names_of ids) ≡ true → column_of (place_of name (ids ++ more)) (key ++ rest) ≡ column_of (position_or_len (same_name name) (names_of ids)) key)
        → column_of (place_of name (x ∷ (ids ++ more))) (v ∷ (key ++ rest)) ≡ column_of (position_or_len (same_name name) (x.name ∷ names_of ids)) (v ∷ key)
    go true f h ih =
        let left : place_of name (x ∷ (ids ++ more)) ≡ zero = rw f refl in
        let other : same_name name x.name ≡ true = turned ∙ f in
        let right : position_or_len (same_name name) (x.name ∷ names_of ids) ≡ zero = rw other refl in
        ap (λ i. column_of i (v ∷ (key ++ rest))) left ∙ sym (ap (λ i. column_of i (v ∷ key)) right)
    go false f h ih =
        let left : place_of name (x ∷ (ids ++ more)) ≡ suc (place_of name (ids ++ more)) = rw f (omega arith) in
        let other : same_name name x.name ≡ false = turned ∙ f in
        let right : position_or_len (same_name name) (x.name ∷ names_of ids) ≡ suc (position_or_len (same_name name) (names_of ids)) = rw other (omega arith) in
        ap (λ i. column_of i (v ∷ (key ++ rest))) left ∙ ih h ∙ sym (ap (λ i. column_of i (v ∷ key)) right)

-- what holds of the names of columns holds of a name among them
pub at_name : (P : List ℕ → Type 0) (name : List ℕ) (ys : List Component) → AllByRecursion (λ y. P y.name) ys → is_among name (names_of ys) ≡ true → P name
at_name P name [] all e = absurd (true≢false (sym e))
at_name P name (y ∷ ys) all e = go (same_name y.name name) refl e (at_name P name ys all.1)
  where
    go : (b : Bool) → same_name y.name name ≡ b → (b || is_among name (names_of ys)) ≡ true → (is_among name (names_of ys) ≡ true → P name) → P name
    go true f h ih = subst P ((bytes_eq-Decides y.name name).0 f) all.0
    go false f h ih = ih h

-- ---- the condition at a group and at its point
module _ (p : Settings) (ts : List AggTarget) (names : List (List ℕ)) (d : DataSet) (s : Structure) (i : IsAggregated (targets_where ts names None) d.structure s) where
  abbrev xs : List Component
  xs = columns_of d.structure

  abbrev points_of : Row → List Row
  points_of key = points_with (places_named names xs) d.points key

  abbrev made : Made
  made = made_of p (targets_where ts names None) xs d.points

  abbrev value_named : Row → List ℕ → Outcome Cell
  value_named key name = option_map_or (λ a. aggregated p xs a.kind a.component (points_of key)) (call_for (items.Targets ts) name) (Ok Null)

  abbrev point : Row → Row
  point key = group_point made (others_of s) key

  abbrev IsWhole : Row → Type 0
  IsWhole key = AllByRecursion (λ y. IsValue (made y key)) (others_of s)

  module _ (key : Row) (long : length key ≡ length (identifiers_of s)) (all : IsWhole key) where
    target_cell : (name : List ℕ) → is_among name (names_of (identifiers_of s)) ≡ false → is_among name (names_of (others_of s)) ≡ true → column_of (place_of name (columns_of s)) (point key) ≡ cell_or_null (value_named key name)
    target_cell name lacks other =
        let g : List ℕ → Cell = λ n. cell_or_null (value_named key n) in
        let vs = map (λ y. g y.name) (others_of s) in
        ap (λ zs. column_of (place_of name zs) (key ++ vs)) (columns_split s) ∙ behind name (identifiers_of s) (others_of s) key vs long lacks
        ∙ ap (λ zs. column_of (place_of name zs) vs) (sym (append-nil (others_of s))) ∙ ap (column_of (place_of name (others_of s ++ []))) (sym (append-nil vs)) ∙ by_name g name (others_of s) [] [] other

    mutual
      same_value : (e f : CompExp) → IsFilterOf ts s e f → value_at_group p names xs e key (points_of key) ≡ value p f (point key)
      same_value (column place name kind) f h =
          ap (λ ns. Ok (column_of (position_or_len (same_name name) ns) key)) (sym i.grouping)
          ∙ sym (ap (λ zs. Ok (column_of (place_of name zs) (point key))) (columns_split s) ∙ ap Ok (key_cell name (identifiers_of s) (others_of s) key (map (λ y. cell_or_null (made y key)) (others_of s)) long h.0))
          ∙ sym (ap (λ z. value p z (point key)) h.1)
      same_value (const v) f h = sym (ap (λ z. value p z (point key)) h)
      same_value (call o kind args) f h = ap (λ ms. called p kind ms o) (same_values args h.0 h.2) ∙ sym (ap (λ z. value p z (point key)) h.1)
      same_value (aggregate a kind) f h =
          let name = h.0 in
          let found : value_named key name ≡ aggregated p xs a.kind a.component (points_of key) = ap (λ call. option_map_or (λ b. aggregated p xs b.kind b.component (points_of key)) call (Ok Null)) h.1.call in
          sym found ∙ at_name (λ n. IsValue (value_named key n)) name (others_of s) all h.1.other ∙ ap Ok (sym (target_cell name h.1.no_identifier h.1.other)) ∙ sym (ap (λ z. value p z (point key)) h.2)

      same_values : (es fs : CompExps) → AreFiltersOf ts s es fs → values_over p (grouped_cell names key) (λ b. aggregated p xs b.kind b.component (points_of key)) es ≡ values p fs (point key)
      same_values no_comp_exps no_comp_exps h = refl
      same_values no_comp_exps (comp_exp f fs) h = absurd h
      same_values (comp_exp e es) no_comp_exps h = absurd h
      same_values (comp_exp e es) (comp_exp f fs) h = ap (λ m. m ∷ values_over p (grouped_cell names key) (λ b. aggregated p xs b.kind b.component (points_of key)) es) (same_value e f h.0) ∙ ap (λ l. value p f (point key) ∷ l) (same_values es fs h.1)

-- ---- the groups that are kept
faults_of_map : {X Y : Type 0} (f : Y → Option Fault) (g : X → Y) (xs : List X) → faults_by f (map g xs) ≡ faults_by (λ x. f (g x)) xs
faults_of_map f g [] = refl
faults_of_map f g (x ∷ xs) = ap (join (f (g x))) (faults_of_map f g xs)

whole_group : (at : Made) (ys : List Component) (key : Row) → AllByRecursion (λ y. IsValue (at y key)) ys → group_fault at ys key ≡ None
whole_group at [] key all = refl
whole_group at (y ∷ ys) key all = ap (λ m. join (fault_in m) (faults_by (λ z. fault_in (at z key)) ys)) all.0 ∙ whole_group at ys key all.1

whole_groups : (at : Made) (ys : List Component) (keys : List Row) → AllByRecursion (λ key. AllByRecursion (λ y. IsValue (at y key)) ys) keys → faults_by (group_fault at ys) keys ≡ None
whole_groups at ys [] all = refl
whole_groups at ys (key ∷ keys) all = ap (λ m. join m (faults_by (group_fault at ys) keys)) (whole_group at ys key all.0) ∙ whole_groups at ys keys all.1

pub having_is_filter : (p : Settings) (ts : List AggTarget) (names : List (List ℕ)) (e f : CompExp) (d : DataSet) (s : Structure) → IsAggregated (targets_where ts names None) d.structure s → IsFilterOf ts s e f → IsDataSet d.structure d.points
    → IfOk (aggregate_of p (targets_where ts names None) d s) (λ out. aggregate_of p (targets_where ts names (Some e)) d s ≡ filter_of p f out)
having_is_filter p ts names e f d s i is h = go (aggregate_of p (targets_where ts names None) d s) refl
  where
    xs : List Component
    xs = columns_of d.structure

    places : List ℕ
    places = places_named names xs

    keys : List Row
    keys = keys_by places d.points

    made : Made
    made = made_of p (targets_where ts names None) xs d.points

    at : Condition
    at = condition_of p (targets_where ts names None) xs d.points

    point : Row → Row
    point key = group_point made (others_of s) key

    filtered : (out : List Row) → each_group at None made (others_of s) keys ≡ Ok out → each_group at (Some e) made (others_of s) keys ≡ filter_of p f out
    filtered out g =
        let are = made_are at made (others_of s) keys out g in
        let kept = filter (λ key. is_true (at e key)) keys in
        let same : AllByRecursion (λ key. at e key ≡ value p f (point key)) keys =
        all_both (λ key. is_point (identifiers_of s) key ≡ true) (λ key. AllByRecursion (λ y. IsValue (made y key)) (others_of s)) (λ key. at e key ≡ value p f (point key))
        (λ key w all. same_value p ts names d s i key (point_length (identifiers_of s) key w) all e f is) keys (keys_are p (targets_where ts names None) d s i h) are.values in
        ap (λ m. unless (join (faults_by (λ key. fault_in (at e key)) keys) m) (map point kept)) (whole_groups made (others_of s) kept (AllByRecursion-filter (λ key. AllByRecursion (λ y. IsValue (made y key)) (others_of s)) (λ key. is_true (at e key)) keys are.values))
        ∙ ap (λ m. unless m (map point kept)) (join_none (faults_by (λ key. fault_in (at e key)) keys))
        ∙ ap (λ m. unless m (map point kept)) (faults_same (λ key. fault_in (at e key)) (λ key. fault_in (value p f (point key))) keys (all_more (λ key. at e key ≡ value p f (point key)) (λ key. fault_in (at e key) ≡ fault_in (value p f (point key))) (λ key g. ap fault_in g) keys same) ∙ sym (faults_of_map (λ r. fault_in (value p f r)) point keys))
        ∙ ap (unless (faults_by (λ r. fault_in (value p f r)) (map point keys)))
        (ap (map point) (filter_same (λ key. is_true (at e key)) (λ key. is_true (value p f (point key))) keys (all_more (λ key. at e key ≡ value p f (point key)) (λ key. is_true (at e key) ≡ is_true (value p f (point key))) (λ key g. ap is_true g) keys same))
        ∙ sym (filter-map (λ r. is_true (value p f r)) point keys))
        ∙ ap (filter_of p f) are.points

    go : (m : Outcome (List Row)) → each_group at None made (others_of s) keys ≡ m → IfOk m (λ out. each_group at (Some e) made (others_of s) keys ≡ filter_of p f out)
    go (Ok out) g = filtered out g
    go (Err z) g = tt
