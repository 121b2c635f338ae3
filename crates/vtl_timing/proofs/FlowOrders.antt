-- Differences do not see the order of points: no two points of a series have one time, so one point alone is the previous one.
use Rattle.std.proofs.Common.{◌≡◌, ⊎_elim, ℕ, zero, suc, ◌+◌, ◌<◌, Bool, true, false, not, cond, List, [], ◌∷◌, map, take, length, Ok, refl, sym, ap, ◌∙◌, subst, true≢false, arith, pos}
use Rattle.std.specs.Prelude.{if◌then◌else◌, find, option_to_list}
use Rattle.std.specs.List.{AllByRecursion, filter, list_all, position_or_len}
use Rattle.std.specs.Option.{option_map_or}
use Rattle.std.specs.Ordering.{is_le, is_lt}
use Rattle.std.specs.declared.cmp.Ordering.{Ordering}
use Rattle.std.specs.declared.cmp.Ordering.TheVariants.{Less, Equal, Greater}
use Rattle.std.proofs.lemmas.Bool.{and_parts}
use Rattle.vtl_lists.specs.Apart.{all_apart}
use Rattle.vtl_lists.specs.Perm.{Perm}
use Rattle.vtl_lists.proofs.Aparts.{all_apart-filter}
use Rattle.vtl_lists.proofs.Perms.{Perm-filter, Perm-map, list_all-Perm}
use Rattle.vtl_lists.proofs.Sorts.{AllByRecursion-filter}
use Rattle.vtl_lists.proofs.Alls.{all_both, all_kept}
use Rattle.vtl_decimal.specs.Settings.{Settings}
use Rattle.vtl_cell.specs.Order.{cell_cmp}
use Rattle.vtl_cell.specs.Outcome.{faults_by}
use Rattle.vtl_cell.specs.Outcomes.{Same}
use Rattle.vtl_cell.specs.Row.{Row, column_of, same_key, same_row}
use Rattle.vtl_cell.specs.declared.cell.Cell.{Cell}
use Rattle.vtl_cell.specs.declared.cell.Cell.TheVariants as c
use Rattle.vtl_cell.specs.declared.operator.ScalarOp.TheVariants as op
use Rattle.vtl_cell.proofs.Aggregates.{rising_order}
use Rattle.vtl_cell.proofs.Orders.{cell_cmp-ties}
use Rattle.vtl_cell.proofs.Rows.{same_row-is, same_row-refl}
use Rattle.vtl_rows.specs.Tables.{cells_at}
use Rattle.vtl_tree.specs.Columns.{identifiers_of, places_in}
use Rattle.vtl_tree.specs.DataSet.{IsDataSet, is_point}
use Rattle.vtl_tree.specs.Environment.{DataSet}
use Rattle.vtl_tree.specs.Measures.{is_measure}
use Rattle.vtl_tree.specs.Structure.{IsStructure, columns_of, key_width}
use Rattle.vtl_tree.specs.Value.{called}
use Rattle.vtl_tree.specs.declared.structure.Component.{Component}
use Rattle.vtl_tree.specs.declared.structure.Structure.{Structure}
use Rattle.vtl_tree.proofs.Faults.{Same_unless, faults_by-Perm}
use Rattle.vtl_meaning.specs.Aggregates.{Made, group_fault as point_fault}
use Rattle.vtl_meaning.specs.Agreement.{values_in}
use Rattle.vtl_meaning.specs.Analytics.{each_point as each_made, point_of}
use Rattle.vtl_meaning.specs.LookUps.{value_named}
use Rattle.vtl_meaning.proofs.AnalyticColumns.{identifier_cells}
use Rattle.vtl_meaning.proofs.JoinAgreements.{only_one}
use Rattle.vtl_meaning.proofs.JoinOrders.{find_respects}
use Rattle.vtl_timing.specs.Times.{HasTime, before, by_measure, flow_of, flow_value, in_one_series, is_time, other_identifiers, previous, series_of, time_of, time_place}

-- ---- lists
-- what holds of all of a list holds of each
each_of : {X : Type 0} (g : X → X → Bool) (xs ys : List X) → ((z : X) → list_all (λ w. g w z) ys ≡ true → list_all (λ w. g w z) xs ≡ true) → AllByRecursion (λ q. (z : X) → list_all (λ w. g w z) ys ≡ true → g q z ≡ true) xs
each_of g [] ys f = tt
each_of g (x ∷ xs) ys f =
    ((λ z e. (and_parts (g x z) (list_all (λ w. g w z) xs) (f z e)).0), each_of g xs ys (λ z e. (and_parts (g x z) (list_all (λ w. g w z) xs) (f z e)).1))

-- neither later than the other
pub one_time : (u v : Cell) → is_le (cell_cmp u v) ≡ true → is_le (cell_cmp v u) ≡ true → u ≡ v
one_time u v h i = go (cell_cmp u v) (cell_cmp v u) refl refl h i
  where
    go : (o w : Ordering) → cell_cmp u v ≡ o → cell_cmp v u ≡ w → is_le o ≡ true → is_le w ≡ true → u ≡ v
    go Equal w e f h i = cell_cmp-ties u v e
    go Less Equal e f h i = sym (cell_cmp-ties v u f)
    go Less Less e f h i = ⊎_elim (λ g. absurd (true≢false (sym g ∙ ap (λ z. not (is_lt z)) f))) (λ g. absurd (true≢false (sym g ∙ ap (λ z. not (is_lt z)) e))) (rising_order.total u v)
    go Less Greater e f h i = cc
    go Greater w e f h i = cc

-- ---- the time among the identifiers
no_time : (ys : List Component) → length (filter is_time ys) ≡ 0 → AllByRecursion (λ y. is_time y ≡ false) ys
no_time [] e = tt
no_time (y ∷ ys) e = go (is_time y) refl e (no_time ys)
  where
    go : (b : Bool) → is_time y ≡ b → length (cond b (y ∷ filter is_time ys) (filter is_time ys)) ≡ 0 → (length (filter is_time ys) ≡ 0 → AllByRecursion (λ z. is_time z ≡ false) ys) → (is_time y ≡ false) × AllByRecursion (λ z. is_time z ≡ false) ys
    go true t e ih = absurd (omega (arith, e))
    go false t e ih = (t, ih e)

abbrev At : (Component → Cell) → ℕ → List Component → Component → Type 0
At f place ys y = is_time y ≡ true → f y ≡ column_of place (map f ys)

none_at : (f : Component → Cell) (place : ℕ) (row : List Component) (ys : List Component) → AllByRecursion (λ y. is_time y ≡ false) ys → AllByRecursion (At f place row) ys
none_at f place row [] h = tt
none_at f place row (y ∷ ys) h = ((λ t. absurd (true≢false (sym t ∙ h.0))), none_at f place row ys h.1)

behind_first : (place : ℕ) (v : Cell) (r : Row) → column_of place r ≡ column_of (1 + place) (v ∷ r)
behind_first place v r = let e : 1 + place ≡ suc place = omega arith in rw e refl

later_at : (f : Component → Cell) (place : ℕ) (x : Component) (row ys : List Component) → AllByRecursion (At f place row) ys → AllByRecursion (At f (1 + place) (x ∷ row)) ys
later_at f place x row [] h = tt
later_at f place x row (y ∷ ys) h = ((λ t. h.0 t ∙ behind_first place (f x) (map f row)), later_at f place x row ys h.1)

-- the value of the time is the one at its place
pub time_at : (f : Component → Cell) (ys : List Component) → length (filter is_time ys) ≡ 1 → AllByRecursion (At f (position_or_len is_time ys) ys) ys × (position_or_len is_time ys < length ys)
time_at f [] e = absurd (omega (arith, e))
time_at f (y ∷ ys) e = go (is_time y) refl e (time_at f ys)
  where
    go : (b : Bool) → is_time y ≡ b → length (cond b (y ∷ filter is_time ys) (filter is_time ys)) ≡ 1
        → (length (filter is_time ys) ≡ 1 → AllByRecursion (At f (position_or_len is_time ys) ys) ys × (position_or_len is_time ys < length ys))
        → AllByRecursion (At f (cond (not b) (1 + position_or_len is_time ys) 0) (y ∷ ys)) (y ∷ ys) × (cond (not b) (1 + position_or_len is_time ys) 0 < length (y ∷ ys))
    go true t e ih = (((λ u. refl), none_at f 0 (y ∷ ys) ys (no_time ys (omega (arith, e)))), omega arith)
    go false t e ih =
        let i = ih e in
        let less : position_or_len is_time ys < length ys = i.1 in
        (((λ u. absurd (true≢false (sym u ∙ t))), later_at f (position_or_len is_time ys) y ys ys i.0), omega (arith, less))

pub front_cell : (i n : ℕ) (r : Row) → i < n → column_of i (take n r) ≡ column_of i r
front_cell i zero r h = absurd (omega (arith, h))
front_cell zero (suc n) [] h = refl
front_cell (suc i) (suc n) [] h = refl
front_cell zero (suc n) (v ∷ r) h = refl
front_cell (suc i) (suc n) (v ∷ r) h = front_cell i n r (omega (arith, h))

-- values of all columns from those of the times and of the others
both_same : (f g : Component → Cell) (ys : List Component) → map f (filter (λ y. not (is_time y)) ys) ≡ map g (filter (λ y. not (is_time y)) ys) → AllByRecursion (λ y. is_time y ≡ true → f y ≡ g y) ys → map f ys ≡ map g ys
both_same f g [] e h = refl
both_same f g (y ∷ ys) e h = go (is_time y) refl e (both_same f g ys)
  where
    go : (b : Bool) → is_time y ≡ b → map f (cond (not b) (y ∷ filter (λ z. not (is_time z)) ys) (filter (λ z. not (is_time z)) ys)) ≡ map g (cond (not b) (y ∷ filter (λ z. not (is_time z)) ys) (filter (λ z. not (is_time z)) ys))
        → (map f (filter (λ z. not (is_time z)) ys) ≡ map g (filter (λ z. not (is_time z)) ys) → AllByRecursion (λ z. is_time z ≡ true → f z ≡ g z) ys → map f ys ≡ map g ys) → f y ∷ map f ys ≡ g y ∷ map g ys
    go true t e ih = let one = h.0 t in let more = ih e h.1 in λ i. one i ∷ more i
    go false t e ih =
        let one : f y ≡ g y = cc in
        let rest : map f (filter (λ z. not (is_time z)) ys) ≡ map g (filter (λ z. not (is_time z)) ys) = cc in
        let more = ih rest h.1 in λ i. one i ∷ more i

pub cells_are_values : (xs ys : List Component) (r : Row) → cells_at (places_in xs ys) r ≡ map (λ y. value_named xs r y.name) ys
cells_are_values xs [] r = refl
cells_are_values xs (y ∷ ys) r = ap (λ l. value_named xs r y.name ∷ l) (cells_are_values xs ys r)

-- ---- points of one series at one time
module _ (a : Structure) (well : IsStructure a) (time : HasTime a) where
  abbrev xs : List Component
  xs = columns_of a

  abbrev at : Row → Component → Cell
  at r y = value_named xs r y.name

  whole_key : (r : Row) → is_point xs r ≡ true → map (at r) (identifiers_of a) ≡ take (key_width a) r
  whole_key r h = sym (cells_are_values xs (identifiers_of a) r) ∙ identifier_cells a r well h

  pub own_time : (r : Row) → is_point xs r ≡ true → column_of (time_place a) (map (at r) (identifiers_of a)) ≡ time_of a r
  own_time r h = ap (column_of (time_place a)) (whole_key r h) ∙ front_cell (time_place a) (key_width a) r (time_at (at r) (identifiers_of a) time).1

  pub keys_same : (r q t : Row) → is_point xs q ≡ true → is_point xs t ≡ true → in_one_series a r q ≡ true → in_one_series a r t ≡ true → time_of a q ≡ time_of a t → same_key (key_width a) q t ≡ true
  keys_same r q t hq ht sq st e =
      let ids = identifiers_of a in
      let others = other_identifiers a in
      let rest : (z : Row) → in_one_series a r z ≡ true → values_in a others z ≡ values_in a others r = λ z s. same_row-is (values_in a others z) (values_in a others r) (and_parts (same_row (values_in a others z) (values_in a others r)) _ s).0 in
      let timed = all_both (At (at q) (time_place a) ids) (At (at t) (time_place a) ids) (λ y. is_time y ≡ true → at q y ≡ at t y) (λ y f g u. f u ∙ own_time q hq ∙ e ∙ sym (own_time t ht) ∙ sym (g u)) ids (time_at (at q) ids time).0 (time_at (at t) ids time).0 in
      let whole = sym (whole_key q hq) ∙ both_same (at q) (at t) ids (rest q sq ∙ sym (rest t st)) timed ∙ whole_key t ht in
      ap (λ z. same_row z (take (key_width a) t)) whole ∙ same_row-refl (take (key_width a) t)

  -- ---- the previous point
  module _ (us vs : List Row) (h : IsDataSet a us) (q : Perm us vs) where
    abbrev first : DataSet
    first = record { structure = a; points = us }

    abbrev second : DataSet
    second = record { structure = a; points = vs }

    abbrev no_later : Row → Row → Bool
    no_later z x = is_le (cell_cmp (time_of a z) (time_of a x))

    abbrev is_last : List Row → Row → Bool
    is_last zs x = list_all (λ z. no_later z x) zs

    abbrev IsBefore : Row → Row → Type 0
    IsBefore r x = ((is_point xs x ≡ true) × (in_one_series a r x ≡ true)) × ((z : Row) → is_last (before first r) z ≡ true → no_later x z ≡ true)

    before_same : (r : Row) → Perm (before first r) (before second r)
    before_same r = Perm-filter (λ z. is_lt (cell_cmp (time_of a z) (time_of a r))) (Perm-filter (in_one_series a r) q)

    befores : (r : Row) → AllByRecursion (IsBefore r) (before first r)
    befores r =
        let B = before first r in
        all_both (λ x. (is_point xs x ≡ true) × (in_one_series a r x ≡ true)) (λ x. (z : Row) → is_last B z ≡ true → no_later x z ≡ true) (IsBefore r) (λ x i j. (i, j)) B
        (AllByRecursion-filter (λ x. (is_point xs x ≡ true) × (in_one_series a r x ≡ true)) _ (series_of first r) (all_kept (λ x. is_point xs x ≡ true) (in_one_series a r) us h.typed))
        (each_of no_later B B (λ z e. e))

    before_apart : (r : Row) → all_apart (same_key (key_width a)) (before first r) ≡ true
    before_apart r = all_apart-filter (same_key (key_width a)) _ (series_of first r) (all_apart-filter (same_key (key_width a)) (in_one_series a r) us h.distinct)

    last_alone : (r : Row) → filter (is_last (before first r)) (before first r) ≡ option_to_list (find (is_last (before first r)) (before first r))
    last_alone r =
        only_one (IsBefore r) (same_key (key_width a)) (is_last (before first r)) (before first r) (befores r) (before_apart r)
        (λ x z i j e f. keys_same r x z i.0.0 j.0.0 i.0.1 j.0.1 (one_time (time_of a x) (time_of a z) (i.1 z f) (j.1 x e)))

    pub previous_same : (r : Row) → previous first r ≡ previous second r
    previous_same r =
        find_respects (is_last (before first r)) (before first r) (before second r) (before_same r) (last_alone r)
        ∙ ap (λ test. find test (before second r)) (λ i x. list_all-Perm (λ z. no_later z x) (before_same r) i)

    value_same : (p : Settings) (y : Component) (r : Row) → flow_value p first y r ≡ flow_value p second y r
    value_same p y r = ap (λ o. called p y.kind (Ok (at r y) ∷ Ok (option_map_or (λ z. at z y) o (c.Int (pos 0))) ∷ []) op.Subtract) (previous_same r)

    made_respects : (made : Made) (ys : List Component) → Same (each_made made ys us) (each_made made ys vs)
    made_respects made ys = Same_unless (faults_by (point_fault made ys) us) (faults_by (point_fault made ys) vs) (map (point_of made ys) us) (map (point_of made ys) vs) (faults_by-Perm (point_fault made ys) q) (Perm-map (point_of made ys) q)

    pub flows_respect : (p : Settings) (s : Structure) → Same (flow_of p first s) (flow_of p second s)
    flows_respect p s =
        let same : by_measure (flow_value p first) a ≡ by_measure (flow_value p second) a = λ i y r. if is_measure y then value_same p y r i else Ok (value_named xs r y.name) in
        subst (λ made. Same (each_made (by_measure (flow_value p first) a) (columns_of s) us) (each_made made (columns_of s) vs)) same (made_respects (by_measure (flow_value p first) a) (columns_of s))
