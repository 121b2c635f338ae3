-- The value of a measure at a code, in a group of points: of the points with the values of the other identifiers at most one has it.
use Rattle.std.proofs.Common.{◌≡◌, ℕ, Bool, true, false, not, ◌&&◌, cond, List, [], ◌∷◌, map, take, Option, Some, None, Ok, refl, ap, sym, ◌∙◌, subst}
use Rattle.std.specs.List.{AllByRecursion, filter, find}
use Rattle.std.specs.Option.{option_map_or, option_to_list}
use Rattle.std.proofs.lemmas.Bool.{and_parts}
use Rattle.vtl_lists.specs.Sorting.{insert_by, le_by, sorted_by}
use Rattle.vtl_tuples.proofs.Lists.{filter_each}
use Rattle.vtl_cell.specs.Groups.{aggregate, group_value, values_of}
use Rattle.vtl_cell.specs.Kinds.{is_null}
use Rattle.vtl_cell.specs.Order.{cell_cmp, same_cell}
use Rattle.vtl_cell.specs.Outcome.{Outcome, fault_in, faults_by, unless}
use Rattle.vtl_cell.specs.Row.{Row, column_of, same_key, same_row}
use Rattle.vtl_decimal.specs.Settings.{Settings}
use Rattle.vtl_cell.specs.declared.cell.Cell.{Cell}
use Rattle.vtl_cell.specs.declared.cell.Cell.TheVariants as c
use Rattle.vtl_cell.specs.declared.operator.AggKind.TheVariants as agg
use Rattle.vtl_cell.proofs.Cells.{same_cell-is}
use Rattle.vtl_cell.proofs.Rows.{same_row-is, same_row-refl}
use Rattle.vtl_scalar.proofs.NullLemmas.{null_is}
use Rattle.vtl_rows.specs.Tables.{cells_at}
use Rattle.vtl_tree.specs.DataSet.{IsDataSet, is_point}
use Rattle.vtl_tree.specs.Structure.{columns_of, key_width}
use Rattle.vtl_tree.specs.declared.structure.Structure.{Structure}
use Rattle.vtl_meaning.specs.Agreement.{values_in}
use Rattle.vtl_tree.specs.Columns.{identifiers_of, places_in}
use Rattle.vtl_meaning.specs.LookUps.{value_named}
use Rattle.vtl_meaning.specs.Turned.{is_coded, other_identifiers}
use Rattle.vtl_meaning.proofs.JoinAgreements.{only_one}
use Rattle.vtl_meaning.proofs.Kept.{alike_cells}
use Rattle.vtl_meaning.proofs.Places.{key_cells, key_within}
use Rattle.vtl_meaning.proofs.TurnedKept.{others_are}
use Rattle.vtl_meaning.proofs.TurnedOrders.{alike_others}
use Rattle.vtl_meaning.proofs.LookUps.{named_cells}
use Rattle.sql_meaning.specs.Outcomes.{all_values, cell_or_null}

-- ---- lists

filtered_twice : {X : Type 0} (p q : X → Bool) (xs : List X) → filter q (filter p xs) ≡ filter (λ x. p x && q x) xs
filtered_twice p q [] = refl
filtered_twice p q (x ∷ xs) = go (p x) (filtered_twice p q xs)
  where
    go : (b : Bool) → filter q (filter p xs) ≡ filter (λ y. p y && q y) xs → filter q (cond b (x ∷ filter p xs) (filter p xs)) ≡ cond (b && q x) (x ∷ filter (λ y. p y && q y) xs) (filter (λ y. p y && q y) xs)
    go true ih = ap (λ l. cond (q x) (x ∷ l) l) ih
    go false ih = ih

-- an expression that has these values at the rows of a group
pub all_there : (P : Row → Type 0) (f : Row → Outcome Cell) (g : Row → Cell) → ((r : Row) → P r → f r ≡ Ok (g r)) → (rows : List Row) → AllByRecursion P rows → all_values f rows ≡ Ok (map g rows)
all_there P f g h rows all = ap (λ z. unless z (map (λ r. cell_or_null (f r)) rows)) (none rows all) ∙ ap Ok (cells rows all)
  where
    none : (l : List Row) → AllByRecursion P l → faults_by (λ r. fault_in (f r)) l ≡ None
    none [] i = refl
    none (r ∷ l) i = rw (h r i.0) (none l i.1)

    cells : (l : List Row) → AllByRecursion P l → map (λ r. cell_or_null (f r)) l ≡ map g l
    cells [] i = refl
    cells (r ∷ l) i = ap (λ m. cell_or_null m ∷ map (λ q. cell_or_null (f q)) l) (h r i.0) ∙ ap (λ m. g r ∷ m) (cells l i.1)

-- ---- the greatest of values of which at most one is there

-- the value of the rows with the code, and null of the others
abbrev pub case_of : (Row → Bool) → (Row → Cell) → Row → Cell
case_of coded value r = cond (coded r) (value r) c.Null

values_of_cases : (coded : Row → Bool) (value : Row → Cell) (rows : List Row) → values_of (map (case_of coded value) rows) ≡ values_of (map value (filter coded rows))
values_of_cases coded value [] = refl
values_of_cases coded value (r ∷ rows) = go (coded r) (values_of_cases coded value rows)
  where
    go : (b : Bool) → values_of (map (case_of coded value) rows) ≡ values_of (map value (filter coded rows)) → values_of (cond b (value r) c.Null ∷ map (case_of coded value) rows) ≡ values_of (map value (cond b (r ∷ filter coded rows) (filter coded rows)))
    go true ih = ap (λ l. cond (not (is_null (value r))) (value r ∷ l) l) ih
    go false ih = ih

greatest_of_one : (p : Settings) (v : Cell) → group_value p agg.Max (v ∷ []) ≡ Ok v
greatest_of_one p v = go (is_null v) refl
  where
    go : (b : Bool) → is_null v ≡ b → group_value p agg.Max (v ∷ []) ≡ Ok v
    go true e = ap (λ x. group_value p agg.Max (x ∷ [])) (null_is v e) ∙ ap Ok (sym (null_is v e))
    go false e = rw e refl

greatest_of_cases : (p : Settings) (coded : Row → Bool) (value : Row → Cell) (rows : List Row) (o : Option Row) → filter coded rows ≡ option_to_list o → group_value p agg.Max (map (case_of coded value) rows) ≡ Ok (option_map_or value o c.Null)
greatest_of_cases p coded value rows o one = ap (λ l. aggregate p agg.Max l) (values_of_cases coded value rows) ∙ ap (λ l. group_value p agg.Max (map value l)) one ∙ go o
  where
    go : (q : Option Row) → group_value p agg.Max (map value (option_to_list q)) ≡ Ok (option_map_or value q c.Null)
    go None = refl
    go (Some r) = greatest_of_one p (value r)

-- ---- the least of values that are all true

abbrev IsTrue : Cell → Type 0
IsTrue v = v ≡ c.Bool true

inserted_true : (le : Cell → Cell → Bool) (x : Cell) (xs : List Cell) → IsTrue x → AllByRecursion IsTrue xs → AllByRecursion IsTrue (insert_by le x xs)
inserted_true le x [] h all = (h, tt)
inserted_true le x (y ∷ ys) h all = go (le x y) (inserted_true le x ys h all.1)
  where
    go : (b : Bool) → AllByRecursion IsTrue (insert_by le x ys) → AllByRecursion IsTrue (cond b (x ∷ y ∷ ys) (y ∷ insert_by le x ys))
    go true ih = (h, all)
    go false ih = (all.0, ih)

sorted_true : (le : Cell → Cell → Bool) (xs : List Cell) → AllByRecursion IsTrue xs → AllByRecursion IsTrue (sorted_by le xs)
sorted_true le [] all = tt
sorted_true le (x ∷ xs) all = inserted_true le x (sorted_by le xs) all.0 (sorted_true le xs all.1)

first_true : (le : Cell → Cell → Bool) (x : Cell) (xs : List Cell) → IsTrue x → AllByRecursion IsTrue xs → IsTrue (column_of 0 (insert_by le x xs))
first_true le x [] h all = h
first_true le x (y ∷ ys) h all = go (le x y)
  where
    go : (b : Bool) → IsTrue (column_of 0 (cond b (x ∷ y ∷ ys) (y ∷ insert_by le x ys)))
    go true = h
    go false = all.0

-- null of no rows
abbrev pub truth_of : List Row → Cell
truth_of [] = c.Null
truth_of (r ∷ rows) = c.Bool true

pub least_truth : (p : Settings) (rows : List Row) → group_value p agg.Min (map (λ r. c.Bool true) rows) ≡ Ok (truth_of rows)
least_truth p [] = refl
least_truth p (r ∷ rows) = ap Ok (first_true (le_by cell_cmp) (c.Bool true) (sorted_by (le_by cell_cmp) (values_of (map (λ q. c.Bool true) rows))) refl (sorted_true (le_by cell_cmp) (values_of (map (λ q. c.Bool true) rows)) (all rows)))
  where
    all : (l : List Row) → AllByRecursion IsTrue (values_of (map (λ q. c.Bool true) l))
    all [] = tt
    all (q ∷ l) = (refl, all l)

-- ---- at most one point has the values of the other identifiers and the code

module _ (a : Structure) (id : List ℕ) (d : List Row) (h : IsDataSet a d) (key : Row) (code : List ℕ) where
  one_key : (r t : Row) → is_point (columns_of a) r ≡ true → is_point (columns_of a) t ≡ true → is_coded a id key code r ≡ true → is_coded a id key code t ≡ true → same_key (key_width a) r t ≡ true
  one_key r t i j e f =
      let ids = other_identifiers id a in
      let left = and_parts (same_row (values_in a ids r) key) (same_cell (value_named (columns_of a) r id) (c.Text code)) e in
      let right = and_parts (same_row (values_in a ids t) key) (same_cell (value_named (columns_of a) t id) (c.Text code)) f in
      let others : values_in a ids r ≡ values_in a ids t = same_row-is (values_in a ids r) key left.0 ∙ sym (same_row-is (values_in a ids t) key right.0) in
      let one : value_named (columns_of a) r id ≡ value_named (columns_of a) t id = same_cell-is (value_named (columns_of a) r id) (c.Text code) left.1 ∙ sym (same_cell-is (value_named (columns_of a) t id) (c.Text code) right.1) in
      let all = alike_others id (columns_of a) r t (identifiers_of a) one (subst (λ ys. values_in a ys r ≡ values_in a ys t) (others_are id a.components) others) in
      let keys : take (key_width a) r ≡ take (key_width a) t =
      sym (key_cells a a r h.well_formed (refl, refl) (key_within a r i)) ∙ alike_cells (columns_of a) r t (identifiers_of a) all ∙ key_cells a a t h.well_formed (refl, refl) (key_within a t j) in
      ap (same_row (take (key_width a) r)) (sym keys) ∙ same_row-refl (take (key_width a) r)

  abbrev has_code : Row → Bool
  has_code r = same_cell (value_named (columns_of a) r id) (c.Text code)

  abbrev group : List Row
  group = filter (λ r. same_row (cells_at (places_in (columns_of a) (other_identifiers id a)) r) key) d

  only_coded : filter has_code group ≡ option_to_list (find (is_coded a id key code) d)
  only_coded =
      filtered_twice (λ r. same_row (cells_at (places_in (columns_of a) (other_identifiers id a)) r) key) has_code d
      ∙ filter_each (λ r. same_row (cells_at (places_in (columns_of a) (other_identifiers id a)) r) key && has_code r) (is_coded a id key code) (λ r. ap (λ l. same_row l key && has_code r) (named_cells (columns_of a) (other_identifiers id a) r)) d
      ∙ only_one (λ r. is_point (columns_of a) r ≡ true) (same_key (key_width a)) (is_coded a id key code) d h.typed h.distinct one_key

  pub greatest_coded : (p : Settings) (value : Row → Cell) → group_value p agg.Max (map (case_of has_code value) group) ≡ Ok (option_map_or value (find (is_coded a id key code) d) c.Null)
  greatest_coded p value = greatest_of_cases p has_code value group (find (is_coded a id key code) d) only_coded
