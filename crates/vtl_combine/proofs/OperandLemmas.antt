-- Operands in the columns of a result.
use Rattle.std.proofs.Common.{◌≡◌, ℕ, ◌≤◌, List, [], ◌∷◌, ◌++◌, Bool, map, filter, take, drop, get_or, ◌-◌, length, sym, refl, ap, ◌∙◌, subst, arith, All}
use Rattle.std.specs.Borrow.{Bor}
use Rattle.std.specs.List.{AllByRecursion, flat_map, list_all, list_any, range_with_len}
use Rattle.std.proofs.lemmas.List.{length-map, take_all, take_at}
use Rattle.std.proofs.lemmas.List.Elements.{All-from_recursion, recursion_from_All}
use Rattle.std.proofs.lemmas.List.Folds.{list_all-map}
use Rattle.vtl_lists.proofs.Alls.{all_append, all_each as each}
use Rattle.vtl_lists.proofs.Sorts.{AllByRecursion-map}
use Rattle.vtl_lists.proofs.Filters.{list_any-map}
use Rattle.vtl_cell.specs.Row.{Row, column_of, same_key, same_row}
use Rattle.vtl_rows.specs.Places.{row_at}
use Rattle.vtl_rows.specs.Tables.{cells_at, column_at}
use Rattle.vtl_rows.specs.declared.column.Column.{Column}
use Rattle.vtl_index.specs.Seekers.{Sought, is_any_meant}
use Rattle.vtl_syntax.specs.declared.word_groups.Retain.{Retain}
use Rattle.vtl_tree.specs.DataSet.{IsDataSet}
use Rattle.vtl_tree.specs.Environment.{DataSet}
use Rattle.vtl_tree.specs.Shown.{shown}
use Rattle.vtl_tree.specs.Structure.{IsStructure, columns_of, key_width}
use Rattle.vtl_tree.specs.declared.structure.Component.{Component}
use Rattle.vtl_tree.specs.declared.structure.Structure.{Structure}
use Rattle.vtl_tuples.proofs.Lists.{filter-map, filter_each}
use Rattle.vtl_sets.specs.TableOf.{table_columns}
use Rattle.vtl_sets.proofs.ColumnLemmas.{few_keys}
use Rattle.vtl_tree.specs.Columns.{identifiers_of, others_of, place_of, places_in}
use Rattle.vtl_meaning.specs.Joined.{structures_of}
use Rattle.vtl_meaning.specs.Made.{AreCombined, IsAlternative, IsCombined}
use Rattle.vtl_meaning.specs.Operators.{left_of}
use Rattle.vtl_meaning.specs.Sets.{all_left_of, has_point, intersected, is_retained}
use Rattle.vtl_meaning.proofs.Kept.{shown_split}
use Rattle.vtl_meaning.proofs.SetsKept.{IsKeyed, alternative_tells, combined_is, has_any}
use Rattle.vtl_expr.proofs.ColumnPlaces.{chosen_columns}
use Rattle.vtl_combine.specs.Operands.{HasColumns, all_have, left_at, retained, retained_by, sought_by_key}
use Rattle.vtl_combine.proofs.RowLemmas.{chosen_rows}

-- ---- an operand has the columns of the result
pub has_columns : (s b : Structure) → IsKeyed s → IsAlternative s b s → HasColumns s b
has_columns s b w i = record { well_formed = w.0; columns = (alternative_tells b s w i).columns }

each_has : (s : Structure) (ds : List (Bor DataSet)) → IsKeyed s → AllByRecursion (λ b. IsAlternative s b s) (structures_of (shown ds)) → AllByRecursion (λ (d : Bor DataSet). HasColumns s d.now.structure) ds
each_has s [] w all = tt
each_has s (d ∷ ds) w all = (has_columns s d.now.structure w all.0, each_has s ds w all.1)

pub each_operand_has : (s : Structure) (ds : List (Bor DataSet)) → IsKeyed s → AllByRecursion (λ b. IsAlternative s b s) (structures_of (shown ds)) → All (λ (d : Bor DataSet). HasColumns s d.now.structure) ds
each_operand_has s ds w all = All-from_recursion (λ (d : Bor DataSet). HasColumns s d.now.structure) ds (each_has s ds w all)

pub left_columns : (s a : Structure) (columns : List Column) (places : List ℕ) → HasColumns s a → columns ≡ table_columns a → places ≡ places_in (columns_of a) (columns_of s) → map (column_at columns) places ≡ table_columns s
left_columns s a columns places has cs ps = ap (λ (l : List Column). map (column_at l) places) cs ∙ ap (map (column_at (table_columns a))) ps ∙ chosen_columns (columns_of a) (columns_of s) has.columns

-- of a list of operands
pub combined_have : (ds : List (Bor DataSet)) (s : Structure) → AreCombined (structures_of (shown ds)) s → All (λ (d : Bor DataSet). HasColumns s d.now.structure) ds
combined_have [] s i = absurd i
combined_have (d ∷ ds) s i = each_operand_has s (d ∷ ds) (combined_is d.now.structure (structures_of (shown ds)) s i) i.operands

pub combined_made : (ss : List Structure) (s : Structure) → AreCombined ss s → IsStructure s
combined_made [] s i = absurd i
combined_made (a ∷ ss) s i = i.well_formed

-- the first operand, and the others behind it
others_are : (d : Bor DataSet) (ds : List (Bor DataSet)) → take (length (d ∷ ds) - 1) (drop 1 (d ∷ ds)) ≡ ds
others_are d ds = take_all (length (d ∷ ds) - 1) ds (omega arith)

pub first_and_others : (ds : List (Bor DataSet)) (d : Bor DataSet) (s : Structure) → AreCombined (structures_of (shown ds)) s → d ≡ get_or ds 0 d → d.now ∷ shown (take (length ds - 1) (drop 1 ds)) ≡ shown ds
first_and_others [] d s i at = absurd i
first_and_others (e ∷ ds) d s i at = ap (λ (z : Bor DataSet). z.now ∷ shown (take (length (e ∷ ds) - 1) (drop 1 (e ∷ ds)))) at ∙ ap (λ (l : List (Bor DataSet)). e.now ∷ shown l) (others_are e ds)

pub others_combined : (ds : List (Bor DataSet)) (d : Bor DataSet) (s : Structure) → AreCombined (structures_of (shown ds)) s → d ≡ get_or ds 0 d → IsCombined d.now.structure (structures_of (shown (take (length ds - 1) (drop 1 ds)))) s
others_combined ds d s i at = subst (λ l. AreCombined (structures_of l) s) (sym (first_and_others ds d s i at)) i

-- ---- its points by the identifiers of the result
cells_count : (xs ys : List Component) (r : Row) → length (cells_at (places_in xs ys) r) ≡ length ys
cells_count xs ys r = length-map (places_in xs ys) (λ i. column_of i r) ∙ length-map ys (λ y. place_of y.name xs)

pub key_shown : (xs : List Component) (s : Structure) (r : Row) → take (key_width s) (cells_at (places_in xs (columns_of s)) r) ≡ cells_at (places_in xs (identifiers_of s)) r
key_shown xs s r =
    ap (take (key_width s)) (shown_split xs s r)
    ∙ take_at (cells_at (places_in xs (identifiers_of s)) r) (cells_at (places_in xs (others_of s)) r) (key_width s) (cells_count xs (identifiers_of s) r)

-- one that asks at the places of its identifiers finds a point with the same ones
pub asked_is : (d e : DataSet) (s : Structure) (r : Row)
    → list_any (λ q. same_row (cells_at (places_in (columns_of e.structure) (identifiers_of s)) q) (cells_at (places_in (columns_of d.structure) (identifiers_of s)) r)) e.points
    ≡ has_point (key_width s) (left_of e s) (cells_at (places_in (columns_of d.structure) (columns_of s)) r)
asked_is d e s r =
    let n = key_width s in
    let xs = columns_of d.structure in
    let ys = columns_of e.structure in
    let q = cells_at (places_in xs (columns_of s)) r in
    sym (has_any n (left_of e s) q ∙ list_any-map (λ z. same_key n z q) (cells_at (places_in ys (columns_of s))) e.points
    ∙ ap (λ (f : Row → Bool). list_any f e.points) (λ j z. same_row (key_shown ys s z j) (key_shown xs s r j)))

pub retained_is : (kept : Retain) (d e : DataSet) (s : Structure) (x : Sought) (rows : List Row) (is : List ℕ) → x ≡ sought_by_key d e s → rows ≡ d.points → retained_by kept x rows is ≡ retained kept d e s is
retained_is kept d e s x rows is found at =
    ap (λ (y : Sought). retained_by kept y rows is) found
    ∙ ap (λ (l : List Row). retained_by kept (sought_by_key d e s) l is) at
    ∙ filter_each (λ i. is_retained kept (is_any_meant (sought_by_key d e s) (row_at d.points i))) (λ i. is_retained kept (has_point (key_width s) (left_of e s) (left_at d s i))) (λ i. ap (is_retained kept) (asked_is d e s (row_at d.points i))) is

-- ---- the points that pass a test
pub chosen_left : (d : DataSet) (s : Structure) (p : Row → Bool) → map (left_at d s) (filter (λ i. p (left_at d s i)) (range_with_len 0 (length d.points))) ≡ filter p (left_of d s)
chosen_left d s p =
    let f : Row → Row = cells_at (places_in (columns_of d.structure) (columns_of s)) in
    chosen_rows f (λ r. p (f r)) d.points ∙ sym (filter-map p f d.points)

pub chosen_by_all : (d : DataSet) (es : List DataSet) (s : Structure) → map (left_at d s) (filter (all_have d es s) (range_with_len 0 (length d.points))) ≡ intersected (key_width s) (left_of d s) (all_left_of es s)
chosen_by_all d es s =
    let n = key_width s in
    chosen_left d s (λ r. list_all (λ e. has_point n (left_of e s) r) es)
    ∙ filter_each (λ r. list_all (λ e. has_point n (left_of e s) r) es) (λ r. list_all (λ e. has_point n e r) (all_left_of es s)) (λ r. sym (list_all-map (λ e. has_point n e r) (λ e. left_of e s) es)) (left_of d s)

-- ---- the points of all operands
pub all_points_are : (ds : List (Bor DataSet)) (s : Structure) → flat_map (λ (d : Bor DataSet). left_of d.now s) ds ≡ flat_map (λ d. d) (all_left_of (shown ds) s)
all_points_are [] s = refl
all_points_are (d ∷ ds) s = ap (λ l. left_of d.now s ++ l) (all_points_are ds s)

pub all_points_wide : (ds : List (Bor DataSet)) (s : Structure) → AllByRecursion (λ r. key_width s ≤ length r) (flat_map (λ (d : Bor DataSet). left_of d.now s) ds)
all_points_wide [] s = tt
all_points_wide (d ∷ ds) s =
    let P : Row → Type 0 = λ r. key_width s ≤ length r in
    let f : Row → Row = cells_at (places_in (columns_of d.now.structure) (columns_of s)) in
    all_append P (left_of d.now s) (flat_map (λ (e : Bor DataSet). left_of e.now s) ds)
    (AllByRecursion-map f P d.now.points (each (λ r. P (f r)) (λ r. let l = cells_count (columns_of d.now.structure) (columns_of s) r in let few = few_keys s in omega (arith, l, few)) d.now.points))
    (all_points_wide ds s)

-- each is a data set
each_is_set : (ds : List (Bor DataSet)) → AllByRecursion (λ (d : Bor DataSet). IsDataSet d.now.structure d.now.points) ds → AllByRecursion (λ d. IsDataSet d.structure d.points) (shown ds)
each_is_set [] all = tt
each_is_set (d ∷ ds) all = (all.0, each_is_set ds all.1)

pub all_are_sets : (ds : List (Bor DataSet)) → All (λ (d : Bor DataSet). IsDataSet d.now.structure d.now.points) ds → AllByRecursion (λ d. IsDataSet d.structure d.points) (shown ds)
all_are_sets ds all = each_is_set ds (recursion_from_All (λ (d : Bor DataSet). IsDataSet d.now.structure d.now.points) ds all)

pub sought_is : (d e : DataSet) (s : Structure) (x : Sought) (own asked : List ℕ) (rows : List Row) → x ≡ record { own = own; asked = asked; rows = rows } → own ≡ places_in (columns_of e.structure) (identifiers_of s)
    → asked ≡ places_in (columns_of d.structure) (identifiers_of s) → rows ≡ e.points → x ≡ sought_by_key d e s
sought_is d e s x own asked rows found o a r = found ∙ (λ i. record { own = o i; asked = a i; rows = r i })
