-- What `if` takes from its operands.
use Rattle.std.proofs.Common.{◌≡◌, ℕ, ◌<◌, ◌≤◌, List, ◌++◌, true, cond, length, take, get_or, Ok, Some, sym, ap, ◌∙◌, subst}
use Rattle.std.specs.List.{flat_map}
use Rattle.std.specs.Option.{option_map, option_to_list}
use Rattle.std.proofs.lemmas.List.{length-map, take_all}
use Rattle.vtl_cell.specs.Outcomes.{is_true}
use Rattle.vtl_cell.specs.Row.{Row, column_of}
use Rattle.vtl_rows.specs.Tables.{cells_at, fits}
use Rattle.vtl_rows.specs.declared.column.Column.{Column}
use Rattle.vtl_tree.specs.DataSet.{IsDataSet, is_point, look}
use Rattle.vtl_tree.specs.Environment.{DataSet}
use Rattle.vtl_tree.specs.Structure.{IsStructure, columns_of, key_width}
use Rattle.vtl_tree.specs.declared.structure.Structure.{Structure}
use Rattle.vtl_sets.specs.TableOf.{table_columns}
use Rattle.vtl_sets.proofs.TableLemmas.{point_fits}
use Rattle.vtl_tree.specs.Columns.{identifiers_of, measures_of, place_of, places_in}
use Rattle.vtl_meaning.specs.Made.{AreAmong, HasIdentifiers}
use Rattle.vtl_meaning.specs.Operators.{choice_of, is_first_chosen, joined_point, taken_at, taken_from}
use Rattle.vtl_meaning.proofs.Kept.{look_is}
use Rattle.vtl_meaning.proofs.Places.{are_measures, cells_fit, joined_point_is, key_cells, key_for, key_of_point, key_within}
use Rattle.vtl_expr.specs.Choices.{Fits, IsAsked, IsBetween, chosen, joined, taken}
use Rattle.vtl_expr.specs.Partners.{Sought, found}
use Rattle.vtl_expr.specs.declared.choice.Alternative.{Alternative}
use Rattle.vtl_expr.specs.declared.choice.Choice.{Choice}
use Rattle.vtl_expr.proofs.PointLemmas.{holds_at}

joined_is_point : (t other s : Structure) (r q : Row) → IsStructure t → HasIdentifiers s (identifiers_of t) → columns_of s ≡ identifiers_of s ++ measures_of s → AreAmong (measures_of s) (columns_of other) → is_point (columns_of t) r ≡ true → is_point (columns_of other) q ≡ true → is_point (columns_of s) (joined_point t other s r q) ≡ true
joined_is_point t other s r q w h n m i j =
    let k = take (key_width t) r in
    let vs = cells_at (places_in (columns_of other) (measures_of s)) q in
    let own = key_for s t k h (key_of_point t r i) in
    subst (λ l. is_point (columns_of s) (l ++ vs) ≡ true) (sym (key_cells t s r w h (key_within t r i)))
    (joined_point_is s (measures_of s) k vs n (are_measures s) own (cells_fit (measures_of s) (columns_of other) q m j))

-- the point that is joined, by lists of places
abbrev joined_by : List ℕ → List ℕ → Row → Row → Row
joined_by identifiers measures r q = cells_at identifiers r ++ cells_at measures q

-- what is taken from an operand fits the columns
pub taken_fits : (t s : Structure) (tests : List Row) (d : DataSet) (a : Alternative) (identifiers : List ℕ) (columns : List Column) (i : ℕ) (r : Row)
    → IsDataSet t tests → HasIdentifiers s (identifiers_of t) → columns_of s ≡ identifiers_of s ++ measures_of s → AreAmong (measures_of s) (columns_of d.structure) → IsAsked t d s a
    → identifiers ≡ places_in (columns_of t) (identifiers_of s) → columns ≡ table_columns s → i < length tests → r ≡ get_or tests i r → Fits columns identifiers a r
taken_fits t s tests d a identifiers columns i r g h n m asked ids cs l at q at_q =
    let other = d.structure in
    let key = cells_at (places_in (columns_of t) (identifiers_of other)) r in
    let width = length (places_in (columns_of t) (identifiers_of other)) in
    let looked : look width d.points key ≡ Some q = ap (λ x. found x r) (sym asked.partners) ∙ at_q in
    let own = holds_at (λ x. is_point (columns_of t) x ≡ true) tests i r g.typed l at in
    let theirs = look_is (λ x. is_point (columns_of other) x ≡ true) width d.points key q asked.points.typed looked in
    let whole : fits (table_columns s) (joined_point t other s r q) ≡ true = point_fits (columns_of s) (joined_point t other s r q) (joined_is_point t other s r q g.well_formed h n m own theirs) in
    ap (λ x. fits x (joined identifiers a r q)) cs ∙ ap (λ x. fits (table_columns s) (joined_by x a.measures.items r q)) ids
    ∙ ap (λ x. fits (table_columns s) (joined_by (places_in (columns_of t) (identifiers_of s)) x r q)) asked.measures ∙ whole

-- ---- what is taken is what is meant
abbrev taken_by : List ℕ → List ℕ → ℕ → List Row → Row → Row → List Row
taken_by identifiers measures width points key r = option_to_list (option_map (joined_by identifiers measures r) (look width points key))

taken_is : (t s : Structure) (d : DataSet) (a : Alternative) (identifiers : List ℕ) (r : Row) → IsAsked t d s a → identifiers ≡ places_in (columns_of t) (identifiers_of s) → taken identifiers a r ≡ taken_from t d s r
taken_is t s d a identifiers r asked ids =
    let own = places_in (columns_of t) (identifiers_of s) in
    let theirs = places_in (columns_of d.structure) (measures_of s) in
    let key = cells_at (places_in (columns_of t) (identifiers_of d.structure)) r in
    ap (λ l. taken_by l a.measures.items (length a.partners.places) a.partners.points (cells_at a.partners.places r) r) ids
    ∙ ap (λ l. taken_by own l (length a.partners.places) a.partners.points (cells_at a.partners.places r) r) asked.measures
    ∙ ap (λ (x : Sought). taken_by own theirs (length x.places) x.points (cells_at x.places r) r) asked.partners
    ∙ ap (λ n. taken_by own theirs n d.points key r) (length-map (identifiers_of d.structure) (λ y. place_of y.name (columns_of t)))

chosen_at : (t s : Structure) (d e : DataSet) (x : Choice) (r : Row) → IsBetween t d e s x → chosen x r ≡ taken_at t d e s r
chosen_at t s d e x r is =
    ap (λ n. cond (is_true (Ok (column_of n r))) (taken x.identifiers.items x.first r) (taken x.identifiers.items x.second r)) is.test
    ∙ ap (λ l. cond (is_first_chosen t r) l (taken x.identifiers.items x.second r)) (taken_is t s d x.first x.identifiers.items r is.first is.identifiers)
    ∙ ap (λ l. cond (is_first_chosen t r) (taken_from t d s r) l) (taken_is t s e x.second x.identifiers.items r is.second is.identifiers)

pub all_chosen : (t d e : DataSet) (s : Structure) (x : Choice) (rows : List Row) (i : ℕ) → IsBetween t.structure d e s x → rows ≡ t.points → length rows ≤ i → flat_map (chosen x) (take i rows) ≡ choice_of t d e s
all_chosen t d e s x rows i is same l =
    ap (flat_map (chosen x)) (take_all i rows l ∙ same) ∙ ap (λ g. flat_map g t.points) (λ j r. chosen_at t.structure s d e x r is j)
