-- What the result has at a key; and the one group of points that are not grouped.
use Rattle.std.proofs.Common.{◌≡◌, ℕ, Bool, true, false, not, ◌&&◌, ◌||◌, cond, List, [], ◌∷◌, map, take, Some, None, refl, sym, ap, ◌∙◌}
use Rattle.std.specs.Prelude.{IfOk}
use Rattle.std.specs.List.{AllByRecursion, filter, list_any}
use Rattle.vtl_lists.proofs.Alls.{all_more}
use Rattle.vtl_cell.specs.Outcome.{faults_by, join}
use Rattle.vtl_cell.specs.Row.{Row, same_row}
use Rattle.vtl_decimal.specs.Settings.{Settings}
use Rattle.vtl_cell.proofs.Rows.{same_row-is}
use Rattle.vtl_rows.specs.Tables.{cells_at}
use Rattle.vtl_tree.specs.DataSet.{IsDataSet, look}
use Rattle.vtl_tree.specs.Environment.{DataSet}
use Rattle.vtl_tree.specs.Structure.{columns_of, key_width}
use Rattle.vtl_tree.specs.declared.structure.Structure.{Structure}
use Rattle.vtl_tree.specs.Trees.{AggTree}
use Rattle.vtl_tuples.specs.Keys.{each_once}
use Rattle.vtl_tuples.proofs.Onces.{alike, among_once}
use Rattle.vtl_tree.specs.Columns.{others_of}
use Rattle.vtl_meaning.specs.Aggregates.{aggregate_of, condition_fault, condition_of, group_fault, group_point, is_kept, made_of}
use Rattle.vtl_meaning.specs.Groups.{has_group, keys_by, places_named, points_with}
use Rattle.vtl_meaning.specs.AggregateShapes.{IsAggregated}
use Rattle.vtl_meaning.proofs.GroupPoints.{IsKey, all_once, kept_are, key_of_point, unless_has}
use Rattle.vtl_meaning.proofs.JoinOrders.{rows_apart}

-- ---- at a key
look_made : (n : ℕ) (f : Row → Row) (k : Row) (keys : List Row) → AllByRecursion (λ key. take n (f key) ≡ key) keys → look n (map f keys) k ≡ cond (list_any (λ key. same_row key k) keys) (Some (f k)) None
look_made n f k [] all = refl
look_made n f k (key ∷ keys) all = ap (λ j. cond (same_row j k) (Some (f key)) (look n (map f keys) k)) all.0 ∙ go (same_row key k) refl (look_made n f k keys all.1)
  where
    go : (b : Bool) → same_row key k ≡ b → look n (map f keys) k ≡ cond (list_any (λ j. same_row j k) keys) (Some (f k)) None
        → cond b (Some (f key)) (look n (map f keys) k) ≡ cond (b || list_any (λ j. same_row j k) keys) (Some (f k)) None
    go true e ih = ap (λ j. Some (f j)) (same_row-is key k e)
    go false e ih = ih

any_kept : (q : Row → Bool) (k : Row) (keys : List Row) → list_any (λ key. same_row key k) (filter q keys) ≡ (list_any (λ key. same_row key k) keys && q k)
any_kept q k [] = refl
any_kept q k (key ∷ keys) = go (q key) refl (same_row key k) refl (any_kept q k keys)
  where
    there : Row → Bool
    there j = same_row j k

    same_kept : same_row key k ≡ true → q key ≡ q k
    same_kept e = ap q (same_row-is key k e)

    go : (b : Bool) → q key ≡ b → (d : Bool) → same_row key k ≡ d → list_any (λ j. same_row j k) (filter q keys) ≡ (list_any (λ j. same_row j k) keys && q k)
        → list_any (λ j. same_row j k) (cond b (key ∷ filter q keys) (filter q keys)) ≡ ((d || list_any (λ j. same_row j k) keys) && q k)
    go true e true h ih = ap (λ t. t || list_any (λ j. same_row j k) (filter q keys)) h ∙ sym e ∙ same_kept h
    go true e false h ih = ap (λ t. t || list_any (λ j. same_row j k) (filter q keys)) h ∙ ih
    go false e true h ih = ih ∙ ap (λ t. list_any (λ j. same_row j k) keys && t) (sym (same_kept h) ∙ e) ∙ never (list_any (λ j. same_row j k) keys) ∙ sym e ∙ same_kept h
      where
        never : (t : Bool) → (t && false) ≡ false
        never true = refl
        never false = refl
    go false e false h ih = ih

any_mapped : (f : Row → Row) (k : Row) (points : List Row) → list_any (λ key. same_row key k) (map f points) ≡ list_any (λ r. same_row (f r) k) points
any_mapped f k [] = refl
any_mapped f k (r ∷ points) = ap (λ b. same_row (f r) k || b) (any_mapped f k points)

pub looked : (p : Settings) (spec : AggTree) (d : DataSet) (s : Structure) (k : Row) → IsAggregated spec d.structure s → IsDataSet d.structure d.points
    → IfOk (aggregate_of p spec d s) (λ out. look (key_width s) out k ≡ cond (has_group (places_named spec.grouping (columns_of d.structure)) d.points k && is_kept (condition_of p spec (columns_of d.structure) d.points) spec.having k) (Some (group_point (made_of p spec (columns_of d.structure) d.points) (others_of s) k)) None)
looked p spec d s k i h =
    let xs = columns_of d.structure in
    let places = places_named spec.grouping xs in
    let at = condition_of p spec xs d.points in
    let made = made_of p spec xs d.points in
    let f = group_point made (others_of s) in
    let keys = keys_by places d.points in
    let kept = filter (is_kept at spec.having) keys in
    let own = all_more (IsKey p spec d s i h) (λ key. take (key_width s) (f key) ≡ key) (key_of_point p spec d s i h) kept (kept_are p spec d s i h) in
    let there : list_any (λ key. same_row key k) keys ≡ has_group places d.points k = among_once same_row (alike same_row rows_apart) (map (cells_at places) d.points) k ∙ any_mapped (cells_at places) k d.points in
    unless_has (λ out. look (key_width s) out k ≡ cond (has_group places d.points k && is_kept at spec.having k) (Some (f k)) None)
    (join (faults_by (condition_fault at spec.having) keys) (faults_by (group_fault made (others_of s)) kept)) (map f kept)
    (look_made (key_width s) f k kept own
    ∙ ap (λ b. cond b (Some (f k)) None) (any_kept (is_kept at spec.having) k keys ∙ ap (λ b. b && is_kept at spec.having k) there))

-- ---- no grouping identifiers
no_others : (ks : List Row) → AllByRecursion (λ k. k ≡ []) ks → filter (λ k. not (same_row [] k)) ks ≡ []
no_others [] all = refl
no_others (k ∷ ks) all = ap (λ j. cond (not (same_row [] j)) (k ∷ filter (λ i. not (same_row [] i)) ks) (filter (λ i. not (same_row [] i)) ks)) all.0 ∙ no_others ks all.1

pub one_key : (r : Row) (d : List Row) → keys_by [] (r ∷ d) ≡ [] ∷ []
one_key r d = ap (λ l. [] ∷ l) (no_others (each_once same_row (map (cells_at []) d)) (all_once (λ k. k ≡ []) (map (cells_at []) d) (empty_keys d)))
  where
    empty_keys : (rows : List Row) → AllByRecursion (λ k. k ≡ []) (map (cells_at []) rows)
    empty_keys [] = tt
    empty_keys (q ∷ rows) = (refl, empty_keys rows)

pub all_points : (d : List Row) → points_with [] d [] ≡ d
all_points [] = refl
all_points (r ∷ d) = ap (λ l. r ∷ l) (all_points d)
