-- Set operators on two data sets are selects with EXISTS.
use Rattle.std.proofs.Common.{◌≡◌, Bool, true, false, not, ◌||◌, List, [], ◌∷◌, ◌++◌, length, map, take, Some, None, Ok, refl, ap, sym, ◌∙◌, subst}
use Rattle.std.specs.List.{AllByRecursion, filter, list_any}
use Rattle.vtl_cell.specs.Outcome.{unless}
use Rattle.vtl_cell.specs.Row.{Row, column_of, same_key, same_row}
use Rattle.vtl_decimal.specs.Settings.{Settings}
use Rattle.vtl_lists.proofs.Sorts.{AllByRecursion-filter}
use Rattle.vtl_lists.proofs.Alls.{all_append}
use Rattle.vtl_lists.proofs.Filters.{list_any-map}
use Rattle.vtl_rows.specs.Tables.{cells_at}
use Rattle.vtl_tree.specs.DataSet.{IsDataSet}
use Rattle.vtl_tree.specs.Structure.{columns_of, key_width}
use Rattle.vtl_tree.specs.declared.structure.Component.{Component}
use Rattle.vtl_tree.specs.declared.structure.Structure.{Structure}
use Rattle.vtl_tree.specs.Columns.{columns_named, identifiers_of, measures_of, place_of, places_in}
use Rattle.vtl_meaning.specs.Made.{AreAmong, IsAlternative, IsColumnAt}
use Rattle.vtl_meaning.specs.Operators.{left_of}
use Rattle.vtl_meaning.specs.Points.{each_point, with_points}
use Rattle.vtl_meaning.specs.Sets.{has_point}
use Rattle.vtl_meaning.proofs.OwnColumns.{columns_apart}
use Rattle.vtl_meaning.proofs.SetsKept.{has_any}
use Rattle.vtl_tuples.proofs.Lists.{filter-map, filter_same}
use Rattle.sql_tree.specs.Formed.{IsName}
use Rattle.sql_tree.specs.Trees.{Exp, Text}
use Rattle.sql_meaning.specs.From.{condition_fault, kept, source_rows}
use Rattle.sql_meaning.specs.Scripts.{Data, base_of}
use Rattle.sql_meaning.specs.Values.{at_rows}
use Rattle.sql_check_parts.specs.Scopes.{add_source}
use Rattle.selects_to_sql.specs.Writable.{HaveNames}
use Rattle.selects_to_sql.specs.Queries.{first_alias}
use Rattle.vtl_to_sql.specs.Sets.{is_matched, matched_select, shown_query, shown_select}
use Rattle.selects_to_sql.specs.Runs.{IsTable}
use Rattle.selects_to_sql.proofs.Exact.{IsExactly}
use Rattle.vtl_to_sql.proofs.Exists.{has_row, is_answer, matched_fits, matched_printed, matched_rows}
use Rattle.selects_to_sql.proofs.Expressions.{Translates}
use Rattle.selects_to_sql.proofs.Givens.{AreGiven}
use Rattle.selects_to_sql.proofs.Identifiers.{AreIdentifiersAt, identifiers_there}
use Rattle.selects_to_sql.proofs.OneOperand.{columns_each, columns_for, columns_written, known_there, rows_give, rows_there}
use Rattle.selects_to_sql.proofs.SelectItems.{GivesRows, gives_same}
use Rattle.selects_to_sql.proofs.Selects.{IsPointOf}
use Rattle.selects_to_sql.proofs.Sources.{one_scope}
use Rattle.selects_to_sql.proofs.Unions.{one_exactly}

-- ---- an operand in the columns of the result

-- columns of identifiers and of measures, all of which the operand has
pub record IsShown (a s : Structure) : Type 0 where
  pub alternative : IsAlternative s a s
  pub plain : columns_of s ≡ identifiers_of s ++ measures_of s

-- the first cells are those of the identifiers
key_shown : (ids rest xs : List Component) (r : Row) → take (length ids) (cells_at (places_in xs (ids ++ rest)) r) ≡ cells_at (places_in xs ids) r
key_shown [] rest xs r = refl
key_shown (i ∷ ids) rest xs r = ap (λ l. column_of (place_of i.name xs) r ∷ l) (key_shown ids rest xs r)

pub key_cells_shown : (a s : Structure) → columns_of s ≡ identifiers_of s ++ measures_of s → (r : Row) → take (key_width s) (cells_at (places_in (columns_of a) (columns_of s)) r) ≡ cells_at (places_in (columns_of a) (identifiers_of s)) r
key_cells_shown a s plain r = ap (λ ys. take (key_width s) (cells_at (places_in (columns_of a) ys) r)) plain ∙ key_shown (identifiers_of s) (measures_of s) (columns_of a) r

any_each : {X : Type 0} (p q : X → Bool) → ((x : X) → p x ≡ q x) → (xs : List X) → list_any p xs ≡ list_any q xs
any_each p q h [] = refl
any_each p q h (x ∷ xs) = ap (λ b. b || list_any p xs) (h x) ∙ ap (λ b. q x || b) (any_each p q h xs)

module _ (p : Settings) (law : Translates p) (before : Data) (x : Text) (a s : Structure) (d : List Row) (there : IsTable before x a d) (named : IsName x) (na : HaveNames (columns_of a)) (set : IsDataSet a d) (shown : IsShown a s) (given : AreGiven (columns_of s)) where
  abbrev xs : List Component
  xs = columns_of a

  pub ids_there : AreIdentifiersAt xs (identifiers_of s)
  ids_there = identifiers_there a set.well_formed (identifiers_of s) shown.alternative.back

  among : AreAmong (columns_of s) xs
  among =
      subst (λ ys. AreAmong ys xs) (sym shown.plain)
      (all_append (λ y. IsColumnAt (place_of y.name xs) y.name y.kind xs) (identifiers_of s) (measures_of s) (go (identifiers_of s) ids_there) shown.alternative.measures)
    where
      go : (zs : List Component) → AreIdentifiersAt xs zs → AreAmong zs xs
      go [] i = tt
      go (z ∷ zs) i = (i.0.column, go zs i.1)

  pub shown_gives : GivesRows p before s (shown_select p a s x None) (Ok (left_of (with_points a d) s))
  shown_gives =
      gives_same p before s (shown_select p a s x None) (each_point p (columns_named xs (columns_of s)) d) (Ok (left_of (with_points a d) s)) (columns_each p xs (columns_of s) d)
      (rows_give p law before x a d there named set.well_formed na (columns_named xs (columns_of s)) s (columns_for p xs (columns_of s) (columns_apart a set.well_formed) among) (columns_written xs (columns_of s)) given None tt tt (Ok d) (ap Ok (rows_there p law before x a d there named set.well_formed na)) set.typed)

  pub shown_means : IsExactly p before (shown_query p a s x) s (Ok (left_of (with_points a d) s))
  shown_means = one_exactly p before s given (shown_select p a s x None) (Ok (left_of (with_points a d) s)) shown_gives

  -- ---- and another operand

  module _ (y : Text) (b : Structure) (e : List Row) (here : IsTable before y b e) (name : IsName y) (nb : HaveNames (columns_of b)) (other : IsDataSet b e) (alike : IsShown b s) (theirs : AreIdentifiersAt (columns_of b) (identifiers_of s)) (ns : HaveNames (identifiers_of s)) where
    abbrev ys : List Component
    ys = columns_of b

    abbrev answer : Bool → Row → Bool
    answer wanted r = is_answer (base_of p before) xs ys (columns_apart a set.well_formed) (columns_apart b other.well_formed) y (known_there p law before y b e here name other.well_formed nb) (identifiers_of s) ids_there theirs e (rows_there p law before y b e here name other.well_formed nb) other.typed wanted r

    abbrev condition : Bool → Exp
    condition wanted = is_matched wanted (identifiers_of s) y

    matched_are : (wanted : Bool) → source_rows (base_of p before) (matched_select p wanted a s x y) ≡ Ok (filter (answer wanted) d)
    matched_are wanted =
        ap (λ t. unless (condition_fault (at_rows (base_of p before) t) (Some (condition wanted)) ((base_of p before).rows x)) (kept (at_rows (base_of p before) t) (Some (condition wanted)) ((base_of p before).rows x))) (ap (add_source [] first_alias) (known_there p law before x a d there named set.well_formed na))
        ∙ ap (λ l. unless (condition_fault (at_rows (base_of p before) (one_scope xs)) (Some (condition wanted)) l) (kept (at_rows (base_of p before) (one_scope xs)) (Some (condition wanted)) l)) (rows_there p law before x a d there named set.well_formed na)
        ∙ matched_rows (base_of p before) xs ys (columns_apart a set.well_formed) (columns_apart b other.well_formed) y (known_there p law before y b e here name other.well_formed nb) (identifiers_of s) ids_there theirs e (rows_there p law before y b e here name other.well_formed nb) other.typed wanted d set.typed

    -- in the words of the meaning
    abbrev ours : List Row
    ours = left_of (with_points a d) s

    abbrev those : List Row
    those = left_of (with_points b e) s

    abbrev has : Bool → Row → Bool
    has true r = has_point (key_width s) those r
    has false r = not (has_point (key_width s) those r)

    has_is : (r : Row) → has_row (base_of p before) xs ys (columns_apart a set.well_formed) (columns_apart b other.well_formed) y (known_there p law before y b e here name other.well_formed nb) (identifiers_of s) e r ≡ has_point (key_width s) those (cells_at (places_in xs (columns_of s)) r)
    has_is r =
        let n = key_width s in
        let shown_r = cells_at (places_in xs (columns_of s)) r in
        any_each (λ q. same_row (cells_at (places_in ys (identifiers_of s)) q) (cells_at (places_in xs (identifiers_of s)) r)) (λ q. same_key n (cells_at (places_in ys (columns_of s)) q) shown_r)
        (λ q. ap (λ z. same_row z (cells_at (places_in xs (identifiers_of s)) r)) (sym (key_cells_shown b s alike.plain q)) ∙ ap (same_row (take n (cells_at (places_in ys (columns_of s)) q))) (sym (key_cells_shown a s shown.plain r))) e
        ∙ sym (list_any-map (λ q. same_key n q shown_r) (cells_at (places_in ys (columns_of s))) e)
        ∙ sym (has_any n those shown_r)

    answer_is : (wanted : Bool) (r : Row) → answer wanted r ≡ has wanted (cells_at (places_in xs (columns_of s)) r)
    answer_is true r = has_is r
    answer_is false r = ap not (has_is r)

    pub matched_gives : (wanted : Bool) → GivesRows p before s (matched_select p wanted a s x y) (Ok (filter (has wanted) ours))
    matched_gives wanted =
        let f = cells_at (places_in xs (columns_of s)) in
        let same : map f (filter (answer wanted) d) ≡ filter (has wanted) ours = ap (map f) (filter_same (answer wanted) (λ r. has wanted (f r)) d (each_answer d)) ∙ sym (filter-map (has wanted) f d) in
        gives_same p before s (matched_select p wanted a s x y) (each_point p (columns_named xs (columns_of s)) (filter (answer wanted) d)) (Ok (filter (has wanted) ours)) (columns_each p xs (columns_of s) (filter (answer wanted) d) ∙ ap Ok same)
        (rows_give p law before x a d there named set.well_formed na (columns_named xs (columns_of s)) s (columns_for p xs (columns_of s) (columns_apart a set.well_formed) among) (columns_written xs (columns_of s)) given (Some (condition wanted))
        (matched_fits (base_of p before) xs ys (columns_apart a set.well_formed) (columns_apart b other.well_formed) y (known_there p law before y b e here name other.well_formed nb) (identifiers_of s) ids_there theirs wanted)
        (matched_printed wanted (identifiers_of s) y name ns) (Ok (filter (answer wanted) d)) (matched_are wanted) (AllByRecursion-filter (IsPointOf xs) (answer wanted) d set.typed))
      where
        each_answer : (rows : List Row) → AllByRecursion (λ r. answer wanted r ≡ has wanted (cells_at (places_in xs (columns_of s)) r)) rows
        each_answer [] = tt
        each_answer (r ∷ rows) = (answer_is wanted r, each_answer rows)
