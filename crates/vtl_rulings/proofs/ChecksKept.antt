-- `check` gives data sets.
use Rattle.std.proofs.Common.{◌≡◌, Bool, true, false, cond, List, [], ◌∷◌, ◌++◌, length, Option, Some, None, Ok, Err, refl, sym, ap, ◌∙◌, subst}
use Rattle.std.proofs.lemmas.List.{map-append}
use Rattle.std.specs.Prelude.{ℤ, option_map}
use Rattle.std.specs.Option.{IfSome, option_map_or, option_to_list}
use Rattle.vtl_lists.proofs.Alls.{all_more}
use Rattle.vtl_decimal.specs.Range.{fit_number}
use Rattle.vtl_decimal.specs.Settings.{Settings}
use Rattle.vtl_cell.specs.Conversion.{as_kind}
use Rattle.vtl_cell.specs.Kinds.{kind_of}
use Rattle.vtl_cell.specs.Outcome.{Outcome}
use Rattle.vtl_cell.specs.Row.{Row, column_of}
use Rattle.vtl_cell.specs.ScalarArithmetic.{number, units}
use Rattle.vtl_cell.specs.ScalarKinds.{meets}
use Rattle.vtl_cell.specs.declared.cell.Cell.{Cell}
use Rattle.vtl_cell.specs.declared.cell.Cell.TheVariants as c
use Rattle.vtl_cell.specs.declared.kind.Kind.{Kind}
use Rattle.vtl_cell.specs.declared.kind.Kind.TheVariants as k
use Rattle.vtl_rows.specs.Tables.{fits_kinds}
use Rattle.vtl_tree.specs.Columns.{identifiers_of, measures_of, others_of}
use Rattle.vtl_tree.specs.DataSet.{IsDataSet, is_point}
use Rattle.vtl_tree.specs.Environment.{DataSet}
use Rattle.vtl_tree.specs.Structure.{columns_of, key_width}
use Rattle.vtl_tree.specs.declared.specifications.CheckSpec.{CheckSpec}
use Rattle.vtl_tree.specs.declared.structure.Component.{Component}
use Rattle.vtl_tree.specs.declared.structure.Structure.{Structure}
use Rattle.vtl_meaning.specs.Agreement.{agree_in, first_agreeing, key_of}
use Rattle.vtl_meaning.specs.Made.{attributes_of, component_kinds}
use Rattle.vtl_meaning.specs.Points.{cell_or_null, with_points}
use Rattle.vtl_meaning.proofs.Drawn.{AtMostOne, Keeps, drawn_kept}
use Rattle.vtl_meaning.proofs.JoinParts.{found_is}
use Rattle.vtl_meaning.proofs.Places.{are_others, columns_split, joined_point_is, key_for, key_of_joined, key_of_point}
use Rattle.vtl_meaning.proofs.TurnedKept.{filter_map_drawn}
use Rattle.vtl_meaning.proofs.ValueKinds.{GivesOf, IsOf, point_parts}
use Rattle.vtl_rulings.specs.Outputs.{code_cell, errors_at, is_basic_shown, level_cell}
use Rattle.vtl_rulings.specs.PointChecks.{check_of, checked_point, imbalance_at}
use Rattle.vtl_rulings.specs.Shaped.{IsChecked, IsImbalance}
use Rattle.vtl_tree.specs.Checks.{error_measures}
use Rattle.vtl_rulings.proofs.Checked.{code_is, errors_fit, given_or_null, level_is}

-- ---- the first measure
first_behind : (xs ys : List Component) (kind : Kind) (kinds : List Kind) (r : Row) → component_kinds ys ≡ kind ∷ kinds → is_point (xs ++ ys) r ≡ true → IsOf kind (column_of (length xs) r)
first_behind [] [] kind kinds r e h = cc
first_behind [] (y ∷ ys) kind kinds [] e h = cc
first_behind [] (y ∷ ys) kind kinds (v ∷ r) e h = let same : y.kind ≡ kind = cc in subst (λ z. IsOf z v) same (point_parts y ys v r h).0
first_behind (x ∷ xs) ys kind kinds [] e h = cc
first_behind (x ∷ xs) ys kind kinds (v ∷ r) e h = first_behind xs ys kind kinds r e (point_parts x (xs ++ ys) v r h).2

pub first_measure_is : (a : Structure) (kind : Kind) (r : Row) → component_kinds (measures_of a) ≡ kind ∷ [] → is_point (columns_of a) r ≡ true → IsOf kind (column_of (key_width a) r)
first_measure_is a kind r e h =
    first_behind (identifiers_of a) (others_of a) kind (component_kinds (attributes_of a)) r
    (map-append (λ x. x.kind) (measures_of a) (attributes_of a) ∙ ap (λ l. l ++ component_kinds (attributes_of a)) e)
    (subst (λ xs. is_point xs r ≡ true) (columns_split a) h)

-- ---- a number
pub numeric : (kind : Kind) (v : Cell) → meets k.Num kind ≡ true → IsOf kind v → meets k.Num (kind_of v) ≡ true
numeric kind c.Null m h = refl
numeric k.Int (c.Int n) m h = refl
numeric k.Num (c.Num n) m h = refl
numeric k.Bool (c.Bool x) m h = cc
numeric k.Text (c.Text x) m h = cc
numeric k.Day (c.Day x) m h = cc
numeric k.Period (c.Period x) m h = cc
numeric kind v m h = cc

pub number_is : (p : Settings) (v : Cell) → meets k.Num (kind_of v) ≡ true → GivesOf k.Num (as_kind p k.Num v)
number_is p c.Null h = refl
number_is p (c.Int n) h = go (fit_number (units p n))
  where
    go : (m : Outcome ℤ) → GivesOf k.Num (number m)
    go (Ok x) = refl
    go (Err f) = tt
number_is p (c.Num n) h = refl
number_is p v h = cc

-- ---- the imbalance
abbrev pub structure_in : Option DataSet → Option Structure
structure_in imbalance = option_map (λ e. e.structure) imbalance

pub imbalance_is : (p : Settings) (a : Structure) (imbalance : Option DataSet) (r : Row) → IfSome (structure_in imbalance) (IsImbalance a) → IfSome imbalance (λ e. IsDataSet e.structure e.points) → IsOf k.Num (imbalance_at p a imbalance r)
imbalance_is p a None r fits h = refl
imbalance_is p a (Some e) r fits h = go (first_agreeing a e r) refl
  where
    number_at : Row → Outcome Cell
    number_at q = as_kind p k.Num (column_of (key_width e.structure) q)

    go : (o : Option Row) → first_agreeing a e r ≡ o → IsOf k.Num (option_map_or (λ q. cell_or_null (number_at q)) o c.Null)
    go None same = refl
    go (Some q) same =
        let typed = found_is (λ z. is_point (columns_of e.structure) z ≡ true) (agree_in a e.structure r) e.points q h.typed same in
        let cell = column_of (key_width e.structure) q in
        given_or_null (IsOf k.Num) (number_at q) refl (number_is p cell (numeric fits.kind cell fits.numeric (first_measure_is e.structure fits.kind q fits.measured typed)))

-- ---- points
module _ (p : Settings) (spec : CheckSpec) (a s : Structure) (imbalance : Option DataSet) (d : List Row) (i : IsChecked p spec (structure_in imbalance) a s) (h : IsDataSet a d) (other : IfSome imbalance (λ e. IsDataSet e.structure e.points)) where
  abbrev truth_at : Row → Cell
  truth_at r = column_of (key_width a) r

  abbrev pub check_at : Row → Option Row
  check_at r = checked_point p spec a imbalance r (truth_at r)

  point_is : (r : Row) → is_point (columns_of a) r ≡ true → AtMostOne (Keeps s (key_width a) r) (option_to_list (check_at r))
  point_is r t = go (is_basic_shown spec.output (truth_at r))
    where
      errors : Row
      errors = errors_at (code_cell spec.errorcode) (level_cell spec.errorlevel) (truth_at r)

      cells : Row
      cells = truth_at r ∷ imbalance_at p a imbalance r ∷ errors

      errors_are : fits_kinds (component_kinds error_measures) errors ≡ true
      errors_are = errors_fit (code_cell spec.errorcode) (level_cell spec.errorlevel) (truth_at r) (code_is spec.errorcode) (level_is spec.errorlevel)

      fits : fits_kinds (component_kinds (others_of s)) cells ≡ true
      fits = ap (λ ks. fits_kinds ks cells) i.others ∙ rw (first_measure_is a k.Bool r i.measured t) (rw (imbalance_is p a imbalance r i.fits other) errors_are)

      own : is_point (identifiers_of s) (key_of a r) ≡ true
      own = key_for s a (key_of a r) i.identifiers (key_of_point a r t)

      go : (b : Bool) → AtMostOne (Keeps s (key_width a) r) (option_to_list (cond b (Some (key_of a r ++ cells)) None))
      go true = (joined_point_is s (others_of s) (key_of a r) cells (columns_split s) (are_others s) own fits, key_of_joined s (key_of a r) cells own)
      go false = tt

  pub check_kept : IsDataSet s (check_of p spec (with_points a d) imbalance)
  check_kept =
      subst (IsDataSet s) (sym (filter_map_drawn check_at d))
      (drawn_kept s (key_width a) (λ r. option_to_list (check_at r)) d i.well_formed
      (all_more (λ r. is_point (columns_of a) r ≡ true) (λ r. AtMostOne (Keeps s (key_width a) r) (option_to_list (check_at r))) point_is d h.typed) h.distinct)
