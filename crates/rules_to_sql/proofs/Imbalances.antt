-- The imbalance of a point: the measure of the point that agrees with it, as a number.
use Rattle.std.proofs.Common.{◌≡◌, ◌≤◌, ◌+◌, ℕ, true, List, [], ◌∷◌, ◌++◌, length, take, Option, Some, None, Ok, refl, sym, ap, ◌∙◌, subst, arith}
use Rattle.std.specs.List.{find}
use Rattle.std.specs.Option.{option_map_or}
use Rattle.std.proofs.lemmas.List.{get_or-append-add}
use Rattle.vtl_lists.proofs.Alls.{all_more}
use Rattle.vtl_lists.proofs.Filters.{filter_all}
use Rattle.vtl_decimal.specs.Settings.{Settings}
use Rattle.vtl_cell.specs.Conversion.{as_kind}
use Rattle.vtl_cell.specs.Kinds.{is_of}
use Rattle.vtl_cell.specs.Profile.{IsOfProfile}
use Rattle.vtl_cell.specs.Row.{Row, column_of, same_row}
use Rattle.vtl_cell.specs.ScalarArithmetic.{number}
use Rattle.vtl_cell.specs.ScalarKinds.{meets}
use Rattle.vtl_cell.specs.declared.cell.Cell.{Cell}
use Rattle.vtl_cell.specs.declared.cell.Cell.TheVariants as c
use Rattle.vtl_cell.specs.declared.kind.Kind.{Kind}
use Rattle.vtl_cell.specs.declared.kind.Kind.TheVariants as k
use Rattle.vtl_rows.specs.Tables.{cells_at}
use Rattle.vtl_scalar.proofs.FaultLemmas.{integer_is_a_number}
use Rattle.vtl_tree.specs.ClauseShapes.{first_kind}
use Rattle.vtl_tree.specs.Columns.{common_identifiers, has_identifier, identifiers_of, measures_of, places_in}
use Rattle.vtl_tree.specs.CompExp.{column}
use Rattle.vtl_tree.specs.DataSet.{AreOfProfile, IsDataSet, is_point, look}
use Rattle.vtl_tree.specs.Environment.{DataSet}
use Rattle.vtl_tree.specs.Kinds.{exp_kind}
use Rattle.vtl_tree.specs.Structure.{columns_of, key_width}
use Rattle.vtl_tree.specs.Value.{value}
use Rattle.vtl_tree.specs.declared.structure.Component.{Component}
use Rattle.vtl_tree.specs.declared.structure.Structure.{Structure}
use Rattle.vtl_meaning.specs.Agreement.{first_agreeing, values_in}
use Rattle.vtl_meaning.specs.Made.{AreAmong, IsColumnAt, IsTyped, component_kinds}
use Rattle.vtl_meaning.specs.Points.{cell_or_null, partner, with_points}
use Rattle.vtl_meaning.proofs.Agreements.{found_by_key, own_values}
use Rattle.vtl_meaning.proofs.JoinAgreements.{covers, own_names}
use Rattle.vtl_meaning.proofs.Kept.{look_is}
use Rattle.vtl_meaning.proofs.LookUps.{named_cells}
use Rattle.vtl_meaning.proofs.Places.{point_length}
use Rattle.vtl_meaning.proofs.Profiles.{IsRowOfProfile, cell_is}
use Rattle.vtl_meaning.proofs.ValueKinds.{cell_is_of, null_is_of}
use Rattle.vtl_rulings.specs.PointChecks.{imbalance_at}
use Rattle.vtl_rulings.specs.Shaped.{IsImbalance}
use Rattle.selects_to_sql.specs.Queries.{name_of_first}
use Rattle.selects_to_sql.specs.Writable.{CanBeWritten}
use Rattle.selects_to_sql.proofs.Choices.{measure_at}
use Rattle.rules_to_sql.specs.CheckQueries.{as_number, imbalance_behind, no_imbalance}
use Rattle.rules_to_sql.proofs.LeftJoins.{null_cell, or_nulls}

-- ---- without an operand

pub none_typed : (p : Settings) (ws : List Component) → IsTyped p ws no_imbalance
none_typed p ws = (refl, (tt, (tt, (tt, tt))), refl)

pub none_written : CanBeWritten no_imbalance
none_written = record { constants = (tt, (omega arith, (tt, tt))); shallow = omega arith }

pub none_is : (p : Settings) (a : Structure) (r q : Row) → value p no_imbalance q ≡ Ok (imbalance_at p a None r)
none_is p a r q = refl

-- ---- an integer or a number as a number

module _ (p : Settings) (place : ℕ) (name : List ℕ) where
  number_typed : (ws : List Component) (kind : Kind) → meets k.Num kind ≡ true → IsColumnAt place name kind ws → IsTyped p ws (as_number kind (column place name kind))
  number_typed ws k.Num m h = h
  number_typed ws k.Int m h = (refl, (tt, (h, (tt, tt))), refl)
  number_typed ws k.Null m h = (refl, (tt, (h, (tt, tt))), refl)
  number_typed ws k.Bool m h = cc
  number_typed ws k.Text m h = cc
  number_typed ws k.Day m h = cc
  number_typed ws k.Period m h = cc

  number_kind : (kind : Kind) → meets k.Num kind ≡ true → exp_kind (as_number kind (column place name kind)) ≡ k.Num
  number_kind k.Num m = refl
  number_kind k.Int m = refl
  number_kind k.Null m = refl
  number_kind k.Bool m = cc
  number_kind k.Text m = cc
  number_kind k.Day m = cc
  number_kind k.Period m = cc

  number_written : (kind : Kind) → CanBeWritten (as_number kind (column place name kind))
  number_written k.Num = record { constants = tt; shallow = omega arith }
  number_written k.Int = record { constants = (tt, (tt, (omega arith, tt))); shallow = omega arith }
  number_written k.Null = record { constants = (tt, (tt, (omega arith, tt))); shallow = omega arith }
  number_written k.Bool = record { constants = (tt, (tt, (omega arith, tt))); shallow = omega arith }
  number_written k.Text = record { constants = (tt, (tt, (omega arith, tt))); shallow = omega arith }
  number_written k.Day = record { constants = (tt, (tt, (omega arith, tt))); shallow = omega arith }
  number_written k.Period = record { constants = (tt, (tt, (omega arith, tt))); shallow = omega arith }

  -- an integer of the profile is a number
  converted : (v : Cell) → p.scale ≤ 9 → IsOfProfile p v → as_kind p k.Num v ≡ Ok (cell_or_null (as_kind p k.Num v))
  converted (c.Int n) low h =
      let e = ap number (integer_is_a_number p n low h) in
      e ∙ sym (ap (λ m. Ok (cell_or_null m)) e)
  converted c.Null low h = refl
  converted (c.Bool b) low h = refl
  converted (c.Num n) low h = refl
  converted (c.Text x) low h = refl
  converted (c.Day x) low h = refl
  converted (c.Period x) low h = refl

  own_number : (v : Cell) → is_of k.Num v ≡ true → v ≡ cell_or_null (as_kind p k.Num v)
  own_number c.Null h = refl
  own_number (c.Num n) h = refl
  own_number v h = cc

  number_is : (kind : Kind) (q : Row) → p.scale ≤ 9 → meets k.Num kind ≡ true → is_of kind (column_of place q) ≡ true → IsOfProfile p (column_of place q) → value p (as_number kind (column place name kind)) q ≡ Ok (cell_or_null (as_kind p k.Num (column_of place q)))
  number_is k.Num q low m h i = ap Ok (own_number (column_of place q) h)
  number_is k.Int q low m h i = converted (column_of place q) low i
  number_is k.Null q low m h i = converted (column_of place q) low i
  number_is k.Bool q low m h i = cc
  number_is k.Text q low m h i = cc
  number_is k.Day q low m h i = cc
  number_is k.Period q low m h i = cc

-- ---- the point that agrees

module _ (a b : Structure) (within : AreAmong (identifiers_of b) (identifiers_of a)) where
  all_common : common_identifiers a b ≡ identifiers_of b
  all_common = filter_all (λ z. has_identifier a z.name) (identifiers_of b) (all_more (λ z. has_identifier b z.name ≡ true) (λ z. has_identifier a z.name ≡ true) (λ z h. covers a b within z.name h) (identifiers_of b) (own_names b))

  pub agreeing_is : (e : List Row) (r : Row) → IsDataSet b e → first_agreeing a (with_points b e) r ≡ partner a (with_points b e) r
  agreeing_is e r s =
      let ids = identifiers_of b in
      ap (λ zs. find (λ q. same_row (values_in b zs q) (values_in a zs r)) e) all_common
      ∙ found_by_key (key_width b) (values_in b ids) e (values_in a ids r) (all_more (λ q. is_point (columns_of b) q ≡ true) (λ q. values_in b ids q ≡ take (key_width b) q) (λ q h. own_values b q s.well_formed h) e s.typed)
      ∙ ap (look (key_width b) e) (sym (named_cells (columns_of a) ids r))

-- ---- behind a left join

first_is : (ms : List Component) (kind : Kind) → component_kinds ms ≡ kind ∷ [] → first_kind ms ≡ kind
first_is [] kind h = cc
first_is (m ∷ ms) kind h = cc

module _ (p : Settings) (a b : Structure) (i : IsImbalance a b) where
  abbrev n : ℕ
  n = length (columns_of a)

  abbrev name : List ℕ
  name = name_of_first (measures_of b)

  is_numeric : meets k.Num (first_kind (measures_of b)) ≡ true
  is_numeric = ap (meets k.Num) (first_is (measures_of b) i.kind i.measured) ∙ i.numeric

  pub measure_there : IsColumnAt (key_width b) name (first_kind (measures_of b)) (columns_of b)
  measure_there = measure_at b (first_kind (measures_of b)) (i.measured ∙ ap (λ q. q ∷ []) (sym (first_is (measures_of b) i.kind i.measured)))

  pub imbalance_typed : (ws : List Component) → IsColumnAt (n + key_width b) name (first_kind (measures_of b)) ws → IsTyped p ws (imbalance_behind a b)
  imbalance_typed ws h = number_typed p (n + key_width b) name ws (first_kind (measures_of b)) is_numeric h

  pub imbalance_kind : exp_kind (imbalance_behind a b) ≡ k.Num
  imbalance_kind = number_kind p (n + key_width b) name (first_kind (measures_of b)) is_numeric

  pub imbalance_written : CanBeWritten (imbalance_behind a b)
  imbalance_written = number_written p (n + key_width b) name (first_kind (measures_of b))

  module _ (low : p.scale ≤ 9) (e : List Row) (set : IsDataSet b e) (ranged : AreOfProfile p e) (r : Row) (typed : is_point (columns_of a) r ≡ true) where
    abbrev D : DataSet
    D = with_points b e

    abbrev width : ℕ
    width = length (columns_of b)

    abbrev there : Option Row → Cell
    there o = option_map_or (λ q. cell_or_null (as_kind p k.Num (column_of (key_width b) q))) o c.Null

    -- its cell behind the row
    cell_behind : (q : Row) → column_of (n + key_width b) (r ++ q) ≡ column_of (key_width b) q
    cell_behind q = ap (λ m. column_of (m + key_width b) (r ++ q)) (sym (point_length (columns_of a) r typed)) ∙ get_or-append-add r q (key_width b) c.Null

    with_found : (o : Option Row) → partner a D r ≡ o → value p (imbalance_behind a b) (r ++ or_nulls width o) ≡ Ok (there o)
    with_found None h =
        let kind = first_kind (measures_of b) in
        let cell : column_of (n + key_width b) (r ++ or_nulls width None) ≡ c.Null = cell_behind (or_nulls width None) ∙ null_cell width (key_width b) in
        number_is p (n + key_width b) name kind (r ++ or_nulls width None) low is_numeric (ap (is_of kind) cell ∙ null_is_of kind) (subst (IsOfProfile p) (sym cell) tt)
        ∙ ap (λ v. Ok (cell_or_null (as_kind p k.Num v))) cell
    with_found (Some q) h =
        let kind = first_kind (measures_of b) in
        let key = cells_at (places_in (columns_of a) (identifiers_of b)) r in
        let point : is_point (columns_of b) q ≡ true = look_is (λ z. is_point (columns_of b) z ≡ true) (key_width b) e key q set.typed h in
        let row : IsRowOfProfile p q = look_is (IsRowOfProfile p) (key_width b) e key q ranged h in
        let cell = cell_behind q in
        number_is p (n + key_width b) name kind (r ++ q) low is_numeric (ap (is_of kind) cell ∙ cell_is_of (key_width b) name kind (columns_of b) q measure_there point) (subst (IsOfProfile p) (sym cell) (cell_is p (key_width b) q row))
        ∙ ap (λ v. Ok (cell_or_null (as_kind p k.Num v))) cell

    pub imbalance_is : value p (imbalance_behind a b) (r ++ or_nulls width (partner a D r)) ≡ Ok (imbalance_at p a (Some D) r)
    imbalance_is = with_found (partner a D r) refl ∙ ap (λ o. Ok (there o)) (sym (agreeing_is a b i.there e r set))
