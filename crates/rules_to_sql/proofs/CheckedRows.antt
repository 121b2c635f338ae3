-- What the expressions of `check` make of rows that begin with the points of its operand.
use Rattle.std.proofs.Common.{◌≡◌, ℕ, true, List, [], ◌∷◌, ◌++◌, length, map, take, Option, None, Ok, refl, sym, ap, ◌∙◌, arith, length-append}
use Rattle.std.specs.List.{AllByRecursion, filter}
use Rattle.std.specs.Option.{IfSome}
use Rattle.std.proofs.lemmas.List.{get_or_append_left, take-append-le}
use Rattle.vtl_decimal.specs.Settings.{Settings}
use Rattle.vtl_lists.proofs.Sorts.{AllByRecursion-filter, AllByRecursion-map}
use Rattle.vtl_lists.proofs.Alls.{all_append, all_more}
use Rattle.vtl_cell.specs.Outcome.{after, fault_in, join, unless}
use Rattle.vtl_cell.specs.Outcomes.{is_true}
use Rattle.vtl_cell.specs.Profile.{IsOfProfile}
use Rattle.vtl_cell.specs.Row.{Row, column_of}
use Rattle.vtl_cell.specs.declared.cell.Cell.{Cell}
use Rattle.vtl_cell.specs.declared.cell.Cell.TheVariants as c
use Rattle.vtl_cell.specs.declared.kind.Kind.{Kind}
use Rattle.vtl_cell.specs.declared.kind.Kind.TheVariants as k
use Rattle.vtl_syntax.specs.declared.word_groups.BasicOut.{BasicOut}
use Rattle.vtl_syntax.specs.declared.word_groups.BasicOut.TheVariants as basic
use Rattle.vtl_tree.specs.Columns.{columns_named, identifiers_of, measures_of}
use Rattle.vtl_tree.specs.CompExp.{CompExp}
use Rattle.vtl_tree.specs.DataSet.{is_point}
use Rattle.vtl_tree.specs.Environment.{DataSet}
use Rattle.vtl_tree.specs.Kinds.{exp_kind}
use Rattle.vtl_tree.specs.Pairs.{check_measures}
use Rattle.vtl_tree.specs.Structure.{IsStructure, columns_of, key_width}
use Rattle.vtl_tree.specs.Value.{value}
use Rattle.vtl_tree.specs.declared.specifications.CheckSpec.{CheckSpec}
use Rattle.vtl_tree.specs.declared.structure.Component.{Component}
use Rattle.vtl_tree.specs.declared.structure.Structure.{Structure}
use Rattle.vtl_tuples.proofs.Lists.{filter-map, filter_same, map-map}
use Rattle.vtl_meaning.specs.Agreement.{key_of}
use Rattle.vtl_meaning.specs.Made.{AreFor, IsColumnAt, IsTyped, component_kinds}
use Rattle.vtl_meaning.specs.Points.{cell_or_null, each_point, point_fault, point_of, with_points}
use Rattle.vtl_meaning.proofs.Kept.{column_within, columns_point}
use Rattle.vtl_meaning.proofs.OwnColumns.{columns_apart}
use Rattle.vtl_meaning.proofs.Places.{key_cells, key_within, point_length}
use Rattle.vtl_rulings.specs.Outputs.{code_cell, errors_at, is_basic_shown, is_false, level_cell}
use Rattle.vtl_rulings.specs.PointChecks.{check_of, imbalance_at}
use Rattle.selects_to_sql.specs.Queries.{is_chosen, name_of_first}
use Rattle.selects_to_sql.specs.Writable.{AllCanBeWritten, CanBeWritten}
use Rattle.selects_to_sql.proofs.Choices.{measure_at}
use Rattle.selects_to_sql.proofs.OneOperand.{columns_for, columns_written}
use Rattle.selects_to_sql.proofs.Selects.{IsTest}
use Rattle.rules_to_sql.specs.CheckQueries.{checked_exps, checked_where}
use Rattle.rules_to_sql.specs.Conditions.{error_exps_at, negated}
use Rattle.rules_to_sql.specs.Writable.{AreErrorsHeld}
use Rattle.rules_to_sql.proofs.Columns.{columns_sure, for_append, for_more, own_among, points_append}
use Rattle.rules_to_sql.proofs.ErrorExps.{errors_at_are, errors_at_fault, errors_at_for, errors_at_written, negated_typed}
use Rattle.rules_to_sql.proofs.LeftJoins.{rows_where}
use Rattle.rules_to_sql.proofs.Lists.{all_shown, each_sure, faults_same, no_faults, shown_points}
use Rattle.rules_to_sql.proofs.Truths.{negated_fault, negated_true}

module _ (p : Settings) (spec : CheckSpec) (a : Structure) (w : IsStructure a) (one : component_kinds (measures_of a) ≡ k.Bool ∷ []) (e : CompExp) where
  abbrev xs : List Component
  xs = columns_of a

  abbrev ids : List CompExp
  ids = columns_named xs (identifiers_of a)

  abbrev truth : CompExp
  truth = is_chosen a

  abbrev errors : List CompExp
  errors = error_exps_at truth spec.errorcode spec.errorlevel

  abbrev rest : List CompExp
  rest = truth ∷ e ∷ errors

  abbrev es : List CompExp
  es = checked_exps spec a e

  -- ---- over columns among which are those of the operand

  module _ (ws : List Component) (more : (place : ℕ) (name : List ℕ) (kind : Kind) → IsColumnAt place name kind xs → IsColumnAt place name kind ws) where
    truth_at : IsColumnAt (key_width a) (name_of_first (measures_of a)) k.Bool ws
    truth_at = more (key_width a) (name_of_first (measures_of a)) k.Bool (measure_at a k.Bool one)

    pub checked_for : IsTyped p ws e → exp_kind e ≡ k.Num → IfSome spec.errorlevel (λ n. IsOfProfile p (c.Int n)) → AreFor p ws es (identifiers_of a ++ check_measures)
    checked_for typed number level =
        for_append p ws ids rest (identifiers_of a) check_measures (for_more p xs ws (identifiers_of a) (identifiers_of a) more (columns_for p xs (identifiers_of a) (columns_apart a w) (own_among a w)))
        (truth_at, refl, (typed, number, errors_at_for p ws truth truth_at refl spec.errorcode spec.errorlevel level))

    pub checked_test : (o : BasicOut) → IsTest p ws (checked_where o a)
    checked_test basic.Invalid = (negated_typed p ws truth truth_at refl, refl, record { constants = (tt, tt); shallow = omega arith })
    checked_test basic.All = tt

  pub checked_written : CanBeWritten e → AreErrorsHeld spec.errorcode spec.errorlevel → AllCanBeWritten es
  checked_written written held =
      all_append CanBeWritten ids rest (columns_written xs (identifiers_of a))
      (record { constants = tt; shallow = omega arith }, (written, errors_at_written truth (record { constants = tt; shallow = omega arith }) (omega arith) spec.errorcode spec.errorlevel held))

  -- ---- rows that begin with points, at which the expression has the imbalance of the point

  abbrev P : Row → Type 0
  P r = is_point xs r ≡ true

  module _ (row behind : Row → Row) (begins : (r : Row) → row r ≡ r ++ behind r) (other : Option DataSet) (told : (r : Row) → P r → value p e (row r) ≡ Ok (imbalance_at p a other r)) where
    abbrev t : Row → Cell
    t r = column_of (key_width a) r

    truth_is : (r : Row) → P r → value p truth (row r) ≡ Ok (t r)
    truth_is r h =
        let within = column_within (key_width a) (name_of_first (measures_of a)) k.Bool xs (measure_at a k.Bool one) in
        let wide = point_length xs r h in
        ap (λ q. Ok (column_of (key_width a) q)) (begins r) ∙ ap Ok (get_or_append_left r (behind r) c.Null (key_width a) (omega (arith, within, wide)))

    key_is : (r : Row) → P r → point_of p ids (row r) ≡ key_of a r
    key_is r h =
        let low = key_within a r h in
        let sum = length-append r (behind r) in
        let long = ap length (begins r) in
        columns_point p xs (identifiers_of a) (row r) ∙ key_cells a a (row r) w (refl, refl) (omega (arith, low, sum, long)) ∙ ap (take (key_width a)) (begins r) ∙ take-append-le (key_width a) r (behind r) low

    abbrev point : Row → Row
    point r = key_of a r ++ (t r ∷ imbalance_at p a other r ∷ errors_at (code_cell spec.errorcode) (level_cell spec.errorlevel) (t r))

    point_is : (r : Row) → P r → point_of p es (row r) ≡ point r
    point_is r h =
        points_append p ids rest (row r)
        ∙ ap (λ l. l ++ point_of p rest (row r)) (key_is r h)
        ∙ ap (λ m. key_of a r ++ (cell_or_null m ∷ cell_or_null (value p e (row r)) ∷ point_of p errors (row r))) (truth_is r h)
        ∙ ap (λ m. key_of a r ++ (t r ∷ cell_or_null m ∷ point_of p errors (row r))) (told r h)
        ∙ ap (λ l. key_of a r ++ (t r ∷ imbalance_at p a other r ∷ l))
        (errors_at_are p truth (row r) spec.errorcode spec.errorlevel ∙ ap (λ m. errors_at (code_cell spec.errorcode) (level_cell spec.errorlevel) (cell_or_null m)) (truth_is r h))

    abbrev IsQuiet : Row → Type 0
    IsQuiet q = point_fault p es q ≡ None

    quiet : (r : Row) → P r → IsQuiet (row r)
    quiet r h =
        columns_sure p xs (identifiers_of a) rest (row r)
        ∙ ap (λ m. join (fault_in (value p truth (row r))) (join (fault_in m) (point_fault p errors (row r)))) (told r h)
        ∙ errors_at_fault p truth spec.errorcode spec.errorlevel (row r)
        ∙ ap fault_in (truth_is r h)

    module _ (d : List Row) (all : AllByRecursion P d) where
      abbrev shown : BasicOut → List Row
      shown o = filter (λ r. is_basic_shown o (t r)) d

      kept_are : (o : BasicOut) → rows_where p (checked_where o a) (map row d) ≡ Ok (map row (shown o))
      kept_are basic.All = ap (λ l. Ok (map row l)) (sym (all_shown (λ r. true) (λ r. refl) d))
      kept_are basic.Invalid =
          let test = negated truth in
          let none = faults_same (λ q. fault_in (value p test q) ≡ None) (λ q. fault_in (value p test q)) (λ q. None) (λ q h. h) (map row d)
          (AllByRecursion-map row (λ q. fault_in (value p test q) ≡ None) d (all_more P (λ r. fault_in (value p test (row r)) ≡ None) (λ r h. negated_fault p (value p truth (row r)) ∙ ap fault_in (truth_is r h)) d all)) in
          ap (λ f. unless f (filter (λ q. is_true (value p test q)) (map row d))) (none ∙ no_faults (map row d))
          ∙ ap Ok (filter-map (λ q. is_true (value p test q)) row d
          ∙ ap (map row) (filter_same (λ r. is_true (value p test (row r))) (λ r. is_false (t r)) d (all_more P (λ r. is_true (value p test (row r)) ≡ is_false (t r)) (λ r h. negated_true p (value p truth (row r)) ∙ ap (λ m. is_false (cell_or_null m)) (truth_is r h)) d all)))

      pub checked_rows : after (rows_where p (checked_where spec.output a) (map row d)) (each_point p es) ≡ Ok (check_of p spec (with_points a d) other)
      checked_rows =
          let o = spec.output in
          ap (λ m. after m (each_point p es)) (kept_are o)
          ∙ each_sure p IsQuiet es (λ q h. h) (map row (shown o)) (AllByRecursion-map row IsQuiet (shown o) (all_more P (λ r. IsQuiet (row r)) quiet (shown o) (AllByRecursion-filter P (λ r. is_basic_shown o (t r)) d all)))
          ∙ ap Ok (map-map (point_of p es) row (shown o) ∙ shown_points P (λ r. is_basic_shown o (t r)) (λ r. point_of p es (row r)) point (λ r h s. point_is r h) d all)
