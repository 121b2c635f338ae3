-- The queries of `check` mean it.
use Rattle.std.proofs.Common.{◌+◌, ℕ, List, [], ◌++◌, length, map, Option, Some, None, Ok, refl, sym, ap, ◌∙◌, append-nil}
use Rattle.std.proofs.lemmas.List.{map-id}
use Rattle.vtl_decimal.specs.Settings.{Settings}
use Rattle.vtl_cell.specs.Outcome.{after}
use Rattle.vtl_cell.specs.Row.{Row}
use Rattle.vtl_cell.specs.declared.kind.Kind.{Kind}
use Rattle.vtl_tree.specs.Columns.{identifiers_of}
use Rattle.vtl_tree.specs.ClauseShapes.{first_kind}
use Rattle.vtl_tree.specs.Columns.{measures_of}
use Rattle.vtl_tree.specs.CompExp.{CompExp}
use Rattle.vtl_tree.specs.DataSet.{AreOfProfile, IsDataSet}
use Rattle.vtl_tree.specs.Pairs.{check_measures}
use Rattle.vtl_tree.specs.Structure.{columns_of, key_width}
use Rattle.vtl_tree.specs.declared.specifications.CheckSpec.{CheckSpec}
use Rattle.vtl_tree.specs.declared.structure.Structure.{Structure}
use Rattle.vtl_meaning.specs.Made.{AreFor, IsColumnAt}
use Rattle.vtl_meaning.specs.Points.{each_point, with_points}
use Rattle.vtl_meaning.proofs.Kept.{column_front}
use Rattle.vtl_rulings.specs.PointChecks.{check_of}
use Rattle.vtl_rulings.specs.Shaped.{IsChecked}
use Rattle.sql_tree.specs.Formed.{IsName}
use Rattle.sql_tree.specs.Trees.{Text}
use Rattle.sql_meaning.specs.Scripts.{Data}
use Rattle.selects_to_sql.specs.Queries.{name_of_first, points_query}
use Rattle.selects_to_sql.specs.Runs.{IsTable}
use Rattle.selects_to_sql.specs.Writable.{AllCanBeWritten, HaveNames}
use Rattle.selects_to_sql.proofs.Exact.{IsExactly, exactly_same}
use Rattle.selects_to_sql.proofs.Expressions.{Translates}
use Rattle.selects_to_sql.proofs.Givens.{AreGiven}
use Rattle.selects_to_sql.proofs.Identifiers.{AreIdentifiersAt, identifiers_there}
use Rattle.selects_to_sql.proofs.Loose.{column_loose}
use Rattle.selects_to_sql.proofs.OneOperand.{kept_mean, points_mean}
use Rattle.selects_to_sql.proofs.Pairs.{column_later}
use Rattle.selects_to_sql.proofs.SelectItems.{gives_same}
use Rattle.selects_to_sql.proofs.Selects.{IsTest}
use Rattle.selects_to_sql.proofs.Unions.{one_exactly}
use Rattle.rules_to_sql.specs.CheckQueries.{check_query, checked_exps, checked_where, imbalance_behind, imbalance_query, left_select, no_imbalance}
use Rattle.rules_to_sql.specs.Writable.{AreErrorsHeld}
use Rattle.rules_to_sql.proofs.CheckedRows.{checked_for, checked_rows, checked_test, checked_written}
use Rattle.rules_to_sql.proofs.Columns.{for_like, kinds_behind}
use Rattle.rules_to_sql.proofs.Imbalances.{imbalance_is, imbalance_kind, imbalance_typed, imbalance_written, measure_there, none_is, none_typed, none_written}
use Rattle.rules_to_sql.proofs.LeftJoins.{found_beside, left_columns, left_gives, left_row, rows_where}

-- ---- without an imbalance

module _ (p : Settings) (law : Translates p) (before : Data) (name : Text) (a s : Structure) (d : List Row) (there : IsTable before name a d) (named : IsName name) (na : HaveNames (columns_of a)) (set : IsDataSet a d) (given : AreGiven (columns_of s)) where
  -- a select of the rows at which a condition holds, where there is one
  where_means : (es : List CompExp) → AreFor p (columns_of a) es (columns_of s) → AllCanBeWritten es → (o : Option CompExp) → IsTest p (columns_of a) o → IsExactly p before (points_query p es s o name) s (after (rows_where p o d) (each_point p es))
  where_means es i h None test = points_mean p law before name a d there named set.well_formed na es s i h given set.typed
  where_means es i h (Some e) test = kept_mean p law before name a d there named set.well_formed na es s i h given e test set.typed

  pub check_exactly : (spec : CheckSpec) → IsChecked p spec None a s → AreErrorsHeld spec.errorcode spec.errorlevel → IsExactly p before (check_query p spec a s name) s (Ok (check_of p spec (with_points a d) None))
  check_exactly spec i held =
      let w = set.well_formed in
      let es = checked_exps spec a no_imbalance in
      let test = checked_where spec.output a in
      let own = λ (place : ℕ) (column : List ℕ) (kind : Kind) (at : IsColumnAt place column kind (columns_of a)). at in
      let typed = for_like p (columns_of a) es (identifiers_of a ++ check_measures) (columns_of s) (kinds_behind s (identifiers_of a) check_measures i.identifiers i.others)
      (checked_for p spec a w i.measured no_imbalance (columns_of a) own (none_typed p (columns_of a)) refl i.level) in
      exactly_same p before (check_query p spec a s name) s (after (rows_where p test d) (each_point p es)) (Ok (check_of p spec (with_points a d) None))
      (ap (λ l. after (rows_where p test l) (each_point p es)) (sym (map-id d))
      ∙ checked_rows p spec a w i.measured no_imbalance (λ r. r) (λ r. []) (λ r. sym (append-nil r)) None (λ r h. none_is p a r r) d set.typed)
      (where_means es typed (checked_written p spec a w i.measured no_imbalance none_written held) test (checked_test p spec a w i.measured no_imbalance (columns_of a) own spec.output))

-- ---- with an imbalance

module _ (p : Settings) (law : Translates p) (before : Data) (x y : Text) (a b s : Structure) (d e : List Row) (there : IsTable before x a d) (here : IsTable before y b e) (named : IsName x × IsName y) (na : HaveNames (columns_of a)) (nb : HaveNames (columns_of b)) (set : IsDataSet a d) (other : IsDataSet b e) (ranged : AreOfProfile p e) (given : AreGiven (columns_of s)) where
  pub imbalance_exactly : (spec : CheckSpec) → IsChecked p spec (Some b) a s → AreErrorsHeld spec.errorcode spec.errorlevel → IsExactly p before (imbalance_query p spec a b s x y) s (Ok (check_of p spec (with_points a d) (Some (with_points b e))))
  imbalance_exactly spec i held =
      let w = set.well_formed in
      let fits = i.fits in
      let imbalance = imbalance_behind a b in
      let es = checked_exps spec a imbalance in
      let test = checked_where spec.output a in
      let ours : AreIdentifiersAt (columns_of a) (identifiers_of b) = identifiers_there a w (identifiers_of b) fits.there in
      let ws = left_columns p law before x y a b s d e there here named na nb set other ours in
      let row = left_row p law before x y a b s d e there here named na nb set other ours in
      let own = λ (place : ℕ) (column : List ℕ) (kind : Kind) (at : IsColumnAt place column kind (columns_of a)). column_loose place column kind (columns_of a ++ columns_of b) (column_front place column kind (columns_of a) (columns_of b) at) in
      let kind = first_kind (measures_of b) in
      let measure = name_of_first (measures_of b) in
      let behind = length (columns_of a) + key_width b in
      let measured : IsColumnAt behind measure kind ws = column_loose behind measure kind (columns_of a ++ columns_of b) (column_later (key_width b) measure kind (columns_of a) (columns_of b) (measure_there p a b fits)) in
      let typed = for_like p ws es (identifiers_of a ++ check_measures) (columns_of s) (kinds_behind s (identifiers_of a) check_measures i.identifiers i.others)
      (checked_for p spec a w i.measured imbalance ws own (imbalance_typed p a b fits ws measured) (imbalance_kind p a b fits) i.level) in
      let written = checked_written p spec a w i.measured imbalance (imbalance_written p a b fits) held in
      let tested = checked_test p spec a w i.measured imbalance ws own spec.output in
      one_exactly p before s given (left_select p es a b s test x y) (Ok (check_of p spec (with_points a d) (Some (with_points b e))))
      (gives_same p before s (left_select p es a b s test x y) (after (rows_where p test (map row d)) (each_point p es)) (Ok (check_of p spec (with_points a d) (Some (with_points b e))))
      (checked_rows p spec a w i.measured imbalance row (found_beside p law before x y a b s d e there here named na nb set other ours) (λ r. refl) (Some (with_points b e)) (imbalance_is p a b fits law.low e other ranged) d set.typed)
      (left_gives p law before x y a b s d e there here named na nb set other ours es typed written given test tested))
