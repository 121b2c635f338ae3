-- The table of the identifiers of all operands.
use Rattle.std.proofs.Common.{◌≡◌, true, List, [], ◌∷◌, map, None, Ok, refl, ap, sym, ◌∙◌, subst, arith}
use Rattle.std.specs.List.{AllByRecursion, flat_map}
use Rattle.std.proofs.lemmas.List.Folds.{flat_map-map}
use Rattle.vtl_cell.specs.Row.{Row}
use Rattle.vtl_decimal.specs.Settings.{Settings}
use Rattle.vtl_cell.specs.declared.cell.Cell.TheVariants as c
use Rattle.vtl_rows.specs.Tables.{cells_at}
use Rattle.vtl_tree.specs.CompExp.{const}
use Rattle.vtl_tree.specs.DataSet.{is_point}
use Rattle.vtl_tree.specs.Environment.{DataSet}
use Rattle.vtl_tree.specs.Structure.{IsStructure, columns_of}
use Rattle.vtl_tree.specs.declared.structure.Component.{Component}
use Rattle.vtl_tree.specs.declared.structure.Structure.{Structure}
use Rattle.vtl_tuples.proofs.Lists.{map-flat_map, map-map, map_each}
use Rattle.vtl_meaning.specs.Agreement.{values_in}
use Rattle.vtl_tree.specs.Columns.{identifiers_of, others_of, places_in}
use Rattle.vtl_meaning.specs.Joined.{keys_in, structures_of}
use Rattle.vtl_meaning.specs.Made.{AreAmong, AreFor}
use Rattle.vtl_meaning.specs.Points.{each_point}
use Rattle.vtl_meaning.proofs.JoinParts.{AreSets}
use Rattle.vtl_meaning.proofs.LookUps.{named_cells}
use Rattle.vtl_meaning.proofs.OwnColumns.{among_front, columns_apart}
use Rattle.vtl_meaning.proofs.Places.{are_identifiers, columns_split}
use Rattle.sql_tree.specs.Trees.{Text}
use Rattle.sql_meaning.specs.Scripts.{Data}
use Rattle.selects_to_sql.specs.Writable.{AllCanBeWritten, HaveNames}
use Rattle.joins_to_sql.specs.FullJoins.{key_exps, key_select, key_structure, keys_query, or_spare}
use Rattle.selects_to_sql.proofs.Exact.{IsExactly, exactly_same}
use Rattle.selects_to_sql.proofs.Expressions.{Translates}
use Rattle.selects_to_sql.proofs.Givens.{AreGiven}
use Rattle.joins_to_sql.proofs.HeldOperands.{AreHeld, IsHeld}
use Rattle.joins_to_sql.proofs.JoinedColumns.{each_plain}
use Rattle.joins_to_sql.proofs.KeyColumns.{key_columns, keyed}
use Rattle.selects_to_sql.proofs.OneOperand.{columns_each, columns_for, columns_written, rows_give, rows_there}
use Rattle.selects_to_sql.proofs.SelectItems.{GivesRows, gives_same}
use Rattle.selects_to_sql.proofs.Unions.{AllGive, union_there}

-- ---- of one operand

key_for : (p : Settings) (a : Structure) → IsStructure a → (ids : List Component) → AreAmong ids (columns_of a) → AreFor p (columns_of a) (key_exps ids a) (or_spare ids)
key_for p a w [] among = (tt, refl, tt)
key_for p a w (x ∷ xs) among = columns_for p (columns_of a) (x ∷ xs) (columns_apart a w) among

key_written : (a : Structure) (ids : List Component) → AllCanBeWritten (key_exps ids a)
key_written a [] = (record { constants = tt; shallow = omega arith }, tt)
key_written a (x ∷ xs) = columns_written (columns_of a) (x ∷ xs)

key_rows : (p : Settings) (a : Structure) (ids : List Component) (rows : List Row) → each_point p (key_exps ids a) rows ≡ Ok (map (keyed ids) (map (values_in a ids) rows))
key_rows p a [] rows =
    each_plain p (const (c.Bool true) ∷ []) rows (record { written = record { constants = tt; shallow = omega arith }; sure = λ r. refl }, tt)
    ∙ ap Ok (sym (map-map (keyed []) (values_in a []) rows))
key_rows p a (x ∷ xs) rows =
    let ids = x ∷ xs in
    columns_each p (columns_of a) ids rows
    ∙ ap Ok (map_each (cells_at (places_in (columns_of a) ids)) (values_in a ids) (named_cells (columns_of a) ids) rows ∙ sym (map-map (keyed ids) (values_in a ids) rows))

module _ (p : Settings) (law : Translates p) (before : Data) (r : Structure) (given : AreGiven (columns_of (key_structure r))) where
  abbrev ids : List Component
  ids = identifiers_of r

  abbrev t : Structure
  t = key_structure r

  abbrev pub keys_at : DataSet → List Row
  keys_at d = map (keyed ids) (keys_in ids d)

  one_key : (x : Text) (d : DataSet) → IsHeld before x d → IsStructure d.structure → AllByRecursion (λ q. is_point (columns_of d.structure) q ≡ true) d.points → HaveNames (columns_of d.structure) → AreAmong ids (identifiers_of d.structure)
      → GivesRows p before t (key_select p r d.structure x) (Ok (keys_at d))
  one_key x d h w typed n among =
      let a = d.structure in
      let es = key_exps ids a in
      let there : AreAmong ids (columns_of a) = subst (AreAmong ids) (sym (columns_split a)) (among_front ids (identifiers_of a) (others_of a) among) in
      let made : AreFor p (columns_of a) es (columns_of t) = subst (AreFor p (columns_of a) es) (sym (key_columns ids (are_identifiers r))) (key_for p a w ids there) in
      gives_same p before t (key_select p r a x) (each_point p es d.points) (Ok (keys_at d)) (key_rows p a ids d.points)
      (rows_give p law before x a d.points h.table h.word w n es t made (key_written a ids) given None tt tt (Ok d.points) (ap Ok (rows_there p law before x a d.points h.table h.word w n)) typed)

  -- ---- of all

  all_given : (ds : List DataSet) (xs : List Text) → AreHeld before xs ds → AreSets ds → AllByRecursion (λ d. HaveNames (columns_of d.structure)) ds → AllByRecursion (λ d. AreAmong ids (identifiers_of d.structure)) ds
      → AllGive p before t (keys_query p r (structures_of ds) xs) (map (λ e. Ok e) (map keys_at ds))
  all_given [] [] h sets n among = tt
  all_given [] (x ∷ xs) h sets n among = absurd h
  all_given (d ∷ ds) [] h sets n among = absurd h
  all_given (d ∷ ds) (x ∷ xs) h sets n among = (one_key x d h.0 sets.0.well_formed sets.0.typed n.0 among.0, all_given ds xs h.1 sets.1 n.1 among.1)

  pub keys_exactly : (d : DataSet) (ds : List DataSet) (xs : List Text) → AreHeld before xs (d ∷ ds) → AreSets (d ∷ ds) → AllByRecursion (λ d. HaveNames (columns_of d.structure)) (d ∷ ds) → AllByRecursion (λ d. AreAmong ids (identifiers_of d.structure)) (d ∷ ds)
      → IsExactly p before (keys_query p r (structures_of (d ∷ ds)) xs) t (Ok (map (keyed ids) (flat_map (keys_in ids) (d ∷ ds))))
  keys_exactly d ds [] h sets n among = absurd h
  keys_exactly d ds (x ∷ xs) h sets n among =
      let q = key_select p r d.structure x in
      let qs = keys_query p r (structures_of ds) xs in
      exactly_same p before (q ∷ qs) t (Ok (flat_map (λ e. e) (map keys_at (d ∷ ds)))) (Ok (map (keyed ids) (flat_map (keys_in ids) (d ∷ ds))))
      (ap Ok (flat_map-map (λ e. e) keys_at (d ∷ ds) ∙ sym (map-flat_map (keyed ids) (keys_in ids) (d ∷ ds))))
      (union_there p before t given q qs (keys_at d) (map keys_at ds) (all_given (d ∷ ds) (x ∷ xs) h sets n among))
