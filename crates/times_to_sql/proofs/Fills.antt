-- `fill_time_series` is a left join of the operand with the identifiers of the points of the filled series.
use Rattle.std.proofs.Common.{◌≡◌, ◌<◌, ◌+◌, ◌^◌, ℕ, true, List, [], ◌∷◌, ◌++◌, length, map, None, Ok, Err, refl, ap, sym, ◌∙◌, subst, arith, append-nil, length-append}
use Rattle.std.specs.List.{AllByRecursion}
use Rattle.vtl_lists.specs.Perm.{Perm, chain}
use Rattle.vtl_lists.proofs.Perms.{AllByRecursion-Perm, Perm-map, Perm-same, Perm-sym}
use Rattle.vtl_lists.proofs.Sorts.{AllByRecursion-map}
use Rattle.vtl_lists.proofs.Alls.{all_more}
use Rattle.vtl_decimal.specs.Settings.{Settings}
use Rattle.vtl_text.specs.Words.{is_word}
use Rattle.vtl_cell.specs.Outcome.{Outcome, after}
use Rattle.vtl_cell.specs.Row.{Row}
use Rattle.vtl_rows.specs.Tables.{cells_at}
use Rattle.vtl_series.specs.Series.{series_rows}
use Rattle.vtl_series.specs.declared.extent.Extent.{Extent}
use Rattle.vtl_series.proofs.OrderLemmas.{in_no_order}
use Rattle.vtl_syntax.specs.declared.word_groups.Filling.{Filling}
use Rattle.vtl_tree.specs.Columns.{identifiers_of, measures_of, places_in}
use Rattle.vtl_tree.specs.DataSet.{IsDataSet, is_point}
use Rattle.vtl_tree.specs.Environment.{DataSet}
use Rattle.vtl_tree.specs.Structure.{IsStructure, columns_of}
use Rattle.vtl_tree.specs.declared.structure.Component.{Component}
use Rattle.vtl_tree.specs.declared.structure.Structure.{Structure}
use Rattle.vtl_meaning.specs.Joined.{tuple_at, tuple_point}
use Rattle.vtl_meaning.specs.Made.{HasIdentifiers, attributes_of, component_kinds}
use Rattle.vtl_meaning.specs.Points.{with_points}
use Rattle.vtl_meaning.proofs.OwnColumns.{own_identifiers}
use Rattle.vtl_meaning.proofs.Places.{are_identifiers}
use Rattle.vtl_timing.specs.Timed.{extent_of}
use Rattle.vtl_timing.specs.Times.{HasTime, fill_of, filled_keys, in_order, other_identifiers, series_columns, time_place}
use Rattle.vtl_timing.proofs.FillOrders.{fill_respects}
use Rattle.vtl_timing.proofs.FilledPoints.{key_is, series_points}
use Rattle.vtl_timing.proofs.SeriesColumns.{time_only}
use Rattle.sql_tree.specs.Trees.{Text}
use Rattle.sql_meaning.specs.Scripts.{Data}
use Rattle.selects_to_sql.specs.Means.{AreEarlier, AreThere, Means, NodeGives, SourcesGive, StandsAs}
use Rattle.selects_to_sql.specs.Runs.{held}
use Rattle.selects_to_sql.specs.Tables.{Sources, and_then, by_names, over, table_of, with_one}
use Rattle.selects_to_sql.specs.Writable.{HaveNames}
use Rattle.selects_to_sql.proofs.Composition.{alone, no_tables, one_gives, stored_gives, two_gives}
use Rattle.selects_to_sql.proofs.Exact.{means_by, set_turned}
use Rattle.selects_to_sql.proofs.Expressions.{Translates}
use Rattle.selects_to_sql.proofs.Givens.{AreGiven}
use Rattle.selects_to_sql.proofs.Running.{columns_there, run_stops}
use Rattle.joins_to_sql.specs.FullJoins.{key_structure, or_spare}
use Rattle.joins_to_sql.proofs.FullJoins.{full_exactly, full_turned}
use Rattle.joins_to_sql.proofs.FullMeans.{beside_there}
use Rattle.joins_to_sql.proofs.HeldOperands.{IsHeld}
use Rattle.joins_to_sql.proofs.KeyColumns.{key_columns, key_given, keyed}
use Rattle.times_to_sql.specs.Fills.{fill_keys_query, fill_query}
use Rattle.times_to_sql.specs.TimeTables.{fill_keys_of, fill_made}
use Rattle.times_to_sql.proofs.FillKeys.{keys_exactly}

-- ---- a table of identifiers, of which there are some

module _ (a : Structure) (timed : HasTime a) where
  abbrev ids : List Component
  ids = identifiers_of a

  -- the time is one
  not_none : {A : Type 0} → ids ≡ [] → A
  not_none e = let size = time_only a timed in let none = ap (λ l. length l) e in absurd (omega (arith, size.within, none))

  own_keys : (f : List Component → List Component) → ((x : Component) (xs : List Component) → f (x ∷ xs) ≡ x ∷ xs) → f ids ≡ ids
  own_keys f g = go ids refl
    where
      go : (l : List Component) → ids ≡ l → f l ≡ l
      go [] e = not_none e
      go (x ∷ xs) e = g x xs

  pub key_shape : columns_of (key_structure a) ≡ ids
  key_shape = key_columns ids (are_identifiers a) ∙ own_keys or_spare (λ x xs. refl)

  keyed_same : (k : Row) → keyed ids k ≡ k
  keyed_same k = go ids refl
    where
      go : (l : List Component) → ids ≡ l → keyed l k ≡ k
      go [] e = not_none e
      go (x ∷ xs) e = refl

  all_keyed : (ks : List Row) → map (keyed ids) ks ≡ ks
  all_keyed [] = refl
  all_keyed (k ∷ ks) = λ i. keyed_same k i ∷ all_keyed ks i

-- ---- the queries

module _ (p : Settings) (law : Translates p) (a : Structure) (na : HaveNames (columns_of a)) (given : AreGiven (columns_of a)) (timed : HasTime a) (f : Filling) (d : List Row) (set : IsDataSet a d) where
  abbrev e : Extent
  e = extent_of f

  abbrev D : DataSet
  D = with_points a d

  abbrev t : Structure
  t = key_structure a

  abbrev by : List ℕ
  by = places_in (columns_of a) (other_identifiers a)

  abbrev keys : List Row → List Row
  keys points = filled_keys e (with_points a points)

  well : IsStructure a
  well = set.well_formed

  own : HasIdentifiers a (identifiers_of a)
  own = (refl, refl)

  keys_given : AreGiven (columns_of t)
  keys_given = key_given a a well na own given

  -- of points in another order
  keys_turned : (points : List Row) → Perm points d → Perm (keys points) (keys d)
  keys_turned points same = Perm-map (in_order a) (in_no_order e (time_place a) by same)

  are_keys : (points : List Row) → IsDataSet a points → AllByRecursion (λ k. is_point (identifiers_of a) k ≡ true) (keys points)
  are_keys points h =
      AllByRecursion-map (in_order a) (λ k. is_point (identifiers_of a) k ≡ true) (series_rows e (time_place a) by points)
      (all_more (λ r. is_point (series_columns a) r ≡ true) (λ r. is_point (identifiers_of a) (in_order a r) ≡ true) (key_is a well timed) (series_rows e (time_place a) by points) (series_points a well timed e points h.typed))

  pub keys_mean : (now : Data) (x : Text) → StandsAs now x a d → Means p now (fill_keys_query f a x) t (Ok (keys d))
  keys_mean now x st =
      means_by p now (fill_keys_query f a x) t (Ok (keys st.rows)) (Ok (keys d)) (keys_turned st.rows st.same)
      (keys_exactly p law now x a st.rows st.table st.named na (set_turned a d st.rows st.same set) timed f t (key_shape a timed) keys_given)

  pub fill_mean : (now : Data) (x y : Text) → StandsAs now x a d → StandsAs now y t (keys d) → Means p now (fill_query p a a y x) a (Ok (fill_of e D))
  fill_mean now x y st su =
      let E : DataSet = with_points a st.rows in
      let turned = set_turned a d st.rows st.same set in
      let there : IsHeld now x E = record { word = st.named; table = st.table; known = columns_there now x (held a st.rows) st.table } in
      let here : IsHeld now y (with_points t su.rows) = record { word = su.named; table = su.table; known = columns_there now y (held t su.rows) su.table } in
      let typed : AllByRecursion (λ q. is_point (columns_of t) q ≡ true) su.rows =
      subst (λ ys. AllByRecursion (λ q. is_point ys q ≡ true) su.rows) (sym (key_shape a timed)) (AllByRecursion-Perm (λ q. is_point (identifiers_of a) q ≡ true) (Perm-sym su.same) (are_keys d set)) in
      let same = own_identifiers a well in
      let measures = sym (append-nil (component_kinds (measures_of a))) in
      let attributes = sym (append-nil (component_kinds (attributes_of a))) in
      let point : Row → Row = λ k. tuple_point (tuple_at (identifiers_of a) (E ∷ []) k) in
      let row : Row → Row = λ q. point (cells_at (places_in (columns_of t) (identifiers_of a)) q) in
      let exact = full_exactly p law now a well su.rows y here keys_given typed (E ∷ []) (x ∷ []) a (there, tt) (turned, tt) (na, tt) (omega arith) given own ((same, same), tt) measures attributes None tt in
      let ks = keys st.rows in
      let listed : Perm su.rows (map (keyed (identifiers_of a)) ks) = chain su.same (chain (Perm-sym (keys_turned st.rows st.same)) (Perm-same ks (map (keyed (identifiers_of a)) ks) (sym (all_keyed a timed ks)))) in
      let points = full_turned p law now a well su.rows y here keys_given typed (E ∷ []) (x ∷ []) a (there, tt) (turned, tt) (na, tt) (omega arith) given own ((same, same), tt) measures attributes ks (are_keys st.rows turned) listed in
      means_by p now (fill_query p a a y x) a (Ok (map row su.rows)) (Ok (fill_of e D)) (chain points (fill_respects a st.rows d turned st.same e)) exact

  -- ---- the tables

  module _ (r : Text) (word : is_word r ≡ true) where
    keys_give : (now : Data) (xs : List Text) (n : ℕ) → AreThere now xs (D ∷ []) → AreEarlier r n now → n + 1 < 2 ^ 64 → SourcesGive p now r n (fill_keys_of r f a xs n) (Ok (with_points t (keys d) ∷ []))
    keys_give now xs n there apart few =
        stored_gives p r word now n (over (by_names xs n) (with_one (fill_keys_query f a))) t (Ok (keys d)) apart (omega (arith, few))
        (one_gives p r word now n (by_names xs n) (fill_keys_query f a) a t (Ok d) (λ points. Ok (keys points)) (no_tables p r word now n, subst (λ later. AreThere later xs (D ∷ [])) (sym (append-nil now)) there)
        (λ later x points q st. let same : d ≡ points = cc in subst (λ l. Means p later (fill_keys_query f a x) t (Ok (keys l))) same (keys_mean later x (subst (StandsAs later x a) (sym same) st))))

    pub fill_there : (before : Data) (n : ℕ) (os : Sources) → AreEarlier r n before → n + length (fill_made p r f a a os).tables < 2 ^ 64 → SourcesGive p before r n os (Ok (D ∷ [])) → NodeGives p before r n (fill_made p r f a a os) a (Ok (fill_of e D))
    fill_there before n os apart few g =
        let next : ℕ → Sources = fill_keys_of r f a os.names in
        let size = length-append os.tables (next os.next).tables in
        let one : length (next os.next).tables ≡ 1 = refl in
        two_gives p r word before n (and_then os next) (λ x y. fill_query p a a y x) a t a (Ok d) (Ok (keys d)) (λ points ks. Ok (fill_of e (with_points a points)))
        (beside_there p r word before n os next (D ∷ []) (Ok (with_points t (keys d) ∷ [])) apart g (λ more there earlier counted. keys_give (before ++ more) os.names os.next there earlier (omega (arith, few, counted, size, one))))
        (λ now x y points ks is_d is_keys st su.
        let same : d ≡ points = cc in
        let listed : keys d ≡ ks = cc in
        subst (λ l. Means p now (fill_query p a a y x) a (Ok (fill_of e (with_points a l)))) same (fill_mean now x y (subst (StandsAs now x a) (sym same) st) (subst (StandsAs now y t) (sym listed) su)))

-- ---- where the operand has a fault, too

pub fill_gives : (p : Settings) → Translates p → (r : Text) (word : is_word r ≡ true) (before : Data) (n : ℕ) (os : Sources) (f : Filling) (a : Structure) (v : Outcome (List Row)) → HaveNames (columns_of a) → AreGiven (columns_of a) → HasTime a → ((d : List Row) → v ≡ Ok d → IsDataSet a d) → AreEarlier r n before
    → n + length (fill_made p r f a a os).tables < 2 ^ 64 → SourcesGive p before r n os (alone p r word a v) → NodeGives p before r n (fill_made p r f a a os) a (after v (λ d. Ok (fill_of (extent_of f) (with_points a d))))
fill_gives p law r word before n os f a (Ok d) na given timed sets apart few g = fill_there p law a na given timed f d (sets d refl) r word before n os apart few g
fill_gives p law r word before n os f a (Err z) na given timed sets apart few g =
    let next = fill_keys_of r f a os.names os.next in
    let made = fill_made p r f a a os in
    λ name e. run_stops p before made.tables (table_of name made.query ∷ []) (z, r) (run_stops p before os.tables next.tables (z, r) g)
