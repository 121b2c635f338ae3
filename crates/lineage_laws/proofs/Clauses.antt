-- Forms on one data set, point by point.
use Rattle.lineage_laws.proofs.Columns.{IsIdentifierOf, agree_front_cells, agree_joined, agree_left, among_identifiers, both_ok, const_map, kept_identifiers}
use Rattle.lineage_laws.proofs.Rows.{agree_map, same_at, same_identifier, same_named}
use Rattle.lineage_laws.proofs.Togethers.{together_filter, together_map}
use Rattle.lineage_laws.proofs.Values.{expressions_known, value_same, values_between, values_same}
use Rattle.lineage_laws.specs.Agree.{Agree, Agreeing, IsKnown, Known, cell, no_cells}
use Rattle.std.proofs.Common.{◌≡◌, Bool, true, ◌&&◌, List, [], ◌∷◌, ◌++◌, length, map, take, Ok, Option, None, Some, option_map, refl, sym, ap, ◌∙◌, subst}
use Rattle.std.proofs.lemmas.List.{map-append}
use Rattle.std.specs.List.{AllByRecursion, filter}
use Rattle.std.specs.Option.{option_map_or}
use Rattle.vtl_lists.proofs.Alls.{all_more}
use Rattle.vtl_cell.specs.Order.{same_cell}
use Rattle.vtl_cell.specs.Outcome.{fault_in, faults_by}
use Rattle.vtl_cell.specs.Outcomes.{is_true}
use Rattle.vtl_cell.specs.Row.{Row}
use Rattle.vtl_decimal.specs.Settings.{Settings}
use Rattle.vtl_meaning.proofs.Kept.{calculated_split, columns_point, key_widths}
use Rattle.vtl_meaning.proofs.OwnColumns.{column_any}
use Rattle.vtl_meaning.specs.Made.{HasIdentifiers, IsCalculated, IsColumnAt, IsMeasured, IsRenamed, IsSub}
use Rattle.vtl_meaning.specs.Operators.{calculated_exp, calculated_of, for_measures, has_values, left_of, measured_of, sub_of, target_named, value_exp, with_measure}
use Rattle.vtl_meaning.specs.Points.{cell_or_null, each_point, point_fault, point_of, with_points}
use Rattle.vtl_rows.specs.Tables.{cells_at}
use Rattle.vtl_tree.specs.Clauses.{filter_of, kept}
use Rattle.vtl_tree.specs.Columns.{column_named, columns_named, identifiers_of, kind_named, measures_of, others_of, place_of, places_in}
use Rattle.vtl_tree.specs.CompExp.{CompExp}
use Rattle.vtl_tree.specs.Structure.{columns_of}
use Rattle.vtl_tree.specs.Trees.{ItemTree, MeasureTree, ValueTree}
use Rattle.vtl_tree.specs.Trees as nodes
use Rattle.vtl_tree.specs.Value.{called, value}
use Rattle.vtl_tree.specs.View.{comp_exps_of}
use Rattle.vtl_tree.specs.declared.clauses.SubItem.{SubItem}
use Rattle.vtl_tree.specs.declared.structure.Component.{Component}
use Rattle.vtl_tree.specs.declared.structure.Structure.{Structure}
use Rattle.vtl_sources.specs.Links.{Pairs}
use Rattle.vtl_cell.specs.declared.cell.Cell.{Cell}
use Rattle.vtl_sources.specs.Sources.{sources}
use Rattle.lineage_laws.specs.Over.{Operand, columns_from, no_pairs, of_left, of_made, of_measures, source_made, source_named, source_of_value, with_expression, with_expressions}

module _ (known : Known) (p : Settings) (a : Operand) where
  abbrev cols : List Pairs
  cols = columns_from a.structure a.sources

  -- ---- `filter`
  pub filter_agrees : (e : CompExp) (d t out other : List Row) → IsKnown known (with_expression a a.sources.points e) → Agreeing known cols d t → filter_of p e d ≡ Ok out → filter_of p e t ≡ Ok other → Agreeing known cols out other
  filter_agrees e d t out other h agree k l =
      let R = Agree known cols in
      let same : (r q : Row) → R r q → value p e r ≡ value p e q = λ r q g. value_same known p a r q (same_at known a r q g) a.sources.points e h in
      both_ok R (faults_by (λ r. fault_in (value p e r)) d) (faults_by (λ r. fault_in (value p e r)) t) (kept p e d) out (kept p e t) other
      (together_filter R (λ r. is_true (value p e r)) (λ r. is_true (value p e r)) (λ r q g. ap is_true (same r q g)) d t agree) k l

  -- ---- `keep`, `drop`, `#`, `sub`
  pub left_agrees : (s : Structure) → AllByRecursion (λ y. IsIdentifierOf a.structure y.name) (identifiers_of s) → (d t : List Row) → Agreeing known cols d t → Agreeing known (columns_from s (of_left a s)) (left_of (with_points a.structure d) s) (left_of (with_points a.structure t) s)
  left_agrees s all d t agree =
      let f = cells_at (places_in (columns_of a.structure) (columns_of s)) in
      together_map (Agree known cols) (Agree known (columns_from s (of_left a s))) f f (λ r q g. agree_left known a r q g a.sources.points (λ y. source_named a y.name) (λ y h. h) s all) d t agree

  values_tested : (items : List SubItem) → AllByRecursion (λ i. IsIdentifierOf a.structure i.id) items → (r q : Row) → Agree known cols r q → has_values a.structure items r ≡ has_values a.structure items q
  values_tested [] all r q g = refl
  values_tested (x ∷ items) all r q g = λ i. same_cell (same_identifier known a r q g x.id all.0 i) x.value && values_tested items all.1 r q g i

  pub sub_agrees : (items : List SubItem) (s : Structure) → IsSub items a.structure s → (d t : List Row) → Agreeing known cols d t → Agreeing known (columns_from s (of_left a s)) (sub_of items (with_points a.structure d) s) (sub_of items (with_points a.structure t) s)
  sub_agrees items s i d t agree =
      let ids = identifiers_of a.structure in
      let named = all_more (λ x. (◌≡◌ {A = Bool} _ true) × IsColumnAt (place_of x.id ids) x.id (kind_named x.id ids) ids) (λ x. IsIdentifierOf a.structure x.id) (λ x c. column_any (place_of x.id ids) x.id (kind_named x.id ids) ids c.1) items i.values in
      let test = has_values a.structure items in
      left_agrees s (among_identifiers (identifiers_of s) a.structure i.left) (filter test d) (filter test t) (together_filter (Agree known cols) test test (values_tested items named) d t agree)

  -- ---- expressions for columns
  module _ (s : Structure) (kept : HasIdentifiers s (identifiers_of a.structure)) (rest : List CompExp) (srcs : List Pairs) (same : (r q : Row) → Agree known cols r q → Agree known srcs (point_of p rest r) (point_of p rest q)) where
    abbrev exps : List CompExp
    exps = columns_named (columns_of a.structure) (identifiers_of s) ++ rest

    split : (r : Row) → point_of p exps r ≡ cells_at (places_in (columns_of a.structure) (identifiers_of s)) r ++ point_of p rest r
    split r = map-append (λ e. cell_or_null (value p e r)) (columns_named (columns_of a.structure) (identifiers_of s)) rest ∙ ap (λ l. l ++ point_of p rest r) (columns_point p (columns_of a.structure) (identifiers_of s) r)

    row_agrees : (r q : Row) → Agree known cols r q → Agree known (columns_from s (sources a.sources.points srcs)) (point_of p exps r) (point_of p exps q)
    row_agrees r q g =
        let places = places_in (columns_of a.structure) (identifiers_of s) in
        subst (λ z. Agree known (columns_from s (sources a.sources.points srcs)) z (point_of p exps q)) (sym (split r))
        (subst (λ z. Agree known (columns_from s (sources a.sources.points srcs)) (cells_at places r ++ point_of p rest r) z) (sym (split q))
        (agree_joined known no_pairs (identifiers_of s) srcs (cells_at places r) (cells_at places q) (point_of p rest r) (point_of p rest q)
        (agree_front_cells known a r q g no_pairs (identifiers_of s) (kept_identifiers s a.structure kept)) (same r q g)))

    pub each_agrees : (d t out other : List Row) → Agreeing known cols d t → each_point p exps d ≡ Ok out → each_point p exps t ≡ Ok other → Agreeing known (columns_from s (sources a.sources.points srcs)) out other
    each_agrees d t out other agree k l =
        let Q = Agree known (columns_from s (sources a.sources.points srcs)) in
        both_ok Q (faults_by (point_fault p exps) d) (faults_by (point_fault p exps) t) (map (point_of p exps) d) out (map (point_of p exps) t) other
        (together_map (Agree known cols) Q (point_of p exps) (point_of p exps) row_agrees d t agree) k l

  -- ---- `calc`
  item_same : (items : List ItemTree) (r q : Row) → Agree known cols r q → (y : Component) → IsKnown known (source_made a (nodes.of_items items) y) → cell_or_null (value p (calculated_exp items (columns_of a.structure) y) r) ≡ cell_or_null (value p (calculated_exp items (columns_of a.structure) y) q)
  item_same items r q g y = go (target_named items y.name)
    where
      of_value : (v : ValueTree) → IsKnown known (source_of_value a v) → value p (value_exp v) r ≡ value p (value_exp v) q
      of_value (nodes.scalar e) h = value_same known p a r q (same_at known a r q g) no_pairs e h
      of_value (nodes.analytic x) h = refl

      go : (o : Option ItemTree) → IsKnown known (option_map_or (source_of_value a) (option_map (λ i. i.value) o) (source_named a y.name))
          → cell_or_null (value p (option_map_or (λ i. value_exp i.value) o (column_named (columns_of a.structure) y.name)) r) ≡ cell_or_null (value p (option_map_or (λ i. value_exp i.value) o (column_named (columns_of a.structure) y.name)) q)
      go None h = same_named known a r q g y.name h
      go (Some i) h = ap cell_or_null (of_value i.value h)

  pub calc_agrees : (items : List ItemTree) (s : Structure) → IsCalculated p items a.structure s → (d t out other : List Row) → Agreeing known cols d t → calculated_of p items (with_points a.structure d) s ≡ Ok out → calculated_of p items (with_points a.structure t) s ≡ Ok other → Agreeing known (columns_from s (of_made a (nodes.of_items items) s)) out other
  calc_agrees items s i d t out other agree k l =
      let xs = columns_of a.structure in
      let rest = map (calculated_exp items xs) (others_of s) in
      let es = calculated_split p items a.structure s i in
      let each : (r : Row) → point_of p rest r ≡ map (λ y. cell_or_null (value p (calculated_exp items xs y) r)) (others_of s) = λ r. maps (calculated_exp items xs) (λ e. cell_or_null (value p e r)) (others_of s) in
      let srcs = map (λ y. source_made a (nodes.of_items items) y) (others_of s) in
      each_agrees s i.identifiers rest srcs
      (λ r q g. subst (λ z. Agree known srcs z (point_of p rest q)) (sym (each r)) (subst (λ z. Agree known srcs (map (λ y. cell_or_null (value p (calculated_exp items xs y) r)) (others_of s)) z) (sym (each q))
      (agree_map known (λ y. source_made a (nodes.of_items items) y) (λ y. cell_or_null (value p (calculated_exp items xs y) r)) (λ y. cell_or_null (value p (calculated_exp items xs y) q)) (others_of s) (item_same items r q g))))
      d t out other agree (subst (λ z. each_point p z d ≡ Ok out) es k) (subst (λ z. each_point p z t ≡ Ok other) es l)
    where
      maps : {X Y Z : Type 0} (f : X → Y) (g : Y → Z) (ys : List X) → map g (map f ys) ≡ map (λ y. g (f y)) ys
      maps f g [] = refl
      maps f g (y ∷ ys) = ap (λ l. g (f y) ∷ l) (maps f g ys)

  -- ---- operators on measures
  agree_for : (f : Component → Component → CompExp) (k : Component → Pairs) (r q : Row) → ((x y : Component) → IsKnown known (k x) → cell_or_null (value p (f x y) r) ≡ cell_or_null (value p (f x y) q)) → (xs ys : List Component)
      → Agree known (map k (take (length ys) xs)) (point_of p (for_measures f xs ys) r) (point_of p (for_measures f xs ys) q)
  agree_for f k r q h [] [] = no_cells
  agree_for f k r q h [] (y ∷ ys) = no_cells
  agree_for f k r q h (x ∷ xs) [] = no_cells
  agree_for f k r q h (x ∷ xs) (y ∷ ys) = cell (h x y) (agree_for f k r q h xs ys)

  pub measures_agree : (m : MeasureTree) (s : Structure) → IsMeasured p m a.structure s → (d t out other : List Row) → Agreeing known cols d t → measured_of p m (with_points a.structure d) s ≡ Ok out → measured_of p m (with_points a.structure t) s ≡ Ok other → Agreeing known (columns_from s (of_measures a m s)) out other
  measures_agree m s i d t out other agree k l =
      let xs = columns_of a.structure in
      let front : Component → Pairs = λ x. with_expressions a (source_named a x.name) (comp_exps_of m.before) in
      let src : Component → Pairs = λ x. with_expressions a (front x) (comp_exps_of m.after) in
      let same : (r q : Row) → Agree known cols r q → (x y : Component) → IsKnown known (src x) → cell_or_null (value p (with_measure m xs x y) r) ≡ cell_or_null (value p (with_measure m xs x y) q) =
      λ r q g x y h.
      let at = same_at known a r q g in
      let first : IsKnown known (front x) = expressions_known known a (front x) (comp_exps_of m.after) h in
      let own : IsKnown known (source_named a x.name) = expressions_known known a (source_named a x.name) (comp_exps_of m.before) first in
      ap (λ vs. cell_or_null (called p y.kind vs m.op))
      (values_between known p a r q at (source_named a x.name) (column_named xs x.name) m.before m.after first (ap (λ (v : Cell). Ok v) (same_named known a r q g x.name own)) (values_same known p a r q at (front x) (comp_exps_of m.after) h)) in
      each_agrees s i.identifiers (for_measures (with_measure m xs) (measures_of a.structure) (measures_of s)) (map src (take (length (measures_of s)) (measures_of a.structure)))
      (λ r q g. agree_for (with_measure m xs) src r q (same r q g) (measures_of a.structure) (measures_of s)) d t out other agree k l

  -- ---- `rename`
  pub rename_agrees : (s : Structure) → IsRenamed a.structure s → (d t : List Row) → Agreeing known cols d t → Agreeing known (columns_from s a.sources) d t
  rename_agrees s i d t agree = subst (λ l. Agreeing known (l ++ a.sources.others) d t) (const_map no_pairs (identifiers_of a.structure) (identifiers_of s) (sym (key_widths a.structure s i))) agree
