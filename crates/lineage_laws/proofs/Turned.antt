-- `exists_in`, `pivot` and `unpivot`.
use Rattle.lineage_laws.proofs.Columns.{IsIdentifierOf, among_identifiers, agree_ids, agree_joined, same_values}
use Rattle.lineage_laws.proofs.Joins.{AreTwins, Twin, first_of, found_agree, second_of}
use Rattle.lineage_laws.proofs.Rows.{agree_map, agree_self, same_identifier, same_key, same_named}
use Rattle.lineage_laws.proofs.Togethers.{both_some, both_value, together_filter, together_find, together_flat, together_map, together_once, together_with}
use Rattle.lineage_laws.specs.Agree.{Agree, Agreeing, Both, IsKnown, Known, Together, and, both, neither, none}
use Rattle.std.proofs.Common.{◌≡◌, ℕ, ◌+◌, Bool, true, false, cond, ◌&&◌, List, [], ◌∷◌, ◌++◌, length, map, Option, None, Some, refl, sym, ap, ◌∙◌, subst, arith, length-append}
use Rattle.std.proofs.lemmas.List.{length-map, length-take-le}
use Rattle.std.specs.List.{AllByRecursion, cons_option, filter, filter_map, find}
use Rattle.vtl_cell.specs.Kinds.{is_null}
use Rattle.vtl_cell.specs.Order.{same_cell}
use Rattle.vtl_cell.specs.Row.{Row, same_row}
use Rattle.vtl_cell.specs.declared.cell.Cell.{Cell}
use Rattle.vtl_cell.specs.declared.cell.Cell.TheVariants as c
use Rattle.vtl_meaning.proofs.OwnColumns.{column_any}
use Rattle.vtl_meaning.proofs.Places.{key_within, length-names}
use Rattle.vtl_meaning.proofs.TurnedKept.{others_among}
use Rattle.vtl_meaning.specs.Agreement.{first_agreeing, has_agreeing, key_of, values_in}
use Rattle.vtl_meaning.specs.LookUps.{value_named}
use Rattle.vtl_meaning.specs.Made.{IsExistence, IsPivoted, IsUnpivoted, component_kinds}
use Rattle.vtl_meaning.specs.Points.{with_points}
use Rattle.vtl_meaning.specs.Sets.{existence_of, is_retained, with_answer}
use Rattle.vtl_meaning.specs.Turned.{coded_value, codes_of, is_coded, named_point, other_identifiers, pivot_of, pivoted_point, unpivot_of, unpivoted_points}
use Rattle.vtl_syntax.specs.declared.word_groups.Retain.{Retain}
use Rattle.vtl_tree.specs.ClauseShapes.{names_column}
use Rattle.vtl_tree.specs.Columns.{identifiers_of, kind_named, measures_of, others_of, place_of}
use Rattle.vtl_tree.specs.DataSet.{IsDataSet, is_point}
use Rattle.vtl_tree.specs.Structure.{IsStructure, columns_of, key_width}
use Rattle.vtl_tree.specs.declared.structure.Component.{Component}
use Rattle.vtl_tree.specs.declared.structure.Structure.{Structure}
use Rattle.vtl_tuples.specs.Keys.{each_once}
use Rattle.vtl_sources.specs.Links.{Pairs}
use Rattle.lineage_laws.specs.Over.{Operand, columns_from, measure_sources, no_pairs, of_measured, of_pivot, of_points, source_named}

module _ (known : Known) where
  -- rows that are the same, of the width of the columns
  pub agree_equal : (cols : List Pairs) (r q : Row) → r ≡ q → length cols ≡ length r → Agree known cols r q
  agree_equal cols r q e l = subst (λ z. Agree known cols r z) e (agree_self known cols r l)

  one_other : (s : Structure) (kind : List Cell) → (n : ℕ) → length (component_kinds (others_of s)) ≡ n → length (others_of s) ≡ n
  one_other s kind n e = sym (length-map (others_of s) (λ x. x.kind)) ∙ e

  -- ---- `exists_in`
  pub exists_agrees : (x y : Twin) → AreTwins known x → AreTwins known y → (pts : Pairs) (r : Retain) (s : Structure) → IsExistence x.operand.structure y.operand.structure s
      → Agreeing known (columns_from s (of_points pts s)) (existence_of (first_of x) (first_of y) r) (existence_of (second_of x) (second_of y) r)
  exists_agrees x y hx hy pts keep s i =
      let a = x.operand in
      let R = Agree known (columns_from a.structure a.sources) in
      let Q = Agree known (columns_from s (of_points pts s)) in
      let answer : (r q : Row) → R r q → has_agreeing a.structure (first_of y) r ≡ has_agreeing a.structure (second_of y) q = λ r q g. both_some (Agree known (columns_from y.operand.structure y.operand.sources)) (first_agreeing a.structure (first_of y) r) (first_agreeing a.structure (second_of y) q) (found_agree known a y hx.points hy r q g) in
      together_map R Q (with_answer a.structure (first_of y)) (with_answer a.structure (second_of y))
      (λ r q g. agree_joined known no_pairs (identifiers_of s) (map (λ z. no_pairs) (others_of s)) (key_of a.structure r) (key_of a.structure q) (c.Bool (has_agreeing a.structure (first_of y) r) ∷ []) (c.Bool (has_agreeing a.structure (second_of y) q) ∷ [])
      (agree_ids known a r q g no_pairs s i.identifiers)
      (agree_equal (map (λ z. no_pairs) (others_of s)) (c.Bool (has_agreeing a.structure (first_of y) r) ∷ []) (c.Bool (has_agreeing a.structure (second_of y) q) ∷ []) (ap (λ (b : Bool). c.Bool b ∷ []) (answer r q g)) (length-map (others_of s) (λ z. no_pairs) ∙ one_other s [] 1 (ap length i.truth))))
      (filter (λ r. is_retained keep (has_agreeing a.structure (first_of y) r)) x.first) (filter (λ r. is_retained keep (has_agreeing a.structure (second_of y) r)) x.second)
      (together_filter R (λ r. is_retained keep (has_agreeing a.structure (first_of y) r)) (λ r. is_retained keep (has_agreeing a.structure (second_of y) r)) (λ r q g. ap (is_retained keep) (answer r q g)) x.first x.second hx.agree)

  -- ---- `pivot`
  same_length : {X Y : Type 0} (ps : Pairs) (xs : List X) (ys : List Y) → length xs ≡ length ys → map (λ x. ps) xs ≡ map (λ y. ps) ys
  same_length ps [] [] e = refl
  same_length ps [] (y ∷ ys) e = absurd (omega (arith, e))
  same_length ps (x ∷ xs) [] e = absurd (omega (arith, e))
  same_length ps (x ∷ xs) (y ∷ ys) e = ap (λ l. ps ∷ l) (same_length ps xs ys (omega (arith, e)))

  module _ (a : Operand) (id m : List ℕ) (s : Structure) (i : IsPivoted id m a.structure s) (w : IsStructure a.structure) (d t : List Row) (agree : Agreeing known (columns_from a.structure a.sources) d t) where
    abbrev R : Row → Row → Type 0
    R = Agree known (columns_from a.structure a.sources)

    abbrev rest : List Component
    rest = other_identifiers id a.structure

    abbrev Keys : Row → Row → Type 0
    Keys k j = (k ≡ j) × (length k ≡ length (identifiers_of s))

    rest_names : AllByRecursion (λ y. IsIdentifierOf a.structure y.name) rest
    rest_names = among_identifiers rest a.structure (others_among id a.structure w)

    id_name : IsIdentifierOf a.structure id
    id_name = column_any (place_of id (identifiers_of a.structure)) id (kind_named id (identifiers_of a.structure)) (identifiers_of a.structure) i.coded

    keys_agree : Together Keys (each_once same_row (map (values_in a.structure rest) d)) (each_once same_row (map (values_in a.structure rest) t))
    keys_agree =
        together_once Keys same_row same_row (λ k j l n g h e. same_row (g.0 e) (h.0 e)) (map (values_in a.structure rest) d) (map (values_in a.structure rest) t)
        (together_map R Keys (values_in a.structure rest) (values_in a.structure rest) (λ r q g. (same_values known a r q g rest rest_names, length-map rest (λ y. value_named (columns_of a.structure) r y.name) ∙ sym (length-names (identifiers_of s) rest i.identifiers.0))) d t agree)

    coded_same : (k j : Row) → k ≡ j → (code : List ℕ) → IsKnown known (source_named a m) → coded_value (with_points a.structure d) id m k code ≡ coded_value (with_points a.structure t) id m j code
    coded_same k j e code h =
        both_value R (λ r. value_named (columns_of a.structure) r m) (λ r. value_named (columns_of a.structure) r m) c.Null (λ r q g. same_named known a r q g m h) (find (is_coded a.structure id k code) d) (find (is_coded a.structure id j code) t)
        (together_find R (is_coded a.structure id k code) (is_coded a.structure id j code) (λ r q g l. same_row (same_values known a r q g rest rest_names l) (e l) && same_cell (same_identifier known a r q g id id_name l) (c.Text code)) d t agree)

    pub pivot_agrees : Agreeing known (columns_from s (of_pivot a m s)) (pivot_of (with_points a.structure d) id m) (pivot_of (with_points a.structure t) id m)
    pivot_agrees =
        let one = with_points a.structure d in
        let two = with_points a.structure t in
        let codes = codes_of id a.structure in
        let many : map (λ code. source_named a m) codes ≡ map (λ y. source_named a m) (others_of s) = same_length (source_named a m) codes (others_of s) (sym (length-map codes (λ code. kind_named m (columns_of a.structure))) ∙ ap length (sym i.measures) ∙ length-map (others_of s) (λ x. x.kind)) in
        subst (λ l. Together (Agree known (map (λ y. no_pairs) (identifiers_of s) ++ l)) (pivot_of one id m) (pivot_of two id m)) many
        (together_map Keys (Agree known (map (λ y. no_pairs) (identifiers_of s) ++ map (λ code. source_named a m) codes)) (pivoted_point one id m) (pivoted_point two id m)
        (λ k j g. agree_joined known no_pairs (identifiers_of s) (map (λ code. source_named a m) codes) k j (map (coded_value one id m k) codes) (map (coded_value two id m j) codes)
        (agree_equal (map (λ y. no_pairs) (identifiers_of s)) k j g.0 (length-map (identifiers_of s) (λ y. no_pairs) ∙ sym g.1))
        (agree_map known (λ code. source_named a m) (coded_value one id m k) (coded_value two id m j) codes (λ code h. coded_same k j g.0 code h)))
        (each_once same_row (map (values_in a.structure rest) d)) (each_once same_row (map (values_in a.structure rest) t)) keys_agree)

  -- ---- `unpivot`
  sums : (whole ours theirs ids nothing others own key row : ℕ) → whole ≡ ours + theirs → ours ≡ ids → theirs ≡ nothing → nothing ≡ others → others ≡ 1 → ids ≡ own + 1 → row ≡ key + 2 → key ≡ own → whole ≡ row
  sums whole ours theirs ids nothing others own key row a b c d e f g h = omega (arith, a, b, c, d, e, f, g, h)

  module _ (a : Operand) (pm : AllByRecursion (IsKnown known) (measure_sources a)) (id m : List ℕ) (s : Structure) (i : IsUnpivoted id m a.structure s) (d t : List Row) (agree : Agreeing known (columns_from a.structure a.sources) d t) (dd : IsDataSet a.structure d) (tt : IsDataSet a.structure t) where
    abbrev U : Row → Row → Type 0
    U = Agree known (columns_from s (of_measured a s))

    width : (r : Row) (name : List ℕ) (v : Cell) → is_point (columns_of a.structure) r ≡ true → length (columns_from s (of_measured a s)) ≡ length (key_of a.structure r ++ c.Text name ∷ v ∷ [])
    width r name v h =
        let nothing : List Pairs = map (λ y. []) (others_of s) in
        let ours : List Pairs = map (λ x. no_pairs) (identifiers_of s) in
        let theirs : List Pairs = nothing in
        let others : length (others_of s) ≡ 1 = one_other s [] 1 (ap length i.measured) in
        let ids : length (identifiers_of s) ≡ length (identifiers_of a.structure ++ names_column id (measures_of a.structure) ∷ []) = length-names (identifiers_of s) (identifiers_of a.structure ++ names_column id (measures_of a.structure) ∷ []) i.identifiers.0 in
        let more : length (identifiers_of a.structure ++ names_column id (measures_of a.structure) ∷ []) ≡ length (identifiers_of a.structure) + 1 = length-append (identifiers_of a.structure) (names_column id (measures_of a.structure) ∷ []) in
        let first : length ours ≡ length (identifiers_of s) = length-map (identifiers_of s) (λ x. no_pairs) in
        let second : length theirs ≡ length nothing = refl in
        let third : length nothing ≡ length (others_of s) = length-map (others_of s) (λ y. []) in
        let all : length (ours ++ theirs) ≡ length ours + length theirs = length-append ours theirs in
        let row : length (key_of a.structure r ++ c.Text name ∷ v ∷ []) ≡ length (key_of a.structure r) + 2 = length-append (key_of a.structure r) (c.Text name ∷ v ∷ []) in
        let key : length (key_of a.structure r) ≡ length (identifiers_of a.structure) = length-take-le (key_width a.structure) r (key_within a.structure r h) in
        sums (length (ours ++ theirs)) (length ours) (length theirs) (length (identifiers_of s)) (length nothing) (length (others_of s)) (length (identifiers_of a.structure)) (length (key_of a.structure r)) (length (key_of a.structure r ++ c.Text name ∷ v ∷ [])) all first second third others (ids ∙ more) row key

    named_agree : (r q : Row) (x : List ℕ) (v w : Cell) → Agree known (columns_from a.structure a.sources) r q → is_point (columns_of a.structure) r ≡ true → v ≡ w → Both U (named_point a.structure r x v) (named_point a.structure q x w)
    named_agree r q x v w g h e = go (is_null v) (is_null w) (ap is_null e)
      where
        go : (b l : Bool) → b ≡ l → Both U (cond b None (Some (key_of a.structure r ++ c.Text x ∷ v ∷ []))) (cond l None (Some (key_of a.structure q ++ c.Text x ∷ w ∷ [])))
        go true true k = neither
        go false false k = both (agree_equal (columns_from s (of_measured a s)) (key_of a.structure r ++ c.Text x ∷ v ∷ []) (key_of a.structure q ++ c.Text x ∷ w ∷ []) (λ j. same_key known a r q g j ++ c.Text x ∷ e j ∷ []) (width r x v h))
        go true false k = cc
        go false true k = cc

    cons_both : (o u : Option Row) (xs ys : List Row) → Both U o u → Together U xs ys → Together U (cons_option o xs) (cons_option u ys)
    cons_both _ _ xs ys neither k = k
    cons_both _ _ xs ys (both g) k = and g k

    points_agree : (r q : Row) → Agree known (columns_from a.structure a.sources) r q → is_point (columns_of a.structure) r ≡ true → (ms : List Component) → AllByRecursion (IsKnown known) (map (λ x. source_named a x.name) ms)
        → Together U (filter_map (λ x. named_point a.structure r x.name (value_named (columns_of a.structure) r x.name)) ms) (filter_map (λ x. named_point a.structure q x.name (value_named (columns_of a.structure) q x.name)) ms)
    points_agree r q g h [] k = none
    points_agree r q g h (x ∷ ms) k =
        let one = value_named (columns_of a.structure) r x.name in
        let two = value_named (columns_of a.structure) q x.name in
        cons_both (named_point a.structure r x.name one) (named_point a.structure q x.name two) (filter_map (λ y. named_point a.structure r y.name (value_named (columns_of a.structure) r y.name)) ms) (filter_map (λ y. named_point a.structure q y.name (value_named (columns_of a.structure) q y.name)) ms)
        (named_agree r q x.name one two g h (same_named known a r q g x.name k.0)) (points_agree r q g h ms k.1)

    pub unpivot_agrees : Agreeing known (columns_from s (of_measured a s)) (unpivot_of (with_points a.structure d)) (unpivot_of (with_points a.structure t))
    unpivot_agrees =
        let P : Row → Type 0 = λ r. is_point (columns_of a.structure) r ≡ true in
        let Q = Agree known (columns_from a.structure a.sources) in
        together_flat (λ r q. Q r q × P r × P q) U (unpivoted_points a.structure) (unpivoted_points a.structure) (λ r q g. points_agree r q g.0 g.1 (measures_of a.structure) pm) d t
        (together_with Q P P d t agree dd.typed tt.typed)
