-- Aggregates: the groups are those of identifiers, and their values those of what the calls name.
use Rattle.lineage_laws.proofs.Columns.{IsIdentifierOf, agree_joined, both_ok}
use Rattle.lineage_laws.proofs.Rows.{agree_map, agree_self, same_identifier, same_named}
use Rattle.lineage_laws.proofs.Togethers.{same_map, together_filter, together_length, together_map, together_once}
use Rattle.lineage_laws.proofs.Values.{value_over_same}
use Rattle.lineage_laws.specs.Agree.{Agree, Agreeing, IsKnown, Known, Together}
use Rattle.std.proofs.Common.{◌≡◌, ℕ, Bool, true, false, cond, ◌||◌, List, [], ◌∷◌, ◌++◌, length, map, pos, Ok, Option, None, Some, refl, sym, ap, ◌∙◌, subst, true≢false}
use Rattle.std.proofs.lemmas.List.{length-map}
use Rattle.std.specs.List.{AllByRecursion, filter, find, list_any}
use Rattle.std.specs.Option.{option_map_or}
use Rattle.vtl_cell.specs.Groups.{group_value}
use Rattle.vtl_cell.specs.Outcome.{faults_by, join}
use Rattle.vtl_cell.specs.Outcomes.{is_true}
use Rattle.vtl_cell.specs.Row.{Row, column_of, same_row}
use Rattle.vtl_cell.specs.ScalarArithmetic.{integer}
use Rattle.vtl_cell.specs.declared.cell.Cell.TheVariants as c
use Rattle.vtl_cell.specs.declared.operator.AggKind.{AggKind}
use Rattle.vtl_decimal.specs.Range.{fit_integer}
use Rattle.vtl_decimal.specs.Settings.{Settings}
use Rattle.vtl_meaning.proofs.Places.{IsIdentifier, IsOther, are_identifiers, are_others, columns_split}
use Rattle.vtl_meaning.specs.AggregateShapes.{IsAggregated}
use Rattle.vtl_meaning.specs.Aggregates.{aggregate_of, call_for, condition_fault, condition_of, group_fault, group_point, is_kept, made_of}
use Rattle.vtl_meaning.specs.GroupExpressions.{aggregated, grouped_cell}
use Rattle.vtl_meaning.specs.Groups.{keys_by, places_named, points_with}
use Rattle.vtl_meaning.specs.Points.{cell_or_null, with_points}
use Rattle.vtl_rows.specs.Tables.{cells_at}
use Rattle.vtl_tree.specs.Columns.{identifiers_of, others_of, place_of}
use Rattle.vtl_tree.specs.CompExp.{CompExp}
use Rattle.vtl_tree.specs.Names.{component_of}
use Rattle.vtl_tree.specs.Structure.{columns_of, names_of, same_name, same_role}
use Rattle.vtl_tree.specs.Trees.{AggTree}
use Rattle.vtl_tree.specs.declared.expression.AggCall.{AggCall}
use Rattle.vtl_tree.specs.declared.structure.Component.{Component}
use Rattle.vtl_tree.specs.declared.structure.Role.TheVariants as role
use Rattle.vtl_tree.specs.declared.structure.Structure.{Structure}
use Rattle.vtl_sources.specs.Links.{Pairs}
use Rattle.lineage_laws.specs.Over.{Operand, columns_from, no_pairs, of_aggregate, source_counted, source_if_named, with_expression}

-- ---- an identifier's name stands among the operand's identifiers
found_first : (name : List ℕ) (xs ys : List Component) (z : Component) → AllByRecursion IsOther ys → IsIdentifier z → find (λ x. same_name x.name name) (xs ++ ys) ≡ Some z → list_any (λ x. same_name x.name name) xs ≡ true
found_first name [] [] z all i e = cc
found_first name [] (y ∷ ys) z all i e = go (same_name y.name name) e (found_first name [] ys z all.1 i)
  where
    go : (b : Bool) → cond b (Some y) (find (λ x. same_name x.name name) ys) ≡ Some z → (find (λ x. same_name x.name name) ys ≡ Some z → list_any {X = Component} (λ x. same_name x.name name) [] ≡ true) → list_any {X = Component} (λ x. same_name x.name name) [] ≡ true
    go true f ih = let same : y ≡ z = cc in absurd (true≢false (sym (ap (λ u. same_role u.role role.Identifier) same ∙ i) ∙ all.0))
    go false f ih = ih f
found_first name (x ∷ xs) ys z all i e = go (same_name x.name name) e (found_first name xs ys z all i)
  where
    go : (b : Bool) → cond b (Some x) (find (λ u. same_name u.name name) (xs ++ ys)) ≡ Some z → (find (λ u. same_name u.name name) (xs ++ ys) ≡ Some z → list_any (λ u. same_name u.name name) xs ≡ true) → (b || list_any (λ u. same_name u.name name) xs) ≡ true
    go true f ih = refl
    go false f ih = ih f

known_identifiers : (a : Structure) (ys : List Component) → AllByRecursion IsIdentifier ys → AllByRecursion (λ y. component_of y.name (columns_of a) ≡ Some y) ys → AllByRecursion (λ y. IsIdentifierOf a y.name) ys
known_identifiers a [] h i = tt
known_identifiers a (y ∷ ys) h i = (found_first y.name (identifiers_of a) (others_of a) y (are_others a) h.0 (subst (λ xs. component_of y.name xs ≡ Some y) (columns_split a) i.0), known_identifiers a ys h.1 i.1)

names_all : (P : List ℕ → Type 0) (ys : List Component) → AllByRecursion (λ y. P y.name) ys → AllByRecursion P (names_of ys)
names_all P [] h = tt
names_all P (y ∷ ys) h = (h.0, names_all P ys h.1)

pub grouping_identifiers : (spec : AggTree) (a s : Structure) → IsAggregated spec a s → AllByRecursion (IsIdentifierOf a) spec.grouping
grouping_identifiers spec a s i = subst (λ ns. AllByRecursion (IsIdentifierOf a) ns) i.grouping (names_all (IsIdentifierOf a) (identifiers_of s) (known_identifiers a (identifiers_of s) (are_identifiers s) i.identifiers))

module _ (known : Known) (p : Settings) (a : Operand) where
  abbrev Rows : Row → Row → Type 0
  Rows = Agree known (columns_from a.structure a.sources)

  abbrev xs : List Component
  xs = columns_of a.structure

  -- ---- groups
  pub cells_same : (names : List (List ℕ)) → AllByRecursion (IsIdentifierOf a.structure) names → (r q : Row) → Rows r q → cells_at (places_named names xs) r ≡ cells_at (places_named names xs) q
  cells_same [] all r q g = refl
  cells_same (n ∷ ns) all r q g = λ i. same_identifier known a r q g n all.0 i ∷ cells_same ns all.1 r q g i

  pub members_agree : (places : List ℕ) → ((r q : Row) → Rows r q → cells_at places r ≡ cells_at places q) → (k j : Row) → k ≡ j → (d t : List Row) → Together Rows d t → Together Rows (points_with places d k) (points_with places t j)
  members_agree places same k j e d t g = together_filter Rows (λ r. same_row (cells_at places r) k) (λ r. same_row (cells_at places r) j) (λ r q h i. same_row (same r q h i) (e i)) d t g

  -- an aggregate of what is known
  pub aggregated_same : (f : AggKind) (name : Option (List ℕ)) (us vs : List Row) → Together Rows us vs → IsKnown known (source_if_named a name) → aggregated p xs f name us ≡ aggregated p xs f name vs
  aggregated_same f None us vs g h = ap (λ (n : ℕ). integer (fit_integer p.scale (pos n))) (together_length Rows us vs g)
  aggregated_same f (Some name) us vs g h = ap (group_value p f) (same_map Rows (column_of (place_of name xs)) (column_of (place_of name xs)) (λ r q k. same_named known a r q k name h) us vs g)

  module _ (spec : AggTree) (s : Structure) (i : IsAggregated spec a.structure s) (kept : IsKnown known (option_map_or (with_expression a a.sources.points) spec.having a.sources.points)) (d t : List Row) (agree : Together Rows d t) where
    abbrev places : List ℕ
    places = places_named spec.grouping xs

    abbrev ys : List Component
    ys = others_of s

    abbrev src : Component → Pairs
    src y = source_counted a spec.items y

    same_cells : (r q : Row) → Rows r q → cells_at places r ≡ cells_at places q
    same_cells = cells_same spec.grouping (grouping_identifiers spec a.structure s i)

    in_group : (k : Row) → Together Rows (points_with places d k) (points_with places t k)
    in_group k = members_agree places same_cells k k refl d t agree

    made_same : (y : Component) (k : Row) → IsKnown known (src y) → made_of p spec xs d y k ≡ made_of p spec xs t y k
    made_same y k = go (call_for spec.items y.name)
      where
        go : (o : Option AggCall) → IsKnown known (option_map_or (λ x. source_if_named a x.component) o []) → option_map_or (λ x. aggregated p xs x.kind x.component (points_with places d k)) o (Ok c.Null) ≡ option_map_or (λ x. aggregated p xs x.kind x.component (points_with places t k)) o (Ok c.Null)
        go None h = refl
        go (Some x) h = aggregated_same x.kind x.component (points_with places d k) (points_with places t k) (in_group k) h

    kept_same : (k : Row) → is_kept (condition_of p spec xs d) spec.having k ≡ is_kept (condition_of p spec xs t) spec.having k
    kept_same k = go spec.having kept
      where
        go : (o : Option CompExp) → IsKnown known (option_map_or (with_expression a a.sources.points) o a.sources.points) → is_kept (condition_of p spec xs d) o k ≡ is_kept (condition_of p spec xs t) o k
        go None h = refl
        go (Some e) h = ap is_true (value_over_same known p a (grouped_cell spec.grouping k) (λ x. aggregated p xs x.kind x.component (points_with places d k)) (λ x. aggregated p xs x.kind x.component (points_with places t k)) (λ x l. aggregated_same x.kind x.component (points_with places d k) (points_with places t k) (in_group k) l) a.sources.points e h)

    -- keys of the width of the grouping identifiers
    abbrev Keys : Row → Row → Type 0
    Keys k j = (k ≡ j) × (length k ≡ length (identifiers_of s))

    width : (r : Row) → length (cells_at places r) ≡ length (identifiers_of s)
    width r = length-map places (λ n. column_of n r) ∙ length-map spec.grouping (λ n. place_of n xs) ∙ ap length (sym i.grouping) ∙ length-map (identifiers_of s) (λ y. y.name)

    keys_agree : Together Keys (keys_by places d) (keys_by places t)
    keys_agree = together_once Keys same_row same_row (λ k j m n g h i. same_row (g.0 i) (h.0 i)) (map (cells_at places) d) (map (cells_at places) t) (together_map Rows Keys (cells_at places) (cells_at places) (λ r q g. (same_cells r q g, width r)) d t agree)

    pub aggregate_agrees : (out other : List Row) → aggregate_of p spec (with_points a.structure d) s ≡ Ok out → aggregate_of p spec (with_points a.structure t) s ≡ Ok other → Agreeing known (columns_from s (of_aggregate a spec s)) out other
    aggregate_agrees out other g h =
        let at = condition_of p spec xs d in
        let at_too = condition_of p spec xs t in
        let made = made_of p spec xs d in
        let made_too = made_of p spec xs t in
        let ks = keys_by places d in
        let js = keys_by places t in
        let us = filter (is_kept at spec.having) ks in
        let vs = filter (is_kept at_too spec.having) js in
        let Q = Agree known (columns_from s (of_aggregate a spec s)) in
        both_ok Q (join (faults_by (condition_fault at spec.having) ks) (faults_by (group_fault made ys) us)) (join (faults_by (condition_fault at_too spec.having) js) (faults_by (group_fault made_too ys) vs)) (map (group_point made ys) us) out (map (group_point made_too ys) vs) other
        (together_map Keys Q (group_point made ys) (group_point made_too ys)
        (λ k j w. agree_joined known no_pairs (identifiers_of s) (map src ys) k j (map (λ y. cell_or_null (made y k)) ys) (map (λ y. cell_or_null (made_too y j)) ys)
        (subst (λ z. Agree known (map (λ y. no_pairs) (identifiers_of s)) k z) w.0 (agree_self known (map (λ y. no_pairs) (identifiers_of s)) k (length-map (identifiers_of s) (λ y. no_pairs) ∙ sym w.1)))
        (agree_map known src (λ y. cell_or_null (made y k)) (λ y. cell_or_null (made_too y j)) ys (λ y l. ap cell_or_null (made_same y k l ∙ ap (made_too y) w.0))))
        us vs (together_filter Keys (is_kept at spec.having) (is_kept at_too spec.having) (λ k j w. kept_same k ∙ ap (is_kept at_too spec.having) w.0) ks js keys_agree)) g h
