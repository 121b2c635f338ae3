-- Checks and hierarchies.
use Rattle.std.proofs.Common.{length-append, ◌≡◌, ℕ, suc, ◌+◌, Bool, true, false, cond, ◌&&◌, List, [], ◌∷◌, ◌++◌, append_assoc, length, map, Option, None, Some, option_map, Ok, refl, sym, ap, ◌∙◌, subst, arith}
use Rattle.std.proofs.lemmas.List.{length-map, map-append}
use Rattle.std.specs.List.{AllByRecursion, cons_option, filter, filter_map, find, flat_map, fold}
use Rattle.std.specs.Option.{option_map_or}
use Rattle.vtl_cell.specs.Conversion.{as_kind}
use Rattle.vtl_cell.specs.Order.{same_cell}
use Rattle.vtl_cell.specs.Outcome.{Outcome, after, fault_in, faults_by, unless}
use Rattle.vtl_cell.specs.Row.{Row, column_of, same_row}
use Rattle.vtl_cell.specs.declared.cell.Cell.{Cell}
use Rattle.vtl_cell.specs.declared.cell.Cell.TheVariants as c
use Rattle.vtl_cell.specs.declared.kind.Kind.TheVariants as k
use Rattle.vtl_decimal.specs.Settings.{Settings}
use Rattle.vtl_rows.specs.Tables.{cells_at}
use Rattle.vtl_syntax.specs.declared.statements.HierRule.{HierRule}
use Rattle.vtl_syntax.specs.declared.word_groups.CheckOut.{CheckOut}
use Rattle.vtl_syntax.specs.declared.word_groups.CheckOut.TheVariants as out
use Rattle.vtl_syntax.specs.declared.word_groups.HierInput.{HierInput}
use Rattle.vtl_syntax.specs.declared.word_groups.HierOut.{HierOut}
use Rattle.vtl_syntax.specs.declared.word_groups.HierOut.TheVariants as outs
use Rattle.vtl_syntax.specs.declared.word_groups.Mode.{Mode}
use Rattle.vtl_tree.specs.Checks.{output_parts, rule_id, ruleid, with_ids, without_codes}
use Rattle.vtl_tree.specs.Columns.{identifiers_of, measures_of, others_of, place_of, places_in}
use Rattle.vtl_tree.specs.CompExp.{CompExp}
use Rattle.vtl_tree.specs.DataSet.{IsDataSet, is_point}
use Rattle.vtl_tree.specs.Environment.{DataSet}
use Rattle.vtl_tree.specs.RuleItems.{definitions, left_item}
use Rattle.vtl_tree.specs.Structure.{IsStructure, columns_of, key_width, same_name, same_role}
use Rattle.vtl_tree.specs.Trees.{PointRuleTree}
use Rattle.vtl_tree.specs.declared.rules.HierRules.{HierRules}
use Rattle.vtl_tree.specs.declared.specifications.CheckSpec.{CheckSpec}
use Rattle.vtl_tree.specs.declared.structure.Component.{Component}
use Rattle.vtl_tree.specs.declared.structure.Role.TheVariants as role
use Rattle.vtl_tree.specs.declared.structure.Structure.{Structure}
use Rattle.vtl_tuples.specs.Keys.{each_once}
use Rattle.vtl_meaning.proofs.Kept.{shown_split}
use Rattle.vtl_meaning.proofs.LookUps.{named_cells}
use Rattle.vtl_meaning.proofs.OwnColumns.{column_any}
use Rattle.vtl_meaning.proofs.Places.{IsIdentifier, are_identifiers, columns_split, length-names, point_length}
use Rattle.vtl_meaning.proofs.TurnedKept.{others_among}
use Rattle.vtl_meaning.specs.Agreement.{first_agreeing, key_of, values_in}
use Rattle.vtl_meaning.specs.LookUps.{value_named, values_named}
use Rattle.vtl_meaning.specs.Made.{HasIdentifiers, component_kinds}
use Rattle.vtl_meaning.specs.Operators.{left_of}
use Rattle.vtl_meaning.specs.Points.{cell_or_null, with_points}
use Rattle.vtl_meaning.specs.Sets.{united}
use Rattle.vtl_meaning.specs.Turned.{is_coded, other_identifiers}
use Rattle.vtl_meaning.proofs.AnalyticShaped.{no_measure}
use Rattle.vtl_rulings.specs.Hierarchies.{computed, hierarchy_of, items_of}
use Rattle.vtl_rulings.specs.HierarchyChecks.{Ruled, SidedRule, check_cells, check_fault, check_hierarchy_of, combinations, is_checked, items_at, key_at, only_name, ruled_by, sided_rules}
use Rattle.vtl_rulings.specs.HierarchyShapes.{IsItemized}
use Rattle.vtl_rulings.specs.Modes.{Items}
use Rattle.vtl_rulings.specs.Outputs.{code_cell, errors_at, is_basic_shown, is_shown, level_cell}
use Rattle.vtl_rulings.specs.PointChecks.{PointRule, check_of, checked_point, datapoint_of, errors_of, imbalance_at, point_rules, rule_fault, rule_points, ruled_point, truth_of, under}
use Rattle.vtl_rulings.specs.Sides.{holds}
use Rattle.vtl_sources.specs.Links.{Pairs}
use Rattle.lineage_laws.specs.Agree.{Agree, Agreeing, Both, IsKnown, Known, Together, and, both, cell, neither, no_cells, none}
use Rattle.lineage_laws.specs.Over.{Found, Operand, columns_from, measure_sources, no_pairs, of_check, of_datapoint, source_at, source_named, with_expression, with_measure, with_rule}
use Rattle.lineage_laws.proofs.Columns.{IsIdentifierOf, agree_ids, agree_named, among_identifiers, both_ok, const_map, same_values}
use Rattle.lineage_laws.proofs.Joins.{AreTwins, Twin, first_of, found_agree, second_of}
use Rattle.lineage_laws.proofs.Rows.{agree_append, agree_key, agree_self, known_parts, same_at, same_identifier, same_named}
use Rattle.lineage_laws.proofs.Togethers.{both_value, same_map, together_append, together_find}
use Rattle.lineage_laws.proofs.Values.{expression_known, value_same}

-- ---- points of which some are left out
cons_both : {X Y : Type 0} (R : X → Y → Type 0) (o : Option X) (u : Option Y) (xs : List X) (ys : List Y) → Both R o u → Together R xs ys → Together R (cons_option o xs) (cons_option u ys)
cons_both R _ _ xs ys neither t = t
cons_both R _ _ xs ys (both g) t = and g t

together_filter_map : {X Y A B : Type 0} (R : X → Y → Type 0) (Q : A → B → Type 0) (f : X → Option A) (g : Y → Option B) → ((x : X) (y : Y) → R x y → Both Q (f x) (g y)) → (xs : List X) (ys : List Y) → Together R xs ys → Together Q (filter_map f xs) (filter_map g ys)
together_filter_map R Q f g h _ _ none = none
together_filter_map R Q f g h _ _ (and {x = x} {y = y} {xs = xs} {ys = ys} r t) = cons_both Q (f x) (g y) (filter_map f xs) (filter_map g ys) (h x y r) (together_filter_map R Q f g h xs ys t)

module _ (known : Known) where
  -- ---- what is shown behind the identifiers
  errors_agree : (code level truth : Cell) → Agree known (no_pairs ∷ no_pairs ∷ []) (errors_at code level truth) (errors_at code level truth)
  errors_agree code level (c.Bool false) = cell (λ h. refl) (cell (λ h. refl) no_cells)
  errors_agree code level (c.Bool true) = cell (λ h. refl) (cell (λ h. refl) no_cells)
  errors_agree code level c.Null = cell (λ h. refl) (cell (λ h. refl) no_cells)
  errors_agree code level (c.Int x) = cell (λ h. refl) (cell (λ h. refl) no_cells)
  errors_agree code level (c.Num x) = cell (λ h. refl) (cell (λ h. refl) no_cells)
  errors_agree code level (c.Text x) = cell (λ h. refl) (cell (λ h. refl) no_cells)
  errors_agree code level (c.Day x) = cell (λ h. refl) (cell (λ h. refl) no_cells)
  errors_agree code level (c.Period x) = cell (λ h. refl) (cell (λ h. refl) no_cells)

  parts_agree : (o : CheckOut) (ms : List Pairs) (us vs : Row) (truth code level : Cell) → Agree known ms us vs
      → Agree known (output_parts o ms no_pairs (no_pairs ∷ no_pairs ∷ [])) (output_parts o us truth (errors_at code level truth)) (output_parts o vs truth (errors_at code level truth))
  parts_agree out.Invalid ms us vs truth code level g = agree_append known ms us vs (no_pairs ∷ no_pairs ∷ []) (errors_at code level truth) (errors_at code level truth) g (errors_agree code level truth)
  parts_agree out.All ms us vs truth code level g = cell (λ h. refl) (errors_agree code level truth)
  parts_agree out.AllMeasures ms us vs truth code level g =
      agree_append known ms us vs (no_pairs ∷ no_pairs ∷ no_pairs ∷ []) (truth ∷ errors_at code level truth) (truth ∷ errors_at code level truth) g (cell (λ h. refl) (errors_agree code level truth))

  -- ---- `check_datapoint`
  condition_before : (a : Operand) (before : Pairs) (o : Option CompExp) → IsKnown known (option_map_or (with_expression a before) o before) → IsKnown known before
  condition_before a before None h = h
  condition_before a before (Some e) h = expression_known known a before e h

  rule_known : (a : Operand) (before : Pairs) (r : PointRuleTree) → IsKnown known (with_rule a before r) → IsKnown known before
  rule_known a before r h = condition_before a before r.antecedent (expression_known known a (option_map_or (with_expression a before) r.antecedent before) r.condition h)

  pub rules_known : (a : Operand) (before : Pairs) (rules : List PointRuleTree) → IsKnown known (fold (with_rule a) before rules) → IsKnown known before
  rules_known a before [] h = h
  rules_known a before (r ∷ rules) h = rule_known a before r (rules_known a (with_rule a before r) rules h)

  module _ (p : Settings) (a : Operand) (o : CheckOut) (s : Structure) (ids : HasIdentifiers s (identifiers_of a.structure ++ ruleid ∷ [])) where
    abbrev R : Row → Row → Type 0
    R = Agree known (columns_from a.structure a.sources)

    abbrev behind : List Pairs
    behind = output_parts o (measure_sources a) no_pairs (no_pairs ∷ no_pairs ∷ [])

    abbrev Q : Row → Row → Type 0
    Q = Agree known (map (λ y. no_pairs) (identifiers_of s) ++ behind)

    truth_same : (before : Pairs) (rule : PointRuleTree) → IsKnown known (with_rule a before rule) → (r q : Row) → R r q → truth_of p rule r ≡ truth_of p rule q
    truth_same before rule h r q g = go rule.antecedent h
      where
        go : (e : Option CompExp) → IsKnown known (with_expression a (option_map_or (with_expression a before) e before) rule.condition) → truth_of p (record rule { antecedent = e }) r ≡ truth_of p (record rule { antecedent = e }) q
        go None h = value_same known p a r q (same_at known a r q g) before rule.condition h
        go (Some e) h =
            λ i. after (value_same known p a r q (same_at known a r q g) before e (expression_known known a (with_expression a before e) rule.condition h) i)
            (λ t. under t (value_same known p a r q (same_at known a r q g) (with_expression a before e) rule.condition h i))

    -- the identifiers, and that of the rule
    front : map (λ y. no_pairs) (identifiers_of a.structure) ++ (no_pairs ∷ behind) ≡ map (λ y. no_pairs) (identifiers_of s) ++ behind
    front =
        sym (append_assoc (map (λ y. no_pairs) (identifiers_of a.structure)) (no_pairs ∷ []) behind)
        ∙ ap (λ l. l ++ behind) (sym (map-append (λ y. no_pairs) (identifiers_of a.structure) (ruleid ∷ [])) ∙ const_map no_pairs (identifiers_of a.structure ++ ruleid ∷ []) (identifiers_of s) (sym (length-names (identifiers_of s) (identifiers_of a.structure ++ ruleid ∷ []) ids.0)))

    row_agrees : (rule : PointRule) (truth : Cell) (r q : Row) → R r q
        → Q (key_of a.structure r ++ (c.Text rule.0 ∷ output_parts o (values_in a.structure (measures_of a.structure) r) truth (errors_of rule.1 truth))) (key_of a.structure q ++ (c.Text rule.0 ∷ output_parts o (values_in a.structure (measures_of a.structure) q) truth (errors_of rule.1 truth)))
    row_agrees rule truth r q g =
        let us = values_in a.structure (measures_of a.structure) r in
        let vs = values_in a.structure (measures_of a.structure) q in
        subst (λ l. Agree known l (key_of a.structure r ++ (c.Text rule.0 ∷ output_parts o us truth (errors_of rule.1 truth))) (key_of a.structure q ++ (c.Text rule.0 ∷ output_parts o vs truth (errors_of rule.1 truth)))) front
        (agree_append known (map (λ y. no_pairs) (identifiers_of a.structure)) (key_of a.structure r) (key_of a.structure q) (no_pairs ∷ behind) (c.Text rule.0 ∷ output_parts o us truth (errors_of rule.1 truth)) (c.Text rule.0 ∷ output_parts o vs truth (errors_of rule.1 truth))
        (agree_key known a r q g no_pairs)
        (cell (λ h. refl) (parts_agree o (measure_sources a) us vs truth (code_cell rule.1.errorcode) (level_cell rule.1.errorlevel) (agree_named known a r q g (λ y. source_named a y.name) (λ y h. h) (measures_of a.structure)))))

    point_agrees : (before : Pairs) (rule : PointRule) → IsKnown known (with_rule a before rule.1) → (r q : Row) → R r q
        → Both Q (ruled_point o a.structure rule r (cell_or_null (truth_of p rule.1 r))) (ruled_point o a.structure rule q (cell_or_null (truth_of p rule.1 q)))
    point_agrees before rule h r q g =
        let truth = cell_or_null (truth_of p rule.1 r) in
        subst (λ v. Both Q (ruled_point o a.structure rule r truth) (ruled_point o a.structure rule q v)) (ap cell_or_null (truth_same before rule.1 h r q g)) (go (is_shown o truth))
      where
        go : (b : Bool) → Both Q (cond b (Some (key_of a.structure r ++ (c.Text rule.0 ∷ output_parts o (values_in a.structure (measures_of a.structure) r) (cell_or_null (truth_of p rule.1 r)) (errors_of rule.1 (cell_or_null (truth_of p rule.1 r)))))) None)
            (cond b (Some (key_of a.structure q ++ (c.Text rule.0 ∷ output_parts o (values_in a.structure (measures_of a.structure) q) (cell_or_null (truth_of p rule.1 r)) (errors_of rule.1 (cell_or_null (truth_of p rule.1 r)))))) None)
        go true = both (row_agrees rule (cell_or_null (truth_of p rule.1 r)) r q g)
        go false = neither

    module _ (d t : List Row) (agree : Together R d t) where
      rules_agree : (i : ℕ) (before : Pairs) (rules : List PointRuleTree) → IsKnown known (fold (with_rule a) before rules)
          → Together Q (flat_map (rule_points p o (with_points a.structure d)) (with_ids (λ r. r.name) i rules)) (flat_map (rule_points p o (with_points a.structure t)) (with_ids (λ r. r.name) i rules))
      rules_agree i before [] h = none
      rules_agree i before (r ∷ rules) h =
          let rule : PointRule = (rule_id i r.name, r) in
          let one = with_points a.structure d in
          let two = with_points a.structure t in
          together_append Q (rule_points p o one rule) (rule_points p o two rule) (flat_map (rule_points p o one) (with_ids (λ r. r.name) (suc i) rules)) (flat_map (rule_points p o two) (with_ids (λ r. r.name) (suc i) rules))
          (together_filter_map R Q (λ x. ruled_point o a.structure rule x (cell_or_null (truth_of p r x))) (λ x. ruled_point o a.structure rule x (cell_or_null (truth_of p r x))) (point_agrees before rule (rules_known a (with_rule a before r) rules h)) d t agree)
          (rules_agree (suc i) (with_rule a before r) rules h)

      pub datapoint_agrees : (rules : List PointRuleTree) → IsKnown known (fold (with_rule a) a.sources.points rules) → (out other : List Row)
          → datapoint_of p o rules (with_points a.structure d) ≡ Ok out → datapoint_of p o rules (with_points a.structure t) ≡ Ok other → Agreeing known (columns_from s (of_datapoint a rules o)) out other
      datapoint_agrees rules h out other e f =
          let one = with_points a.structure d in
          let two = with_points a.structure t in
          both_ok Q (faults_by (rule_fault p one) (point_rules rules)) (faults_by (rule_fault p two) (point_rules rules)) (flat_map (rule_points p o one) (point_rules rules)) out (flat_map (rule_points p o two) (point_rules rules)) other
          (rules_agree 1 a.sources.points rules h) e f

  -- ---- `check`
  -- the operand of an imbalance in both runs
  abbrev pub AreTwinsIf : Option Twin → Type 0
  AreTwinsIf None = Unit {0}
  AreTwinsIf (Some x) = AreTwins known x

  module _ (p : Settings) (spec : CheckSpec) (a : Operand) (pa : IsKnown known a.sources.points) (tested : IsKnown known (source_at a (key_width a.structure))) (s : Structure) (ids : HasIdentifiers s (identifiers_of a.structure)) where
    abbrev A : Row → Row → Type 0
    A = Agree known (columns_from a.structure a.sources)

    abbrev imbalanced : Option Operand → Pairs
    imbalanced i = option_map_or (λ d. with_measure d d.sources.points) i no_pairs

    abbrev operand_if : Option Twin → Option Operand
    operand_if x = option_map (λ y. y.operand) x

    -- where the imbalance is known, all of it is, and its operand's points agree
    imbalance_same : (x : Option Twin) → (IsKnown known (imbalanced (operand_if x)) → AreTwinsIf x) → (r q : Row) → A r q → IsKnown known (imbalanced (operand_if x)) → imbalance_at p a.structure (option_map first_of x) r ≡ imbalance_at p a.structure (option_map second_of x) q
    imbalance_same None told r q g h = refl
    imbalance_same (Some x) told r q g h =
        let d = x.operand in
        let w = told h in
        let measured : IsKnown known (source_at d (key_width d.structure)) = (known_parts known d.sources.points (source_at d (key_width d.structure)) h).1 in
        both_value (Agree known (columns_from d.structure d.sources)) (λ u. cell_or_null (as_kind p k.Num (column_of (key_width d.structure) u))) (λ u. cell_or_null (as_kind p k.Num (column_of (key_width d.structure) u))) c.Null
        (λ u v m. ap (λ (z : Cell). cell_or_null (as_kind p k.Num z)) (same_at known d u v m (key_width d.structure) measured)) (first_agreeing a.structure (first_of x) r) (first_agreeing a.structure (second_of x) q) (found_agree known a x pa w r q g)

    pub check_agrees : (x : Option Twin) → (IsKnown known (imbalanced (operand_if x)) → AreTwinsIf x) → (d t : List Row) → Together A d t
        → Agreeing known (columns_from s (of_check a (operand_if x))) (check_of p spec (with_points a.structure d) (option_map first_of x)) (check_of p spec (with_points a.structure t) (option_map second_of x))
    check_agrees x told d t agree = together_filter_map A C (point one) (point two) each d t agree
      where
        one : Option DataSet
        one = option_map first_of x

        two : Option DataSet
        two = option_map second_of x

        point : Option DataSet → Row → Option Row
        point i r = checked_point p spec a.structure i r (column_of (key_width a.structure) r)

        cols : List Pairs
        cols = columns_from s (of_check a (operand_if x))

        C : Row → Row → Type 0
        C = Agree known cols

        row : Option DataSet → Row → Cell → Row
        row i r truth = key_of a.structure r ++ (truth ∷ imbalance_at p a.structure i r ∷ errors_at (code_cell spec.errorcode) (level_cell spec.errorlevel) truth)

        rows : (r q : Row) (truth : Cell) → A r q → C (row one r truth) (row two q truth)
        rows r q truth g =
            agree_append known (map (λ y. no_pairs) (identifiers_of s)) (key_of a.structure r) (key_of a.structure q) (no_pairs ∷ imbalanced (operand_if x) ∷ no_pairs ∷ no_pairs ∷ [])
            (truth ∷ imbalance_at p a.structure one r ∷ errors_at (code_cell spec.errorcode) (level_cell spec.errorlevel) truth) (truth ∷ imbalance_at p a.structure two q ∷ errors_at (code_cell spec.errorcode) (level_cell spec.errorlevel) truth)
            (agree_ids known a r q g no_pairs s ids)
            (cell (λ h. refl) (cell (imbalance_same x told r q g) (errors_agree (code_cell spec.errorcode) (level_cell spec.errorlevel) truth)))

        each : (r q : Row) → A r q → Both C (point one r) (point two q)
        each r q g =
            let truth = column_of (key_width a.structure) r in
            subst (λ v. Both C (point one r) (checked_point p spec a.structure two q v)) (same_at known a r q g (key_width a.structure) tested) (go (is_basic_shown spec.output truth))
          where
            go : (b : Bool) → Both C (cond b (Some (row one r (column_of (key_width a.structure) r))) None) (cond b (Some (row two q (column_of (key_width a.structure) r))) None)
            go true = both (rows r q (column_of (key_width a.structure) r) g)
            go false = neither

  widths : (whole ours theirs ids others columns row : ℕ) → whole ≡ ours + theirs → ours ≡ ids → theirs ≡ others → columns ≡ ids + others → columns ≡ row → whole ≡ row
  widths whole ours theirs ids others columns row a b c d e = omega (arith, a, b, c, d, e)

  -- ---- where all that is shown is in the points, both runs give the same
  pub equal_agrees : (s : Structure) (from : Found) (out other : List Row) → length from.others ≡ length (others_of s) → out ≡ other → IsDataSet s out → Agreeing known (columns_from s from) out other
  equal_agrees s from out other many e h = subst (λ z. Agreeing known (columns_from s from) out z) e (go out h.typed)
    where
      width : (r : Row) → is_point (columns_of s) r ≡ true → length (columns_from s from) ≡ length r
      width r i =
          let ours : List Pairs = map (λ y. no_pairs) (identifiers_of s) in
          widths (length (ours ++ from.others)) (length ours) (length from.others) (length (identifiers_of s)) (length (others_of s)) (length (columns_of s)) (length r)
          (length-append ours from.others) (length-map (identifiers_of s) (λ y. no_pairs)) many (ap length (columns_split s) ∙ length-append (identifiers_of s) (others_of s)) (sym (point_length (columns_of s) r i))

      go : (rows : List Row) → AllByRecursion (λ r. is_point (columns_of s) r ≡ true) rows → Together (Agree known (columns_from s from)) rows rows
      go [] i = none
      go (r ∷ rows) i = and (agree_self known (columns_from s from) r (width r i.0)) (go rows i.1)

  -- ---- `check_hierarchy` and `hierarchy`
  module _ (p : Settings) (rules : HierRules) (a : Operand) (pm : AllByRecursion (IsKnown known) (measure_sources a)) (itemized : IsItemized (ruled_by rules a.structure) a.structure) (w : IsStructure a.structure) (d t : List Row) (agree : Agreeing known (columns_from a.structure a.sources) d t) where
    abbrev H : Ruled
    H = ruled_by rules a.structure

    abbrev one : DataSet
    one = with_points a.structure d

    abbrev two : DataSet
    two = with_points a.structure t

    abbrev B : Row → Row → Type 0
    B = Agree known (columns_from a.structure a.sources)

    abbrev rest : List Component
    rest = other_identifiers H.id a.structure

    rest_names : AllByRecursion (λ y. IsIdentifierOf a.structure y.name) rest
    rest_names = among_identifiers rest a.structure (others_among H.id a.structure w)

    id_name : IsIdentifierOf a.structure H.id
    id_name = column_any (place_of H.id (identifiers_of a.structure)) H.id k.Text (identifiers_of a.structure) itemized.coded

    measure_known : IsKnown known (source_named a H.measure)
    measure_known = go (measures_of a.structure) itemized.only pm
      where
        go : (ms : List Component) → component_kinds ms ≡ H.kind ∷ [] → AllByRecursion (IsKnown known) (map (λ x. source_named a x.name) ms) → IsKnown known (source_named a (only_name ms))
        go [] e h = cc
        go (x ∷ ms) e h = h.0

    combinations_same : combinations H.id one ≡ combinations H.id two
    combinations_same = ap (each_once same_row) (same_map B (values_in a.structure rest) (values_in a.structure rest) (λ r q g. same_values known a r q g rest rest_names) d t agree)

    item_same : (combination : Row) (item : List ℕ) → items_at H one combination item ≡ items_at H two combination item
    item_same combination item = found (find (is_coded a.structure H.id combination item) d) (find (is_coded a.structure H.id combination item) t)
        (together_find B (is_coded a.structure H.id combination item) (is_coded a.structure H.id combination item) (λ r q g l. same_row (same_values known a r q g rest rest_names l) combination && same_cell (same_identifier known a r q g H.id id_name l) (c.Text item)) d t agree)
      where
        found : (o u : Option Row) → Both B o u → option_map (λ r. value_named (columns_of a.structure) r H.measure) o ≡ option_map (λ r. value_named (columns_of a.structure) r H.measure) u
        found _ _ neither = refl
        found _ _ (both {x = r} {y = q} g) = ap Some (same_named known a r q g H.measure measure_known)

    items_same : items_at H one ≡ items_at H two
    items_same = λ i combination item. item_same combination item i

    pub check_hierarchy_same : (o : CheckOut) (m : Mode) (rs : List HierRule) → check_hierarchy_of p o H m one rs ≡ check_hierarchy_of p o H m two rs
    check_hierarchy_same o m rs = λ i. given_by (combinations_same i) (items_same i)
      where
        point : (Row → Items) → SidedRule → Row → Option Row
        point at rule combination =
            let items = at combination in
            let truth = cell_or_null (holds p m H.kind items rule.1) in
            cond (is_checked m items rule.1) (cond (is_shown o truth) (Some (key_at H.id a.structure combination (left_item rule.1) ++ (c.Text rule.0 ∷ check_cells p o m H.kind items rule.1 truth))) None) None

        given_by : List Row → (Row → Items) → Outcome (List Row)
        given_by all at = unless (faults_by (λ rule. faults_by (λ k. check_fault p m H.kind (at k) rule.1) all) (sided_rules rs)) (flat_map (λ rule. filter_map (point at rule) all) (sided_rules rs))

    -- the operand's own points, without attributes
    own_same : (s : Structure) → AllByRecursion (λ y. IsIdentifierOf a.structure y.name) (identifiers_of s) → AllByRecursion (λ y. IsKnown known (source_named a y.name)) (others_of s) → left_of one s ≡ left_of two s
    own_same s ids others = same_map B f f each d t agree
      where
        xs : List Component
        xs = columns_of a.structure

        f : Row → Row
        f = cells_at (places_in xs (columns_of s))

        values : (ys : List Component) → AllByRecursion (λ y. IsKnown known (source_named a y.name)) ys → (r q : Row) → B r q → values_named xs ys r ≡ values_named xs ys q
        values [] h r q g = refl
        values (y ∷ ys) h r q g = λ i. same_named known a r q g y.name h.0 i ∷ values ys h.1 r q g i

        split : (r : Row) → f r ≡ values_named xs (identifiers_of s) r ++ values_named xs (others_of s) r
        split r = shown_split xs s r ∙ (λ i. named_cells xs (identifiers_of s) r i ++ named_cells xs (others_of s) r i)

        each : (r q : Row) → B r q → f r ≡ f q
        each r q g = split r ∙ (λ i. same_values known a r q g (identifiers_of s) ids i ++ values (others_of s) others r q g i) ∙ sym (split q)

    pub hierarchy_same : (m : Mode) (i : HierInput) (rs : List HierRule) (o : HierOut) (s : Structure) → AllByRecursion (λ y. IsIdentifierOf a.structure y.name) (identifiers_of s) → AllByRecursion (λ y. IsKnown known (source_named a y.name)) (others_of s)
        → hierarchy_of p H m i rs one o s ≡ hierarchy_of p H m i rs two o s
    hierarchy_same m i rs o s ids others = go o
      where
        made : (Row → Items) → HierRule → Row → Option (Outcome Cell)
        made at r combination = computed p m H.kind (items_of p m H.kind i (definitions rs) (at combination)) r

        point : (Row → Items) → HierRule → Row → Option Row
        point at r combination = option_map (λ v. key_at H.id a.structure combination (left_item r) ++ (cell_or_null v ∷ [])) (made at r combination)

        points : List Row → (Row → Items) → List Row
        points all at = flat_map (λ r. filter_map (point at r) all) (definitions rs)

        given_by : List Row → (Row → Items) → (List Row → List Row) → Outcome (List Row)
        given_by all at show = unless (faults_by (λ r. faults_by (λ combination. option_map_or fault_in (made at r combination) None) all) (definitions rs)) (show (points all at))

        go : (o : HierOut) → hierarchy_of p H m i rs one o s ≡ hierarchy_of p H m i rs two o s
        go outs.Computed = λ j. given_by (combinations_same j) (items_same j) (λ rows. rows)
        go outs.All = λ j. given_by (combinations_same j) (items_same j) (λ rows. united (key_width s) (rows ∷ own_same s ids others j ∷ []))

-- ---- the components of a hierarchy that are no identifiers are the operand's measures
abbrev is_measure_role : Component → Bool
is_measure_role x = same_role x.role role.Measure

past_identifiers : (id : List ℕ) (xs ys : List Component) → AllByRecursion IsIdentifier xs → filter is_measure_role (without_codes id xs ++ ys) ≡ filter is_measure_role ys
past_identifiers id [] ys all = refl
past_identifiers id (x ∷ xs) ys all = go (same_name x.name id) (past_identifiers id xs ys all.1)
  where
    go : (b : Bool) → filter is_measure_role (without_codes id xs ++ ys) ≡ filter is_measure_role ys → filter is_measure_role (cond b (record x { codes = None }) x ∷ (without_codes id xs ++ ys)) ≡ filter is_measure_role ys
    go true ih = ap (λ b. cond b (record x { codes = None } ∷ filter is_measure_role (without_codes id xs ++ ys)) (filter is_measure_role (without_codes id xs ++ ys))) (no_measure x.role all.0) ∙ ih
    go false ih = ap (λ b. cond b (x ∷ filter is_measure_role (without_codes id xs ++ ys)) (filter is_measure_role (without_codes id xs ++ ys))) (no_measure x.role all.0) ∙ ih

filtered_twice : (xs : List Component) → filter is_measure_role (filter is_measure_role xs) ≡ filter is_measure_role xs
filtered_twice [] = refl
filtered_twice (x ∷ xs) = go (is_measure_role x) refl (filtered_twice xs)
  where
    go : (b : Bool) → is_measure_role x ≡ b → filter is_measure_role (filter is_measure_role xs) ≡ filter is_measure_role xs → filter is_measure_role (cond b (x ∷ filter is_measure_role xs) (filter is_measure_role xs)) ≡ cond b (x ∷ filter is_measure_role xs) (filter is_measure_role xs)
    go true e ih = ap (λ b. cond b (x ∷ filter is_measure_role (filter is_measure_role xs)) (filter is_measure_role (filter is_measure_role xs))) e ∙ ap (λ l. x ∷ l) ih
    go false e ih = ih

pub measures_stay : (id : List ℕ) (a s : Structure) → s.components ≡ without_codes id (identifiers_of a) ++ measures_of a → measures_of s ≡ measures_of a
measures_stay id a s e = ap (filter is_measure_role) e ∙ past_identifiers id (identifiers_of a) (measures_of a) (are_identifiers a) ∙ filtered_twice a.components

-- without attributes the others are the measures
pub others_are : (s : Structure) → columns_of s ≡ identifiers_of s ++ measures_of s → others_of s ≡ measures_of s
others_are s e = same_behind (identifiers_of s) (others_of s) (measures_of s) (sym (columns_split s) ∙ e)
  where
    same_behind : {X : Type 0} (xs ys zs : List X) → xs ++ ys ≡ xs ++ zs → ys ≡ zs
    same_behind [] ys zs e = e
    same_behind (x ∷ xs) ys zs e = same_behind xs ys zs (let tails : xs ++ ys ≡ xs ++ zs = cc in tails)
