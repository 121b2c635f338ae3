-- The tables of an expression on data sets mean it.
use Rattle.vtl_to_sql.proofs.Existences.{existence_means}
use Rattle.vtl_meaning.proofs.SetsOrders.{existence_order}
use Rattle.std.proofs.Common.{◌≡◌, ◌+◌, ◌<◌, ◌^◌, ℕ, Bool, true, false, List, [], ◌∷◌, ◌++◌, length, map, Option, Some, Ok, Err, refl, sym, subst, arith, append-nil, length-append, ap, ◌≤◌, ◌∙◌}
use Rattle.std.specs.Prelude.{IfOk, fold}
use Rattle.std.specs.List.{AllByRecursion}
use Rattle.std.proofs.lemmas.Bool.{false≢true}
use Rattle.std.proofs.lemmas.List.{length-map}
use Rattle.vtl_cell.specs.Outcome.{Outcome, after}
use Rattle.vtl_cell.specs.Row.{Row}
use Rattle.vtl_decimal.specs.Settings.{Settings}
use Rattle.vtl_syntax.specs.declared.statements.HierRule.{HierRule}
use Rattle.vtl_text.specs.Words.{is_word}
use Rattle.vtl_tree.specs.Clauses.{filter_of}
use Rattle.vtl_tree.specs.CompExp.{CompExp}
use Rattle.vtl_tree.specs.DataSet.{AreOfProfile, IsDataSet}
use Rattle.vtl_tree.specs.Environment.{DataSet, Environment, known_in, points_named}
use Rattle.vtl_tree.specs.Structure.{columns_of, IsStructure, key_width}
use Rattle.vtl_tree.specs.declared.structure.Component.{Component}
use Rattle.vtl_tree.specs.declared.structure.Structure.{Structure}
use Rattle.vtl_tree.specs.ClauseShapes.{renamed}
use Rattle.vtl_tree.specs.Joins as joins
use Rattle.vtl_meaning.specs.Joined.{join_of}
use Rattle.vtl_meaning.specs.Made.{IsAlternative, IsFiltered, IsLeft}
use Rattle.vtl_scripts.specs.Made.{AreMade, AreMadeOperands, IsMade, IsMadeForm, node_structures, operands_in}
use Rattle.vtl_scripts.specs.Meaning.{AreDataSets, operands_value, form_value, node_value, nodes_value, with_first}
use Rattle.vtl_meaning.specs.Operators.{calculated_exps, calculated_of, choice_of, left_of, measured_exps, measured_of, pair_of, sub_of}
use Rattle.vtl_meaning.specs.Points.{with_points}
use Rattle.vtl_meaning.specs.Profiles.{AllAreOfProfile}
use Rattle.vtl_meaning.specs.Sets.{all_left_of, either_only, intersected, intersection_of, reduced, union_of, united, existence_of}
use Rattle.vtl_meaning.specs.Shapes.{IsRenamedBy, IsShaped}
use Rattle.vtl_tree.specs.Trees as nodes
use Rattle.vtl_tree.specs.Trees.{FormTree, NodeTree, NodeTrees, OperandTrees, PointRuleTree, structure_of}
use Rattle.vtl_meaning.specs.Aggregates.{aggregate_of}
use Rattle.vtl_meaning.specs.Analytics.{analytic_of}
use Rattle.vtl_meaning.specs.Turned.{pivot_of, unpivot_of}
use Rattle.vtl_meaning.proofs.Orders.{choice_respects, each_respects, filtered_respects, pair_respects, shown_respects, sub_respects}
use Rattle.vtl_scripts.proofs.ScriptsKept.{node_kept, operands_kept}
use Rattle.vtl_scripts.proofs.ScriptsProfiles as profiles
use Rattle.sql_tree.specs.Trees.{QueryTree, Text}
use Rattle.sql_meaning.specs.Scripts.{Data}
use Rattle.vtl_to_sql.specs.Conditions.{AreNodesTranslated, AreOperandsTranslated, IsFormTranslated, IsTranslated}
use Rattle.selects_to_sql.specs.Writable.{CanBeWritten, HaveNames}
use Rattle.selects_to_sql.specs.Means.{AreEarlier, Means, NodeGives, SourcesGive, Stands, StandsAs, Extends}
use Rattle.selects_to_sql.specs.Queries.{calc_query, choose_query, copy_query, filter_query, left_query, measures_query, pair_query, rename_query, sub_query}
use Rattle.vtl_to_sql.specs.Hierarchies.{ruled_made}
use Rattle.vtl_to_sql.specs.Sets.{shown_query, union_query, intersection_query, difference_query, symmetric_difference_query, existence_query}
use Rattle.selects_to_sql.specs.Tables.{Sources, and_then, numbered, over, table_of, with_one, with_two, stored}
use Rattle.joins_to_sql.specs.FilteredJoins.{filtered_made}
use Rattle.joins_to_sql.specs.JoinTables.{join_made}
use Rattle.vtl_to_sql.specs.Tables.{combined_of, filter_made, made_of, made_of_form, operands_of, source_of, sources_of, takes_filter}
use Rattle.vtl_meaning.proofs.TurnedOrders.{pivot_order, unpivot_order}
use Rattle.vtl_meaning.proofs.AnalyticOrders.{analytics_respect}
use Rattle.vtl_meaning.proofs.GroupOrders.{aggregates_respect}
use Rattle.groups_to_sql.specs.Grouped.{aggregate_query}
use Rattle.groups_to_sql.specs.Turned.{pivot_query, unpivot_query}
use Rattle.groups_to_sql.specs.Windowed.{analytic_query}
use Rattle.groups_to_sql.proofs.Aggregated.{aggregate_means}
use Rattle.selects_to_sql.proofs.Choices.{choose_means}
use Rattle.selects_to_sql.proofs.Composition.{all_earlier, all_stand_still, alone, beside_gives, no_tables, one_gives, stored_gives, three_gives, together, two_gives}
use Rattle.selects_to_sql.proofs.Exact.{means_by, means_turned, set_turned}
use Rattle.selects_to_sql.proofs.Expressions.{Translates}
use Rattle.selects_to_sql.proofs.OneOperand.{calc_means, copy_means, filter_means, left_means, measures_mean, rename_means, same_functions}
use Rattle.vtl_to_sql.proofs.SetQueries.{IsShown, shown_means}
use Rattle.vtl_to_sql.proofs.SetSteps.{IsStep, difference_step, intersection_step, intersections_fold, shown_own, shown_self, shown_set_of, symmetric_difference_step, union_step, unions_fold}
use Rattle.selects_to_sql.proofs.Givens.{AreGiven, columns_given}
use Rattle.joins_to_sql.proofs.Joins.{filtered_gives, join_gives, operands_first}
use Rattle.joins_to_sql.proofs.KeyColumns.{identifiers_named}
use Rattle.groups_to_sql.proofs.Pivots.{pivot_means}
use Rattle.selects_to_sql.proofs.Subs.{sub_means}
use Rattle.selects_to_sql.proofs.TwoOperands.{pair_means}
use Rattle.groups_to_sql.proofs.Unpivots.{unpivot_means}
use Rattle.groups_to_sql.proofs.Windowed.{analytic_means}
use Rattle.vtl_rulings.specs.PointChecks.{check_of, datapoint_of}
use Rattle.vtl_rulings.specs.Shaped.{IsPointChecked}
use Rattle.rules_to_sql.specs.CheckQueries.{imbalance_query}
use Rattle.rules_to_sql.specs.PointQueries.{datapoint_query}
use Rattle.rules_to_sql.specs.Writable.{CanRuleBeWritten}
use Rattle.rules_to_sql.proofs.Composed.{check_gives, datapoint_gives, imbalance_gives}
use Rattle.vtl_rulings.specs.HierarchyChecks.{check_hierarchy_of, ruled_by}
use Rattle.vtl_rulings.specs.HierarchyShapes.{IsHierarchyChecked}
use Rattle.vtl_rulings.specs.Ordered.{places_or_none}
use Rattle.hierarchies_to_sql.specs.CheckTables.{check_hierarchy_made}
use Rattle.hierarchies_to_sql.specs.Writable.{CanBeSided}
use Rattle.hierarchies_to_sql.proofs.CheckTables.{check_hierarchy_gives}
use Rattle.times_to_sql.proofs.TimeTables.{time_gives}
use Rattle.vtl_to_sql.proofs.Hierarchies.{checked_first, computed_first, hierarchy_gives, order_given}
use Rattle.vtl_to_sql.proofs.TimedNodes.{time_first}

-- ---- a naming that renames nothing

abbrev of_components : List Component → Structure
of_components xs = record { components = xs }

none_renamed : (xs : List Component) → map (renamed []) xs ≡ xs
none_renamed [] = refl
none_renamed (x ∷ xs) = ap (λ l. x ∷ l) (none_renamed xs)

same_structure : (a s : Structure) → IsRenamedBy [] a s → s ≡ a
same_structure a s e = ap of_components (e ∙ none_renamed a.components)

-- ---- the columns of what is translated have names

pub names_in : (p : Settings) (n : NodeTree) → IsTranslated p n → HaveNames (columns_of (structure_of n))
names_in p (nodes.node s form) c = c.0

-- the columns of each operand have names
operands_named : (p : Settings) (os : OperandTrees) → AreOperandsTranslated p os → AllByRecursion (λ a. HaveNames (columns_of a)) (joins.structures_of (operands_in os))
operands_named p nodes.no_operands c = tt
operands_named p (nodes.operand n alias os) c = (names_in p n c.0, operands_named p os c.1)

after_ok_is : (v : Outcome (List Row)) → after v (λ d. Ok d) ≡ v
after_ok_is (Ok d) = refl
after_ok_is (Err f) = refl

-- a ruleset has a rule
some_rules : {A : Type 0} (P : List A → Type 0) → ((rule : A) (rules : List A) → P (rule ∷ rules)) → (rules : List A) → 1 ≤ length rules → P rules
some_rules P h [] some = absurd (omega (arith, some))
some_rules P h (rule ∷ rules) some = h rule rules

-- ---- values of operands

after_then : {A B C : Type 0} (m : Outcome A) (g : A → B) (h : B → Outcome C) → after (after m (λ x. Ok (g x))) h ≡ after m (λ x. h (g x))
after_then (Ok x) g h = refl
after_then (Err f) g h = refl

-- what is made of the values of several operands, of which the first are there
module _ (s : Structure) (rows : List Row → List Row → List Row) where
  abbrev one_after : Structure → Outcome (List DataSet) → List Row → Outcome (List Row)
  one_after a rest u = after rest (λ ds. Ok (fold rows (left_of (with_points a u) s) (all_left_of ds s)))

  -- the first of all operands, and then the others
  with_first_is : (F : List DataSet → List Row) (n : NodeTree) (v : Outcome (List Row)) (rest : Outcome (List DataSet)) → ((u : List Row) (ds : List DataSet) → v ≡ Ok u → fold rows (left_of (with_points (structure_of n) u) s) (all_left_of ds s) ≡ F (with_points (structure_of n) u ∷ ds))
      → after v (one_after (structure_of n) rest) ≡ after (with_first n v rest) (λ ds. Ok (F ds))
  with_first_is F n (Err f) rest same = refl
  with_first_is F n (Ok u) (Err f) same = refl
  with_first_is F n (Ok u) (Ok ds) same = ap (λ l. Ok l) (same u ds refl)

  -- two operands, and then the others
  two_first : (a b : Structure) (v w : Outcome (List Row)) (rest : Outcome (List DataSet)) → ((u e : List Row) → v ≡ Ok u → w ≡ Ok e → left_of (with_points s (rows (left_of (with_points a u) s) (left_of (with_points b e) s))) s ≡ rows (left_of (with_points a u) s) (left_of (with_points b e) s))
      → after (after v (λ d. after w (λ e. Ok (rows (left_of (with_points a d) s) (left_of (with_points b e) s))))) (one_after s rest) ≡ after v (one_after a (after w (λ points. after rest (λ ds. Ok (with_points b points ∷ ds)))))
  two_first a b (Err f) w rest own = refl
  two_first a b (Ok u) (Err f) rest own = refl
  two_first a b (Ok u) (Ok e) (Err f) own = refl
  two_first a b (Ok u) (Ok e) (Ok ds) own = ap (λ l. Ok (fold rows l (all_left_of ds s))) (own u e refl refl)

  -- they are data sets where the operands are
  both_sets : (a b : Structure) (v w : Outcome (List Row)) → ((u e : List Row) → v ≡ Ok u → w ≡ Ok e → IsDataSet s (rows (left_of (with_points a u) s) (left_of (with_points b e) s))) → (u : List Row) → after v (λ d. after w (λ e. Ok (rows (left_of (with_points a d) s) (left_of (with_points b e) s)))) ≡ Ok u → IsDataSet s u
  both_sets a b (Ok d) (Ok e) kept u h = let same : rows (left_of (with_points a d) s) (left_of (with_points b e) s) ≡ u = cc in subst (IsDataSet s) same (kept d e refl refl)
  both_sets a b (Ok d) (Err f) kept u h = cc
  both_sets a b (Err f) w kept u h = cc

-- the tables of operands stand before those that are made of them
front_stays : (p : Settings) (r : Text) (q : Structure → Structure → Text → Text → QueryTree) (s : Structure) (ns : NodeTrees) (a : Structure) (os : Sources) → length os.tables ≤ length (combined_of p r q s ns a os).tables
front_stays p r q s nodes.no_nodes a os = omega arith
front_stays p r q s (nodes.and_node b nodes.no_nodes) a os = omega (arith, length-append os.tables (sources_of p r b os.next).tables)
front_stays p r q s (nodes.and_node b (nodes.and_node c ns)) a os =
    let both = over (and_then os (sources_of p r b)) (with_two (q a (structure_of b))) in
    omega (arith, length-append os.tables (sources_of p r b os.next).tables, length-append both.tables (table_of (numbered r both.next) both.query ∷ []), front_stays p r q s (nodes.and_node c ns) s (stored r both))

module _ (p : Settings) (law : Translates p) (r : Text) (word : is_word r ≡ true) (env : Environment) (sets : AreDataSets env) (ranged : AllAreOfProfile p env) where
  -- one operand and others
  together_is : (a : Structure) (v : Outcome (List Row)) (w : Outcome (List DataSet)) → together p r word (alone p r word a v) w ≡ after v (λ points. after w (λ ds. Ok (with_points a points ∷ ds)))
  together_is a (Ok d) w = refl
  together_is a (Err f) w = refl

  -- an operand by its name, or by a table of its own
  source_gives : (before : Data) (n : ℕ) (s : Structure) (form : FormTree) → Stands before env → AreEarlier r n before → IsMadeForm p (known_in env) s form → n + length (source_of r form n (made_of_form p r s form n)).tables < 2 ^ 64
      → ((n + length (made_of_form p r s form n).tables < 2 ^ 64) → NodeGives p before r n (made_of_form p r s form n) s (form_value p env s form)) → SourcesGive p before r n (source_of r form n (made_of_form p r s form n)) (alone p r word s (form_value p env s form))
  source_gives before n s (nodes.named x) stands apart i few g =
      let back : before ≡ before ++ [] = sym (append-nil before) in
      (no_tables p r word before n, (subst (λ now. StandsAs now x s (points_named x env)) back (stands x s i), tt))
  source_gives before n s form stands apart i few g =
      let m = made_of_form p r s form n in
      stored_gives p r word before n m s (form_value p env s form) apart few (g (omega (arith, few, length-append m.tables (table_of (numbered r m.next) m.query ∷ []))))

  -- the rows of an operand's table are those of a data set
  set_of : (a : NodeTree) (now : Data) (x : Text) (d : List Row) → IsTranslated p a → IsMade p (known_in env) a → node_value p env a ≡ Ok d → (st : StandsAs now x (structure_of a) d) → IsDataSet (structure_of a) st.rows
  set_of a now x d c i is st = set_turned (structure_of a) d st.rows st.same (node_kept p env a d i sets is)

  -- the data sets that an operand gives
  given_sets : (a : NodeTree) → IsTranslated p a → IsMade p (known_in env) a → (d : List Row) → node_value p env a ≡ Ok d → IsDataSet (structure_of a) d
  given_sets a c i d is = node_kept p env a d i sets is

  given_ranged : (a : NodeTree) → IsMade p (known_in env) a → (d : List Row) → node_value p env a ≡ Ok d → AreOfProfile p d
  given_ranged a i d is = subst (λ v. IfOk v (AreOfProfile p)) is (profiles.node_gives p env ranged a i)

  left_gives : (s : Structure) (a : NodeTree) (m : ℕ) (before : Data) → IsTranslated p a → IsMade p (known_in env) a → SourcesGive p before r m (sources_of p r a m) (alone p r word (structure_of a) (node_value p env a)) → IsLeft (structure_of a) s → AreGiven (columns_of s)
      → NodeGives p before r m (over (sources_of p r a m) (with_one (left_query p (structure_of a) s))) s (after (node_value p env a) (λ d. Ok (left_of (with_points (structure_of a) d) s)))
  left_gives s a m before c i g left given =
      one_gives p r word before m (sources_of p r a m) (left_query p (structure_of a) s) (structure_of a) s (node_value p env a) (λ d. Ok (left_of (with_points (structure_of a) d) s)) g
      (λ now x d is st. means_by p now (left_query p (structure_of a) s x) s (Ok (left_of (with_points (structure_of a) st.rows) s)) (Ok (left_of (with_points (structure_of a) d) s)) (shown_respects (columns_of (structure_of a)) (columns_of s) st.rows d st.same)
      (left_means p law now x (structure_of a) st.rows st.table st.named (names_in p a c) (set_of a now x d c i is st) s left given))

  -- a step for two operands, over what the first ones give
  pair_gives : (q : Structure → Structure → Text → Text → QueryTree) (rows : List Row → List Row → List Row) (s : Structure) → IsStep p s q rows → IsStructure s → (a : Structure) (os : Sources) (v : Outcome (List Row)) (b : NodeTree) (m : ℕ) (before : Data) → IsShown a s → IsShown (structure_of b) s → HaveNames (columns_of a)
      → ((u : List Row) → v ≡ Ok u → IsDataSet a u) → SourcesGive p before r m os (alone p r word a v) → ((x : Extends p before r m os.tables os.next) → SourcesGive p (before ++ x.more) r os.next (sources_of p r b os.next) (alone p r word (structure_of b) (node_value p env b))) → IsMade p (known_in env) b → IsTranslated p b
      → NodeGives p before r m (over (and_then os (sources_of p r b)) (with_two (q a (structure_of b)))) s (after v (λ d. after (node_value p env b) (λ e. Ok (rows (left_of (with_points a d) s) (left_of (with_points (structure_of b) e) s)))))
  pair_gives q rows s step w a os v b m before ia ib na set g h i c =
      two_gives p r word before m (and_then os (sources_of p r b)) (q a (structure_of b)) a (structure_of b) s v (node_value p env b) (λ d e. Ok (rows (left_of (with_points a d) s) (left_of (with_points (structure_of b) e) s)))
      (beside_gives p r word before m os (sources_of p r b) (alone p r word a v) (alone p r word (structure_of b) (node_value p env b)) g h)
      (λ now y z d e is is_too st su.
      let one = set_turned a d st.rows st.same (set d is) in
      let two = set_of b now z e c i is_too su in
      let la = left_of (with_points a st.rows) s in
      let lb = left_of (with_points (structure_of b) su.rows) s in
      means_by p now (q a (structure_of b) y z) s (Ok (rows la lb)) (Ok (rows (left_of (with_points a d) s) (left_of (with_points (structure_of b) e) s)))
      (step.turned la lb (left_of (with_points a d) s) (left_of (with_points (structure_of b) e) s) (shown_set_of s a st.rows w ia one) (shown_set_of s (structure_of b) su.rows w ib two) (shown_respects (columns_of a) (columns_of s) st.rows d st.same) (shown_respects (columns_of (structure_of b)) (columns_of s) su.rows e su.same))
      (step.means now y z a (structure_of b) st.rows su.rows st.table su.table st.named su.named na (names_in p b c) one two ia ib))

  mutual
    unfolding ruled_made

    pub node_gives : (n : NodeTree) (m : ℕ) (before : Data) → Stands before env → AreEarlier r m before → IsMade p (known_in env) n → IsTranslated p n → m + length (made_of p r n m).tables < 2 ^ 64 → NodeGives p before r m (made_of p r n m) (structure_of n) (node_value p env n)
    node_gives (nodes.node s form) m before stands apart i c few = form_gives s form m before stands apart i.0 i.1 c.0 c.1 few

    operand_gives : (n : NodeTree) (m : ℕ) (before : Data) → Stands before env → AreEarlier r m before → IsMade p (known_in env) n → IsTranslated p n → m + length (sources_of p r n m).tables < 2 ^ 64 → SourcesGive p before r m (sources_of p r n m) (alone p r word (structure_of n) (node_value p env n))
    operand_gives (nodes.node s form) m before stands apart i c few = source_gives before m s form stands apart i.1 few (λ l. form_gives s form m before stands apart i.0 i.1 c.0 c.1 l)

    form_gives : (s : Structure) (form : FormTree) (m : ℕ) (before : Data) → Stands before env → AreEarlier r m before → IsShaped s → IsMadeForm p (known_in env) s form → HaveNames (columns_of s) → IsFormTranslated p s form → m + length (made_of_form p r s form m).tables < 2 ^ 64 → NodeGives p before r m (made_of_form p r s form m) s (form_value p env s form)
    form_gives s (nodes.named x) m before stands apart w i n c few =
        let back : before ≡ before ++ [] = sym (append-nil before) in
        let st = stands x s i in
        let set = set_turned s (points_named x env) st.rows st.same (node_kept p env (nodes.node s (nodes.named x)) (points_named x env) (w, i) sets refl) in
        (no_tables p r word before m, subst (λ now. Means p now (copy_query p s x) s (Ok (points_named x env))) back (means_by p before (copy_query p s x) s (Ok st.rows) (Ok (points_named x env)) st.same (copy_means p law before x s st.rows st.table st.named n set (columns_given s w n))))
    form_gives s (nodes.filter a e) m before stands apart w i n c few = filter_gives s a e (takes_filter a) refl m before stands apart w i.0 i.1 n c.0 c.1 (operand_gives a m before stands apart i.0 c.0) few
    form_gives s (nodes.calc a items) m before stands apart w i n c few =
        one_gives p r word before m (sources_of p r a m) (calc_query p items (structure_of a) s) (structure_of a) s (node_value p env a) (λ d. calculated_of p items (with_points (structure_of a) d) s) (operand_gives a m before stands apart i.0 c.0 few)
        (λ now x d is st. means_by p now (calc_query p items (structure_of a) s x) s (calculated_of p items (with_points (structure_of a) st.rows) s) (calculated_of p items (with_points (structure_of a) d) s) (each_respects p (calculated_exps items (structure_of a) s) st.rows d st.same)
        (calc_means p law now x (structure_of a) st.rows st.table st.named (names_in p a c.0) (set_of a now x d c.0 i.0 is st) items s i.1 c.1 (columns_given s w n)))
    form_gives s (nodes.measures o a) m before stands apart w i n c few =
        one_gives p r word before m (sources_of p r a m) (measures_query p o (structure_of a) s) (structure_of a) s (node_value p env a) (λ d. measured_of p o (with_points (structure_of a) d) s) (operand_gives a m before stands apart i.0 c.0 few)
        (λ now x d is st. means_by p now (measures_query p o (structure_of a) s x) s (measured_of p o (with_points (structure_of a) st.rows) s) (measured_of p o (with_points (structure_of a) d) s) (each_respects p (measured_exps o (structure_of a) s) st.rows d st.same)
        (measures_mean p law now x (structure_of a) st.rows st.table st.named (names_in p a c.0) (set_of a now x d c.0 i.0 is st) o s i.1 c.1 (columns_given s w n)))
    form_gives s (nodes.member a q) m before stands apart w i n c few = left_gives s a m before c i.0 (operand_gives a m before stands apart i.0 c few) i.1 (columns_given s w n)
    form_gives s (nodes.keep a ns) m before stands apart w i n c few = left_gives s a m before c i.0 (operand_gives a m before stands apart i.0 c few) i.1 (columns_given s w n)
    form_gives s (nodes.drop_named a ns) m before stands apart w i n c few = left_gives s a m before c i.0 (operand_gives a m before stands apart i.0 c few) i.1 (columns_given s w n)
    form_gives s (nodes.rename a []) m before stands apart w i n c few =
        subst (λ t. NodeGives p before r m (made_of p r a m) t (node_value p env a)) (sym (same_structure (structure_of a) s i.2)) (node_gives a m before stands apart i.0 c few)
    form_gives s (nodes.rename a (y ∷ ys)) m before stands apart w i n c few =
        subst (λ v. NodeGives p before r m (over (sources_of p r a m) (with_one (rename_query p (structure_of a) s))) s v) (after_ok_is (node_value p env a))
        (one_gives p r word before m (sources_of p r a m) (rename_query p (structure_of a) s) (structure_of a) s (node_value p env a) (λ d. Ok d) (operand_gives a m before stands apart i.0 c few)
        (λ now x d is st. means_by p now (rename_query p (structure_of a) s x) s (Ok st.rows) (Ok d) st.same (rename_means p law now x (structure_of a) st.rows st.table st.named (names_in p a c) (set_of a now x d c i.0 is st) s i.1 (columns_given s w n))))
    form_gives s (nodes.sub a items) m before stands apart w i n c few =
        one_gives p r word before m (sources_of p r a m) (sub_query p items (structure_of a) s) (structure_of a) s (node_value p env a) (λ d. Ok (sub_of items (with_points (structure_of a) d) s)) (operand_gives a m before stands apart i.0 c.0 few)
        (λ now x d is st. means_by p now (sub_query p items (structure_of a) s x) s (Ok (sub_of items (with_points (structure_of a) st.rows) s)) (Ok (sub_of items (with_points (structure_of a) d) s)) (sub_respects items (structure_of a) s st.rows d st.same)
        (sub_means p law now x (structure_of a) st.rows st.table st.named (names_in p a c.0) (set_of a now x d c.0 i.0 is st) items s i.1 c.1 c.2 (columns_given s w n)))
    form_gives s (nodes.pair o a k) m before stands apart w i n c few =
        let first = sources_of p r a m in
        let second = sources_of p r k first.next in
        let few_first : m + length first.tables < 2 ^ 64 = omega (arith, few, length-append first.tables second.tables) in
        two_gives p r word before m (and_then first (sources_of p r k)) (pair_query p o (structure_of a) (structure_of k) s) (structure_of a) (structure_of k) s (node_value p env a) (node_value p env k) (λ d e. pair_of p o (with_points (structure_of a) d) (with_points (structure_of k) e) s)
        (beside_gives p r word before m first (sources_of p r k) (alone p r word (structure_of a) (node_value p env a)) (alone p r word (structure_of k) (node_value p env k)) (operand_gives a m before stands apart i.0 c.0 few_first)
        (λ x. operand_gives k first.next (before ++ x.more) (all_stand_still before x.more env stands) (all_earlier p r word m first.next before x.more (omega (arith, x.counted)) apart x.new) i.1 c.1 (omega (arith, few, x.counted, length-append first.tables second.tables))))
        (λ now y z d e is is_too st su.
        let set = set_of a now y d c.0 i.0 is st in
        let set_too = set_of k now z e c.1 i.1 is_too su in
        means_by p now (pair_query p o (structure_of a) (structure_of k) s y z) s (pair_of p o (with_points (structure_of a) st.rows) (with_points (structure_of k) su.rows) s) (pair_of p o (with_points (structure_of a) d) (with_points (structure_of k) e) s) (pair_respects p o (structure_of a) (structure_of k) s st.rows d su.rows e st.same su.same set.distinct set_too.distinct)
        (pair_means p law now y z o (structure_of a) (structure_of k) s st.rows su.rows st.table su.table (st.named, su.named) (names_in p a c.0) (names_in p k c.1) set set_too i.2 c.2 (columns_given s w n)))
    form_gives s (nodes.choose o a k) m before stands apart w i n c few =
        let first = sources_of p r o m in
        let second = sources_of p r a first.next in
        let third = sources_of p r k second.next in
        let few_first : m + length first.tables < 2 ^ 64 = omega (arith, few, length-append first.tables (second.tables ++ third.tables)) in
        three_gives p r word before m (and_then first (λ j. and_then (sources_of p r a j) (sources_of p r k))) (choose_query p (structure_of o) (structure_of a) (structure_of k) s) (structure_of o) (structure_of a) (structure_of k) s (node_value p env o) (node_value p env a) (node_value p env k) (λ tests d e. Ok (choice_of (with_points (structure_of o) tests) (with_points (structure_of a) d) (with_points (structure_of k) e) s))
        (beside_gives p r word before m first (λ j. and_then (sources_of p r a j) (sources_of p r k)) (alone p r word (structure_of o) (node_value p env o)) (together p r word (alone p r word (structure_of a) (node_value p env a)) (alone p r word (structure_of k) (node_value p env k))) (operand_gives o m before stands apart i.0 c.0 few_first)
        (λ x.
        let earlier = all_earlier p r word m first.next before x.more (omega (arith, x.counted)) apart x.new in
        let still = all_stand_still before x.more env stands in
        beside_gives p r word (before ++ x.more) first.next second (sources_of p r k) (alone p r word (structure_of a) (node_value p env a)) (alone p r word (structure_of k) (node_value p env k))
        (operand_gives a first.next (before ++ x.more) still earlier i.1 c.1 (omega (arith, few, x.counted, length-append first.tables (second.tables ++ third.tables), length-append second.tables third.tables)))
        (λ y. operand_gives k second.next ((before ++ x.more) ++ y.more) (all_stand_still (before ++ x.more) y.more env still) (all_earlier p r word first.next second.next (before ++ x.more) y.more (omega (arith, y.counted)) earlier y.new) i.2 c.2
        (omega (arith, few, x.counted, y.counted, length-append first.tables (second.tables ++ third.tables), length-append second.tables third.tables)))))
        (λ now x y z tests d e is_o is_a is_k so sa sk.
        let set_o = set_of o now x tests c.0 i.0 is_o so in
        let set_a = set_of a now y d c.1 i.1 is_a sa in
        let set_k = set_of k now z e c.2 i.2 is_k sk in
        means_turned p now (choose_query p (structure_of o) (structure_of a) (structure_of k) s x y z) s (choice_of (with_points (structure_of o) so.rows) (with_points (structure_of a) sa.rows) (with_points (structure_of k) sk.rows) s) (choice_of (with_points (structure_of o) tests) (with_points (structure_of a) d) (with_points (structure_of k) e) s)
        (choice_respects (structure_of o) (structure_of a) (structure_of k) s so.rows tests sa.rows d sk.rows e so.same sa.same sk.same set_a.distinct set_k.distinct)
        (choose_means p law now x y z (structure_of o) (structure_of a) (structure_of k) s so.rows sa.rows sk.rows so.table sa.table sk.table so.named sa.named sk.named (names_in p o c.0) (names_in p a c.1) (names_in p k c.2) set_o set_a set_k i.3 (columns_given s w n)))
    form_gives s (nodes.union nodes.no_nodes) m before stands apart w i n c few = absurd i.1
    form_gives s (nodes.union (nodes.and_node a ns)) m before stands apart w i n c few =
        let q : Structure → Structure → Text → Text → QueryTree = λ b k. union_query p b k s in
        let rows = λ (l k : List Row). united (key_width s) (l ∷ k ∷ []) in
        let shown : IsShown (structure_of a) s = record { alternative = i.1.operands.0; plain = i.1.no_attributes } in
        let given = columns_given s w n in
        let step = union_step p law s given w.well_formed (identifiers_named s n) in
        let os = sources_of p r a m in
        let v = node_value p env a in
        let set : (u : List Row) → v ≡ Ok u → IsDataSet (structure_of a) u = λ u is. node_kept p env a u i.0.0 sets is in
        subst (NodeGives p before r m (combined_of p r q s ns (structure_of a) os) s) (with_first_is s rows (λ ds. union_of ds s) a v (nodes_value p env ns) (λ u ds is. unions_fold (with_points (structure_of a) u) ds s (shown_set_of s (structure_of a) u w.well_formed shown (set u is)).distinct))
        (combined_gives ns q rows s step given n (structure_of a) os v m before stands apart shown (names_in p a c.0) set
        (operand_gives a m before stands apart i.0.0 c.0 (omega (arith, few, front_stays p r q s ns (structure_of a) os))) i.0.1 c.1 i.1.operands.1 w.well_formed few)
    form_gives s (nodes.intersect nodes.no_nodes) m before stands apart w i n c few = absurd i.1
    form_gives s (nodes.intersect (nodes.and_node a ns)) m before stands apart w i n c few =
        let q : Structure → Structure → Text → Text → QueryTree = λ b k. intersection_query p b k s in
        let rows = λ (l k : List Row). intersected (key_width s) l (k ∷ []) in
        let shown : IsShown (structure_of a) s = record { alternative = i.1.operands.0; plain = i.1.no_attributes } in
        let given = columns_given s w n in
        let step = intersection_step p law s given w.well_formed (identifiers_named s n) in
        let os = sources_of p r a m in
        let v = node_value p env a in
        let set : (u : List Row) → v ≡ Ok u → IsDataSet (structure_of a) u = λ u is. node_kept p env a u i.0.0 sets is in
        subst (NodeGives p before r m (combined_of p r q s ns (structure_of a) os) s) (with_first_is s rows (λ ds. intersection_of ds s) a v (nodes_value p env ns) (λ u ds is. intersections_fold (with_points (structure_of a) u) ds s))
        (combined_gives ns q rows s step given n (structure_of a) os v m before stands apart shown (names_in p a c.0) set
        (operand_gives a m before stands apart i.0.0 c.0 (omega (arith, few, front_stays p r q s ns (structure_of a) os))) i.0.1 c.1 i.1.operands.1 w.well_formed few)
    form_gives s (nodes.set_diff a k) m before stands apart w i n c few =
        let shown : IsShown (structure_of a) s = record { alternative = i.2.operands.0; plain = i.2.no_attributes } in
        let other : IsShown (structure_of k) s = record { alternative = i.2.operands.1.0; plain = i.2.no_attributes } in
        let given = columns_given s w n in
        let step = difference_step p law s given w.well_formed (identifiers_named s n) in
        let first = sources_of p r a m in
        let second = sources_of p r k first.next in
        pair_gives (λ b z. difference_query p b z s) (reduced (key_width s)) s step w.well_formed (structure_of a) first (node_value p env a) k m before shown other (names_in p a c.0) (λ u is. node_kept p env a u i.0 sets is)
        (operand_gives a m before stands apart i.0 c.0 (omega (arith, few, length-append first.tables second.tables)))
        (λ x. operand_gives k first.next (before ++ x.more) (all_stand_still before x.more env stands) (all_earlier p r word m first.next before x.more (omega (arith, x.counted)) apart x.new) i.1 c.1 (omega (arith, few, x.counted, length-append first.tables second.tables))) i.1 c.1
    form_gives s (nodes.sym_diff a k) m before stands apart w i n c few =
        let shown : IsShown (structure_of a) s = record { alternative = i.2.operands.0; plain = i.2.no_attributes } in
        let other : IsShown (structure_of k) s = record { alternative = i.2.operands.1.0; plain = i.2.no_attributes } in
        let given = columns_given s w n in
        let step = symmetric_difference_step p law s given w.well_formed (identifiers_named s n) in
        let first = sources_of p r a m in
        let second = sources_of p r k first.next in
        pair_gives (λ b z. symmetric_difference_query p b z s) (either_only (key_width s)) s step w.well_formed (structure_of a) first (node_value p env a) k m before shown other (names_in p a c.0) (λ u is. node_kept p env a u i.0 sets is)
        (operand_gives a m before stands apart i.0 c.0 (omega (arith, few, length-append first.tables second.tables)))
        (λ x. operand_gives k first.next (before ++ x.more) (all_stand_still before x.more env stands) (all_earlier p r word m first.next before x.more (omega (arith, x.counted)) apart x.new) i.1 c.1 (omega (arith, few, x.counted, length-append first.tables second.tables))) i.1 c.1
    form_gives s (nodes.exists_in a k kept) m before stands apart w i n c few =
        let first = sources_of p r a m in
        let second = sources_of p r k first.next in
        two_gives p r word before m (and_then first (sources_of p r k)) (existence_query p kept (structure_of a) (structure_of k) s) (structure_of a) (structure_of k) s (node_value p env a) (node_value p env k) (λ d e. Ok (existence_of (with_points (structure_of a) d) (with_points (structure_of k) e) kept))
        (beside_gives p r word before m first (sources_of p r k) (alone p r word (structure_of a) (node_value p env a)) (alone p r word (structure_of k) (node_value p env k)) (operand_gives a m before stands apart i.0 c.0 (omega (arith, few, length-append first.tables second.tables)))
        (λ x. operand_gives k first.next (before ++ x.more) (all_stand_still before x.more env stands) (all_earlier p r word m first.next before x.more (omega (arith, x.counted)) apart x.new) i.1 c.1 (omega (arith, few, x.counted, length-append first.tables second.tables))))
        (λ now y z d e is is_too st su.
        means_by p now (existence_query p kept (structure_of a) (structure_of k) s y z) s (Ok (existence_of (with_points (structure_of a) st.rows) (with_points (structure_of k) su.rows) kept)) (Ok (existence_of (with_points (structure_of a) d) (with_points (structure_of k) e) kept)) (existence_order (structure_of a) (structure_of k) st.rows d su.rows e kept st.same su.same)
        (existence_means p law now y z (structure_of a) (structure_of k) s st.rows su.rows st.table su.table st.named su.named (names_in p a c.0) (names_in p k c.1) (set_of a now y d c.0 i.0 is st) (set_of k now z e c.1 i.1 is_too su) i.2 (columns_given s w n) kept))
    form_gives s (nodes.pivot a id q) m before stands apart w i n c few =
        one_gives p r word before m (sources_of p r a m) (pivot_query p id q (structure_of a) s) (structure_of a) s (node_value p env a) (λ d. Ok (pivot_of (with_points (structure_of a) d) id q)) (operand_gives a m before stands apart i.0 c.0 few)
        (λ now x d is st.
        let set = set_of a now x d c.0 i.0 is st in
        means_by p now (pivot_query p id q (structure_of a) s x) s (Ok (pivot_of (with_points (structure_of a) st.rows) id q)) (Ok (pivot_of (with_points (structure_of a) d) id q)) (pivot_order (structure_of a) id st.rows set d st.same q)
        (pivot_means p law now x (structure_of a) s st.rows st.table st.named (names_in p a c.0) set id q i.1 c.1 (columns_given s w n)))
    form_gives s (nodes.unpivot a id q) m before stands apart w i n c few =
        one_gives p r word before m (sources_of p r a m) (unpivot_query p (structure_of a) s) (structure_of a) s (node_value p env a) (λ d. Ok (unpivot_of (with_points (structure_of a) d))) (operand_gives a m before stands apart i.0 c few)
        (λ now x d is st. means_turned p now (unpivot_query p (structure_of a) s x) s (unpivot_of (with_points (structure_of a) st.rows)) (unpivot_of (with_points (structure_of a) d)) (unpivot_order (structure_of a) st.rows d st.same)
        (unpivot_means p law now x (structure_of a) s st.rows st.table st.named (names_in p a c) (set_of a now x d c i.0 is st) id q i.1 (columns_given s w n)))
    form_gives s (nodes.aggregate a spec) m before stands apart w i n c few =
        one_gives p r word before m (sources_of p r a m) (aggregate_query p spec (structure_of a) s) (structure_of a) s (node_value p env a) (λ d. aggregate_of p spec (with_points (structure_of a) d) s) (operand_gives a m before stands apart i.0 c.0 few)
        (λ now x d is st.
        means_by p now (aggregate_query p spec (structure_of a) s x) s (aggregate_of p spec (with_points (structure_of a) st.rows) s) (aggregate_of p spec (with_points (structure_of a) d) s)
        (aggregates_respect p spec (with_points (structure_of a) st.rows) (with_points (structure_of a) d) s refl st.same)
        (aggregate_means p law now x (structure_of a) s st.rows st.table st.named (names_in p a c.0) (set_of a now x d c.0 i.0 is st) spec i.1 c.1 (columns_given s w n)))
    form_gives s (nodes.analytic_of a spec) m before stands apart w i n c few =
        one_gives p r word before m (sources_of p r a m) (analytic_query p spec (structure_of a) s) (structure_of a) s (node_value p env a) (λ d. analytic_of p spec (with_points (structure_of a) d) s) (operand_gives a m before stands apart i.0 c.0 few)
        (λ now x d is st.
        means_by p now (analytic_query p spec (structure_of a) s x) s (analytic_of p spec (with_points (structure_of a) st.rows) s) (analytic_of p spec (with_points (structure_of a) d) s)
        (analytics_respect p spec (with_points (structure_of a) st.rows) (with_points (structure_of a) d) s refl st.same)
        (analytic_means p law now x (structure_of a) s st.rows st.table st.named (names_in p a c.0) (set_of a now x d c.0 i.0 is st) spec i.1 i.2 c.1 (columns_given s w n)))
    form_gives s (nodes.time a o) m before stands apart w i n c few =
        let os = sources_of p r a m in
        time_gives p law r word before m os o (structure_of a) s (node_value p env a) (names_in p a c) (columns_given s w n) (given_sets a c i.0) i.1 apart few
        (operand_gives a m before stands apart i.0 c (omega (arith, few, time_first p r o (structure_of a) s os)))
    form_gives s (nodes.join os spec) m before stands apart w i n c few =
        let ss = joins.structures_of (operands_in os) in
        let sources = operands_of p r os m in
        let size = length-map (operands_in os) (λ o. o.structure) in
        let many = c.1 in
        join_gives p law r word s (columns_given s w n) ss (operands_named p os c.0) (omega (arith, many, size)) spec.kind i.1 before m sources (operands_value p env os) (λ ds is. operands_kept p env os ds i.0 sets is) apart few
        (operands_give os m before stands apart i.0 c.0 (omega (arith, few, operands_first p r spec.kind ss s sources)))
    form_gives s (nodes.check a nodes.no_node spec) m before stands apart w i n c few =
        check_gives p law r word before m (sources_of p r a m) (structure_of a) s (node_value p env a) (names_in p a c.0) (columns_given s w n) (given_sets a c.0 i.0) spec i.2 c.2 (operand_gives a m before stands apart i.0 c.0 few)
    form_gives s (nodes.check a (nodes.some_node k) spec) m before stands apart w i n c few =
        let first = sources_of p r a m in
        let second = sources_of p r k first.next in
        let F = λ (d : List Row) (e : Option DataSet). check_of p spec (with_points (structure_of a) d) e in
        subst (λ f. NodeGives p before r m (over (and_then first (sources_of p r k)) (with_two (imbalance_query p spec (structure_of a) (structure_of k) s))) s (after (node_value p env a) f))
        (same_functions (λ d. after (node_value p env k) (λ e. Ok (F d (Some (with_points (structure_of k) e))))) (λ d. after (after (node_value p env k) (λ e. Ok (Some (with_points (structure_of k) e)))) (λ e. Ok (F d e)))
        (λ d. sym (after_then (node_value p env k) (λ e. Some (with_points (structure_of k) e)) (λ e. Ok (F d e)))))
        (imbalance_gives p law r word before m (and_then first (sources_of p r k)) (structure_of a) s (node_value p env a) (names_in p a c.0) (columns_given s w n) (given_sets a c.0 i.0) (structure_of k) (node_value p env k) (names_in p k c.1) (given_sets k c.1 i.1) (given_ranged k i.1) spec i.2 c.2
        (beside_gives p r word before m first (sources_of p r k) (alone p r word (structure_of a) (node_value p env a)) (alone p r word (structure_of k) (node_value p env k)) (operand_gives a m before stands apart i.0 c.0 (omega (arith, few, length-append first.tables second.tables)))
        (λ x. operand_gives k first.next (before ++ x.more) (all_stand_still before x.more env stands) (all_earlier p r word m first.next before x.more (omega (arith, x.counted)) apart x.new) i.1 c.1 (omega (arith, few, x.counted, length-append first.tables second.tables)))))
    form_gives s (nodes.check_datapoint a rules out) m before stands apart w i n c few =
        some_rules (λ (all : List PointRuleTree). IsPointChecked p out all (structure_of a) s → AllByRecursion CanRuleBeWritten all → length all < 2 ^ 64 → NodeGives p before r m (over (sources_of p r a m) (with_one (datapoint_query p all out (structure_of a) s))) s (after (node_value p env a) (λ d. datapoint_of p out all (with_points (structure_of a) d))))
        (λ rule others checked written numbered.
        datapoint_gives p law r word before m (sources_of p r a m) (structure_of a) s (node_value p env a) (names_in p a c.0) (columns_given s w n) (given_sets a c.0 i.0) out rule others checked written numbered (operand_gives a m before stands apart i.0 c.0 few))
        rules.rules c.1.some i.1 c.1.written c.1.few
    form_gives s (nodes.check_hierarchy a rules q out) m before stands apart w i n c few =
        let h = ruled_by rules (structure_of a) in
        let os = sources_of p r a m in
        let made = λ (all : List HierRule). check_hierarchy_made p r h q out all (structure_of a) s os in
        some_rules (λ (all : List HierRule). IsHierarchyChecked out h all (structure_of a) s → AllByRecursion (CanBeSided p) all → length all < 2 ^ 64 → m + length (made all).tables < 2 ^ 64 → NodeGives p before r m (made all) s (after (node_value p env a) (λ d. check_hierarchy_of p out h q (with_points (structure_of a) d) all)))
        (λ rule others checked written numbered tables.
        check_hierarchy_gives p law r word before m os h q out rule others (structure_of a) s (node_value p env a) (names_in p a c.0) (columns_given s w n) (given_sets a c.0 i.0) checked refl written numbered apart tables
        (operand_gives a m before stands apart i.0 c.0 (omega (arith, tables, checked_first p r h q out (rule ∷ others) (structure_of a) s os))))
        rules.rules c.1.some i.1 c.1.written c.1.few few
    form_gives s (nodes.hierarchy a rules q k out) m before stands apart w i n c few =
        let h = ruled_by rules (structure_of a) in
        let os = sources_of p r a m in
        let order = places_or_none rules.order in
        hierarchy_gives p law r word before m os h q k out rules.rules order (structure_of a) s (node_value p env a) (names_in p a c.0) n (columns_given s w n) w.well_formed (given_sets a c.0 i.0) i.1 refl (order_given rules.rules rules.order i.2) c.1.written apart few
        (operand_gives a m before stands apart i.0 c.0 (omega (arith, few, computed_first p r h q k out rules.rules order (structure_of a) s os)))

    -- a filter
    filter_gives : (s : Structure) (a : NodeTree) (e : CompExp) (taken : Bool) → takes_filter a ≡ taken → (m : ℕ) (before : Data) → Stands before env → AreEarlier r m before → IsShaped s → IsMade p (known_in env) a → IsFiltered p e (structure_of a) s → HaveNames (columns_of s) → IsTranslated p a → CanBeWritten e
        → (m + length (sources_of p r a m).tables < 2 ^ 64 → SourcesGive p before r m (sources_of p r a m) (alone p r word (structure_of a) (node_value p env a)))
        → m + length (filter_made p e s taken (made_of p r a m) (sources_of p r a m)).tables < 2 ^ 64 → NodeGives p before r m (filter_made p e s taken (made_of p r a m) (sources_of p r a m)) s (after (node_value p env a) (filter_of p e))
    filter_gives s a e false is m before stands apart w i f n c written g few =
        one_gives p r word before m (sources_of p r a m) (filter_query p e s) (structure_of a) s (node_value p env a) (filter_of p e) (g few)
        (λ now x d got st. means_by p now (filter_query p e s x) s (filter_of p e st.rows) (filter_of p e d) (filtered_respects p e st.rows d st.same)
        (filter_means p law now x (structure_of a) st.rows st.table st.named (names_in p a c) (set_of a now x d c i got st) e s f written (columns_given s w n)))
    filter_gives s (nodes.node t (nodes.join os spec)) e true is m before stands apart w i f n c written g few =
        let ss = joins.structures_of (operands_in os) in
        let sources = operands_of p r os m in
        let size = length-map (operands_in os) (λ o. o.structure) in
        let many = c.1.1 in
        let made = filtered_made p (Some e) (join_made p r spec.kind ss t sources) in
        subst (λ z. NodeGives p before r m made z (after (after (operands_value p env os) (λ ds. Ok (join_of spec.kind ds))) (filter_of p e))) (sym f.same)
        (subst (NodeGives p before r m made t) (sym (after_then (operands_value p env os) (join_of spec.kind) (filter_of p e)))
        (filtered_gives p law r word t (columns_given t i.0 c.0) (Some e) (f.condition, f.boolean, written) ss (operands_named p os c.1.0) (omega (arith, many, size)) spec.kind i.1.1 before m sources (operands_value p env os) (λ ds got. operands_kept p env os ds i.1.0 sets got) apart few
        (operands_give os m before stands apart i.1.0 c.1.0 (omega (arith, few, operands_first p r spec.kind ss t sources)))))
    filter_gives s (nodes.node t form) e true is m before stands apart w i f n c written g few = absurd (false≢true is)

    -- the operands of a join
    operands_give : (os : OperandTrees) (m : ℕ) (before : Data) → Stands before env → AreEarlier r m before → AreMadeOperands p (known_in env) os → AreOperandsTranslated p os → m + length (operands_of p r os m).tables < 2 ^ 64 → SourcesGive p before r m (operands_of p r os m) (operands_value p env os)
    operands_give nodes.no_operands m before stands apart i c few = (no_tables p r word before m, tt)
    operands_give (nodes.operand a alias os) m before stands apart i c few =
        let first = sources_of p r a m in
        let rest = operands_of p r os first.next in
        let size = length-append first.tables rest.tables in
        subst (SourcesGive p before r m (and_then first (operands_of p r os))) (together_is (structure_of a) (node_value p env a) (operands_value p env os))
        (beside_gives p r word before m first (operands_of p r os) (alone p r word (structure_of a) (node_value p env a)) (operands_value p env os) (operand_gives a m before stands apart i.0 c.0 (omega (arith, few, size)))
        (λ x. operands_give os first.next (before ++ x.more) (all_stand_still before x.more env stands) (all_earlier p r word m first.next before x.more (omega (arith, x.counted)) apart x.new) i.1 c.1 (omega (arith, few, x.counted, size))))

    -- operands one after the other
    combined_gives : (ns : NodeTrees) (q : Structure → Structure → Text → Text → QueryTree) (rows : List Row → List Row → List Row) (s : Structure) → IsStep p s q rows → AreGiven (columns_of s) → HaveNames (columns_of s) → (a : Structure) (os : Sources) (v : Outcome (List Row)) (m : ℕ) (before : Data) → Stands before env → AreEarlier r m before → IsShown a s → HaveNames (columns_of a)
        → ((u : List Row) → v ≡ Ok u → IsDataSet a u) → SourcesGive p before r m os (alone p r word a v) → AreMade p (known_in env) ns → AreNodesTranslated p ns → AllByRecursion (λ b. IsAlternative s b s) (node_structures ns) → IsStructure s → m + length (combined_of p r q s ns a os).tables < 2 ^ 64
        → NodeGives p before r m (combined_of p r q s ns a os) s (after v (one_after s rows a (nodes_value p env ns)))
    combined_gives nodes.no_nodes q rows s step given n a os v m before stands apart ia na set g i c alike w few =
        one_gives p r word before m os (shown_query p a s) a s v (λ d. Ok (left_of (with_points a d) s)) g
        (λ now x d is st. means_by p now (shown_query p a s x) s (Ok (left_of (with_points a st.rows) s)) (Ok (left_of (with_points a d) s)) (shown_respects (columns_of a) (columns_of s) st.rows d st.same)
        (shown_means p law now x a s st.rows st.table st.named na (set_turned a d st.rows st.same (set d is)) ia given))
    combined_gives (nodes.and_node b nodes.no_nodes) q rows s step given n a os v m before stands apart ia na set g i c alike w few =
        subst (λ f. NodeGives p before r m (combined_of p r q s (nodes.and_node b nodes.no_nodes) a os) s (after v f))
        (same_functions (λ d. after (node_value p env b) (λ e. Ok (rows (left_of (with_points a d) s) (left_of (with_points (structure_of b) e) s)))) (one_after s rows a (nodes_value p env (nodes.and_node b nodes.no_nodes)))
        (λ d. sym (after_then (node_value p env b) (λ points. with_points (structure_of b) points ∷ []) (λ ds. Ok (fold rows (left_of (with_points a d) s) (all_left_of ds s))))))
        (pair_gives q rows s step w a os v b m before ia (record { alternative = alike.0; plain = ia.plain }) na set g
        (λ x. operand_gives b os.next (before ++ x.more) (all_stand_still before x.more env stands) (all_earlier p r word m os.next before x.more (omega (arith, x.counted)) apart x.new) i.0 c.0 (omega (arith, few, x.counted, length-append os.tables (sources_of p r b os.next).tables))) i.0 c.0)
    combined_gives (nodes.and_node b (nodes.and_node k ns)) q rows s step given n a os v m before stands apart ia na set g i c alike w few =
        let both = over (and_then os (sources_of p r b)) (with_two (q a (structure_of b))) in
        let ib : IsShown (structure_of b) s = record { alternative = alike.0; plain = ia.plain } in
        let next = node_value p env b in
        let so_far = after v (λ d. after next (λ e. Ok (rows (left_of (with_points a d) s) (left_of (with_points (structure_of b) e) s)))) in
        let size = length-append both.tables (table_of (numbered r both.next) both.query ∷ []) in
        let stays = front_stays p r q s (nodes.and_node k ns) s (stored r both) in
        let all = length-append os.tables (sources_of p r b os.next).tables in
        let inner = pair_gives q rows s step w a os v b m before ia ib na set g (λ x. operand_gives b os.next (before ++ x.more) (all_stand_still before x.more env stands) (all_earlier p r word m os.next before x.more (omega (arith, x.counted)) apart x.new) i.0 c.0 (omega (arith, few, size, stays, all, x.counted))) i.0 c.0 in
        let kept : (u e : List Row) → v ≡ Ok u → next ≡ Ok e → IsDataSet s (rows (left_of (with_points a u) s) (left_of (with_points (structure_of b) e) s)) =
        λ u e is is_too. step.kept (left_of (with_points a u) s) (left_of (with_points (structure_of b) e) s) (shown_set_of s a u w ia (set u is)) (shown_set_of s (structure_of b) e w ib (node_kept p env b e i.0 sets is_too)) in
        subst (NodeGives p before r m (combined_of p r q s (nodes.and_node b (nodes.and_node k ns)) a os) s) (two_first s rows a (structure_of b) v next (nodes_value p env (nodes.and_node k ns)) (λ u e is is_too. shown_own s (rows (left_of (with_points a u) s) (left_of (with_points (structure_of b) e) s)) (kept u e is is_too)))
        (combined_gives (nodes.and_node k ns) q rows s step given n s (stored r both) so_far m before stands apart (shown_self s w ia.plain) n (both_sets s rows a (structure_of b) v next kept) (stored_gives p r word before m both s so_far apart (omega (arith, few, stays)) inner) i.1 c.1 alike.1 w few)
