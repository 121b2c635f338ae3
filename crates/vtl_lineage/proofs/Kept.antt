-- The table over numbers is the table over pairs: the numbers of what is joined are those of both, merged.
use Rattle.std.specs.Prelude.{slice_index_or}
use Rattle.std.specs.List.{flat_map, fold}
use Rattle.std.specs.Map.{lookup}
use Rattle.std.specs.Option.{option_map_or}
use Rattle.std.proofs.Common.{◌≡◌, ℕ, zero, suc, Bool, true, false, cond, List, [], ◌∷◌, ◌++◌, map, Option, None, Some, refl, ap, ◌∙◌}
use Rattle.std.proofs.lemmas.List.{map-append}
use Rattle.vtl_syntax.specs.declared.word_groups.CheckOut.{CheckOut}
use Rattle.vtl_syntax.specs.declared.word_groups.CheckOut.TheVariants as out
use Rattle.vtl_tree.specs.Checks.{output_parts}
use Rattle.vtl_tree.specs.Columns.{identifiers_of, measures_of, others_of, place_of}
use Rattle.vtl_tree.specs.CompExp.{CompExp, CompExps, column, const, call, aggregate, no_comp_exps, comp_exp}
use Rattle.vtl_text.specs.Texts.{same_text}
use Rattle.vtl_tree.specs.Structure.{columns_of, key_width, of_role}
use Rattle.vtl_tree.specs.Trees as nodes
use Rattle.vtl_tree.specs.Trees.{AggTree, AnalyticTree, FormTree, MaybeNode, MeasureTree, NodeTree, NodeTrees, OperandTrees, PointRuleTree, ValueTree}
use Rattle.vtl_tree.specs.View.{comp_exps_of}
use Rattle.vtl_tree.specs.declared.calls.Window.{Window}
use Rattle.vtl_tree.specs.declared.expression.AggCall.{AggCall}
use Rattle.vtl_tree.specs.declared.specifications.AggItems.{AggItems}
use Rattle.vtl_tree.specs.declared.structure.Component.{Component}
use Rattle.vtl_tree.specs.declared.structure.Role.TheVariants as role
use Rattle.vtl_tree.specs.declared.structure.Structure.{Structure}
use Rattle.vtl_meaning.specs.Aggregates.{call_for}
use Rattle.vtl_meaning.specs.Analytics.{value_for}
use Rattle.vtl_sources.specs.Lineage.{Past, form_lineage, lineage, maybe_lineage, nodes_lineage, operand_of, operands_lineage, sources_named}
use Rattle.vtl_sources.specs.Links.{Pairs, either, none}
use Rattle.vtl_sources.specs.Sources.{Sources, Traced, attribute_sources, columns_from, each_source, measure_sources, source_at, source_if_named, source_named, sources, traced, with_all, with_expression, with_expressions, with_names}
use Rattle.vtl_sources.specs.Table.{becoming, namesakes, of_aggregate, of_check, of_choice, of_datapoint, of_filter, of_join, of_left, of_made, of_measured, of_measures, of_pair, of_pivot, of_points, of_set, points_of_all, source_counted, source_made, source_of_value, with_measure, with_measures, with_rule, with_window}
use Rattle.vtl_lineage.specs.Numbers.{Numbers, merged, numbered, numbered_past, numbered_traced, numbers_of}
use Rattle.vtl_lineage.proofs.Merging.{numbers_joined, numbers_none}

module _ (pairs : Pairs) where
  abbrev h : Pairs → Numbers
  h = numbers_of pairs

  abbrev at : Traced Pairs → Traced Numbers
  at = numbered_traced pairs

  -- ---- lists of sets
  same_each : {X : Type 0} (f : X → Pairs) (g : X → Numbers) → ((x : X) → h (f x) ≡ g x) → (xs : List X) → map h (map f xs) ≡ map g xs
  same_each f g e [] = refl
  same_each f g e (x ∷ xs) = λ i. e x i ∷ same_each f g e xs i

  same_over : (f : Traced Pairs → Pairs) (g : Traced Numbers → Numbers) → ((d : Traced Pairs) → h (f d) ≡ g (at d)) → (ds : List (Traced Pairs)) → map h (map f ds) ≡ map g (map at ds)
  same_over f g e [] = refl
  same_over f g e (d ∷ ds) = λ i. e d i ∷ same_over f g e ds i

  same_flat : (f : Traced Pairs → List Pairs) (g : Traced Numbers → List Numbers) → ((d : Traced Pairs) → map h (f d) ≡ g (at d)) → (ds : List (Traced Pairs)) → map h (flat_map f ds) ≡ flat_map g (map at ds)
  same_flat f g e [] = refl
  same_flat f g e (d ∷ ds) = map-append h (f d) (flat_map f ds) ∙ (λ i. e d i ++ same_flat f g e ds i)

  all_joined : (before : Pairs) (xs : List Pairs) → h (with_all either none before xs) ≡ with_all merged [] (h before) (map h xs)
  all_joined before [] = refl
  all_joined before (x ∷ xs) = all_joined (either before x) xs ∙ ap (λ b. with_all merged [] b (map h xs)) (numbers_joined pairs before x)

  -- ---- columns
  one_at : (xs : List Pairs) (i : ℕ) → h (slice_index_or xs i none) ≡ slice_index_or (map h xs) i []
  one_at [] i = numbers_none pairs
  one_at (x ∷ xs) zero = refl
  one_at (x ∷ xs) (suc i) = one_at xs i

  columns_same : (s : Structure) (from : Sources Pairs) → map h (columns_from either none s from) ≡ columns_from merged [] s (numbered pairs from)
  columns_same s from =
      map-append h (map (λ x. none) (identifiers_of s)) from.others
      ∙ ap (λ l. l ++ map h from.others) (same_each (λ x. none) (λ x. []) (λ x. numbers_none pairs) (identifiers_of s))

  at_same : (a : Traced Pairs) (i : ℕ) → h (source_at either none a i) ≡ source_at merged [] (at a) i
  at_same a i = one_at (columns_from either none a.structure a.sources) i ∙ ap (λ l. slice_index_or l i []) (columns_same a.structure a.sources)

  pub named_same : (a : Traced Pairs) (name : List ℕ) → h (source_named either none a name) ≡ source_named merged [] (at a) name
  named_same a name = at_same a (place_of name (columns_of a.structure))

  if_named_same : (a : Traced Pairs) (name : Option (List ℕ)) → h (source_if_named either none a name) ≡ source_if_named merged [] (at a) name
  if_named_same a None = numbers_none pairs
  if_named_same a (Some name) = named_same a name

  each_same : (a : Traced Pairs) (xs : List Component) → map h (each_source either none a xs) ≡ each_source merged [] (at a) xs
  each_same a xs = same_each (λ x. source_named either none a x.name) (λ x. source_named merged [] (at a) x.name) (λ x. named_same a x.name) xs

  names_same : (a : Traced Pairs) (before : Pairs) (names : List (List ℕ)) → h (with_names either none a before names) ≡ with_names merged [] (at a) (h before) names
  names_same a before names =
      all_joined before (map (source_named either none a) names)
      ∙ ap (with_all merged [] (h before)) (same_each (source_named either none a) (source_named merged [] (at a)) (named_same a) names)

  -- ---- expressions
  mutual
    pub expression_same : (a : Traced Pairs) (before : Pairs) (e : CompExp) → h (with_expression either none a before e) ≡ with_expression merged [] (at a) (h before) e
    expression_same a before (column place name kind) = numbers_joined pairs before (source_at either none a place) ∙ ap (merged (h before)) (at_same a place)
    expression_same a before (const v) = refl
    expression_same a before (call o kind args) = expressions_same a before args
    expression_same a before (aggregate x kind) = numbers_joined pairs before (source_if_named either none a x.component) ∙ ap (merged (h before)) (if_named_same a x.component)

    expressions_same : (a : Traced Pairs) (before : Pairs) (es : CompExps) → h (with_expressions either none a before es) ≡ with_expressions merged [] (at a) (h before) es
    expressions_same a before no_comp_exps = refl
    expressions_same a before (comp_exp e es) =
        expressions_same a (with_expression either none a before e) es ∙ ap (λ b. with_expressions merged [] (at a) b es) (expression_same a before e)

  -- ---- parts
  measures_same : (a : Traced Pairs) → h (with_measures either none a) ≡ with_measures merged [] (at a)
  measures_same a =
      all_joined a.sources.points (measure_sources either none a) ∙ ap (with_all merged [] (h a.sources.points)) (each_same a (measures_of a.structure))

  measure_same : (a : Traced Pairs) (before : Pairs) → h (with_measure either none a before) ≡ with_measure merged [] (at a) (h before)
  measure_same a before = numbers_joined pairs before (source_at either none a (key_width a.structure)) ∙ ap (merged (h before)) (at_same a (key_width a.structure))

  all_points_same : (ds : List (Traced Pairs)) → h (points_of_all either none ds) ≡ points_of_all merged [] (map at ds)
  all_points_same ds =
      all_joined none (map (λ d. d.sources.points) ds)
      ∙ (λ i. with_all merged [] (numbers_none pairs i) (same_over (λ d. d.sources.points) (λ d. d.sources.points) (λ d. refl) ds i))

  namesakes_same : (ds : List (Traced Pairs)) (y : Component) → h (namesakes either none ds y) ≡ namesakes merged [] (map at ds) y
  namesakes_same ds y =
      all_joined none (map (λ d. source_named either none d y.name) ds)
      ∙ (λ i. with_all merged [] (numbers_none pairs i) (same_over (λ d. source_named either none d y.name) (λ d. source_named merged [] d y.name) (λ d. named_same d y.name) ds i))

  window_same : (a : Traced Pairs) (before : Pairs) (w : Window) → h (with_window either none a before w) ≡ with_window merged [] (at a) (h before) w
  window_same a before w =
      names_same a (with_names either none a before w.partition) (map (λ key. key.component) w.order)
      ∙ ap (λ b. with_names merged [] (at a) b (map (λ key. key.component) w.order)) (names_same a before w.partition)

  value_same : (a : Traced Pairs) (v : ValueTree) → h (source_of_value either none a v) ≡ source_of_value merged [] (at a) v
  value_same a (nodes.scalar e) = expression_same a none e ∙ ap (λ b. with_expression merged [] (at a) b e) (numbers_none pairs)
  value_same a (nodes.analytic x) =
      window_same a (source_if_named either none a x.component) x.window ∙ ap (λ b. with_window merged [] (at a) b x.window) (if_named_same a x.component)

  made_same : (a : Traced Pairs) (spec : AnalyticTree) (y : Component) → h (source_made either none a spec y) ≡ source_made merged [] (at a) spec y
  made_same a spec y = go (value_for spec y)
    where
      go : (o : Option ValueTree) → h (option_map_or (source_of_value either none a) o (source_named either none a y.name)) ≡ option_map_or (source_of_value merged [] (at a)) o (source_named merged [] (at a) y.name)
      go None = named_same a y.name
      go (Some v) = value_same a v

  counted_same : (a : Traced Pairs) (items : AggItems) (y : Component) → h (source_counted either none a items y) ≡ source_counted merged [] (at a) items y
  counted_same a items y = go (call_for items y.name)
    where
      go : (o : Option AggCall) → h (option_map_or (λ call. source_if_named either none a call.component) o none) ≡ option_map_or (λ call. source_if_named merged [] (at a) call.component) o []
      go None = numbers_none pairs
      go (Some x) = if_named_same a x.component

  condition_same : (a : Traced Pairs) (before : Pairs) (o : Option CompExp) → h (option_map_or (with_expression either none a before) o before) ≡ option_map_or (with_expression merged [] (at a) (h before)) o (h before)
  condition_same a before None = refl
  condition_same a before (Some e) = expression_same a before e

  rule_same : (a : Traced Pairs) (before : Pairs) (r : PointRuleTree) → h (with_rule either none a before r) ≡ with_rule merged [] (at a) (h before) r
  rule_same a before r =
      expression_same a (option_map_or (with_expression either none a before) r.antecedent before) r.condition
      ∙ ap (λ b. with_expression merged [] (at a) b r.condition) (condition_same a before r.antecedent)

  rules_same : (a : Traced Pairs) (before : Pairs) (rules : List PointRuleTree) → h (fold (with_rule either none a) before rules) ≡ fold (with_rule merged [] (at a)) (h before) rules
  rules_same a before [] = refl
  rules_same a before (r ∷ rules) = rules_same a (with_rule either none a before r) rules ∙ ap (λ b. fold (with_rule merged [] (at a)) b rules) (rule_same a before r)

  parts_same : (o : CheckOut) (ms : List Pairs) (t : Pairs) (rest : List Pairs) → map h (output_parts o ms t rest) ≡ output_parts o (map h ms) (h t) (map h rest)
  parts_same out.Invalid ms t rest = map-append h ms rest
  parts_same out.All ms t rest = refl
  parts_same out.AllMeasures ms t rest = map-append h ms (t ∷ rest)

  -- ---- lines
  points_line : (ps : Pairs) (ns : Numbers) (s : Structure) → h ps ≡ ns → numbered pairs (of_points either none ps s) ≡ of_points merged [] ns s
  points_line ps ns s e = λ i. sources (e i) (same_each (λ y. none) (λ y. []) (λ y. numbers_none pairs) (others_of s) i)

  measured_line : (a : Traced Pairs) (s : Structure) → numbered pairs (of_measured either none a s) ≡ of_measured merged [] (at a) s
  measured_line a s = points_line (with_measures either none a) (with_measures merged [] (at a)) s (measures_same a)

  measures_line : (a : Traced Pairs) (m : MeasureTree) (s : Structure) → numbered pairs (of_measures either none a m s) ≡ of_measures merged [] (at a) m s
  measures_line a m s = ap (sources (h a.sources.points)) (same_each f g one (becoming a.structure s))
    where
      f : Component → Pairs
      f x = with_expressions either none a (with_expressions either none a (source_named either none a x.name) (comp_exps_of m.before)) (comp_exps_of m.after)

      g : Component → Numbers
      g x = with_expressions merged [] (at a) (with_expressions merged [] (at a) (source_named merged [] (at a) x.name) (comp_exps_of m.before)) (comp_exps_of m.after)

      one : (x : Component) → h (f x) ≡ g x
      one x =
          expressions_same a (with_expressions either none a (source_named either none a x.name) (comp_exps_of m.before)) (comp_exps_of m.after)
          ∙ ap (λ b. with_expressions merged [] (at a) b (comp_exps_of m.after)) (expressions_same a (source_named either none a x.name) (comp_exps_of m.before)
          ∙ ap (λ b. with_expressions merged [] (at a) b (comp_exps_of m.before)) (named_same a x.name))

  two_same : (a b : Traced Pairs) (x : Component) → h (either (source_named either none a x.name) (source_named either none b x.name)) ≡ merged (source_named merged [] (at a) x.name) (source_named merged [] (at b) x.name)
  two_same a b x = numbers_joined pairs (source_named either none a x.name) (source_named either none b x.name) ∙ (λ i. merged (named_same a x.name i) (named_same b x.name i))

  both_columns : (a b : Traced Pairs) (xs : List Component) → map h (map (λ x. either (source_named either none a x.name) (source_named either none b x.name)) xs) ≡ map (λ x. merged (source_named merged [] (at a) x.name) (source_named merged [] (at b) x.name)) xs
  both_columns a b xs = same_each (λ x. either (source_named either none a x.name) (source_named either none b x.name)) (λ x. merged (source_named merged [] (at a) x.name) (source_named merged [] (at b) x.name)) (two_same a b) xs

  pair_line : (a b : Traced Pairs) (s : Structure) → numbered pairs (of_pair either none a b s) ≡ of_pair merged [] (at a) (at b) s
  pair_line a b s = λ i. sources (numbers_joined pairs a.sources.points b.sources.points i) (both_columns a b (becoming a.structure s) i)

  choice_line : (t a b : Traced Pairs) (s : Structure) → numbered pairs (of_choice either none t a b s) ≡ of_choice merged [] (at t) (at a) (at b) s
  choice_line t a b s = λ i. sources (points i) (both_columns a b (measures_of s) i)
    where
      first : Pairs
      first = either t.sources.points a.sources.points

      points : h (with_measure either none t (either first b.sources.points)) ≡ with_measure merged [] (at t) (merged (merged (h t.sources.points) (h a.sources.points)) (h b.sources.points))
      points =
          measure_same t (either first b.sources.points)
          ∙ ap (with_measure merged [] (at t)) (numbers_joined pairs first b.sources.points ∙ ap (λ l. merged l (h b.sources.points)) (numbers_joined pairs t.sources.points a.sources.points))

  left_line : (a : Traced Pairs) (s : Structure) → numbered pairs (of_left either none a s) ≡ of_left merged [] (at a) s
  left_line a s = ap (sources (h a.sources.points)) (each_same a (others_of s))

  filter_line : (a : Traced Pairs) (e : CompExp) → numbered pairs (of_filter either none a e) ≡ of_filter merged [] (at a) e
  filter_line a e = ap (λ p. sources p (map h a.sources.others)) (expression_same a a.sources.points e)

  made_line : (a : Traced Pairs) (spec : AnalyticTree) (s : Structure) → numbered pairs (of_made either none a spec s) ≡ of_made merged [] (at a) spec s
  made_line a spec s = ap (sources (h a.sources.points)) (same_each (source_made either none a spec) (source_made merged [] (at a) spec) (made_same a spec) (others_of s))

  pivot_line : (a : Traced Pairs) (m : List ℕ) (s : Structure) → numbered pairs (of_pivot either none a m s) ≡ of_pivot merged [] (at a) m s
  pivot_line a m s = ap (sources (h a.sources.points)) (same_each (λ y. source_named either none a m) (λ y. source_named merged [] (at a) m) (λ y. named_same a m) (others_of s))

  join_line : (ds : List (Traced Pairs)) → numbered pairs (of_join either none ds) ≡ of_join merged [] (map at ds)
  join_line ds = λ i. sources (all_points_same ds i) (columns i)
    where
      columns : map h (flat_map (measure_sources either none) ds ++ flat_map (attribute_sources either none) ds) ≡ flat_map (measure_sources merged []) (map at ds) ++ flat_map (attribute_sources merged []) (map at ds)
      columns =
          map-append h (flat_map (measure_sources either none) ds) (flat_map (attribute_sources either none) ds)
          ∙ (λ i. same_flat (measure_sources either none) (measure_sources merged []) (λ d. each_same d (measures_of d.structure)) ds i
          ++ same_flat (attribute_sources either none) (attribute_sources merged []) (λ d. each_same d (of_role role.Attribute d.structure)) ds i)

  set_line : (ds : List (Traced Pairs)) (s : Structure) → numbered pairs (of_set either none ds s) ≡ of_set merged [] (map at ds) s
  set_line ds s = λ i. sources (all_points_same ds i) (same_each (namesakes either none ds) (namesakes merged [] (map at ds)) (namesakes_same ds) (others_of s) i)

  aggregate_line : (a : Traced Pairs) (spec : AggTree) (s : Structure) → numbered pairs (of_aggregate either none a spec s) ≡ of_aggregate merged [] (at a) spec s
  aggregate_line a spec s =
      λ i. sources (condition_same a a.sources.points spec.having i) (same_each (source_counted either none a spec.items) (source_counted merged [] (at a) spec.items) (counted_same a spec.items) (others_of s) i)

  check_line : (a : Traced Pairs) (d : Option (Traced Pairs)) (e : Option (Traced Numbers)) → option_map_or (λ x. Some (at x)) d None ≡ e → numbered pairs (of_check either none a d) ≡ of_check merged [] (at a) e
  check_line a d e same =
      λ i. sources (measure_same a a.sources.points i) (numbers_none pairs i ∷ (other d ∙ ap (λ o. option_map_or (λ x. with_measure merged [] x x.sources.points) o []) same) i ∷ numbers_none pairs i ∷ numbers_none pairs i ∷ [])
    where
      other : (d : Option (Traced Pairs)) → h (option_map_or (λ x. with_measure either none x x.sources.points) d none) ≡ option_map_or (λ x. with_measure merged [] x x.sources.points) (option_map_or (λ x. Some (at x)) d None) []
      other None = numbers_none pairs
      other (Some x) = measure_same x x.sources.points

  datapoint_line : (a : Traced Pairs) (rules : List PointRuleTree) (o : CheckOut) → numbered pairs (of_datapoint either none a rules o) ≡ of_datapoint merged [] (at a) rules o
  datapoint_line a rules o = λ i. sources (rules_same a a.sources.points rules i) (columns i)
    where
      columns : map h (output_parts o (measure_sources either none a) none (none ∷ none ∷ [])) ≡ output_parts o (measure_sources merged [] (at a)) [] ([] ∷ [] ∷ [])
      columns =
          parts_same o (measure_sources either none a) none (none ∷ none ∷ [])
          ∙ (λ i. output_parts o (each_same a (measures_of a.structure) i) (numbers_none pairs i) (numbers_none pairs i ∷ numbers_none pairs i ∷ []))

  -- ---- expressions
  named_line : (name : List ℕ) (past : Past Pairs) → numbered pairs (sources_named none name past) ≡ sources_named [] name (numbered_past pairs past)
  named_line name past = look past
    where
      test : List ℕ → Bool
      test = same_text name

      look : (es : Past Pairs) → numbered pairs (option_map_or (λ f. f) (lookup test es) (sources none [])) ≡ option_map_or (λ f. f) (lookup test (numbered_past pairs es)) (sources [] [])
      look [] = ap (λ p. sources p []) (numbers_none pairs)
      look (e ∷ es) = go (test e.0) (look es)
        where
          go : (b : Bool) → numbered pairs (option_map_or (λ f. f) (lookup test es) (sources none [])) ≡ option_map_or (λ f. f) (lookup test (numbered_past pairs es)) (sources [] [])
              → numbered pairs (option_map_or (λ f. f) (cond b (Some e.1) (lookup test es)) (sources none [])) ≡ option_map_or (λ f. f) (cond b (Some (numbered pairs e.1)) (lookup test (numbered_past pairs es))) (sources [] [])
          go true ih = refl
          go false ih = ih

  abbrev L : Past Pairs → NodeTree → Traced Pairs
  L past n = operand_of n (lineage either none past n)

  abbrev N : Past Pairs → NodeTree → Traced Numbers
  N past n = operand_of n (lineage merged [] (numbered_past pairs past) n)

  mutual
    pub node_same : (past : Past Pairs) (n : NodeTree) → at (L past n) ≡ N past n
    node_same past (nodes.node s form) = ap (traced s) (form_same past s form)

    form_same : (past : Past Pairs) (s : Structure) (form : FormTree) → numbered pairs (form_lineage either none past s form) ≡ form_lineage merged [] (numbered_past pairs past) s form
    form_same past s (nodes.named name) = named_line name past
    form_same past s (nodes.measures m a) = measures_line (L past a) m s ∙ ap (λ d. of_measures merged [] d m s) (node_same past a)
    form_same past s (nodes.pair o a b) = pair_line (L past a) (L past b) s ∙ (λ i. of_pair merged [] (node_same past a i) (node_same past b i) s)
    form_same past s (nodes.choose t a b) = choice_line (L past t) (L past a) (L past b) s ∙ (λ i. of_choice merged [] (node_same past t i) (node_same past a i) (node_same past b i) s)
    form_same past s (nodes.member a m) = left_line (L past a) s ∙ ap (λ d. of_left merged [] d s) (node_same past a)
    form_same past s (nodes.filter a e) = filter_line (L past a) e ∙ ap (λ d. of_filter merged [] d e) (node_same past a)
    form_same past s (nodes.calc a items) = made_line (L past a) (nodes.of_items items) s ∙ ap (λ d. of_made merged [] d (nodes.of_items items) s) (node_same past a)
    form_same past s (nodes.keep a names) = left_line (L past a) s ∙ ap (λ d. of_left merged [] d s) (node_same past a)
    form_same past s (nodes.drop_named a names) = left_line (L past a) s ∙ ap (λ d. of_left merged [] d s) (node_same past a)
    form_same past s (nodes.rename a pairs) = ap (λ d. d.sources) (node_same past a)
    form_same past s (nodes.sub a items) = left_line (L past a) s ∙ ap (λ d. of_left merged [] d s) (node_same past a)
    form_same past s (nodes.pivot a id m) = pivot_line (L past a) m s ∙ ap (λ d. of_pivot merged [] d m s) (node_same past a)
    form_same past s (nodes.unpivot a id m) = measured_line (L past a) s ∙ ap (λ d. of_measured merged [] d s) (node_same past a)
    form_same past s (nodes.join os spec) = join_line (operands_lineage either none past os) ∙ ap (of_join merged []) (operands_same past os)
    form_same past s (nodes.union ns) = set_line (nodes_lineage either none past ns) s ∙ ap (λ ds. of_set merged [] ds s) (nodes_same past ns)
    form_same past s (nodes.intersect ns) = set_line (nodes_lineage either none past ns) s ∙ ap (λ ds. of_set merged [] ds s) (nodes_same past ns)
    form_same past s (nodes.set_diff a b) = set_line (L past a ∷ L past b ∷ []) s ∙ (λ i. of_set merged [] (node_same past a i ∷ node_same past b i ∷ []) s)
    form_same past s (nodes.sym_diff a b) = set_line (L past a ∷ L past b ∷ []) s ∙ (λ i. of_set merged [] (node_same past a i ∷ node_same past b i ∷ []) s)
    form_same past s (nodes.exists_in a b r) =
        points_line (points_of_all either none (L past a ∷ L past b ∷ [])) (points_of_all merged [] (at (L past a) ∷ at (L past b) ∷ [])) s (all_points_same (L past a ∷ L past b ∷ []))
        ∙ (λ i. of_points merged [] (points_of_all merged [] (node_same past a i ∷ node_same past b i ∷ [])) s)
    form_same past s (nodes.aggregate a spec) = aggregate_line (L past a) spec s ∙ ap (λ d. of_aggregate merged [] d spec s) (node_same past a)
    form_same past s (nodes.analytic_of a spec) = made_line (L past a) spec s ∙ ap (λ d. of_made merged [] d spec s) (node_same past a)
    form_same past s (nodes.time a o) = left_line (L past a) s ∙ ap (λ d. of_left merged [] d s) (node_same past a)
    form_same past s (nodes.check a i spec) =
        check_line (L past a) (maybe_lineage either none past i) (maybe_lineage merged [] (numbered_past pairs past) i) (maybe_same past i) ∙ ap (λ d. of_check merged [] d (maybe_lineage merged [] (numbered_past pairs past) i)) (node_same past a)
    form_same past s (nodes.check_datapoint a rules out) = datapoint_line (L past a) rules.rules out ∙ ap (λ d. of_datapoint merged [] d rules.rules out) (node_same past a)
    form_same past s (nodes.check_hierarchy a rules m out) = measured_line (L past a) s ∙ ap (λ d. of_measured merged [] d s) (node_same past a)
    form_same past s (nodes.hierarchy a rules m i out) = measured_line (L past a) s ∙ ap (λ d. of_measured merged [] d s) (node_same past a)

    maybe_same : (past : Past Pairs) (i : MaybeNode) → option_map_or (λ x. Some (at x)) (maybe_lineage either none past i) None ≡ maybe_lineage merged [] (numbered_past pairs past) i
    maybe_same past nodes.no_node = refl
    maybe_same past (nodes.some_node n) = ap Some (node_same past n)

    nodes_same : (past : Past Pairs) (ns : NodeTrees) → map at (nodes_lineage either none past ns) ≡ nodes_lineage merged [] (numbered_past pairs past) ns
    nodes_same past nodes.no_nodes = refl
    nodes_same past (nodes.and_node n ns) = λ i. node_same past n i ∷ nodes_same past ns i

    operands_same : (past : Past Pairs) (os : OperandTrees) → map at (operands_lineage either none past os) ≡ operands_lineage merged [] (numbered_past pairs past) os
    operands_same past nodes.no_operands = refl
    operands_same past (nodes.operand n alias os) = λ i. node_same past n i ∷ operands_same past os i
