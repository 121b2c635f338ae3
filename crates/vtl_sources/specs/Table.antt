-- The table: for each form of expression what the points of its data set depend on, and what each component that is no identifier depends
-- on besides. Operators that have the same line share it. `s` is the structure of the result, and stands behind the operands.
use Rattle.std.specs.Prelude.{ℕ, List, [], ◌∷◌, ◌++◌, length, map, take, Option}
use Rattle.std.specs.List.{flat_map, fold}
use Rattle.std.specs.Option.{option_map_or}
use Rattle.vtl_syntax.specs.declared.word_groups.CheckOut.{CheckOut}
use Rattle.vtl_tree.specs.Checks.{output_parts}
use Rattle.vtl_tree.specs.Columns.{measures_of, others_of}
use Rattle.vtl_tree.specs.CompExp.{CompExp}
use Rattle.vtl_tree.specs.Structure.{key_width}
use Rattle.vtl_tree.specs.Trees as nodes
use Rattle.vtl_tree.specs.Trees.{AggTree, AnalyticTree, MeasureTree, PointRuleTree, ValueTree}
use Rattle.vtl_tree.specs.View.{comp_exps_of}
use Rattle.vtl_tree.specs.declared.calls.Window.{Window}
use Rattle.vtl_tree.specs.declared.specifications.AggItems.{AggItems}
use Rattle.vtl_tree.specs.declared.structure.Component.{Component}
use Rattle.vtl_tree.specs.declared.structure.Structure.{Structure}
use Rattle.vtl_meaning.specs.Aggregates.{call_for}
use Rattle.vtl_meaning.specs.Analytics.{value_for}
use Rattle.vtl_sources.specs.Sources.{Sources, Traced, attribute_sources, measure_sources, source_at, source_if_named, source_named, sources, with_all, with_expression, with_expressions, with_names}

-- the measures of an operand that become measures of the result, one each
abbrev pub becoming : Structure → Structure → List Component
becoming a s = take (length (measures_of s)) (measures_of a)

module _ {S : Type 0} (joined : S → S → S) (nothing : S) where
  -- ---- parts of forms
  -- the points of all operands, and all their components of a name
  abbrev pub points_of_all : List (Traced S) → S
  points_of_all ds = with_all joined nothing nothing (map (λ d. d.sources.points) ds)

  abbrev pub namesakes : List (Traced S) → Component → S
  namesakes ds y = with_all joined nothing nothing (map (λ d. source_named joined nothing d y.name) ds)

  -- the points, and all measures
  abbrev pub with_measures : Traced S → S
  with_measures a = with_all joined nothing a.sources.points (measure_sources joined nothing a)

  -- the only measure, which stands behind the identifiers, behind a set
  abbrev pub with_measure : Traced S → S → S
  with_measure a before = joined before (source_at joined nothing a (key_width a.structure))

  -- the components of a partition and of an order behind a set
  abbrev pub with_window : Traced S → S → Window → S
  with_window a before w = with_names joined nothing a (with_names joined nothing a before w.partition) (map (λ key. key.component) w.order)

  abbrev pub source_of_value : Traced S → ValueTree → S
  source_of_value a (nodes.scalar e) = with_expression joined nothing a nothing e
  source_of_value a (nodes.analytic x) = with_window a (source_if_named joined nothing a x.component) x.window

  -- what a column is made of, or the column as it was
  abbrev pub source_made : Traced S → AnalyticTree → Component → S
  source_made a spec y = option_map_or (source_of_value a) (value_for spec y) (source_named joined nothing a y.name)

  -- the argument of the aggregate that makes a column; a count of points has none
  abbrev pub source_counted : Traced S → AggItems → Component → S
  source_counted a items y = option_map_or (λ call. source_if_named joined nothing a call.component) (call_for items y.name) nothing

  -- a rule with its antecedent behind a set
  abbrev pub with_rule : Traced S → S → PointRuleTree → S
  with_rule a before r = with_expression joined nothing a (option_map_or (with_expression joined nothing a before) r.antecedent before) r.condition

  -- ---- the lines
  -- points alone
  abbrev pub of_points : S → Structure → Sources S
  of_points points s = sources points (map (λ y. nothing) (others_of s))

  -- an operator on each measure, with the expressions that are written before and behind it
  abbrev pub of_measures : Traced S → MeasureTree → Structure → Sources S
  of_measures a m s =
      sources a.sources.points
      (map (λ x. with_expressions joined nothing a (with_expressions joined nothing a (source_named joined nothing a x.name) (comp_exps_of m.before)) (comp_exps_of m.after)) (becoming a.structure s))

  abbrev pub of_pair : Traced S → Traced S → Structure → Sources S
  of_pair a b s =
      sources (joined a.sources.points b.sources.points) (map (λ x. joined (source_named joined nothing a x.name) (source_named joined nothing b x.name)) (becoming a.structure s))

  abbrev pub of_choice : (condition first second : Traced S) → Structure → Sources S
  of_choice t a b s =
      sources (with_measure t (joined (joined t.sources.points a.sources.points) b.sources.points))
      (map (λ y. joined (source_named joined nothing a y.name) (source_named joined nothing b y.name)) (measures_of s))

  -- components that are left as they are
  abbrev pub of_left : Traced S → Structure → Sources S
  of_left a s = sources a.sources.points (map (λ y. source_named joined nothing a y.name) (others_of s))

  abbrev pub of_filter : Traced S → CompExp → Sources S
  of_filter a e = sources (with_expression joined nothing a a.sources.points e) a.sources.others

  abbrev pub of_made : Traced S → AnalyticTree → Structure → Sources S
  of_made a spec s = sources a.sources.points (map (source_made a spec) (others_of s))

  abbrev pub of_pivot : Traced S → (measure : List ℕ) → Structure → Sources S
  of_pivot a m s = sources a.sources.points (map (λ y. source_named joined nothing a m) (others_of s))

  -- the measures are in the points, and nothing else
  abbrev pub of_measured : Traced S → Structure → Sources S
  of_measured a s = of_points (with_measures a) s

  -- measures operand by operand, then attributes
  abbrev pub of_join : List (Traced S) → Sources S
  of_join ds = sources (points_of_all ds) (flat_map (measure_sources joined nothing) ds ++ flat_map (attribute_sources joined nothing) ds)

  abbrev pub of_set : List (Traced S) → Structure → Sources S
  of_set ds s = sources (points_of_all ds) (map (namesakes ds) (others_of s))

  abbrev pub of_aggregate : Traced S → AggTree → Structure → Sources S
  of_aggregate a spec s = sources (option_map_or (with_expression joined nothing a a.sources.points) spec.having a.sources.points) (map (source_counted a spec.items) (others_of s))

  -- behind the truth value the imbalance, and then the errors
  abbrev pub of_check : Traced S → (imbalance : Option (Traced S)) → Sources S
  of_check a imbalance = sources (with_measure a a.sources.points) (nothing ∷ option_map_or (λ d. with_measure d d.sources.points) imbalance nothing ∷ nothing ∷ nothing ∷ [])

  abbrev pub of_datapoint : Traced S → List PointRuleTree → CheckOut → Sources S
  of_datapoint a rules o = sources (fold (with_rule a) a.sources.points rules) (output_parts o (measure_sources joined nothing a) nothing (nothing ∷ nothing ∷ []))
