-- Aggregates: of the measures of a data set, and of one component over groups.
use Rattle.std.specs.Prelude.{ℕ, Bool, true, false, ◌||◌, List, [], ◌∷◌, Option, Some, None, Result, Err, cond}
use Rattle.std.specs.Option.{is_none, is_some}
use Rattle.vtl_cell.specs.AggregateKinds as kinds
use Rattle.vtl_cell.specs.declared.operator.AggKind.{AggKind}
use Rattle.vtl_cell.specs.declared.operator.AggKind.TheVariants as agg
use Rattle.vtl_cell.specs.declared.kind.Kind.{Kind}
use Rattle.vtl_cell.specs.declared.kind.Kind.TheVariants as k
use Rattle.vtl_syntax.specs.Trees as tree
use Rattle.vtl_syntax.specs.Trees.{MaybeExp}
use Rattle.vtl_syntax.specs.declared.parts.GroupPart.{GroupPart}
use Rattle.vtl_syntax.specs.declared.word_groups.AggregateName.{AggregateName}
use Rattle.vtl_syntax.specs.declared.word_groups.AggregateName.TheVariants as aggregate
use Rattle.vtl_tree.specs.CompExp as exp
use Rattle.vtl_tree.specs.CompExp.{CompExp}
use Rattle.vtl_tree.specs.Trees as nodes
use Rattle.vtl_tree.specs.Trees.{AggTree, NodeTree}
use Rattle.vtl_tree.specs.declared.specifications.AggItems.TheVariants as items
use Rattle.vtl_lists.specs.Results.{◌>>=◌}
use Rattle.check_faults.specs.Rules.{ruled}
use Rattle.check_faults.specs.declared.rules.Rule.{Rule}
use Rattle.check_faults.specs.declared.rules.Rule.TheVariants as rule
use Rattle.vtl_tree.specs.Measures.{Gives}
use Rattle.check_shapes.specs.Measures.{measured_form}
use Rattle.vtl_tree.specs.declared.measures.Outcome.{Outcome}
use Rattle.vtl_tree.specs.declared.measures.Outcome.TheVariants as outcome
use Rattle.check_values.specs.Groupings.{grouping_choice, grouping_names, grouping_of}
use Rattle.vtl_tree.specs.Kinds.{exp_kind}
use Rattle.check_operators.specs.Typed.{TypedTree, components_in, made_of, of_value}
use Rattle.check_operators.specs.Places.{written_in}
use Rattle.check_operators.specs.declared.places.Inside.{Inside}
use Rattle.check_operators.specs.declared.places.Place.{Place}
use Rattle.check_operators.specs.declared.places.Place.TheVariants as place

-- ---- the kinds that aggregates take and give
abbrev pub agg_kind : AggregateName → AggKind
agg_kind aggregate.Sum = agg.Sum
agg_kind aggregate.Avg = agg.Avg
agg_kind aggregate.Count = agg.Count
agg_kind aggregate.Min = agg.Min
agg_kind aggregate.Max = agg.Max
agg_kind aggregate.Median = agg.Median

-- the kind that an aggregate gives of values of a kind
abbrev pub aggregate_kind : AggregateName → Kind → Option Kind
aggregate_kind f kind = kinds.aggregate_kind (agg_kind f) kind

-- without an operand there is the number of points alone
abbrev pub count_kind : AggregateName → Option Kind
count_kind aggregate.Count = Some k.Int
count_kind f = None

-- ---- of each measure of a data set
abbrev pub outcome_of : AggregateName → Outcome
outcome_of aggregate.Count = outcome.Count
outcome_of f = outcome.All

abbrev pub of_measure : AggregateName → Gives
of_measure f a b = aggregate_kind f a

abbrev pub aggregate_tree : AggregateName → Option GroupPart → NodeTree → Option CompExp → AggTree
aggregate_tree f g a having = record { items = items.Measures (agg_kind f); grouping = grouping_of g (components_in a); having = having }

unfoldable pub aggregate_node : AggregateName → Option GroupPart → NodeTree → Option CompExp → Result TypedTree Rule
aggregate_node f g a having =
    measured_form (outcome_of f) (of_measure f) true (grouping_choice g) (grouping_names g) (components_in a)
    >>= made_of (nodes.aggregate a (aggregate_tree f g a having))

-- ---- of a component over groups
abbrev pub group_call : AggregateName → Option (List ℕ) → Kind → Result TypedTree Rule
group_call f component kind = of_value (exp.aggregate (record { kind = agg_kind f; component = component }) kind)

abbrev pub group_call_by : AggregateName → Option (List ℕ) → (grouped : Bool) → Option Kind → Result TypedTree Rule
group_call_by f component grouped None = Err rule.WrongKind
group_call_by f component grouped (Some kind) = ruled ((rule.AggregateMisuse, grouped) ∷ []) (tt {0}) >>= λ u. group_call f component kind

-- the component that a typed operand is, where it is written as one and nothing else, with an alias or without
abbrev pub is_component : MaybeExp → Bool
is_component tree.no_exp = false
is_component (tree.some_exp e) = is_some (written_in e)

abbrev pub column_name : CompExp → Option (List ℕ)
column_name (exp.column place name kind) = Some name
column_name e = None

abbrev pub operand_name : MaybeExp → CompExp → Option (List ℕ)
operand_name e v = cond (is_component e) (column_name v) None

-- an aggregate of a value may not stand so: it has groups of its own, stands outside of `aggr` and `having`, or is of no component
abbrev pub is_misused : Inside → (grouped : Bool) → Option (List ℕ) → Bool
is_misused i grouped component = grouped || is_none i.grouping || is_none component

-- where a data set is needed a value is none, whose kind may not even fit
abbrev pub outside_rule : Option Kind → Rule
outside_rule None = rule.WrongKind
outside_rule (Some kind) = rule.DatasetOrValue

-- an aggregate of a value
abbrev pub aggregate_value : Place → AggregateName → (grouped : Bool) → MaybeExp → CompExp → Result TypedTree Rule
aggregate_value place.Outside f grouped e v = Err (outside_rule (aggregate_kind f (exp_kind v)))
aggregate_value (place.Inside i) f grouped e v = group_call_by f (operand_name e v) (is_misused i grouped (operand_name e v)) (aggregate_kind f (exp_kind v))

-- whether a place is in a target of `aggr` or in `having`
abbrev pub is_group : Place → Bool
is_group place.Outside = false
is_group (place.Inside i) = is_some i.grouping

-- an aggregate without an operand: over groups `count()` is the number of points
abbrev pub count_call : Place → AggregateName → (grouped : Bool) → Result TypedTree Rule
count_call p f grouped = cond (is_group p) (group_call_by f None grouped (count_kind f)) (Err rule.WrongKind)
