-- Aggregates and analytic calls.
use Rattle.std.proofs.Common.{ℕ, Bool, true, false, cond, not, List, [], ◌∷◌, map, Option, Some, None, Err, refl}
use Rattle.std.specs.Option.{IfSome}
use Rattle.vtl_decimal.specs.Settings.{Settings}
use Rattle.check_faults.specs.Rules.{ruled}
use Rattle.check_faults.specs.declared.rules.Rule.TheVariants as rule
use Rattle.vtl_syntax.specs.Trees.{Exp}
use Rattle.vtl_syntax.specs.declared.parts.GroupPart.{GroupPart}
use Rattle.vtl_syntax.specs.declared.word_groups.AggregateName.{AggregateName}
use Rattle.vtl_tree.specs.CompExp.{CompExp}
use Rattle.vtl_tree.specs.Trees as nodes
use Rattle.vtl_tree.specs.Trees.{NodeTree, ValueTree, structure_of}
use Rattle.vtl_tree.specs.declared.calls.AnalyticOp.{AnalyticOp}
use Rattle.vtl_tree.specs.declared.calls.AnalyticOp.TheVariants as analytic
use Rattle.vtl_tree.specs.declared.calls.Window.{Window}
use Rattle.vtl_tree.specs.Measures.{measures}
use Rattle.check_shapes.specs.Measures.{measured_form}
use Rattle.check_values.specs.Groupings.{grouping_choice, grouping_names}
use Rattle.vtl_tree.specs.Kinds.{exp_kind}
use Rattle.check_operators.specs.Places.{Env, columns_in}
use Rattle.check_operators.specs.Typed.{TypedTree, value, dataset, components_in}
use Rattle.check_operators.specs.declared.places.Place.{Place}
use Rattle.check_operators.specs.declared.places.Place.TheVariants as place
use Rattle.check_groups.specs.Aggregates.{aggregate_node, aggregate_tree, of_measure, outcome_of}
use Rattle.check_groups.specs.Windowed as windowed
use Rattle.check_groups.specs.Windowed.{argument, call_of, call_tree, is_unfit_over, or_count, over_dataset, over_form, over_node, over_parts, over_structure, over_typed, rank_call, suits, target_form, target_typed}
use Rattle.check_groups.specs.declared.calls.Call.{Call}
use Rattle.vtl_meaning.specs.Made.{IsGroupCondition, IsGrouped, IsWindowed}
use Rattle.vtl_scripts.specs.Made.{IsMade}
use Rattle.vtl_meaning.specs.Reaches.{IsNear}
use Rattle.vtl_meaning.specs.Shapes.{IsShaped}
use Rattle.check_laws.specs.Gives.{Gives}
use Rattle.check_laws.specs.WellTyped.{IsWellTyped}
use Rattle.check_laws.proofs.Aggregated.{aggregate-fits}
use Rattle.check_laws.proofs.Analyzed.{over-analyzed}
use Rattle.check_laws.proofs.Inner.{made-shaped}
use Rattle.check_laws.proofs.Operators.{IsMadeWith, made-gives}
use Rattle.check_laws.proofs.Reaches.{AreNearParts, parts-near}
use Rattle.check_laws.proofs.WindowParts.{AreParts, HasNames, IsCallFor, parts-give}
use Rattle.check_laws.proofs.Steps.{after, tested, then, weaker}

-- ---- of a data set
pub aggregate-gives : (env : Env) (at : Place) (f : AggregateName) (g : Option GroupPart) (a : NodeTree) (having : Option CompExp) → IsMade env.settings env.known a → IfSome having (IsGroupCondition env.settings (aggregate_tree f g a having) (structure_of a)) → Gives (IsWellTyped env at) (aggregate_node f g a having)
unfolding aggregate_node
aggregate-gives env at f g a having is condition =
    made-gives env at (nodes.aggregate a (aggregate_tree f g a having)) (measured_form (outcome_of f) (of_measure f) true (grouping_choice g) (grouping_names g) (components_in a))
    (weaker (λ s. IsShaped s × IsGrouped env.settings (aggregate_tree f g a having) (structure_of a) s) (IsMadeWith env (nodes.aggregate a (aggregate_tree f g a having))) (measured_form (outcome_of f) (of_measure f) true (grouping_choice g) (grouping_names g) (components_in a)) (λ s h. (h.0, (is, h.1)))
    (aggregate-fits env.settings f g (structure_of a) (aggregate_tree f g a having) (made-shaped env.settings env.known a is) refl refl condition))

-- ---- analytic calls
abbrev IsCallOn : Env → Exp → NodeTree → Call → Window → Type 0
IsCallOn env e n x w = IsNear (or_count x.op) w × IsCallFor env.settings e (map (λ y. y.kind) (measures (components_in n))) x × HasNames (columns_in n) w

over-node : (env : Env) (at : Place) (e : Exp) (x : Call) (w : Window) (a : NodeTree) → IsCallOn env e a x w → IsMade env.settings env.known a → Gives (IsWellTyped env at) (over_node e x w a)
unfolding over_node
over-node env at e x w a on is =
    made-gives env at (nodes.analytic_of a (nodes.of_measures (or_count x.op) w)) (over_structure e x w (components_in a))
    (weaker (λ s. IsShaped s × IsWindowed env.settings (nodes.of_measures (or_count x.op) w) (structure_of a) s) (IsMadeWith env (nodes.analytic_of a (nodes.of_measures (or_count x.op) w))) (over_structure e x w (components_in a)) (λ s h. (h.0, (is, h.1, on.0)))
    (over-analyzed env.settings e (structure_of a) x w (made-shaped env.settings env.known a is) on.1 on.2))

over-dataset : (env : Env) (at : Place) (e : Exp) (n : NodeTree) (x : Call) (w : Window) → IsCallOn env e n x w → IsMade env.settings env.known n → Gives (IsWellTyped env at) (over_dataset at e n x w)
over-dataset env place.Outside e n x w on is = over-node env place.Outside e x w n on is
over-dataset env (place.Inside i) e n x w on is = after (IsWellTyped env (place.Inside i)) (windowed.given_structure e (components_in n)) (λ s. Err rule.DatasetOrValue) (λ s. tt)

pub over-gives : (env : Env) (at : Place) (e : Exp) (x : Option TypedTree) → IfSome x (IsWellTyped env at) → Gives (IsWellTyped env at) (over_typed env.settings at e x)
unfolding over_typed
over-gives env at e x h = then (AreParts env.settings at e x) (IsWellTyped env at) (over_parts env.settings at e x) (λ parts. over_form at e x parts.0 parts.1) (parts-give env.settings at e x) (λ parts are. go x h parts.0 parts.1 are)
  where
    go : (x : Option TypedTree) → IfSome x (IsWellTyped env at) → (y : Call) (w : Window) → AreParts env.settings at e x (y, w) → Gives (IsWellTyped env at) (over_form at e x y w)
    go (Some (dataset n)) h y w are = over-dataset env at e n y w are h
    go (Some (value v)) h y w are = tt
    go None h y w are = tt

-- as a target of `calc`
abbrev pub IsAnalytic : ValueTree → Type 0
IsAnalytic (nodes.scalar e) = ⊥
IsAnalytic (nodes.analytic call) = IsNear call.op call.window

call-analytic : (call : Call) (named : Option (List ℕ)) (w : Window) (o : Option AnalyticOp) → IsNear (or_count o) w → Gives IsAnalytic (call_of call named w o)
call-analytic call None w None near = tt
call-analytic call None w (Some o) near = tt
call-analytic call (Some name) w None near = tt
call-analytic call (Some name) w (Some o) near = tested IsAnalytic ((rule.AnalyticMisuse, not (suits call.needed w)) ∷ []) (call_tree o (Some name) w) (λ passed. near)

pub target-analytic : (p : Settings) (at : Place) (e : Exp) (x : Option TypedTree) → Gives IsAnalytic (target_typed p at e x)
unfolding target_typed
target-analytic p at e x = then AreNearParts IsAnalytic (over_parts p at e x) (λ parts. target_form e x parts.0 parts.1) (parts-near p at e x) (λ parts near. go x parts.0 parts.1 near)
  where
    go : (x : Option TypedTree) (call : Call) (w : Window) → IsNear (or_count call.op) w → Gives IsAnalytic (target_form e x call w)
    go (Some (dataset n)) call w near = after IsAnalytic (windowed.given_structure e (components_in n)) (λ s. Err rule.DatasetOrValue) (λ s. tt)
    go (Some (value v)) call w near = after IsAnalytic (ruled ((rule.WrongKind, is_unfit_over e (Some (exp_kind v))) ∷ []) (tt {0})) (λ u. call_of call (argument e v) w call.op) (λ u. call-analytic call (argument e v) w call.op near)
    go None call w near = rank (windowed.is_rank e)
      where
        rank : (b : Bool) → Gives IsAnalytic (cond b (rank_call call w) (Err rule.WrongKind))
        rank true = tested IsAnalytic ((rule.AnalyticMisuse, not (suits call.needed w)) ∷ []) (call_tree analytic.Rank None w) (λ passed. record { offset = refl; frame = near.frame })
        rank false = tt
