-- The depth of operators on whole data sets, aggregates and analytic calls: that of their operands.
use Rattle.std.proofs.Common.{◌≤◌, ℕ, suc, Bool, true, false, cond, List, [], ◌∷◌, Option, Some, None, Result, Ok, Err, arith}
use Rattle.std.specs.List.{AllByRecursion}
use Rattle.std.specs.Option.{IfSome, is_some}
use Rattle.std.specs.Prelude.{option_to_list, unwrap_or}
use Rattle.vtl_decimal.specs.Settings.{Settings}
use Rattle.vtl_cell.specs.declared.kind.Kind.{Kind}
use Rattle.vtl_lists.specs.Results.{◌>>=◌}
use Rattle.check_faults.specs.Rules.{ruled}
use Rattle.check_faults.specs.declared.rules.Rule.{Rule}
use Rattle.check_faults.specs.declared.rules.Rule.TheVariants as rule
use Rattle.vtl_syntax.specs.Trees.{Exp, MaybeExp}
use Rattle.vtl_syntax.specs.declared.parts.Comp.{Comp}
use Rattle.vtl_syntax.specs.declared.parts.GroupPart.{GroupPart}
use Rattle.vtl_syntax.specs.declared.parts.TimeCall.{TimeCall}
use Rattle.vtl_syntax.specs.declared.word_groups.AggregateName.{AggregateName}
use Rattle.vtl_syntax.specs.declared.word_groups.DifferenceName.{DifferenceName}
use Rattle.vtl_syntax.specs.declared.word_groups.DifferenceName.TheVariants as difference
use Rattle.vtl_syntax.specs.declared.word_groups.Retain.{Retain}
use Rattle.vtl_syntax.specs.declared.word_groups.Retain.TheVariants as retain
use Rattle.vtl_syntax.specs.declared.word_groups.SetOpName.{SetOpName}
use Rattle.vtl_syntax.specs.declared.word_groups.SetOpName.TheVariants as set
use Rattle.vtl_tree.specs.CompExp.{CompExp}
use Rattle.vtl_tree.specs.declared.structure.Structure.{Structure}
use Rattle.vtl_tree.specs.Nodes.{maybe_nodes, nodes_in}
use Rattle.vtl_tree.specs.Trees as nodes
use Rattle.vtl_tree.specs.Trees.{FormTree, NodeTree, maybe_node, nodes_of, structure_of}
use Rattle.vtl_tree.specs.declared.calls.TimeOp.{TimeOp}
use Rattle.vtl_tree.specs.declared.calls.Window.{Window}
use Rattle.vtl_tree.specs.declared.specifications.CheckSpec.{CheckSpec}
use Rattle.check_shapes.specs.Pairs as pairs
use Rattle.vtl_tree.specs.Names.{name_of}
use Rattle.check_values.specs.Groupings.{grouping_typed}
use Rattle.vtl_tree.specs.Kinds.{exp_kind}
use Rattle.check_operators.specs.Places.{at_groups}
use Rattle.check_operators.specs.Sets.{check_form, datasets_in, difference_form, difference_tree, exists_form, imbalance_in, member_of, set_of, set_tree, sets_form, structures_in}
use Rattle.check_operators.specs.Typed.{TypedTree, value, dataset, components_in, dataset_in, made_of}
use Rattle.check_operators.specs.declared.places.Place.{Place}
use Rattle.check_operators.specs.declared.places.Place.TheVariants as place
use Rattle.check_groups.specs.Aggregates.{aggregate_kind, aggregate_node, aggregate_tree, aggregate_value, count_call, count_kind, group_call, group_call_by, is_misused, operand_name}
use Rattle.check_expressions.specs.Typing.{Having, grouped_of, own_groups}
use Rattle.check_groups.specs.Windowed.{given_structure, or_count, over_dataset, over_form, over_node, over_typed}
use Rattle.check_groups.specs.declared.calls.Call.{Call}
use Rattle.check_times.specs.Timed.{operator_typed, time_form, time_node}
use Rattle.vtl_tree.specs.Depths.{argument_depth}
use Rattle.check_laws.specs.Gives.{Gives}
use Rattle.check_laws.proofs.DepthBounds.{AreOwnUpTo, IsNodeUpTo, IsTreeUpTo, IsUpTo, all-beside, beside, dataset-up, node-up, option-up, some-tree, tree-raised}
use Rattle.check_laws.proofs.Steps.{after, then}
use Rattle.check_laws.proofs.Turns.{all-in-turn}

-- where this holds of calls
module _ (P : FormTree → Type 0) where
  -- where a data set is needed
  dataset-in-up : (d : ℕ) (x : TypedTree) → IsTreeUpTo P d x → Gives (IsNodeUpTo P d) (dataset_in x)
  dataset-in-up d (value e) h = tt
  dataset-in-up d (dataset n) h = h

  pub dataset-step : (d : ℕ) (r : Result TypedTree Rule) → Gives (IsTreeUpTo P d) r → Gives (IsNodeUpTo P d) (r >>= dataset_in)
  dataset-step d r h = then (IsTreeUpTo P d) (IsNodeUpTo P d) r dataset_in h (dataset-in-up d)

  -- `a#m`
  pub member-up : (d : ℕ) (c : Comp) (a : NodeTree) → IsNodeUpTo P d a → Gives (IsTreeUpTo P d) (member_of c a)
  unfolding member_of
  member-up d c a h = dataset-up P d (nodes.member a (name_of c)) _ (λ s. node-up P d s _ h.some tt tt tt h.each)

  -- ---- set operators
  pub sets-up : (d : ℕ) (f : SetOpName) (xs : List TypedTree) → 1 ≤ d → AllByRecursion (IsTreeUpTo P d) xs → Gives (IsTreeUpTo P d) (sets_form f xs)
  unfolding sets_form
  sets-up d f xs some h = then (AllByRecursion (IsNodeUpTo P d)) (IsTreeUpTo P d) (datasets_in xs) (set_of f) (all-in-turn (IsTreeUpTo P d) (IsNodeUpTo P d) (λ done x. dataset_in x) (λ done x k. dataset-in-up d x k) [] xs tt h) (λ ns all. dataset-up P d (set_tree f (nodes_of ns)) _ (made f ns all))
    where
      made : (f : SetOpName) (ns : List NodeTree) → AllByRecursion (IsNodeUpTo P d) ns → (s : Structure) → IsNodeUpTo P d (nodes.node s (set_tree f (nodes_of ns)))
      made set.Union ns all s = node-up P d s (nodes.union (nodes_of ns)) some tt tt tt (all-beside P d ns all)
      made set.Intersect ns all s = node-up P d s (nodes.intersect (nodes_of ns)) some tt tt tt (all-beside P d ns all)

  pub difference-up : (d : ℕ) (f : DifferenceName) (x y : TypedTree) → IsTreeUpTo P d x → IsTreeUpTo P d y → Gives (IsTreeUpTo P d) (difference_form f x y)
  unfolding difference_form
  difference-up d f x y hx hy =
      then (IsNodeUpTo P d) (IsTreeUpTo P d) (dataset_in x) (λ a. dataset_in y >>= λ b. pairs.set_form (structure_of a) (structure_of b ∷ []) >>= made_of (difference_tree f a b)) (dataset-in-up d x hx)
      (λ a ha. then (IsNodeUpTo P d) (IsTreeUpTo P d) (dataset_in y) (λ b. pairs.set_form (structure_of a) (structure_of b ∷ []) >>= made_of (difference_tree f a b)) (dataset-in-up d y hy)
      (λ b hb. dataset-up P d (difference_tree f a b) _ (made f a b ha hb)))
    where
      made : (f : DifferenceName) (a b : NodeTree) → IsNodeUpTo P d a → IsNodeUpTo P d b → (s : Structure) → IsNodeUpTo P d (nodes.node s (difference_tree f a b))
      made difference.Setdiff a b ha hb s = node-up P d s (nodes.set_diff a b) ha.some tt tt tt (beside P d (nodes_in a) (nodes_in b) ha.each hb.each)
      made difference.Symdiff a b ha hb s = node-up P d s (nodes.sym_diff a b) ha.some tt tt tt (beside P d (nodes_in a) (nodes_in b) ha.each hb.each)

  pub exists-up : (d : ℕ) (r : Option Retain) (x y : TypedTree) → IsTreeUpTo P d x → IsTreeUpTo P d y → Gives (IsTreeUpTo P d) (exists_form r x y)
  unfolding exists_form
  exists-up d r x y hx hy =
      then (IsNodeUpTo P d) (IsTreeUpTo P d) (dataset_in x) (λ a. dataset_in y >>= λ b. pairs.exists_form (structure_of a) (structure_of b) >>= made_of (nodes.exists_in a b (unwrap_or r retain.All))) (dataset-in-up d x hx)
      (λ a ha. then (IsNodeUpTo P d) (IsTreeUpTo P d) (dataset_in y) (λ b. pairs.exists_form (structure_of a) (structure_of b) >>= made_of (nodes.exists_in a b (unwrap_or r retain.All))) (dataset-in-up d y hy)
      (λ b hb. dataset-up P d (nodes.exists_in a b (unwrap_or r retain.All)) _ (λ s. node-up P d s _ ha.some tt tt tt (beside P d (nodes_in a) (nodes_in b) ha.each hb.each))))

  -- ---- time operators
  time-node-up : (d : ℕ) (o : TimeOp) (a : NodeTree) → IsNodeUpTo P d a → Gives (IsTreeUpTo P d) (time_node o a)
  time-node-up d o a h = dataset-up P d (nodes.time a o) _ (λ s. node-up P d s _ h.some tt tt tt h.each)

  pub time-up : (d : ℕ) (p : Settings) (call : TimeCall) (x : TypedTree) → IsTreeUpTo P d x → Gives (IsTreeUpTo P d) (time_form p call x)
  unfolding time_form
  time-up d p call x h =
      after (IsTreeUpTo P d) (operator_typed p call) (λ o. dataset_in x >>= time_node o)
      (λ o. then (IsNodeUpTo P d) (IsTreeUpTo P d) (dataset_in x) (time_node o) (dataset-in-up d x h) (time-node-up d o))

  -- ---- `check`
  imbalance-up : (d : ℕ) (i : Option TypedTree) → IfSome i (IsTreeUpTo P d) → Gives (λ b. IfSome b (IsNodeUpTo P d)) (imbalance_in i)
  imbalance-up d None h = tt
  imbalance-up d (Some x) h = then (IsNodeUpTo P d) (λ b. IfSome b (IsNodeUpTo P d)) (dataset_in x) (λ n. Ok (Some n)) (dataset-in-up d x h) (λ n k. k)

  maybe-beside : (d : ℕ) (b : Option NodeTree) → IfSome b (IsNodeUpTo P d) → AreOwnUpTo P d (maybe_nodes (maybe_node b))
  maybe-beside d None h = tt
  maybe-beside d (Some n) h = h.each

  pub check-up : (d : ℕ) (spec : CheckSpec) (x : TypedTree) (i : Option TypedTree) → IsTreeUpTo P d x → IfSome i (IsTreeUpTo P d) → Gives (IsTreeUpTo P d) (check_form spec x i)
  unfolding check_form
  check-up d spec x i hx hi =
      then (IsNodeUpTo P d) (IsTreeUpTo P d) (dataset_in x) (λ a. imbalance_in i >>= λ b. pairs.check_form (structure_of a) (structures_in (option_to_list b)) >>= made_of (nodes.check a (maybe_node b) spec)) (dataset-in-up d x hx)
      (λ a ha. then (λ b. IfSome b (IsNodeUpTo P d)) (IsTreeUpTo P d) (imbalance_in i) (λ b. pairs.check_form (structure_of a) (structures_in (option_to_list b)) >>= made_of (nodes.check a (maybe_node b) spec)) (imbalance-up d i hi)
      (λ b hb. dataset-up P d (nodes.check a (maybe_node b) spec) _ (λ s. node-up P d s _ ha.some tt tt tt (beside P d (nodes_in a) (maybe_nodes (maybe_node b)) ha.each (maybe-beside d b hb)))))

  -- ---- aggregates
  aggregate-up : (d : ℕ) (f : AggregateName) (g : Option GroupPart) (a : NodeTree) (having : Option CompExp) → IsNodeUpTo P d a → IfSome having (IsUpTo d) → Gives (IsTreeUpTo P d) (aggregate_node f g a having)
  unfolding aggregate_node
  aggregate-up d f g a having h k =
      dataset-up P d (nodes.aggregate a (aggregate_tree f g a having)) _ (λ s. node-up P d s _ h.some tt (option-up d having k) tt h.each)

  -- over groups
  group-call-up : (d : ℕ) (f : AggregateName) (component : Option (List ℕ)) (grouped : Bool) (kind : Option Kind) → suc (argument_depth component) ≤ d → Gives (IsTreeUpTo P d) (group_call_by f component grouped kind)
  group-call-up d f component grouped None le = tt
  group-call-up d f component grouped (Some kind) le = after (IsTreeUpTo P d) (ruled ((rule.AggregateMisuse, grouped) ∷ []) (tt {0})) (λ u. group_call f component kind) (λ u. le)

  argument-below : (o : Option (List ℕ)) → argument_depth o ≤ 1
  argument-below None = omega arith
  argument-below (Some name) = omega arith

  value-call-up : (d : ℕ) (at : Place) (f : AggregateName) (grouped : Bool) (e : MaybeExp) (v : CompExp) → 2 ≤ d → Gives (IsTreeUpTo P d) (aggregate_value at f grouped e v)
  value-call-up d place.Outside f grouped e v le = tt
  value-call-up d (place.Inside i) f grouped e v le = group-call-up d f (operand_name e v) (is_misused i grouped (operand_name e v)) (aggregate_kind f (exp_kind v)) (omega (arith, argument-below (operand_name e v)))

  count-up : (d : ℕ) (at : Place) (f : AggregateName) (grouped : Bool) → 1 ≤ d → Gives (IsTreeUpTo P d) (count_call at f grouped)
  count-up d place.Outside f grouped some = tt
  count-up d (place.Inside i) f grouped some = go (is_some i.grouping)
    where
      go : (b : Bool) → Gives (IsTreeUpTo P d) (cond b (group_call_by f None grouped (count_kind f)) (Err rule.WrongKind))
      go true = group-call-up d f None grouped (count_kind f) some
      go false = tt

  -- behind the operand, which is typed and less deep
  pub grouped-up : (c d : ℕ) (at : Place) (f : AggregateName) (e : MaybeExp) (g : Option GroupPart) (grouped : Bool) (having : Having) (x : Option TypedTree) → suc c ≤ d → ((groups : Place) → Gives (λ o. IfSome o (IsUpTo d)) (having groups)) → IfSome x (IsTreeUpTo P c) → Gives (IsTreeUpTo P d) (grouped_of at f e g grouped having x)
  grouped-up c d at f e g grouped having (Some (dataset n)) le hh h =
      after (IsTreeUpTo P d) (grouping_typed (components_in n) g) (λ names. having (place.Inside (at_groups None n names)) >>= aggregate_node f g n)
      (λ names. then (λ o. IfSome o (IsUpTo d)) (IsTreeUpTo P d) (having (place.Inside (at_groups None n names))) (aggregate_node f g n) (hh (place.Inside (at_groups None n names))) (λ o k. aggregate-up d f g n o (tree-raised P c d (dataset n) (omega arith) h) k))
  grouped-up c d at f e g grouped having (Some (value v)) le hh h = after (IsTreeUpTo P d) (own_groups at g having) (λ u. aggregate_value at f grouped e v) (λ u. value-call-up d at f grouped e v (omega (arith, some-tree P c (value v) h)))
  grouped-up c d at f e g grouped having None le hh h = after (IsTreeUpTo P d) (own_groups at g having) (λ u. count_call at f grouped) (λ u. count-up d at f grouped (omega arith))

  -- ---- analytic calls
  over-node-up : (d : ℕ) (e : Exp) (call : Call) (w : Window) (a : NodeTree) → IsNodeUpTo P d a → Gives (IsTreeUpTo P d) (over_node e call w a)
  unfolding over_node
  over-node-up d e call w a h = dataset-up P d (nodes.analytic_of a (nodes.of_measures (or_count call.op) w)) _ (λ s. node-up P d s _ h.some tt tt tt h.each)

  over-dataset-up : (d : ℕ) (at : Place) (e : Exp) (n : NodeTree) (call : Call) (w : Window) → IsNodeUpTo P d n → Gives (IsTreeUpTo P d) (over_dataset at e n call w)
  over-dataset-up d place.Outside e n call w h = over-node-up d e call w n h
  over-dataset-up d (place.Inside i) e n call w h = after (IsTreeUpTo P d) (given_structure e (components_in n)) (λ s. Err rule.DatasetOrValue) (λ s. tt)

  pub over-up : (d : ℕ) (p : Settings) (at : Place) (e : Exp) (x : Option TypedTree) → IfSome x (IsTreeUpTo P d) → Gives (IsTreeUpTo P d) (over_typed p at e x)
  unfolding over_typed
  over-up d p at e x h = after (IsTreeUpTo P d) _ _ (λ parts. go x h parts.0 parts.1)
    where
      go : (x : Option TypedTree) → IfSome x (IsTreeUpTo P d) → (call : Call) (w : Window) → Gives (IsTreeUpTo P d) (over_form at e x call w)
      go (Some (dataset n)) h call w = over-dataset-up d at e n call w h
      go (Some (value v)) h call w = tt
      go None h call w = tt
