-- The words of what operators give: those of their operands. Analytic calls on data sets are not evaluated yet.
use Rattle.std.proofs.Common.{ℕ, Bool, true, false, cond, ◌&&◌, not, List, [], ◌∷◌, length, map, Option, Some, None, option_map, Result, Ok, Err}
use Rattle.std.specs.List.{AllByRecursion}
use Rattle.std.specs.Map.{lookup}
use Rattle.std.specs.Option.{IfSome, is_some}
use Rattle.vtl_lists.specs.Results.{◌>>=◌}
use Rattle.vtl_lists.proofs.Alls.{all_append}
use Rattle.vtl_cell.specs.ScalarArithmetic.{number}
use Rattle.vtl_decimal.specs.Settings.{Settings}
use Rattle.vtl_cell.specs.declared.kind.Kind.{Kind}
use Rattle.vtl_cell.specs.declared.operator.ScalarOp.{ScalarOp}
use Rattle.vtl_tree.specs.CompExp.{CompExp, const}
use Rattle.vtl_tree.specs.Structure.{same_name}
use Rattle.vtl_tree.specs.declared.structure.Structure.{Structure}
use Rattle.vtl_syntax.specs.Trees.{Exp, MaybeExp}
use Rattle.vtl_syntax.specs.Written as written
use Rattle.vtl_syntax.specs.declared.parts.Comp.{Comp}
use Rattle.vtl_syntax.specs.declared.parts.Comp.TheVariants as comp
use Rattle.vtl_syntax.specs.declared.parts.GroupPart.{GroupPart}
use Rattle.vtl_syntax.specs.declared.parts.Literal.{Literal}
use Rattle.vtl_syntax.specs.declared.parts.TimeCall.{TimeCall}
use Rattle.vtl_syntax.specs.declared.word_groups.AggregateName.{AggregateName}
use Rattle.vtl_tree.specs.Trees as nodes
use Rattle.vtl_tree.specs.Trees.{FormTree, NodeTree}
use Rattle.vtl_tree.specs.declared.calls.TimeOp.{TimeOp}
use Rattle.vtl_tree.specs.declared.calls.Window.{Window}
use Rattle.check_faults.specs.Rules.{ruled}
use Rattle.check_faults.specs.declared.rules.Rule.{Rule}
use Rattle.check_faults.specs.declared.rules.Rule.TheVariants as rule
use Rattle.vtl_tree.specs.Names.{is_among, name_of}
use Rattle.check_values.specs.Calls.{call_form}
use Rattle.check_values.specs.Columns.{column_typed}
use Rattle.check_values.specs.Groupings.{grouping_typed}
use Rattle.check_values.specs.Literals.{set_typed}
use Rattle.vtl_tree.specs.Kinds.{exp_kind}
use Rattle.check_groups.specs.Aggregates.{aggregate_kind, aggregate_node, aggregate_tree, aggregate_value, count_call, count_kind, group_call, group_call_by, is_misused, operand_name}
use Rattle.check_operators.specs.Operators.{Operands, first_fits, if_placed, is_binary, is_choice, on_choice, on_datasets, on_measures, on_operands, on_pair, operator_form, no_operands, parted, set_form, membership, takes_dataset, with_operand, with_value}
use Rattle.check_operators.specs.Places.{Env, Written, alone, at_groups, component_typed, known_by, member_inside, member_written, name_typed, name_written, written_typed}
use Rattle.check_operators.specs.Sets.{member_of}
use Rattle.check_operators.specs.Typed as typed
use Rattle.check_operators.specs.Typed.{TypedTree, value, dataset, beside_kinds, components_in, dataset_in, of_value}
use Rattle.check_expressions.specs.Typing.{Having, as_dataset, behind, grouped_of, or_component, own_groups}
use Rattle.check_groups.specs.Windowed.{given_structure, or_count, over_dataset, over_form, over_node, over_parts, over_typed}
use Rattle.check_groups.specs.declared.calls.Call.{Call}
use Rattle.check_times.specs.Timed.{operator_typed, time_form, time_node}
use Rattle.check_operators.specs.declared.places.Inside.{Inside}
use Rattle.check_operators.specs.declared.places.Place.{Place}
use Rattle.check_operators.specs.declared.places.Place.TheVariants as place
use Rattle.check_laws.specs.Gives.{Gives}
use Rattle.vtl_meaning.proofs.Lists as lists
use Rattle.check_laws.proofs.Steps.{after, then}
use Rattle.result_laws.proofs.Words.{FormIsWorded, IsTreeWorded, IsWorded}

module _ (p : Settings) where
  -- a data set of any structure
  pub dataset_worded : (form : FormTree) (r : Result Structure Rule) → FormIsWorded p form → Gives (IsTreeWorded p) (r >>= typed.made_of form)
  dataset_worded form (Ok s) h = h
  dataset_worded form (Err broken) h = tt

  -- a value
  pub value_worded : (r : Result CompExp Rule) → Gives (IsTreeWorded p) (r >>= of_value)
  value_worded (Ok e) = tt
  value_worded (Err broken) = tt

  pub dataset_in_worded : (x : TypedTree) → IsTreeWorded p x → Gives (IsWorded p) (dataset_in x)
  dataset_in_worded (value e) h = tt
  dataset_in_worded (dataset n) h = h

  pub dataset_step : (r : Result TypedTree Rule) → Gives (IsTreeWorded p) r → Gives (IsWorded p) (r >>= dataset_in)
  dataset_step r h = then (IsTreeWorded p) (IsWorded p) r dataset_in h dataset_in_worded

  pub tree_step : (r : Result NodeTree Rule) → Gives (IsWorded p) r → Gives (IsTreeWorded p) (as_dataset r)
  tree_step r h = then (IsWorded p) (IsTreeWorded p) r (λ n. Ok (dataset n)) h (λ n k. k)

  -- ---- names
  component_worded : (i : Inside) (name : List ℕ) → Gives (IsTreeWorded p) (component_typed i name)
  component_worded i name = after (IsTreeWorded p) (column_typed name i.components) (alone i.grouping name) (go i.grouping)
    where
      go : (g : Option (List (List ℕ))) (e : CompExp) → Gives (IsTreeWorded p) (alone g name e)
      go None e = tt
      go (Some names) e = after (IsTreeWorded p) (ruled ((rule.AggregateMisuse, not (is_among name names)) ∷ []) (tt {0})) (λ u. of_value e) (λ u. tt)

  pub names_worded : (env : Env) (at : Place) (x : Comp) → written.IsComponent x → Gives (IsTreeWorded p) (name_typed env at x)
  names_worded env place.Outside (comp.Name name) h = go (lookup (same_name name) env.known)
    where
      go : (o : Option Structure) → Gives (IsTreeWorded p) (known_by name o)
      go None = tt
      go (Some s) = h
  names_worded env place.Outside (comp.Quoted name) h = tt
  names_worded env (place.Inside i) x h = component_worded i (name_of x)

  written_worded : (i : Inside) (w : Written) → Gives (IsTreeWorded p) (written_typed i w)
  unfolding written_typed
  written_worded i w = after (IsTreeWorded p) (name_written i.joined w) (component_typed i) (λ name. component_worded i name)

  pub or_component_worded : (at : Place) (e : Exp) (x : Comp) (rest : Result TypedTree Rule) → Gives (IsTreeWorded p) rest → Gives (IsTreeWorded p) (or_component (member_inside at e x) rest)
  or_component_worded place.Outside e x rest h = h
  or_component_worded (place.Inside i) e x rest h = go (member_written e x)
    where
      go : (o : Option Written) → Gives (IsTreeWorded p) (or_component (option_map (λ w. (i, w)) o) rest)
      go None = h
      go (Some w) = written_worded i w

  pub member_worded : (x : Comp) (a : NodeTree) → IsWorded p a → Gives (IsTreeWorded p) (member_of x a)
  unfolding member_of
  member_worded x a h = dataset_worded (nodes.member a (name_of x)) _ h

  -- ---- operators
  measures_worded : (o : ScalarOp) (literals : Bool) (before after' : List CompExp) (a : NodeTree) → IsWorded p a → Gives (IsTreeWorded p) (on_measures o literals before a after')
  unfolding on_measures
  measures_worded o literals before after' a h = dataset_worded (nodes.measures (record { op = o; before = before; after = after' }) a) _ h

  pair_worded : (o : ScalarOp) (a b : NodeTree) → IsWorded p a → IsWorded p b → Gives (IsTreeWorded p) (on_pair o a b)
  unfolding on_pair
  pair_worded o a b ha hb = dataset_worded (nodes.pair o a b) _ (ha, hb)

  choice_worded : (t a b : NodeTree) → IsWorded p t → IsWorded p a → IsWorded p b → Gives (IsTreeWorded p) (on_choice t a b)
  unfolding on_choice
  choice_worded t a b ht ha hb = dataset_worded (nodes.choose t a b) _ (ht, ha, hb)

  placed : (fits literals : Bool) (form : Result TypedTree Rule) → Gives (IsTreeWorded p) form → Gives (IsTreeWorded p) (if_placed fits literals form)
  placed true literals form h = h
  placed false literals form h = tt

  datasets_worded : (o : ScalarOp) (literals : Bool) (before : List CompExp) (ns : List NodeTree) (after' : List CompExp) → AllByRecursion (IsWorded p) ns → Gives (IsTreeWorded p) (on_datasets o literals before ns after')
  datasets_worded o literals before [] after' h = tt
  datasets_worded o literals before (a ∷ []) after' h = placed (takes_dataset o (length before)) literals (on_measures o literals before a after') (measures_worded o literals before after' a h.0)
  datasets_worded o literals [] (a ∷ b ∷ []) [] h = placed (is_binary o) literals (on_pair o a b) (pair_worded o a b h.0 h.1.0)
  datasets_worded o literals [] (a ∷ b ∷ []) (y ∷ ys) h = tt
  datasets_worded o literals (x ∷ xs) (a ∷ b ∷ []) after' h = tt
  datasets_worded o literals [] (t ∷ a ∷ b ∷ []) [] h = placed (is_choice o) literals (on_choice t a b) (choice_worded t a b h.0 h.1.0 h.1.1.0)
  datasets_worded o literals [] (t ∷ a ∷ b ∷ []) (y ∷ ys) h = tt
  datasets_worded o literals (x ∷ xs) (t ∷ a ∷ b ∷ []) after' h = tt
  datasets_worded o literals [] (t ∷ a ∷ b ∷ n ∷ ns) [] h = tt
  datasets_worded o literals [] (t ∷ a ∷ b ∷ n ∷ ns) (y ∷ ys) h = tt
  datasets_worded o literals (x ∷ xs) (t ∷ a ∷ b ∷ n ∷ ns) after' h = tt

  operands_worded : (at : Place) (o : ScalarOp) (number literals : Bool) (before : List CompExp) (ns : List NodeTree) (after' : List CompExp) → AllByRecursion (IsWorded p) ns → Gives (IsTreeWorded p) (on_operands at o number literals before ns after')
  operands_worded place.Outside o number literals before [] after' h = value_worded (call_form o literals before)
  operands_worded (place.Inside i) o number literals before [] after' h = value_worded (call_form o literals before)
  operands_worded (place.Inside i) o number literals before (n ∷ ns) after' h = tt
  operands_worded place.Outside o number literals before (n ∷ ns) after' h = after (IsTreeWorded p) (ruled ((rule.WrongKind, not number) ∷ []) (tt {0})) (λ u. on_datasets o literals before (n ∷ ns) after') (λ u. datasets_worded o literals before (n ∷ ns) after' h)

  with_value_worded : (e : CompExp) (before : List CompExp) (ns : List NodeTree) (after' : List CompExp) → AllByRecursion (IsWorded p) ns → AllByRecursion (IsWorded p) (with_value e before ns after').datasets
  with_value_worded e before [] after' h = h
  with_value_worded e before (n ∷ ns) after' h = h

  parted_worded : (o : Operands) (xs : List TypedTree) → AllByRecursion (IsWorded p) o.datasets → AllByRecursion (IsTreeWorded p) xs → AllByRecursion (IsWorded p) (parted o xs).datasets
  parted_worded o [] h all = h
  parted_worded o (value e ∷ xs) h all = parted_worded (with_operand o (value e)) xs (with_value_worded e o.before o.datasets o.after h) all.1
  parted_worded o (dataset n ∷ xs) h all = parted_worded (with_operand o (dataset n)) xs (all_append (IsWorded p) o.datasets (n ∷ []) h (all.0, tt)) all.1

  operator_worded : (at : Place) (o : ScalarOp) (number literals : Bool) (xs : List TypedTree) → AllByRecursion (IsTreeWorded p) xs → Gives (IsTreeWorded p) (operator_form at o number literals xs)
  unfolding operator_form
  operator_worded at o number literals xs h =
      operands_worded at o (number && first_fits o (parted no_operands xs).before (parted no_operands xs).datasets) literals (parted no_operands xs).before (parted no_operands xs).datasets (parted no_operands xs).after (parted_worded no_operands xs tt h)

  pub operator_step : (at : Place) (o : ScalarOp) (number literals : Bool) (r : Result (List TypedTree) Rule) → Gives (AllByRecursion (IsTreeWorded p)) r → Gives (IsTreeWorded p) (r >>= operator_form at o number literals)
  operator_step at o number literals r h = then (AllByRecursion (IsTreeWorded p)) (IsTreeWorded p) r (operator_form at o number literals) h (λ xs k. operator_worded at o number literals xs k)

  -- one more operand
  pub behind_worded : (done : List TypedTree) (r : Result TypedTree Rule) → AllByRecursion (IsTreeWorded p) done → Gives (IsTreeWorded p) r → Gives (AllByRecursion (IsTreeWorded p)) (r >>= behind done)
  behind_worded done r hd h = then (IsTreeWorded p) (AllByRecursion (IsTreeWorded p)) r (behind done) h (λ x k. all_append (IsTreeWorded p) done (x ∷ []) hd (k, tt))

  -- two operands, behind those that are done
  pub two_step : (at : Place) (o : ScalarOp) (done : List TypedTree) (r s : Result TypedTree Rule) → AllByRecursion (IsTreeWorded p) done → Gives (IsTreeWorded p) r → Gives (IsTreeWorded p) s → Gives (IsTreeWorded p) (r >>= behind done >>= λ xs. s >>= behind xs >>= operator_form at o true true)
  two_step at o done r s hd hr hs =
      then (AllByRecursion (IsTreeWorded p)) (IsTreeWorded p) (r >>= behind done) (λ xs. s >>= behind xs >>= operator_form at o true true) (behind_worded done r hd hr)
      (λ xs hx. operator_step at o true true (s >>= behind xs) (behind_worded xs s hx hs))

  pub set_step : (q : Settings) (at : Place) (negated : Bool) (ls : List Literal) (r : Result TypedTree Rule) → Gives (IsTreeWorded p) r → Gives (IsTreeWorded p) (r >>= set_form q at negated ls)
  unfolding set_form
  set_step q at negated ls r h = then (IsTreeWorded p) (IsTreeWorded p) r (set_form q at negated ls) h
      (λ x k. after (IsTreeWorded p) (set_typed q (beside_kinds x) ls) (λ cells. operator_form at (membership negated) true true (x ∷ map (λ v. value (const v)) cells))
      (λ cells. operator_worded at (membership negated) true true (x ∷ map (λ v. value (const v)) cells) (k, lists.mapped (IsTreeWorded p) (λ v. value (const v)) cells (lists.every (λ v. Unit {0}) cells (λ v. tt)))))

  -- ---- aggregates, and analytic calls, which on data sets are not translated yet
  group_call_worded : (f : AggregateName) (component : Option (List ℕ)) (grouped : Bool) (kind : Option Kind) → Gives (IsTreeWorded p) (group_call_by f component grouped kind)
  group_call_worded f component grouped None = tt
  group_call_worded f component grouped (Some kind) = after (IsTreeWorded p) (ruled ((rule.AggregateMisuse, grouped) ∷ []) (tt {0})) (λ u. group_call f component kind) (λ u. tt)

  value_call_worded : (at : Place) (f : AggregateName) (grouped : Bool) (e : MaybeExp) (v : CompExp) → Gives (IsTreeWorded p) (aggregate_value at f grouped e v)
  value_call_worded place.Outside f grouped e v = tt
  value_call_worded (place.Inside i) f grouped e v = group_call_worded f (operand_name e v) (is_misused i grouped (operand_name e v)) (aggregate_kind f (exp_kind v))

  count_worded : (at : Place) (f : AggregateName) (grouped : Bool) → Gives (IsTreeWorded p) (count_call at f grouped)
  count_worded place.Outside f grouped = tt
  count_worded (place.Inside i) f grouped = go (is_some i.grouping)
    where
      go : (b : Bool) → Gives (IsTreeWorded p) (cond b (group_call_by f None grouped (count_kind f)) (Err rule.WrongKind))
      go true = group_call_worded f None grouped (count_kind f)
      go false = tt

  aggregate_worded : (f : AggregateName) (g : Option GroupPart) (a : NodeTree) (having : Option CompExp) → IsWorded p a → Gives (IsTreeWorded p) (aggregate_node f g a having)
  unfolding aggregate_node
  aggregate_worded f g a having h = dataset_worded (nodes.aggregate a (aggregate_tree f g a having)) _ (h, tt)

  pub grouped_worded : (at : Place) (f : AggregateName) (e : MaybeExp) (g : Option GroupPart) (grouped : Bool) (having : Having) (x : Option TypedTree) → IfSome x (IsTreeWorded p) → Gives (IsTreeWorded p) (grouped_of at f e g grouped having x)
  grouped_worded at f e g grouped having (Some (dataset n)) h =
      after (IsTreeWorded p) (grouping_typed (components_in n) g) (λ names. having (place.Inside (at_groups None n names)) >>= aggregate_node f g n)
      (λ names. after (IsTreeWorded p) (having (place.Inside (at_groups None n names))) (aggregate_node f g n) (λ o. aggregate_worded f g n o h))
  grouped_worded at f e g grouped having (Some (value v)) h = after (IsTreeWorded p) (own_groups at g having) (λ u. aggregate_value at f grouped e v) (λ u. value_call_worded at f grouped e v)
  grouped_worded at f e g grouped having None h = after (IsTreeWorded p) (own_groups at g having) (λ u. count_call at f grouped) (λ u. count_worded at f grouped)

  over_node_worded : (e : Exp) (call : Call) (w : Window) (a : NodeTree) → IsWorded p a → Gives (IsTreeWorded p) (over_node e call w a)
  unfolding over_node
  over_node_worded e call w a h = dataset_worded (nodes.analytic_of a (nodes.of_measures (or_count call.op) w)) _ (h, tt)

  over_dataset_worded : (at : Place) (e : Exp) (n : NodeTree) (call : Call) (w : Window) → IsWorded p n → Gives (IsTreeWorded p) (over_dataset at e n call w)
  over_dataset_worded place.Outside e n call w h = over_node_worded e call w n h
  over_dataset_worded (place.Inside i) e n call w h = after (IsTreeWorded p) (given_structure e (components_in n)) (λ s. Err rule.DatasetOrValue) (λ s. tt)

  pub over_worded : (q : Settings) (at : Place) (e : Exp) (x : Option TypedTree) → IfSome x (IsTreeWorded p) → Gives (IsTreeWorded p) (over_typed q at e x)
  unfolding over_typed
  over_worded q at e x h = after (IsTreeWorded p) (over_parts q at e x) (λ parts. over_form at e x parts.0 parts.1) (λ parts. go x h parts.0 parts.1)
    where
      go : (x : Option TypedTree) → IfSome x (IsTreeWorded p) → (call : Call) (w : Window) → Gives (IsTreeWorded p) (over_form at e x call w)
      go (Some (dataset n)) h call w = over_dataset_worded at e n call w h
      go (Some (value v)) h call w = tt
      go None h call w = tt

  -- ---- time operators
  time_node_worded : (o : TimeOp) (a : NodeTree) → IsWorded p a → Gives (IsTreeWorded p) (time_node o a)
  time_node_worded o a h = dataset_worded (nodes.time a o) _ h

  pub time_worded : (q : Settings) (c : TimeCall) (x : TypedTree) → IsTreeWorded p x → Gives (IsTreeWorded p) (time_form q c x)
  unfolding time_form
  time_worded q c x h = after (IsTreeWorded p) (operator_typed q c) (λ o. dataset_in x >>= time_node o) (λ o. then (IsWorded p) (IsTreeWorded p) (dataset_in x) (time_node o) (dataset_in_worded x h) (time_node_worded o))
