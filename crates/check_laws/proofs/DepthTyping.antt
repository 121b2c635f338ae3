-- What is typed is no deeper than what was written.
use Rattle.std.proofs.Common.{◌≤◌, ◌-◌, ℕ, true, ◌||◌, List, [], ◌∷◌, Option, Some, None, Result, Ok, arith}
use Rattle.std.specs.List.{AllByRecursion}
use Rattle.std.specs.Option.{IfSome, is_some}
use Rattle.vtl_cell.specs.declared.operator.ScalarOp.TheVariants as op
use Rattle.vtl_lists.specs.Results.{◌>>=◌}
use Rattle.vtl_lists.proofs.Alls.{all_append}
use Rattle.check_faults.specs.declared.rules.Rule.{Rule}
use Rattle.vtl_syntax.specs.Depth.{calcs_depth, clause_depth, exp_depth, exps_depth, maybe_depth, maybe_targets_depth, parts_depth, targets_depth}
use Rattle.vtl_syntax.specs.Trees as tree
use Rattle.vtl_syntax.specs.Trees.{Calcs, ClauseTree, Exp, Exps, MaybeExp, MaybeTargets, Parts, TargetsTree}
use Rattle.vtl_tree.specs.Trees.{FormTree, ItemTree, NodeTree}
use Rattle.check_values.specs.Groupings.{grouping_of, grouping_typed}
use Rattle.check_values.specs.Operators.{exps_length, of_binary, of_function, of_unary, takes}
use Rattle.check_values.specs.Literals.{literals_fit}
use Rattle.check_operators.specs.Operators.{operator_form}
use Rattle.check_operators.specs.Places.{at_groups, at_points, in_aggregate}
use Rattle.check_operators.specs.Sets.{check_form, check_spec, difference_form, exists_form, member_of, sets_form}
use Rattle.check_operators.specs.Typed.{TypedTree, components_in, condition_in, dataset_in}
use Rattle.check_operators.specs.declared.places.Joined.{Joined}
use Rattle.check_operators.specs.declared.places.Place.{Place}
use Rattle.check_operators.specs.declared.places.Place.TheVariants as place
use Rattle.check_clauses.specs.Clauses.{filter_form}
use Rattle.check_clauses.specs.JoinOperands.{PartTyped, joined_node, joined_of, operands_in, with_part}
use Rattle.check_clauses.specs.Targets.{aggr_clause, calc_clause, calc_name, item_of, with_item}
use Rattle.check_expressions.specs.Rulings.{Sight, names_in}
use Rattle.check_expressions.specs.Typing.{aggrs_typed, as_dataset, behind, body_end, calc_value, calcs_typed, clause_typed, filter_step, filtered_join, grouped_of, has_exp, having_typed, join_end, maybe_typed, operands_typed, over_operand, parts_typed, targets_step, targets_typed, typed}
use Rattle.check_groups.specs.Windowed.{over_typed}
use Rattle.check_laws.specs.Called.{AreCalls, IsCallOver}
use Rattle.check_laws.specs.Gives.{Gives}
use Rattle.check_laws.proofs.DepthBounds.{IsItemUpTo, IsNodeUpTo, IsTreeUpTo, IsUpTo, IsValueUpTo, call-over-up}
use Rattle.check_laws.proofs.DepthClauses.{IsOperandUpTo, IsPartUpTo, aggr-up, calc-up, condition-up, end-up, filter-up, joined-up, keeping-up, operands-up, part-up, pivot-up, renaming-up, sub-up, target-up, tree-step, unpivot-up}
use Rattle.check_laws.proofs.DepthOperators.{behind-up, constants-up, names-up, operator-step, or-component-up, set-step, two-step}
use Rattle.check_laws.proofs.DepthSets.{check-up, dataset-step, difference-up, exists-up, grouped-up, member-up, over-up, sets-up, time-up}
use Rattle.check_laws.proofs.Steps.{after, then, weaker}
use Rattle.check_times.specs.Timed.{time_form}

-- where what calls give stands over their operands, and this holds of it
module _ (P : FormTree → Type 0) (sight : Sight) (calls : AreCalls P sight.called) where
  call-step : (d : ℕ) (r : Result TypedTree Rule) (f : TypedTree → Result TypedTree Rule) → Gives (IsTreeUpTo P d) r → ((x : TypedTree) → Gives (IsCallOver P x) (f x)) → Gives (IsTreeUpTo P d) (r >>= f)
  call-step d r f h g = then (IsTreeUpTo P d) (IsTreeUpTo P d) r f h (λ x k. weaker (IsCallOver P x) (IsTreeUpTo P d) (f x) (λ y c. call-over-up P d x y k c) (g x))

  mutual
    pub deep : (at : Place) (e : Exp) (d : ℕ) → exp_depth e ≤ d → Gives (IsTreeUpTo P d) (typed sight at e)
    deep at (tree.if_then c a b) d le =
        then (AllByRecursion (IsTreeUpTo P (d - 1))) (IsTreeUpTo P d) (typed sight at c >>= behind []) (λ xs. typed sight at a >>= behind xs >>= λ ys. typed sight at b >>= behind ys >>= operator_form at op.If true true) (behind-up P (d - 1) [] (typed sight at c) tt (deep at c (d - 1) (omega arith)))
        (λ xs hx. two-step P (d - 1) d at op.If xs (typed sight at a) (typed sight at b) (omega arith) hx (deep at a (d - 1) (omega arith)) (deep at b (d - 1) (omega arith)))
    deep at (tree.binary l o r) d le = two-step P (d - 1) d at (of_binary o) [] (typed sight at l) (typed sight at r) (omega arith) tt (deep at l (d - 1) (omega arith)) (deep at r (d - 1) (omega arith))
    deep at (tree.in_set e negated ls) d le = set-step P (d - 1) d sight.settings at negated ls (typed sight at e) (omega arith) (deep at e (d - 1) (omega arith))
    deep at (tree.unary o e) d le = operator-step P (d - 1) d at (of_unary o) true true (typed sight at e >>= behind []) (omega arith) (behind-up P (d - 1) [] (typed sight at e) tt (deep at e (d - 1) (omega arith)))
    deep at (tree.with_clause e c) d le =
        then (IsNodeUpTo P d) (IsTreeUpTo P d) (typed sight place.Outside e >>= dataset_in) (λ n. as_dataset (clause_typed sight n c)) (dataset-step P d (typed sight place.Outside e) (deep place.Outside e d (omega arith)))
        (λ n h. tree-step P d (clause_typed sight n c) (deep-clause n c d (omega arith) h))
    deep at (tree.member e c) d le =
        or-component-up P d at e c (typed sight place.Outside e >>= dataset_in >>= member_of c) (omega arith) (then (IsNodeUpTo P d) (IsTreeUpTo P d) (typed sight place.Outside e >>= dataset_in) (member_of c) (dataset-step P d (typed sight place.Outside e) (deep place.Outside e d (omega arith))) (member-up P d c))
    deep at (tree.component c) d le = names-up P d (names_in sight) at c le
    deep at (tree.constant c) d le = constants-up P d sight.settings c le
    deep at (tree.brackets e) d le = deep at e d (omega arith)
    deep at (tree.function f es) d le = operator-step P (d - 1) d at (of_function f) (takes f (exps_length es)) (literals_fit sight.settings f es) (operands_typed sight at [] es) (omega arith) (deep-operands at [] es (d - 1) (omega arith) tt)
    deep at (tree.aggregate f e g h) d le =
        then (λ x. IfSome x (IsTreeUpTo P (d - 1))) (IsTreeUpTo P d) (maybe_typed sight (in_aggregate at) e) (grouped_of at f e g (is_some g || has_exp h) (λ groups. having_typed sight groups h)) (deep-maybe (in_aggregate at) e (d - 1) (omega arith))
        (λ x k. grouped-up P (d - 1) d at f e g (is_some g || has_exp h) (λ groups. having_typed sight groups h) x (omega arith) (λ groups. deep-having groups h d (omega arith)) k)
    deep at (tree.aggregate_over f e o) d le = then (λ x. IfSome x (IsTreeUpTo P d)) (IsTreeUpTo P d) (maybe_typed sight at e) (over_typed sight.settings at (tree.aggregate_over f e o)) (deep-maybe at e d (omega arith)) (over-up P d sight.settings at (tree.aggregate_over f e o))
    deep at (tree.value_window f e o) d le = then (IsTreeUpTo P d) (IsTreeUpTo P d) (typed sight at e) (λ x. over_typed sight.settings at (tree.value_window f e o) (Some x)) (deep at e d (omega arith)) (λ x h. over-up P d sight.settings at (tree.value_window f e o) (Some x) h)
    deep at (tree.shift f e n l o) d le = then (IsTreeUpTo P d) (IsTreeUpTo P d) (typed sight at e) (λ x. over_typed sight.settings at (tree.shift f e n l o) (Some x)) (deep at e d (omega arith)) (λ x h. over-up P d sight.settings at (tree.shift f e n l o) (Some x) h)
    deep at (tree.rank o) d le = over-up P d sight.settings at (tree.rank o) None tt
    deep at (tree.set_op f es) d le = then (AllByRecursion (IsTreeUpTo P d)) (IsTreeUpTo P d) (operands_typed sight place.Outside [] es) (sets_form f) (deep-operands place.Outside [] es d (omega arith) tt) (λ xs h. sets-up P d f xs (omega arith) h)
    deep at (tree.difference f a b) d le =
        then (IsTreeUpTo P d) (IsTreeUpTo P d) (typed sight place.Outside a) (λ x. typed sight place.Outside b >>= difference_form f x) (deep place.Outside a d (omega arith))
        (λ x hx. then (IsTreeUpTo P d) (IsTreeUpTo P d) (typed sight place.Outside b) (difference_form f x) (deep place.Outside b d (omega arith)) (λ y hy. difference-up P d f x y hx hy))
    deep at (tree.exists_in a b r) d le =
        then (IsTreeUpTo P d) (IsTreeUpTo P d) (typed sight place.Outside a) (λ x. typed sight place.Outside b >>= exists_form r x) (deep place.Outside a d (omega arith))
        (λ x hx. then (IsTreeUpTo P d) (IsTreeUpTo P d) (typed sight place.Outside b) (exists_form r x) (deep place.Outside b d (omega arith)) (λ y hy. exists-up P d r x y hx hy))
    deep at (tree.time e call) d le = then (IsTreeUpTo P d) (IsTreeUpTo P d) (typed sight place.Outside e) (time_form sight.settings call) (deep place.Outside e d (omega arith)) (λ x h. time-up P d sight.settings call x h)
    deep at (tree.check e err i o) d le =
        then (IsTreeUpTo P d) (IsTreeUpTo P d) (typed sight place.Outside e) (λ x. check_spec sight.settings err o >>= λ s. maybe_typed sight place.Outside i >>= check_form s x) (deep place.Outside e d (omega arith))
        (λ x hx. after (IsTreeUpTo P d) (check_spec sight.settings err o) (λ s. maybe_typed sight place.Outside i >>= check_form s x)
        (λ s. then (λ y. IfSome y (IsTreeUpTo P d)) (IsTreeUpTo P d) (maybe_typed sight place.Outside i) (check_form s x) (deep-maybe place.Outside i d (omega arith)) (λ y hy. check-up P d s x y hx hy)))
    deep at (tree.check_datapoint e n o) d le = call-step d (typed sight place.Outside e) (sight.called.datapoint (names_in sight) n o) (deep place.Outside e d (omega arith)) (calls.datapoint (names_in sight) n o)
    deep at (tree.check_hierarchy e n r m f o) d le = call-step d (typed sight place.Outside e) (sight.called.check_hierarchy n r m o) (deep place.Outside e d (omega arith)) (calls.check_hierarchy n r m o)
    deep at (tree.hierarchy e n r m i o) d le = call-step d (typed sight place.Outside e) (sight.called.hierarchy n r m i o) (deep place.Outside e d (omega arith)) (calls.hierarchy n r m i o)
    deep at (tree.join kind ps u f m k rs) d le =
        then (AllByRecursion (IsOperandUpTo P d)) (IsTreeUpTo P d) (parts_typed sight [] ps >>= operands_in) (λ os. filtered_join sight (Some (joined_of kind os)) f kind u os >>= join_end sight (Some (joined_of kind os)) m k rs)
        (then (AllByRecursion (IsPartUpTo P d)) (AllByRecursion (IsOperandUpTo P d)) (parts_typed sight [] ps) operands_in (deep-parts [] ps d (omega arith) tt) (operands-up P d))
        (λ os hos. then (IsNodeUpTo P d) (IsTreeUpTo P d) (filtered_join sight (Some (joined_of kind os)) f kind u os) (join_end sight (Some (joined_of kind os)) m k rs)
        (then (IsNodeUpTo P d) (IsNodeUpTo P d) (joined_node kind u os) (λ n. filter_step sight (Some (joined_of kind os)) n f) (joined-up P d kind u os (omega arith) hos) (λ n h. deep-filter (Some (joined_of kind os)) n f d (omega arith) h))
        (λ a h. then (IsNodeUpTo P d) (IsTreeUpTo P d) (targets_step sight (Some (joined_of kind os)) a m) (body_end (Some (joined_of kind os)) k rs) (deep-step (Some (joined_of kind os)) a m d (omega arith) h) (end-up P d (Some (joined_of kind os)) k rs)))

    deep-operands : (at : Place) (done : List TypedTree) (es : Exps) (d : ℕ) → exps_depth es ≤ d → AllByRecursion (IsTreeUpTo P d) done → Gives (AllByRecursion (IsTreeUpTo P d)) (operands_typed sight at done es)
    deep-operands at done tree.no_exps d le hd = hd
    deep-operands at done (tree.exp e es) d le hd = then (AllByRecursion (IsTreeUpTo P d)) (AllByRecursion (IsTreeUpTo P d)) (typed sight at e >>= behind done) (λ xs. operands_typed sight at xs es) (behind-up P d done (typed sight at e) hd (deep at e d (omega arith))) (λ xs h. deep-operands at xs es d (omega arith) h)

    deep-maybe : (at : Place) (e : MaybeExp) (d : ℕ) → maybe_depth e ≤ d → Gives (λ x. IfSome x (IsTreeUpTo P d)) (maybe_typed sight at e)
    deep-maybe at tree.no_exp d le = tt
    deep-maybe at (tree.some_exp e) d le = then (IsTreeUpTo P d) (λ x. IfSome x (IsTreeUpTo P d)) (typed sight at e) (λ x. Ok (Some x)) (deep at e d le) (λ x h. h)

    deep-having : (at : Place) (e : MaybeExp) (d : ℕ) → maybe_depth e ≤ d → Gives (λ c. IfSome c (IsUpTo d)) (having_typed sight at e)
    deep-having at tree.no_exp d le = tt
    deep-having at (tree.some_exp e) d le = then (IsUpTo d) (λ c. IfSome c (IsUpTo d)) (typed sight at e >>= condition_in) (λ c. Ok (Some c)) (then (IsTreeUpTo P d) (IsUpTo d) (typed sight at e) condition_in (deep at e d le) (condition-up P d)) (λ c h. h)

    deep-clause : (n : NodeTree) (c : ClauseTree) (d : ℕ) → clause_depth c ≤ d → IsNodeUpTo P d n → Gives (IsNodeUpTo P d) (clause_typed sight n c)
    deep-clause n (tree.filter e) d le h = then (IsTreeUpTo P d) (IsNodeUpTo P d) (typed sight (place.Inside (at_points None n)) e) (filter_form n) (deep (place.Inside (at_points None n)) e d le) (λ x hx. filter-up P d n x h hx)
    deep-clause n (tree.targets m) d le h = deep-targets None n m d le h
    deep-clause n (tree.keeping k) d le h = keeping-up P d None n k h
    deep-clause n (tree.rename rs) d le h = renaming-up P d None n rs h
    deep-clause n (tree.sub ss) d le h = sub-up P d sight.settings n ss h
    deep-clause n (tree.pivot id m) d le h = pivot-up P d id m n h
    deep-clause n (tree.unpivot id m) d le h = unpivot-up P d id m n h

    deep-targets : (j : Option Joined) (n : NodeTree) (m : TargetsTree) (d : ℕ) → targets_depth m ≤ d → IsNodeUpTo P d n → Gives (IsNodeUpTo P d) (targets_typed sight j n m)
    deep-targets j n (tree.calc cs) d le h = then (AllByRecursion (IsItemUpTo d)) (IsNodeUpTo P d) (calcs_typed sight (place.Inside (at_points j n)) n [] cs) (calc_clause n) (deep-calcs (place.Inside (at_points j n)) n [] cs d le tt) (λ items all. calc-up P d n items h all)
    deep-targets j n (tree.aggr cs g e) d le h =
        after (IsNodeUpTo P d) (aggrs_typed sight (place.Inside (at_groups j n (grouping_of g (components_in n)))) [] cs) (λ made. grouping_typed (components_in n) g >>= λ names. having_typed sight (place.Inside (at_groups j n names)) e >>= aggr_clause g n made)
        (λ made. after (IsNodeUpTo P d) (grouping_typed (components_in n) g) (λ names. having_typed sight (place.Inside (at_groups j n names)) e >>= aggr_clause g n made)
        (λ names. then (λ c. IfSome c (IsUpTo d)) (IsNodeUpTo P d) (having_typed sight (place.Inside (at_groups j n names)) e) (aggr_clause g n made) (deep-having (place.Inside (at_groups j n names)) e d (omega arith)) (λ c hc. aggr-up P d g n made c h hc)))

    deep-calcs : (at : Place) (n : NodeTree) (done : List ItemTree) (cs : Calcs) (d : ℕ) → calcs_depth cs ≤ d → AllByRecursion (IsItemUpTo d) done → Gives (AllByRecursion (IsItemUpTo d)) (calcs_typed sight at n done cs)
    deep-calcs at n done tree.no_calcs d le hd = hd
    deep-calcs at n done (tree.calc_part r c e cs) d le hd =
        after (AllByRecursion (IsItemUpTo d)) (calc_name n done c) (λ u. calc_value sight.settings at e (typed sight at e) (over_operand sight at e) >>= with_item r c done >>= λ items. calcs_typed sight at n items cs)
        (λ u. then (AllByRecursion (IsItemUpTo d)) (AllByRecursion (IsItemUpTo d)) (calc_value sight.settings at e (typed sight at e) (over_operand sight at e) >>= with_item r c done) (λ items. calcs_typed sight at n items cs)
        (then (IsValueUpTo d) (AllByRecursion (IsItemUpTo d)) (calc_value sight.settings at e (typed sight at e) (over_operand sight at e)) (with_item r c done) (target-up P d sight.settings at e (typed sight at e) (over_operand sight at e) (deep at e d (omega arith)))
        (λ v h. all_append (IsItemUpTo d) done (item_of r c v ∷ []) hd (h, tt)))
        (λ items h. deep-calcs at n items cs d (omega arith) h))

    deep-parts : (done : List PartTyped) (ps : Parts) (d : ℕ) → parts_depth ps ≤ d → AllByRecursion (IsPartUpTo P d) done → Gives (AllByRecursion (IsPartUpTo P d)) (parts_typed sight done ps)
    deep-parts done tree.no_parts d le hd = hd
    deep-parts done (tree.join_part e alias ps) d le hd =
        then (AllByRecursion (IsPartUpTo P d)) (AllByRecursion (IsPartUpTo P d)) (typed sight place.Outside e >>= with_part done e alias) (λ xs. parts_typed sight xs ps)
        (then (IsTreeUpTo P d) (AllByRecursion (IsPartUpTo P d)) (typed sight place.Outside e) (with_part done e alias) (deep place.Outside e d (omega arith)) (λ x h. part-up P d done e alias x hd h))
        (λ xs h. deep-parts xs ps d (omega arith) h)

    deep-filter : (j : Option Joined) (n : NodeTree) (e : MaybeExp) (d : ℕ) → maybe_depth e ≤ d → IsNodeUpTo P d n → Gives (IsNodeUpTo P d) (filter_step sight j n e)
    deep-filter j n tree.no_exp d le h = h
    deep-filter j n (tree.some_exp e) d le h = then (IsTreeUpTo P d) (IsNodeUpTo P d) (typed sight (place.Inside (at_points j n)) e) (filter_form n) (deep (place.Inside (at_points j n)) e d le) (λ x hx. filter-up P d n x h hx)

    deep-step : (j : Option Joined) (n : NodeTree) (m : MaybeTargets) (d : ℕ) → maybe_targets_depth m ≤ d → IsNodeUpTo P d n → Gives (IsNodeUpTo P d) (targets_step sight j n m)
    deep-step j n tree.no_targets d le h = h
    deep-step j n (tree.some_targets m) d le h = deep-targets j n m d le h
