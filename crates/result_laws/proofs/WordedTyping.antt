-- What typing gives of a written expression has its words.
use Rattle.std.proofs.Common.{false, true, ◌||◌, List, [], Some, None, Ok}
use Rattle.std.specs.List.{AllByRecursion}
use Rattle.std.specs.Option.{IfSome, is_some}
use Rattle.vtl_lists.specs.Results.{◌>>=◌}
use Rattle.vtl_cell.specs.declared.operator.ScalarOp.TheVariants as op
use Rattle.vtl_syntax.specs.Trees as tree
use Rattle.vtl_syntax.specs.Trees.{ClauseTree, Exp, Exps, MaybeExp, Parts}
use Rattle.vtl_syntax.specs.Written.{AreMoreExps, AreMoreParts, AreWrittenExps, AreWrittenParts, IsWrittenClause, IsWrittenExp, IsWrittenMaybe}
use Rattle.vtl_tree.specs.Trees.{NodeTree}
use Rattle.check_values.specs.Literals.{constant_typed, literals_fit}
use Rattle.check_values.specs.Operators.{exps_length, of_binary, of_function, of_unary, takes}
use Rattle.check_clauses.specs.Clauses.{filter_form, keeping_form, renaming_form}
use Rattle.check_clauses.specs.JoinOperands.{PartTyped, with_part}
use Rattle.check_operators.specs.Operators.{operator_form}
use Rattle.check_operators.specs.Places.{at_points, in_aggregate}
use Rattle.check_operators.specs.Sets.{check_form, check_spec, difference_form, exists_form, member_of, sets_form}
use Rattle.check_operators.specs.Typed.{TypedTree, dataset_in}
use Rattle.check_expressions.specs.Rulings.{Sight, names_in}
use Rattle.check_expressions.specs.Typing.{as_dataset, behind, clause_typed, grouped_of, has_exp, having_typed, maybe_typed, operands_typed, parts_typed, targets_typed, typed}
use Rattle.check_groups.specs.Windowed.{over_typed}
use Rattle.check_times.specs.Timed.{time_form}
use Rattle.check_operators.specs.declared.places.Place.{Place}
use Rattle.check_operators.specs.declared.places.Place.TheVariants as place
use Rattle.check_laws.specs.Gives.{Gives}
use Rattle.check_laws.proofs.Steps.{after, then}
use Rattle.result_laws.proofs.WordedClauses.{filter_at, keeping_at, renaming_at, sub_worded, targets_at}
use Rattle.result_laws.proofs.WordedJoins.{IsPart, joins_worded, part_worded}
use Rattle.result_laws.proofs.WordedOperators.{behind_worded, dataset_step, grouped_worded, member_worded, names_worded, operator_step, or_component_worded, over_worded, set_step, time_worded, tree_step, two_step, value_worded}
use Rattle.result_laws.proofs.WordedSets.{check_worded, difference_worded, exists_worded, pivot_worded, sets_worded, unpivot_worded}
use Rattle.result_laws.proofs.WordedRules.{AreCallsWorded}
use Rattle.result_laws.proofs.Words.{IsTreeWorded, IsWorded, at_outside, from_outside}

-- ---- clauses
clause_worded : (env : Sight) (n : NodeTree) (c : ClauseTree) → IsWrittenClause c → IsWorded env.settings n → Gives (IsWorded env.settings) (clause_typed env n c)
clause_worded env n (tree.filter e) w h = after (IsWorded env.settings) (typed env (place.Inside (at_points None n)) e) (filter_form n) (λ x. from_outside env.settings (filter_form n x) (filter_at env.settings false [] n x (at_outside env.settings n h)))
clause_worded env n (tree.targets m) w h = from_outside env.settings (targets_typed env None n m) (targets_at env.settings false [] env None n m w (at_outside env.settings n h))
clause_worded env n (tree.keeping k) w h = from_outside env.settings (keeping_form None n k) (keeping_at env.settings false [] None n k (at_outside env.settings n h))
clause_worded env n (tree.rename rs) w h = from_outside env.settings (renaming_form None n rs) (renaming_at env.settings false [] None n rs w.1 (at_outside env.settings n h))
clause_worded env n (tree.sub ss) w h = sub_worded env.settings n ss h
clause_worded env n (tree.pivot id m) w h = pivot_worded env.settings id m n h
clause_worded env n (tree.unpivot id m) w h = unpivot_worded env.settings id m n w.0 w.1 h

-- ---- expressions
more_exps : (es : Exps) → AreWrittenExps es → AreMoreExps es
more_exps tree.no_exps w = tt
more_exps (tree.exp e es) w = w

more_parts : (ps : Parts) → AreWrittenParts ps → AreMoreParts ps
more_parts tree.no_parts w = tt
more_parts (tree.join_part e alias ps) w = w

module _ (env : Sight) (calls : AreCallsWorded env.settings env.called) where
  mutual
    pub worded : (at : Place) (e : Exp) → IsWrittenExp e → Gives (IsTreeWorded env.settings) (typed env at e)
    worded at (tree.if_then c a b) w =
        then (AllByRecursion (IsTreeWorded env.settings)) (IsTreeWorded env.settings) (typed env at c >>= behind []) (λ xs. typed env at a >>= behind xs >>= λ ys. typed env at b >>= behind ys >>= operator_form at op.If true true) (behind_worded env.settings [] (typed env at c) tt (worded at c w.0))
        (λ xs hx. two_step env.settings at op.If xs (typed env at a) (typed env at b) hx (worded at a w.1) (worded at b w.2))
    worded at (tree.binary l o r) w = two_step env.settings at (of_binary o) [] (typed env at l) (typed env at r) tt (worded at l w.0) (worded at r w.1)
    worded at (tree.in_set e negated ls) w = set_step env.settings env.settings at negated ls (typed env at e) (worded at e w.0)
    worded at (tree.unary o e) w = operator_step env.settings at (of_unary o) true true (typed env at e >>= behind []) (behind_worded env.settings [] (typed env at e) tt (worded at e w))
    worded at (tree.with_clause e c) w =
        then (IsWorded env.settings) (IsTreeWorded env.settings) (typed env place.Outside e >>= dataset_in) (λ n. as_dataset (clause_typed env n c)) (dataset_step env.settings (typed env place.Outside e) (worded place.Outside e w.0))
        (λ n h. tree_step env.settings (clause_typed env n c) (clause_worded env n c w.1 h))
    worded at (tree.member e c) w =
        or_component_worded env.settings at e c (typed env place.Outside e >>= dataset_in >>= member_of c) (then (IsWorded env.settings) (IsTreeWorded env.settings) (typed env place.Outside e >>= dataset_in) (member_of c) (dataset_step env.settings (typed env place.Outside e) (worded place.Outside e w.0)) (member_worded env.settings c))
    worded at (tree.component c) w = names_worded env.settings (names_in env) at c w
    worded at (tree.constant c) w = value_worded env.settings (constant_typed env.settings c)
    worded at (tree.brackets e) w = worded at e w
    worded at (tree.function f es) w = operator_step env.settings at (of_function f) (takes f (exps_length es)) (literals_fit env.settings f es) (operands_typed env at [] es) (operands_worded at [] es tt (more_exps es w))
    worded at (tree.aggregate f e g h) w =
        then (λ x. IfSome x (IsTreeWorded env.settings)) (IsTreeWorded env.settings) (maybe_typed env (in_aggregate at) e) (grouped_of at f e g (is_some g || has_exp h) (λ groups. having_typed env groups h)) (maybe_worded (in_aggregate at) e w.0)
        (λ x k. grouped_worded env.settings at f e g (is_some g || has_exp h) (λ groups. having_typed env groups h) x k)
    worded at (tree.aggregate_over f e o) w =
        then (λ x. IfSome x (IsTreeWorded env.settings)) (IsTreeWorded env.settings) (maybe_typed env at e) (over_typed env.settings at (tree.aggregate_over f e o)) (maybe_worded at e w.0) (over_worded env.settings env.settings at (tree.aggregate_over f e o))
    worded at (tree.value_window f e o) w =
        then (IsTreeWorded env.settings) (IsTreeWorded env.settings) (typed env at e) (λ x. over_typed env.settings at (tree.value_window f e o) (Some x)) (worded at e w.0) (λ x. over_worded env.settings env.settings at (tree.value_window f e o) (Some x))
    worded at (tree.shift f e n l o) w =
        then (IsTreeWorded env.settings) (IsTreeWorded env.settings) (typed env at e) (λ x. over_typed env.settings at (tree.shift f e n l o) (Some x)) (worded at e w.0) (λ x. over_worded env.settings env.settings at (tree.shift f e n l o) (Some x))
    worded at (tree.rank o) w = over_worded env.settings env.settings at (tree.rank o) None tt
    worded at (tree.set_op f es) w = then (AllByRecursion (IsTreeWorded env.settings)) (IsTreeWorded env.settings) (operands_typed env place.Outside [] es) (sets_form f) (operands_worded place.Outside [] es tt (more_exps es w)) (sets_worded env.settings f)
    worded at (tree.difference f a b) w =
        then (IsTreeWorded env.settings) (IsTreeWorded env.settings) (typed env place.Outside a) (λ x. typed env place.Outside b >>= difference_form f x) (worded place.Outside a w.0)
        (λ x hx. then (IsTreeWorded env.settings) (IsTreeWorded env.settings) (typed env place.Outside b) (difference_form f x) (worded place.Outside b w.1) (λ y hy. difference_worded env.settings f x y hx hy))
    worded at (tree.exists_in a b r) w =
        then (IsTreeWorded env.settings) (IsTreeWorded env.settings) (typed env place.Outside a) (λ x. typed env place.Outside b >>= exists_form r x) (worded place.Outside a w.0)
        (λ x hx. then (IsTreeWorded env.settings) (IsTreeWorded env.settings) (typed env place.Outside b) (exists_form r x) (worded place.Outside b w.1) (λ y hy. exists_worded env.settings r x y hx hy))
    worded at (tree.time e call) w = then (IsTreeWorded env.settings) (IsTreeWorded env.settings) (typed env place.Outside e) (time_form env.settings call) (worded place.Outside e w) (λ x h. time_worded env.settings env.settings call x h)
    worded at (tree.check e err i o) w =
        then (IsTreeWorded env.settings) (IsTreeWorded env.settings) (typed env place.Outside e) (λ x. check_spec env.settings err o >>= λ s. maybe_typed env place.Outside i >>= check_form s x) (worded place.Outside e w.0)
        (λ x h. check_worded env.settings env.settings err o x (maybe_typed env place.Outside i) h (maybe_worded place.Outside i w.1))
    worded at (tree.check_datapoint e n o) w = then (IsTreeWorded env.settings) (IsTreeWorded env.settings) (typed env place.Outside e) (env.called.datapoint (names_in env) n o) (worded place.Outside e w.0) (λ x h. calls.datapoint (names_in env) n o x h)
    worded at (tree.check_hierarchy e n r m f o) w = then (IsTreeWorded env.settings) (IsTreeWorded env.settings) (typed env place.Outside e) (env.called.check_hierarchy n r m o) (worded place.Outside e w.0) (λ x h. calls.check_hierarchy n r m o x h)
    worded at (tree.hierarchy e n r m i o) w = then (IsTreeWorded env.settings) (IsTreeWorded env.settings) (typed env place.Outside e) (env.called.hierarchy n r m i o) (worded place.Outside e w.0) (λ x h. calls.hierarchy n r m i o x h)
    worded at (tree.join kind ps u f m k rs) w = joins_worded env kind (parts_typed env [] ps) u f m k rs (parts_worded [] ps tt (more_parts ps w.0)) w.3 w.5

    maybe_worded : (at : Place) (e : MaybeExp) → IsWrittenMaybe e → Gives (λ x. IfSome x (IsTreeWorded env.settings)) (maybe_typed env at e)
    maybe_worded at tree.no_exp w = tt
    maybe_worded at (tree.some_exp e) w = then (IsTreeWorded env.settings) (λ x. IfSome x (IsTreeWorded env.settings)) (typed env at e) (λ x. Ok (Some x)) (worded at e w) (λ x h. h)

    operands_worded : (at : Place) (done : List TypedTree) (es : Exps) → AllByRecursion (IsTreeWorded env.settings) done → AreMoreExps es → Gives (AllByRecursion (IsTreeWorded env.settings)) (operands_typed env at done es)
    operands_worded at done tree.no_exps hd w = hd
    operands_worded at done (tree.exp e es) hd w =
        then (AllByRecursion (IsTreeWorded env.settings)) (AllByRecursion (IsTreeWorded env.settings)) (typed env at e >>= behind done) (λ xs. operands_typed env at xs es) (behind_worded env.settings done (typed env at e) hd (worded at e w.0))
        (λ xs h. operands_worded at xs es h w.1)

    parts_worded : (done : List PartTyped) (ps : Parts) → AllByRecursion (IsPart env.settings) done → AreMoreParts ps → Gives (AllByRecursion (IsPart env.settings)) (parts_typed env done ps)
    parts_worded done tree.no_parts hd w = hd
    parts_worded done (tree.join_part e alias ps) hd w =
        then (AllByRecursion (IsPart env.settings)) (AllByRecursion (IsPart env.settings)) (typed env place.Outside e >>= with_part done e alias) (λ xs. parts_typed env xs ps)
        (then (IsTreeWorded env.settings) (AllByRecursion (IsPart env.settings)) (typed env place.Outside e) (with_part done e alias) (worded place.Outside e w.0) (λ x h. part_worded env.settings done e alias x hd w.0 w.1 h))
        (λ xs h. parts_worded xs ps h w.2)
