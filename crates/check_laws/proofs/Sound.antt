-- What is typed is typed over the columns of its place, and its nodes are made.
use Rattle.std.proofs.Common.{◌≡◌, ℕ, Bool, true, ◌||◌, List, [], ◌∷◌, Option, Some, None, option_map, Result, Ok, refl, subst}
use Rattle.std.specs.List.{AllByRecursion}
use Rattle.std.specs.Option.{IfSome, is_some}
use Rattle.vtl_decimal.specs.Settings.{Settings}
use Rattle.vtl_cell.specs.ScalarKinds.{meets}
use Rattle.vtl_cell.specs.declared.kind.Kind.TheVariants as k
use Rattle.vtl_cell.specs.declared.operator.ScalarOp.{ScalarOp}
use Rattle.vtl_cell.specs.declared.operator.ScalarOp.TheVariants as op
use Rattle.vtl_lists.specs.Results.{◌>>=◌}
use Rattle.vtl_lists.proofs.Alls.{all_append}
use Rattle.check_faults.specs.declared.rules.Rule.{Rule}
use Rattle.vtl_syntax.specs.Trees as tree
use Rattle.vtl_syntax.specs.Trees.{Calcs, ClauseTree, Exp, Exps, MaybeExp, MaybeTargets, Parts, TargetsTree}
use Rattle.vtl_syntax.specs.declared.parts.Comp.{Comp}
use Rattle.vtl_syntax.specs.declared.parts.GroupPart.{GroupPart}
use Rattle.vtl_syntax.specs.declared.parts.Keeping.{Keeping}
use Rattle.vtl_syntax.specs.declared.parts.RenamePart.{RenamePart}
use Rattle.vtl_syntax.specs.declared.word_groups.AggregateName.{AggregateName}
use Rattle.vtl_syntax.specs.declared.word_groups.BinaryOp.{BinaryOp}
use Rattle.vtl_syntax.specs.declared.word_groups.BinaryOp.TheVariants as sign
use Rattle.vtl_syntax.specs.declared.word_groups.UnaryOp.{UnaryOp}
use Rattle.vtl_syntax.specs.declared.word_groups.UnaryOp.TheVariants as one_sign
use Rattle.vtl_syntax.specs.declared.word_groups.WrittenRole.{WrittenRole}
use Rattle.vtl_tree.specs.CompExp.{CompExp, CompExps}
use Rattle.vtl_tree.specs.Trees as nodes
use Rattle.vtl_tree.specs.Trees.{ItemTree, NodeTree, ValueTree, structure_of}
use Rattle.check_values.specs.Groupings.{grouping_of, grouping_typed}
use Rattle.check_values.specs.Operators.{exps_length, of_binary, of_function, of_unary, takes}
use Rattle.check_values.specs.Literals.{literals_fit}
use Rattle.check_shapes.specs.Clauses.{target_tests}
use Rattle.vtl_tree.specs.Names.{name_of}
use Rattle.check_operators.specs.Operators.{operator_form, set_form}
use Rattle.check_operators.specs.Places.{Env, Written, at_groups, at_points, columns_in, in_aggregate, member_inside, member_written}
use Rattle.check_operators.specs.Sets.{check_form, check_spec, difference_form, exists_form, member_of, sets_form}
use Rattle.check_operators.specs.Typed.{TypedTree, value, dataset, components_in, dataset_in}
use Rattle.check_operators.specs.declared.places.Inside.{Inside}
use Rattle.check_operators.specs.declared.places.Joined.{Joined}
use Rattle.check_operators.specs.declared.places.Place.{Place}
use Rattle.check_operators.specs.declared.places.Place.TheVariants as place
use Rattle.check_groups.specs.Aggregates.{aggregate_node, count_call, aggregate_value}
use Rattle.check_groups.specs.Windowed.{operand_exp, over_typed, target_typed}
use Rattle.check_clauses.specs.Clauses.{filter_form}
use Rattle.check_clauses.specs.JoinOperands.{PartTyped, joined_node, joined_of, operands_in, with_part}
use Rattle.check_clauses.specs.Targets.{aggr_clause, aggr_name, calc_clause, calc_name, item_names, with_item, with_made}
use Rattle.check_clauses.specs.declared.targets.Made.{Made}
use Rattle.check_expressions.specs.Rulings.{Sight, names_in, no_rulings}
use Rattle.check_expressions.specs.Typing.{Having, aggrs_typed, as_dataset, behind, body_end, calc_value, calcs_typed, clause_typed, filter_step, filtered_join, grouped_of, has_exp, having_typed, join_end, keeping_step, last_step, maybe_typed, operands_typed, or_component, over_operand, own_groups, parts_typed, renaming_step, scalar_value, targets_step, targets_typed, typed}
use Rattle.vtl_meaning.specs.Literals.{are_literals}
use Rattle.vtl_tree.specs.Kinds.{exp_kind}
use Rattle.vtl_meaning.specs.Made.{IsTypedInGroups}
use Rattle.vtl_scripts.specs.Made.{IsMade}
use Rattle.vtl_meaning.specs.Shapes.{IsShaped}
use Rattle.check_laws.specs.Gives.{ArePassed, Gives}
use Rattle.check_laws.specs.SoundRulings.{AreSoundRulings}
use Rattle.check_laws.specs.WellTyped.{AreShaped, IsWellTyped}
use Rattle.check_laws.proofs.Aggregated.{AreMadeTargets, grouping-is, target-more}
use Rattle.check_laws.proofs.Clauses.{AreTargets, IsTargetValue, aggr-gives, calc-gives, filter-gives, item-more, keeping-gives, name-free, pivot-gives, renaming-gives, sub-gives, unpivot-gives}
use Rattle.check_laws.proofs.CalcCalls.{IsCallValue, target-over}
use Rattle.check_laws.proofs.GroupValues.{IsOperand, call-operand-named, count-call-gives, operand-named, value-call-gives}
use Rattle.check_laws.proofs.Groups.{IsAnalytic, aggregate-gives, over-gives, target-analytic}
use Rattle.check_laws.proofs.Having.{IsCondition, having-at}
use Rattle.check_laws.proofs.Inner.{made-shaped}
use Rattle.check_laws.proofs.Joins.{AreJoinOperands, AreJoinParts, joined-gives, last-gives, operands-give, part-gives}
use Rattle.check_laws.proofs.LiteralOperands.{free-gives, functions-give}
use Rattle.check_laws.proofs.Operators.{AreFit, operator-gives, set-form-gives}
use Rattle.check_laws.proofs.Sets.{IsLevel, check-gives, dataset-gives, difference-gives, exists-gives, member-gives, sets-give, spec-gives}
use Rattle.check_laws.proofs.Steps.{after, both, then, weaker}
use Rattle.check_laws.proofs.Values.{constants-give, names-give, written-gives}
use Rattle.check_times.specs.Timed.{time_form}
use Rattle.check_laws.proofs.Timed.{time-gives}

-- ---- parts of the walk
tree-gives : (env : Env) (at : Place) (r : Result NodeTree Rule) → Gives (IsMade env.settings env.known) r → Gives (IsWellTyped env at) (as_dataset r)
tree-gives env at r h = then (IsMade env.settings env.known) (IsWellTyped env at) r (λ n. Ok (dataset n)) h (λ n is. is)

-- one more operand, behind others
behind-gives : (env : Env) (at : Place) (done : List TypedTree) (r : Result TypedTree Rule) → AllByRecursion (IsWellTyped env at) done → Gives (IsWellTyped env at) r → Gives (AllByRecursion (IsWellTyped env at)) (r >>= behind done)
behind-gives env at done r hd h = then (IsWellTyped env at) (AllByRecursion (IsWellTyped env at)) r (behind done) h (λ x is. all_append (IsWellTyped env at) done (x ∷ []) hd (is, tt))

operator-step : (env : Env) (at : Place) (o : ScalarOp) (number literals : Bool) (r : Result (List TypedTree) Rule) → Gives (λ xs. literals ≡ true → AreFit o xs) r → Gives (AllByRecursion (IsWellTyped env at)) r → Gives (IsWellTyped env at) (r >>= operator_form at o number literals)
operator-step env at o number literals r fit h =
    then (λ xs. (literals ≡ true → AreFit o xs) × AllByRecursion (IsWellTyped env at) xs) (IsWellTyped env at) r (operator_form at o number literals) (both (λ xs. literals ≡ true → AreFit o xs) (AllByRecursion (IsWellTyped env at)) r fit h)
    (λ xs k. operator-gives env at o number literals xs k.0 k.1)

-- operators that ask for no literals
binary-free : (o : BinaryOp) (es : CompExps) → are_literals (of_binary o) es ≡ true
binary-free sign.Or es = refl
binary-free o es = refl

unary-free : (o : UnaryOp) (es : CompExps) → are_literals (of_unary o) es ≡ true
unary-free one_sign.Plus es = refl
unary-free o es = refl

dataset-step : (env : Env) (at : Place) (r : Result TypedTree Rule) → Gives (IsWellTyped env at) r → Gives (IsMade env.settings env.known) (r >>= dataset_in)
dataset-step env at r h = then (IsWellTyped env at) (IsMade env.settings env.known) r dataset_in h (dataset-gives env at)

component-gives : (env : Env) (at : Place) (e : Exp) (c : Comp) (rest : Result TypedTree Rule) → Gives (IsWellTyped env at) rest → Gives (IsWellTyped env at) (or_component (member_inside at e c) rest)
component-gives env place.Outside e c rest h = h
component-gives env (place.Inside i) e c rest h = go (member_written e c)
  where
    go : (o : Option Written) → Gives (IsWellTyped env (place.Inside i)) (or_component (option_map (λ w. (i, w)) o) rest)
    go None = h
    go (Some w) = written-gives env i w

-- the condition of groups of an operand, by the names that its grouping gives
abbrev IsHaving : Env → NodeTree → List (List ℕ) → Option CompExp → Type 0
IsHaving env n names o = IfSome o (λ e. IsTypedInGroups env.settings names (columns_in n) e × (meets k.Bool (exp_kind e) ≡ true))

grouped-gives : (env : Env) (at : Place) (f : AggregateName) (e : MaybeExp) (g : Option GroupPart) (grouped : Bool) (having : Having) (x : Option TypedTree) → IfSome x (IsWellTyped env (in_aggregate at)) → IfSome x (IsOperand at e) → ((i : Inside) → Gives (λ o. IfSome o (IsCondition env.settings (place.Inside i))) (having (place.Inside i))) → Gives (IsWellTyped env at) (grouped_of at f e g grouped having x)
grouped-gives env at f e g grouped having (Some (dataset n)) h named c =
    then (λ names. names ≡ grouping_of g (components_in n)) (IsWellTyped env at) (grouping_typed (components_in n) g) (λ names. having (place.Inside (at_groups None n names)) >>= aggregate_node f g n) (grouping-is (components_in n) g)
    (λ names same. then (λ o. IfSome o (IsCondition env.settings (place.Inside (at_groups None n names)))) (IsWellTyped env at) (having (place.Inside (at_groups None n names))) (aggregate_node f g n) (c (at_groups None n names))
    (λ o condition. aggregate-gives env at f g n o h (subst (λ ns. IsHaving env n ns o) same condition)))
grouped-gives env at f e g grouped having (Some (value v)) h named c = after (IsWellTyped env at) (own_groups at g having) (λ u. aggregate_value at f grouped e v) (λ u. value-call-gives env at f grouped e v named)
grouped-gives env at f e g grouped having None h named c = after (IsWellTyped env at) (own_groups at g having) (λ u. count_call at f grouped) (λ u. count-call-gives env at f grouped)

-- one more target of `aggr`
target-gives-more : (env : Env) (j : Option Joined) (n : NodeTree) (names : List (List ℕ)) (r : Option WrittenRole) (c : Comp) (e : Exp) (done : List Made) (x : TypedTree) → AreMadeTargets (structure_of n) done → IsWellTyped env (place.Inside (at_groups j n names)) x → Gives (AreMadeTargets (structure_of n)) (with_made r c e done x)
unfolding with_made
target-gives-more env j n names r c e done (value v) hd h = target-more env.settings names (structure_of n) r c e done v hd h
target-gives-more env j n names r c e done (dataset d) hd h = tt

keeping-step : (env : Env) (j : Option Joined) (k : Option Keeping) (n : NodeTree) → IsMade env.settings env.known n → Gives (IsMade env.settings env.known) (keeping_step j k n)
keeping-step env j None n is = is
keeping-step env j (Some k) n is = keeping-gives env j n k is

renaming-step : (env : Env) (j : Option Joined) (rs : Option (List RenamePart)) (n : NodeTree) → IsMade env.settings env.known n → Gives (IsMade env.settings env.known) (renaming_step j rs n)
renaming-step env j None n is = is
renaming-step env j (Some rs) n is = renaming-gives env j n rs is

last-step : (env : Env) (j : Option Joined) (n : NodeTree) → IsMade env.settings env.known n → Gives (IsMade env.settings env.known) (last_step j n)
last-step env None n is = is
last-step env (Some j) n is = last-gives env j n is

end-gives : (env : Env) (at : Place) (j : Option Joined) (k : Option Keeping) (rs : Option (List RenamePart)) (n : NodeTree) → IsMade env.settings env.known n → Gives (IsWellTyped env at) (body_end j k rs n)
end-gives env at j k rs n is =
    then (IsMade env.settings env.known) (IsWellTyped env at) (keeping_step j k n >>= renaming_step j rs) (λ z. as_dataset (last_step j z))
    (then (IsMade env.settings env.known) (IsMade env.settings env.known) (keeping_step j k n) (renaming_step j rs) (keeping-step env j k n is) (renaming-step env j rs))
    (λ z iz. tree-gives env at (last_step j z) (last-step env j z iz))

-- the value of a target
target-gives : (env : Env) (j : Option Joined) (n : NodeTree) (e : Exp) (plain : Result TypedTree Rule) (operand : Result (Option TypedTree) Rule) → Gives (IsWellTyped env (place.Inside (at_points j n))) plain → IsShaped (structure_of n) → Gives (λ x. IfSome x (IsOperand (place.Inside (at_points j n)) (operand_exp e))) operand → Gives (IsTargetValue env.settings n) (calc_value env.settings (place.Inside (at_points j n)) e plain operand)
target-gives env j n e plain operand h shaped named = go e named
  where
    at : Place
    at = place.Inside (at_points j n)

    scalar-gives : Gives (IsTargetValue env.settings n) (plain >>= scalar_value)
    scalar-gives = then (IsWellTyped env at) (IsTargetValue env.settings n) plain scalar_value h one
      where
        one : (x : TypedTree) → IsWellTyped env at x → Gives (IsTargetValue env.settings n) (scalar_value x)
        one (value v) k = (k, tt)
        one (dataset m) k = tt

    analytic-gives : (e : Exp) → Gives (λ x. IfSome x (IsOperand at (operand_exp e))) operand → Gives (IsTargetValue env.settings n) (operand >>= target_typed env.settings at e)
    analytic-gives e named =
        then (λ x. IfSome x (IsOperand at (operand_exp e))) (IsTargetValue env.settings n) operand (target_typed env.settings at e) named
        (λ x k. weaker (λ v. IsAnalytic v × IsCallValue env.settings (structure_of n) v) (IsTargetValue env.settings n) (target_typed env.settings at e x) one
        (both IsAnalytic (IsCallValue env.settings (structure_of n)) (target_typed env.settings at e x) (target-analytic env.settings at e x) (target-over env.settings j n shaped e x k)))
      where
        one : (v : ValueTree) → IsAnalytic v × IsCallValue env.settings (structure_of n) v → IsTargetValue env.settings n v
        one (nodes.scalar e) k = absurd k.0
        one (nodes.analytic x) k = (k.1, k.0)

    go : (e : Exp) → Gives (λ x. IfSome x (IsOperand at (operand_exp e))) operand → Gives (IsTargetValue env.settings n) (calc_value env.settings at e plain operand)
    go (tree.aggregate_over f x o) named = analytic-gives (tree.aggregate_over f x o) named
    go (tree.value_window f x o) named = analytic-gives (tree.value_window f x o) named
    go (tree.shift f x m l o) named = analytic-gives (tree.shift f x m l o) named
    go (tree.rank o) named = analytic-gives (tree.rank o) named
    go e named = scalar-gives

-- without rulesets
pub no-rulings : (p : Settings) → AreSoundRulings p no_rulings
no-rulings p = record { datapoint = λ name o known are at x h. tt; check_hierarchy = λ name r m o known are at x h. tt; hierarchy = λ name r m i o known are at x h. tt }

-- where what calls give is sound
module _ (sight : Sight) (are : AreShaped sight.known) (calls : AreSoundRulings sight.settings sight.called) where
  abbrev env : Env
  env = names_in sight

  mutual
    pub sound : (at : Place) (e : Exp) → Gives (IsWellTyped env at) (typed sight at e)
    sound at (tree.if_then c a b) =
        then (AllByRecursion (IsWellTyped env at)) (IsWellTyped env at) (typed sight at c >>= behind []) (λ xs. typed sight at a >>= behind xs >>= λ ys. typed sight at b >>= behind ys >>= operator_form at op.If true true) (behind-gives env at [] (typed sight at c) tt (sound at c))
        (λ xs hx. then (AllByRecursion (IsWellTyped env at)) (IsWellTyped env at) (typed sight at a >>= behind xs) (λ ys. typed sight at b >>= behind ys >>= operator_form at op.If true true) (behind-gives env at xs (typed sight at a) hx (sound at a))
        (λ ys hy. operator-step env at op.If true true (typed sight at b >>= behind ys) (free-gives op.If true (λ es. refl) (typed sight at b >>= behind ys)) (behind-gives env at ys (typed sight at b) hy (sound at b))))
    sound at (tree.binary l o r) =
        then (AllByRecursion (IsWellTyped env at)) (IsWellTyped env at) (typed sight at l >>= behind []) (λ xs. typed sight at r >>= behind xs >>= operator_form at (of_binary o) true true) (behind-gives env at [] (typed sight at l) tt (sound at l))
        (λ xs hx. operator-step env at (of_binary o) true true (typed sight at r >>= behind xs) (free-gives (of_binary o) true (binary-free o) (typed sight at r >>= behind xs)) (behind-gives env at xs (typed sight at r) hx (sound at r)))
    sound at (tree.in_set e negated ls) = then (IsWellTyped env at) (IsWellTyped env at) (typed sight at e) (set_form sight.settings at negated ls) (sound at e) (set-form-gives env at negated ls)
    sound at (tree.unary o e) = operator-step env at (of_unary o) true true (typed sight at e >>= behind []) (free-gives (of_unary o) true (unary-free o) (typed sight at e >>= behind [])) (behind-gives env at [] (typed sight at e) tt (sound at e))
    sound at (tree.with_clause e c) = then (IsMade sight.settings sight.known) (IsWellTyped env at) (typed sight place.Outside e >>= dataset_in) (λ n. as_dataset (clause_typed sight n c)) (dataset-step env place.Outside (typed sight place.Outside e) (sound place.Outside e)) (λ n is. tree-gives env at (clause_typed sight n c) (sound-clause n c is))
    sound at (tree.member e c) = component-gives env at e c (typed sight place.Outside e >>= dataset_in >>= member_of c) (then (IsMade sight.settings sight.known) (IsWellTyped env at) (typed sight place.Outside e >>= dataset_in) (member_of c) (dataset-step env place.Outside (typed sight place.Outside e) (sound place.Outside e)) (member-gives env at c))
    sound at (tree.component c) = names-give env are at c
    sound at (tree.constant c) = constants-give env at c
    sound at (tree.brackets e) = sound at e
    sound at (tree.function f es) = operator-step env at (of_function f) (takes f (exps_length es)) (literals_fit sight.settings f es) (operands_typed sight at [] es) (functions-give sight at f es) (sound-operands at [] es tt)
    sound at (tree.aggregate f e g h) =
        then (λ x. IfSome x (IsWellTyped env (in_aggregate at)) × IfSome x (IsOperand at e)) (IsWellTyped env at) (maybe_typed sight (in_aggregate at) e) (grouped_of at f e g (is_some g || has_exp h) (λ groups. having_typed sight groups h))
        (both (λ x. IfSome x (IsWellTyped env (in_aggregate at))) (λ x. IfSome x (IsOperand at e)) (maybe_typed sight (in_aggregate at) e) (sound-maybe (in_aggregate at) e) (operand-named sight at e))
        (λ x is. grouped-gives env at f e g (is_some g || has_exp h) (λ groups. having_typed sight groups h) x is.0 is.1 (λ i. having-at sight (place.Inside i) h (sound-maybe (place.Inside i) h)))
    sound at (tree.aggregate_over f e o) = then (λ x. IfSome x (IsWellTyped env at)) (IsWellTyped env at) (maybe_typed sight at e) (over_typed sight.settings at (tree.aggregate_over f e o)) (sound-maybe at e) (over-gives env at (tree.aggregate_over f e o))
    sound at (tree.value_window f e o) = then (IsWellTyped env at) (IsWellTyped env at) (typed sight at e) (λ x. over_typed sight.settings at (tree.value_window f e o) (Some x)) (sound at e) (λ x h. over-gives env at (tree.value_window f e o) (Some x) h)
    sound at (tree.shift f e n l o) = then (IsWellTyped env at) (IsWellTyped env at) (typed sight at e) (λ x. over_typed sight.settings at (tree.shift f e n l o) (Some x)) (sound at e) (λ x h. over-gives env at (tree.shift f e n l o) (Some x) h)
    sound at (tree.rank o) = over-gives env at (tree.rank o) None tt
    sound at (tree.set_op f es) = then (AllByRecursion (IsWellTyped env place.Outside)) (IsWellTyped env at) (operands_typed sight place.Outside [] es) (sets_form f) (sound-operands place.Outside [] es tt) (λ xs h. sets-give env at f xs h)
    sound at (tree.difference f a b) =
        then (IsWellTyped env place.Outside) (IsWellTyped env at) (typed sight place.Outside a) (λ x. typed sight place.Outside b >>= difference_form f x) (sound place.Outside a)
        (λ x hx. then (IsWellTyped env place.Outside) (IsWellTyped env at) (typed sight place.Outside b) (difference_form f x) (sound place.Outside b) (λ y hy. difference-gives env at f x y hx hy))
    sound at (tree.exists_in a b r) =
        then (IsWellTyped env place.Outside) (IsWellTyped env at) (typed sight place.Outside a) (λ x. typed sight place.Outside b >>= exists_form r x) (sound place.Outside a)
        (λ x hx. then (IsWellTyped env place.Outside) (IsWellTyped env at) (typed sight place.Outside b) (exists_form r x) (sound place.Outside b) (λ y hy. exists-gives env at r x y hx hy))
    sound at (tree.time e call) = then (IsWellTyped env place.Outside) (IsWellTyped env at) (typed sight place.Outside e) (time_form sight.settings call) (sound place.Outside e) (λ x h. time-gives env at call x h)
    sound at (tree.check e err i o) =
        then (IsWellTyped env place.Outside) (IsWellTyped env at) (typed sight place.Outside e) (λ x. check_spec sight.settings err o >>= λ s. maybe_typed sight place.Outside i >>= check_form s x) (sound place.Outside e)
        (λ x hx. then (λ s. IsLevel sight.settings s.errorlevel) (IsWellTyped env at) (check_spec sight.settings err o) (λ s. maybe_typed sight place.Outside i >>= check_form s x) (spec-gives sight.settings err o)
        (λ s level. then (λ y. IfSome y (IsWellTyped env place.Outside)) (IsWellTyped env at) (maybe_typed sight place.Outside i) (check_form s x) (sound-maybe place.Outside i) (λ y hy. check-gives env at s x y level hx hy)))
    sound at (tree.check_datapoint e n o) = then (IsWellTyped env place.Outside) (IsWellTyped env at) (typed sight place.Outside e) (sight.called.datapoint env n o) (sound place.Outside e) (calls.datapoint n o sight.known are at)
    sound at (tree.check_hierarchy e n r m d o) = then (IsWellTyped env place.Outside) (IsWellTyped env at) (typed sight place.Outside e) (sight.called.check_hierarchy n r m o) (sound place.Outside e) (calls.check_hierarchy n r m o sight.known are at)
    sound at (tree.hierarchy e n r m i o) = then (IsWellTyped env place.Outside) (IsWellTyped env at) (typed sight place.Outside e) (sight.called.hierarchy n r m i o) (sound place.Outside e) (calls.hierarchy n r m i o sight.known are at)
    sound at (tree.join kind ps u f m k rs) =
        then (AreJoinOperands env) (IsWellTyped env at) (parts_typed sight [] ps >>= operands_in) (λ os. filtered_join sight (Some (joined_of kind os)) f kind u os >>= join_end sight (Some (joined_of kind os)) m k rs)
        (then (AreJoinParts env) (AreJoinOperands env) (parts_typed sight [] ps) operands_in (sound-parts [] ps (record { each = tt; apart = refl })) (operands-give env))
        (λ os hos. then (IsMade sight.settings sight.known) (IsWellTyped env at) (filtered_join sight (Some (joined_of kind os)) f kind u os) (join_end sight (Some (joined_of kind os)) m k rs)
        (then (IsMade sight.settings sight.known) (IsMade sight.settings sight.known) (joined_node kind u os) (λ n. filter_step sight (Some (joined_of kind os)) n f) (joined-gives env kind u os hos) (λ n is. sound-filter (Some (joined_of kind os)) n f is))
        (λ a ia. then (IsMade sight.settings sight.known) (IsWellTyped env at) (targets_step sight (Some (joined_of kind os)) a m) (body_end (Some (joined_of kind os)) k rs) (sound-step (Some (joined_of kind os)) a m ia) (end-gives env at (Some (joined_of kind os)) k rs)))

    sound-operands : (at : Place) (done : List TypedTree) (es : Exps) → AllByRecursion (IsWellTyped env at) done → Gives (AllByRecursion (IsWellTyped env at)) (operands_typed sight at done es)
    sound-operands at done tree.no_exps hd = hd
    sound-operands at done (tree.exp e es) hd = then (AllByRecursion (IsWellTyped env at)) (AllByRecursion (IsWellTyped env at)) (typed sight at e >>= behind done) (λ xs. operands_typed sight at xs es) (behind-gives env at done (typed sight at e) hd (sound at e)) (λ xs h. sound-operands at xs es h)

    sound-maybe : (at : Place) (e : MaybeExp) → Gives (λ x. IfSome x (IsWellTyped env at)) (maybe_typed sight at e)
    sound-maybe at tree.no_exp = tt
    sound-maybe at (tree.some_exp e) = then (IsWellTyped env at) (λ x. IfSome x (IsWellTyped env at)) (typed sight at e) (λ x. Ok (Some x)) (sound at e) (λ x h. h)

    sound-clause : (n : NodeTree) (c : ClauseTree) → IsMade sight.settings sight.known n → Gives (IsMade sight.settings sight.known) (clause_typed sight n c)
    sound-clause n (tree.filter e) is = then (IsWellTyped env (place.Inside (at_points None n))) (IsMade sight.settings sight.known) (typed sight (place.Inside (at_points None n)) e) (filter_form n) (sound (place.Inside (at_points None n)) e) (λ x h. filter-gives env None n x is h)
    sound-clause n (tree.targets m) is = sound-targets None n m is
    sound-clause n (tree.keeping k) is = keeping-gives env None n k is
    sound-clause n (tree.rename rs) is = renaming-gives env None n rs is
    sound-clause n (tree.sub ss) is = sub-gives env n ss is
    sound-clause n (tree.pivot id m) is = pivot-gives env id m n is
    sound-clause n (tree.unpivot id m) is = unpivot-gives env id m n is

    sound-targets : (j : Option Joined) (n : NodeTree) (m : TargetsTree) → IsMade sight.settings sight.known n → Gives (IsMade sight.settings sight.known) (targets_typed sight j n m)
    sound-targets j n (tree.calc cs) is = then (AreTargets sight.settings n) (IsMade sight.settings sight.known) (calcs_typed sight (place.Inside (at_points j n)) n [] cs) (calc_clause n) (sound-calcs j n (made-shaped sight.settings sight.known n is) [] cs (record { each = tt; apart = refl })) (λ items h. calc-gives env n items is h)
    sound-targets j n (tree.aggr cs g h) is =
        then (AreMadeTargets (structure_of n)) (IsMade sight.settings sight.known) (aggrs_typed sight (place.Inside (at_groups j n (grouping_of g (components_in n)))) [] cs) (λ made. grouping_typed (components_in n) g >>= λ names. having_typed sight (place.Inside (at_groups j n names)) h >>= aggr_clause g n made)
        (sound-aggrs j n (grouping_of g (components_in n)) [] cs tt)
        (λ made targets. then (λ names. names ≡ grouping_of g (components_in n)) (IsMade sight.settings sight.known) (grouping_typed (components_in n) g) (λ names. having_typed sight (place.Inside (at_groups j n names)) h >>= aggr_clause g n made) (grouping-is (components_in n) g)
        (λ names same. then (λ o. IfSome o (IsCondition sight.settings (place.Inside (at_groups j n names)))) (IsMade sight.settings sight.known) (having_typed sight (place.Inside (at_groups j n names)) h) (aggr_clause g n made) (having-at sight (place.Inside (at_groups j n names)) h (sound-maybe (place.Inside (at_groups j n names)) h))
        (λ o condition. aggr-gives env g n made o is targets (subst (λ ns. IsHaving env n ns o) same condition))))

    sound-aggrs : (j : Option Joined) (n : NodeTree) (names : List (List ℕ)) (done : List Made) (cs : Calcs) → AreMadeTargets (structure_of n) done → Gives (AreMadeTargets (structure_of n)) (aggrs_typed sight (place.Inside (at_groups j n names)) done cs)
    sound-aggrs j n names done tree.no_calcs hd = hd
    sound-aggrs j n names done (tree.calc_part r c e cs) hd =
        after (AreMadeTargets (structure_of n)) (aggr_name done c) (λ u. typed sight (place.Inside (at_groups j n names)) e >>= with_made r c e done >>= λ made. aggrs_typed sight (place.Inside (at_groups j n names)) made cs)
        (λ u. then (AreMadeTargets (structure_of n)) (AreMadeTargets (structure_of n)) (typed sight (place.Inside (at_groups j n names)) e >>= with_made r c e done) (λ made. aggrs_typed sight (place.Inside (at_groups j n names)) made cs)
        (then (IsWellTyped env (place.Inside (at_groups j n names))) (AreMadeTargets (structure_of n)) (typed sight (place.Inside (at_groups j n names)) e) (with_made r c e done) (sound (place.Inside (at_groups j n names)) e) (λ x h. target-gives-more env j n names r c e done x hd h))
        (λ made h. sound-aggrs j n names made cs h))

    sound-calcs : (j : Option Joined) (n : NodeTree) → IsShaped (structure_of n) → (done : List ItemTree) (cs : Calcs) → AreTargets sight.settings n done → Gives (AreTargets sight.settings n) (calcs_typed sight (place.Inside (at_points j n)) n done cs)
    sound-calcs j n shaped done tree.no_calcs hd = hd
    sound-calcs j n shaped done (tree.calc_part r c e cs) hd =
        then (λ u. ArePassed (target_tests (components_in n) (item_names done) (name_of c))) (AreTargets sight.settings n) (calc_name n done c) (λ u. calc_value sight.settings (place.Inside (at_points j n)) e (typed sight (place.Inside (at_points j n)) e) (over_operand sight (place.Inside (at_points j n)) e) >>= with_item r c done >>= λ items. calcs_typed sight (place.Inside (at_points j n)) n items cs) (name-free n done c)
        (λ u passed. then (AreTargets sight.settings n) (AreTargets sight.settings n) (calc_value sight.settings (place.Inside (at_points j n)) e (typed sight (place.Inside (at_points j n)) e) (over_operand sight (place.Inside (at_points j n)) e) >>= with_item r c done) (λ items. calcs_typed sight (place.Inside (at_points j n)) n items cs)
        (then (IsTargetValue sight.settings n) (AreTargets sight.settings n) (calc_value sight.settings (place.Inside (at_points j n)) e (typed sight (place.Inside (at_points j n)) e) (over_operand sight (place.Inside (at_points j n)) e)) (with_item r c done)
        (target-gives env j n e (typed sight (place.Inside (at_points j n)) e) (over_operand sight (place.Inside (at_points j n)) e) (sound (place.Inside (at_points j n)) e) shaped (call-operand-named sight (at_points j n) e))
        (λ v is. item-more sight.settings n r c done v hd passed is))
        (λ items h. sound-calcs j n shaped items cs h))

    sound-parts : (done : List PartTyped) (ps : Parts) → AreJoinParts env done → Gives (AreJoinParts env) (parts_typed sight done ps)
    sound-parts done tree.no_parts hd = hd
    sound-parts done (tree.join_part e alias ps) hd =
        then (AreJoinParts env) (AreJoinParts env) (typed sight place.Outside e >>= with_part done e alias) (λ xs. parts_typed sight xs ps)
        (then (IsWellTyped env place.Outside) (AreJoinParts env) (typed sight place.Outside e) (with_part done e alias) (sound place.Outside e) (λ x h. part-gives env done e alias x hd h))
        (λ xs h. sound-parts xs ps h)

    sound-filter : (j : Option Joined) (n : NodeTree) (e : MaybeExp) → IsMade sight.settings sight.known n → Gives (IsMade sight.settings sight.known) (filter_step sight j n e)
    sound-filter j n tree.no_exp is = is
    sound-filter j n (tree.some_exp e) is = then (IsWellTyped env (place.Inside (at_points j n))) (IsMade sight.settings sight.known) (typed sight (place.Inside (at_points j n)) e) (filter_form n) (sound (place.Inside (at_points j n)) e) (λ x h. filter-gives env j n x is h)

    sound-step : (j : Option Joined) (n : NodeTree) (m : MaybeTargets) → IsMade sight.settings sight.known n → Gives (IsMade sight.settings sight.known) (targets_step sight j n m)
    sound-step j n tree.no_targets is = is
    sound-step j n (tree.some_targets m) is = sound-targets j n m is
