-- Typing depends only on the structures of the names that are read.
use Rattle.std.proofs.Common.{◌≡◌, ℕ, suc, ◌+◌, Bool, true, false, cond, not, ◌||◌, ◌&&◌, List, [], ◌∷◌, ◌++◌, length, map, Option, Some, None, is_some, option_map, Result, Ok, Err, refl, sym, subst, ap, ◌∙◌}
use Rattle.std.specs.List.{AllByRecursion}
use Rattle.std.specs.Map.{lookup}
use Rattle.std.specs.Option.{IfSome}
use Rattle.std.specs.Prelude.{unwrap_or}
use Rattle.vtl_decimal.specs.Settings.{Settings}
use Rattle.vtl_cell.specs.declared.operator.ScalarOp.TheVariants as op
use Rattle.vtl_lists.specs.Results.{◌>>=◌}
use Rattle.vtl_lists.proofs.Alls.{all_append, all_back, all_front}
use Rattle.check_faults.specs.InTurn.{in_turn}
use Rattle.check_faults.specs.Rules.{ruled}
use Rattle.check_faults.specs.declared.rules.Rule.{Rule}
use Rattle.check_faults.specs.declared.rules.Rule.TheVariants as rule
use Rattle.vtl_syntax.specs.Trees as tree
use Rattle.vtl_syntax.specs.Trees.{Calcs, ClauseTree, Exp, Exps, MaybeExp, MaybeTargets, Parts, PointRuleTree, ScriptTree, StatementTree, TargetsTree}
use Rattle.vtl_syntax.specs.declared.parts.Comp.{Comp}
use Rattle.vtl_syntax.specs.declared.parts.Comp.TheVariants as comp
use Rattle.vtl_syntax.specs.declared.parts.ErrorPart.{ErrorPart}
use Rattle.vtl_syntax.specs.declared.parts.GroupPart.{GroupPart}
use Rattle.vtl_syntax.specs.declared.word_groups.AggregateName.{AggregateName}
use Rattle.vtl_syntax.specs.declared.word_groups.CheckOut.TheVariants as out
use Rattle.vtl_tree.specs.CompExp.{CompExp}
use Rattle.vtl_tree.specs.Names.{name_of}
use Rattle.vtl_tree.specs.Structure.{same_name}
use Rattle.vtl_tree.specs.Structures.{Named}
use Rattle.vtl_tree.specs.declared.structure.Structure.{Structure}
use Rattle.vtl_tree.specs.Trees as nodes
use Rattle.vtl_tree.specs.Trees.{ItemTree, NodeTree, structure_of}
use Rattle.check_values.specs.Groupings.{grouping_of, grouping_typed}
use Rattle.check_values.specs.Literals.{literals_fit}
use Rattle.check_values.specs.Operators.{exps_length, of_binary, of_function, of_unary, takes}
use Rattle.check_operators.specs.Operators.{operator_form, set_form}
use Rattle.check_operators.specs.Places.{Env, Written, at_groups, at_points, in_aggregate, known_by, member_inside, member_written, name_typed, regrouped}
use Rattle.check_operators.specs.Sets.{check_form, check_spec, difference_form, exists_form, level_typed, member_of, sets_form}
use Rattle.check_operators.specs.Typed.{TypedTree, value, dataset, components_in, condition_in, dataset_in}
use Rattle.check_operators.specs.declared.places.Inside.{Inside}
use Rattle.check_operators.specs.declared.places.Joined.{Joined}
use Rattle.check_operators.specs.declared.places.Place.{Place}
use Rattle.check_operators.specs.declared.places.Place.TheVariants as place
use Rattle.check_groups.specs.Aggregates.{aggregate_node, count_call, aggregate_value}
use Rattle.check_groups.specs.Windowed.{over_typed}
use Rattle.check_clauses.specs.Clauses.{filter_form}
use Rattle.check_clauses.specs.JoinOperands.{PartTyped, joined_node, joined_of, operands_in, with_part}
use Rattle.check_clauses.specs.Targets.{aggr_clause, aggr_name, calc_clause, calc_name, with_item, with_made}
use Rattle.check_clauses.specs.declared.targets.Made.{Made}
use Rattle.check_rules.specs.Calls.{sees_names, variables_known}
use Rattle.check_rules.specs.Definitions.{datapoint_defined, hierarchical_defined}
use Rattle.check_expressions.specs.Rulesets.{Definitions, antecedent_typed, at_variables, checked_points, condition_typed, datapoint_typed, definition_named, is_defined, point_definition, point_rule_typed, point_rules_typed, rulings_of}
use Rattle.check_expressions.specs.Rulings.{Rulings, Sight, names_in, no_rulings, sight_of}
use Rattle.check_expressions.specs.Typing.{Having, aggrs_typed, as_dataset, behind, body_end, calc_value, calcs_typed, clause_typed, filter_step, filtered_join, grouped_of, has_exp, having_typed, join_end, maybe_typed, operands_typed, or_component, over_operand, own_groups, parts_typed, targets_step, targets_typed, typed}
use Rattle.vtl_check.specs.Checked.{env_over}
use Rattle.vtl_check.specs.Count.{count}
use Rattle.vtl_check.specs.Script.{Standing, assigned, at, defined, is_taken, is_too_much, script_typed, statements_typed, value_typed, with_result, with_ruleset}
use Rattle.vtl_check.proofs.KnownLemmas.{has_name-lookup}
use Rattle.check_laws.specs.Reads.{all_read, antecedent_reads, calcs_read, clause_reads, is_inside, maybe_read, name_read, names_read, parts_read, rules_read, script_names, statement_reads, step_reads, targets_read}
use Rattle.check_laws.specs.Scripts.{AreCalledAlike, AreKnownAlike}
use Rattle.check_laws.specs.SoundRulings.{env_of}
use Rattle.vtl_meaning.proofs.Lists as lists
use Rattle.check_laws.proofs.SoundRulings.{looked}
use Rattle.check_times.specs.Timed.{time_form}

same-each : {A B : Type 0} (s : Result A Rule) (f g : A → Result B Rule) → ((x : A) → f x ≡ g x) → (s >>= f) ≡ (s >>= g)
same-each (Ok x) f g h = h x
same-each (Err broken) f g h = refl

same-then : {A B : Type 0} (r s : Result A Rule) (f g : A → Result B Rule) → r ≡ s → ((x : A) → f x ≡ g x) → (r >>= f) ≡ (s >>= g)
same-then r s f g e h = ap (λ r. r >>= f) e ∙ same-each s f g h

same-first : {A B : Type 0} (r s : Result A Rule) (f : A → Result B Rule) → r ≡ s → (r >>= f) ≡ (s >>= f)
same-first r s f e = ap (λ r. r >>= f) e

same-rest : {A B : Type 0} (r : Result A Rule) (f g : A → Result B Rule) → ((x : A) → f x ≡ g x) → (r >>= f) ≡ (r >>= g)
same-rest r f g h = same-each r f g h

member-alike : (at : Place) (e : Exp) (c : Comp) (known other : Named) (r s : Result TypedTree Rule) → (AreKnownAlike known other (names_read false e) → r ≡ s) → AreKnownAlike known other (cond (is_inside at && is_some (member_written e c)) [] (names_read false e)) → or_component (member_inside at e c) r ≡ or_component (member_inside at e c) s
member-alike place.Outside e c known other r s f h = f h
member-alike (place.Inside i) e c known other r s f h = go (member_written e c) h
  where
    go : (o : Option Written) → AreKnownAlike known other (cond (is_some o) [] (names_read false e)) → or_component (option_map (λ w. (i, w)) o) r ≡ or_component (option_map (λ w. (i, w)) o) s
    go None h = f h
    go (Some w) h = refl

own-alike : (at : Place) (g : Option GroupPart) (u v : Having) → ((i : Inside) → u (place.Inside i) ≡ v (place.Inside i)) → own_groups at g u ≡ own_groups at g v
own-alike place.Outside g u v e = refl
own-alike (place.Inside i) g u v e =
    same-rest (grouping_typed i.components g) (λ names. u (place.Inside (regrouped i names)) >>= λ c. Ok tt) (λ names. v (place.Inside (regrouped i names)) >>= λ c. Ok tt)
    (λ names. same-first (u (place.Inside (regrouped i names))) (v (place.Inside (regrouped i names))) (λ c. Ok tt) (e (regrouped i names)))

grouped-alike : (at : Place) (f : AggregateName) (w : MaybeExp) (g : Option GroupPart) (grouped : Bool) (u v : Having) → ((i : Inside) → u (place.Inside i) ≡ v (place.Inside i)) → (x : Option TypedTree) → grouped_of at f w g grouped u x ≡ grouped_of at f w g grouped v x
grouped-alike at f w g grouped u v e (Some (dataset n)) =
    same-rest (grouping_typed (components_in n) g) (λ names. u (place.Inside (at_groups None n names)) >>= aggregate_node f g n) (λ names. v (place.Inside (at_groups None n names)) >>= aggregate_node f g n)
    (λ names. same-first (u (place.Inside (at_groups None n names))) (v (place.Inside (at_groups None n names))) (aggregate_node f g n) (e (at_groups None n names)))
grouped-alike at f w g grouped u v e (Some (value x)) = same-first (own_groups at g u) (own_groups at g v) (λ k. aggregate_value at f grouped w x) (own-alike at g u v e)
grouped-alike at f w g grouped u v e None = same-first (own_groups at g u) (own_groups at g v) (λ k. count_call at f grouped) (own-alike at g u v e)

-- the operand of an aggregate stands inside where the aggregate does
same-inside : (at : Place) → is_inside at ≡ is_inside (in_aggregate at)
same-inside place.Outside = refl
same-inside (place.Inside i) = refl

-- The typing over one list of structures is that over another one, where the names that are read stand for the same, and calls give
-- the same.
module _ (p : Settings) (known other : Named) (called : Rulings) (calls : AreCalledAlike p known other called) where
  abbrev one : Sight
  one = sight_of (env_of p known) called

  abbrev two : Sight
  two = sight_of (env_of p other) called

  abbrev Alike : List (List ℕ) → Type 0
  Alike names = AreKnownAlike known other names

  abbrev IsAlike : List ℕ → Type 0
  IsAlike name = lookup (same_name name) known ≡ lookup (same_name name) other

  front : (xs ys : List (List ℕ)) → Alike (xs ++ ys) → Alike xs
  front xs ys h = all_front IsAlike xs ys h

  back : (xs ys : List (List ℕ)) → Alike (xs ++ ys) → Alike ys
  back xs ys h = all_back IsAlike xs ys h

  name-alike : (at : Place) (c : Comp) → Alike (name_read (is_inside at) c) → name_typed (names_in one) at c ≡ name_typed (names_in two) at c
  name-alike place.Outside (comp.Name name) h = ap (known_by name) h.0
  name-alike place.Outside (comp.Quoted name) h = refl
  name-alike (place.Inside i) c h = refl

  mutual
    pub typed-alike : (at : Place) (e : Exp) → Alike (names_read (is_inside at) e) → typed one at e ≡ typed two at e
    typed-alike at (tree.if_then c a b) h =
        same-then (typed one at c >>= behind []) (typed two at c >>= behind []) (λ xs. typed one at a >>= behind xs >>= λ ys. typed one at b >>= behind ys >>= operator_form at op.If true true) (λ xs. typed two at a >>= behind xs >>= λ ys. typed two at b >>= behind ys >>= operator_form at op.If true true)
        (same-first (typed one at c) (typed two at c) (behind []) (typed-alike at c (front (names_read (is_inside at) c) (names_read (is_inside at) a ++ names_read (is_inside at) b) h)))
        (λ xs. same-then (typed one at a >>= behind xs) (typed two at a >>= behind xs) (λ ys. typed one at b >>= behind ys >>= operator_form at op.If true true) (λ ys. typed two at b >>= behind ys >>= operator_form at op.If true true)
        (same-first (typed one at a) (typed two at a) (behind xs) (typed-alike at a (front (names_read (is_inside at) a) (names_read (is_inside at) b) (back (names_read (is_inside at) c) (names_read (is_inside at) a ++ names_read (is_inside at) b) h))))
        (λ ys. ap (λ r. r >>= behind ys >>= operator_form at op.If true true) (typed-alike at b (back (names_read (is_inside at) a) (names_read (is_inside at) b) (back (names_read (is_inside at) c) (names_read (is_inside at) a ++ names_read (is_inside at) b) h)))))
    typed-alike at (tree.binary l o r) h =
        same-then (typed one at l >>= behind []) (typed two at l >>= behind []) (λ xs. typed one at r >>= behind xs >>= operator_form at (of_binary o) true true) (λ xs. typed two at r >>= behind xs >>= operator_form at (of_binary o) true true)
        (same-first (typed one at l) (typed two at l) (behind []) (typed-alike at l (front (names_read (is_inside at) l) (names_read (is_inside at) r) h)))
        (λ xs. ap (λ t. t >>= behind xs >>= operator_form at (of_binary o) true true) (typed-alike at r (back (names_read (is_inside at) l) (names_read (is_inside at) r) h)))
    typed-alike at (tree.in_set e negated ls) h = same-first (typed one at e) (typed two at e) (set_form p at negated ls) (typed-alike at e h)
    typed-alike at (tree.unary o e) h = ap (λ t. t >>= behind [] >>= operator_form at (of_unary o) true true) (typed-alike at e h)
    typed-alike at (tree.with_clause e c) h =
        same-then (typed one place.Outside e >>= dataset_in) (typed two place.Outside e >>= dataset_in) (λ n. as_dataset (clause_typed one n c)) (λ n. as_dataset (clause_typed two n c))
        (same-first (typed one place.Outside e) (typed two place.Outside e) dataset_in (typed-alike place.Outside e (front (names_read false e) (clause_reads c) h)))
        (λ n. ap as_dataset (clause-alike n c (back (names_read false e) (clause_reads c) h)))
    typed-alike at (tree.member e c) h =
        member-alike at e c known other (typed one place.Outside e >>= dataset_in >>= member_of c) (typed two place.Outside e >>= dataset_in >>= member_of c) (λ k. ap (λ t. t >>= dataset_in >>= member_of c) (typed-alike place.Outside e k)) h
    typed-alike at (tree.component c) h = name-alike at c h
    typed-alike at (tree.constant c) h = refl
    typed-alike at (tree.brackets e) h = typed-alike at e h
    typed-alike at (tree.function f es) h = same-first (operands_typed one at [] es) (operands_typed two at [] es) (operator_form at (of_function f) (takes f (exps_length es)) (literals_fit p f es)) (operands-alike at [] es h)
    typed-alike at (tree.aggregate f e g x) h =
        same-then (maybe_typed one (in_aggregate at) e) (maybe_typed two (in_aggregate at) e) (grouped_of at f e g (is_some g || has_exp x) (λ groups. having_typed one groups x)) (grouped_of at f e g (is_some g || has_exp x) (λ groups. having_typed two groups x))
        (maybe-alike (in_aggregate at) e (subst (λ b. Alike (maybe_read b e)) (same-inside at) (front (maybe_read (is_inside at) e) (maybe_read true x) h)))
        (grouped-alike at f e g (is_some g || has_exp x) (λ groups. having_typed one groups x) (λ groups. having_typed two groups x) (λ i. having-alike (place.Inside i) x (back (maybe_read (is_inside at) e) (maybe_read true x) h)))
    typed-alike at (tree.aggregate_over f e o) h = same-first (maybe_typed one at e) (maybe_typed two at e) (over_typed p at (tree.aggregate_over f e o)) (maybe-alike at e h)
    typed-alike at (tree.value_window f e o) h = same-first (typed one at e) (typed two at e) (λ x. over_typed p at (tree.value_window f e o) (Some x)) (typed-alike at e h)
    typed-alike at (tree.shift f e n l o) h = same-first (typed one at e) (typed two at e) (λ x. over_typed p at (tree.shift f e n l o) (Some x)) (typed-alike at e h)
    typed-alike at (tree.rank o) h = refl
    typed-alike at (tree.set_op f es) h = same-first (operands_typed one place.Outside [] es) (operands_typed two place.Outside [] es) (sets_form f) (operands-alike place.Outside [] es h)
    typed-alike at (tree.difference f a b) h =
        same-then (typed one place.Outside a) (typed two place.Outside a) (λ x. typed one place.Outside b >>= difference_form f x) (λ x. typed two place.Outside b >>= difference_form f x) (typed-alike place.Outside a (front (names_read false a) (names_read false b) h))
        (λ x. same-first (typed one place.Outside b) (typed two place.Outside b) (difference_form f x) (typed-alike place.Outside b (back (names_read false a) (names_read false b) h)))
    typed-alike at (tree.exists_in a b r) h =
        same-then (typed one place.Outside a) (typed two place.Outside a) (λ x. typed one place.Outside b >>= exists_form r x) (λ x. typed two place.Outside b >>= exists_form r x) (typed-alike place.Outside a (front (names_read false a) (names_read false b) h))
        (λ x. same-first (typed one place.Outside b) (typed two place.Outside b) (exists_form r x) (typed-alike place.Outside b (back (names_read false a) (names_read false b) h)))
    typed-alike at (tree.time e call) h = same-first (typed one place.Outside e) (typed two place.Outside e) (time_form p call) (typed-alike place.Outside e h)
    typed-alike at (tree.check e err i o) h =
        same-then (typed one place.Outside e) (typed two place.Outside e) (λ x. check_spec p err o >>= λ s. maybe_typed one place.Outside i >>= check_form s x) (λ x. check_spec p err o >>= λ s. maybe_typed two place.Outside i >>= check_form s x) (typed-alike place.Outside e (front (names_read false e) (maybe_read false i) h))
        (λ x. same-rest (check_spec p err o) (λ s. maybe_typed one place.Outside i >>= check_form s x) (λ s. maybe_typed two place.Outside i >>= check_form s x) (λ s. same-first (maybe_typed one place.Outside i) (maybe_typed two place.Outside i) (check_form s x) (maybe-alike place.Outside i (back (names_read false e) (maybe_read false i) h))))
    typed-alike at (tree.check_datapoint e n o) h = same-then (typed one place.Outside e) (typed two place.Outside e) (called.datapoint (names_in one) n o) (called.datapoint (names_in two) n o) (typed-alike place.Outside e h) (calls n o)
    typed-alike at (tree.check_hierarchy e n r m d o) h = same-first (typed one place.Outside e) (typed two place.Outside e) (called.check_hierarchy n r m o) (typed-alike place.Outside e h)
    typed-alike at (tree.hierarchy e n r m i o) h = same-first (typed one place.Outside e) (typed two place.Outside e) (called.hierarchy n r m i o) (typed-alike place.Outside e h)
    typed-alike at (tree.join kind ps u f m k rs) h =
        same-then (parts_typed one [] ps >>= operands_in) (parts_typed two [] ps >>= operands_in) (λ os. filtered_join one (Some (joined_of kind os)) f kind u os >>= join_end one (Some (joined_of kind os)) m k rs) (λ os. filtered_join two (Some (joined_of kind os)) f kind u os >>= join_end two (Some (joined_of kind os)) m k rs)
        (same-first (parts_typed one [] ps) (parts_typed two [] ps) operands_in (parts-alike [] ps (front (parts_read ps) (maybe_read true f ++ step_reads m) h)))
        (λ os. same-then (filtered_join one (Some (joined_of kind os)) f kind u os) (filtered_join two (Some (joined_of kind os)) f kind u os) (join_end one (Some (joined_of kind os)) m k rs) (join_end two (Some (joined_of kind os)) m k rs)
        (same-rest (joined_node kind u os) (λ n. filter_step one (Some (joined_of kind os)) n f) (λ n. filter_step two (Some (joined_of kind os)) n f) (λ n. filter-alike (Some (joined_of kind os)) n f (front (maybe_read true f) (step_reads m) (back (parts_read ps) (maybe_read true f ++ step_reads m) h))))
        (λ a. same-first (targets_step one (Some (joined_of kind os)) a m) (targets_step two (Some (joined_of kind os)) a m) (body_end (Some (joined_of kind os)) k rs) (step-alike (Some (joined_of kind os)) a m (back (maybe_read true f) (step_reads m) (back (parts_read ps) (maybe_read true f ++ step_reads m) h)))))

    operands-alike : (at : Place) (done : List TypedTree) (es : Exps) → Alike (all_read (is_inside at) es) → operands_typed one at done es ≡ operands_typed two at done es
    operands-alike at done tree.no_exps h = refl
    operands-alike at done (tree.exp e es) h =
        same-then (typed one at e >>= behind done) (typed two at e >>= behind done) (λ xs. operands_typed one at xs es) (λ xs. operands_typed two at xs es) (same-first (typed one at e) (typed two at e) (behind done) (typed-alike at e (front (names_read (is_inside at) e) (all_read (is_inside at) es) h)))
        (λ xs. operands-alike at xs es (back (names_read (is_inside at) e) (all_read (is_inside at) es) h))

    maybe-alike : (at : Place) (e : MaybeExp) → Alike (maybe_read (is_inside at) e) → maybe_typed one at e ≡ maybe_typed two at e
    maybe-alike at tree.no_exp h = refl
    maybe-alike at (tree.some_exp e) h = same-first (typed one at e) (typed two at e) (λ x. Ok (Some x)) (typed-alike at e h)

    having-alike : (at : Place) (e : MaybeExp) → Alike (maybe_read (is_inside at) e) → having_typed one at e ≡ having_typed two at e
    having-alike at tree.no_exp h = refl
    having-alike at (tree.some_exp e) h = ap (λ t. t >>= condition_in >>= λ c. Ok (Some c)) (typed-alike at e h)

    clause-alike : (n : NodeTree) (c : ClauseTree) → Alike (clause_reads c) → clause_typed one n c ≡ clause_typed two n c
    clause-alike n (tree.filter e) h = same-first (typed one (place.Inside (at_points None n)) e) (typed two (place.Inside (at_points None n)) e) (filter_form n) (typed-alike (place.Inside (at_points None n)) e h)
    clause-alike n (tree.targets m) h = targets-alike None n m h
    clause-alike n (tree.keeping k) h = refl
    clause-alike n (tree.rename rs) h = refl
    clause-alike n (tree.sub ss) h = refl
    clause-alike n (tree.pivot id m) h = refl
    clause-alike n (tree.unpivot id m) h = refl

    targets-alike : (j : Option Joined) (n : NodeTree) (m : TargetsTree) → Alike (targets_read m) → targets_typed one j n m ≡ targets_typed two j n m
    targets-alike j n (tree.calc cs) h = same-first (calcs_typed one (place.Inside (at_points j n)) n [] cs) (calcs_typed two (place.Inside (at_points j n)) n [] cs) (calc_clause n) (calcs-alike j n [] cs h)
    targets-alike j n (tree.aggr cs g x) h =
        same-then (aggrs_typed one (place.Inside (at_groups j n (grouping_of g (components_in n)))) [] cs) (aggrs_typed two (place.Inside (at_groups j n (grouping_of g (components_in n)))) [] cs)
        (λ made. grouping_typed (components_in n) g >>= λ names. having_typed one (place.Inside (at_groups j n names)) x >>= aggr_clause g n made) (λ made. grouping_typed (components_in n) g >>= λ names. having_typed two (place.Inside (at_groups j n names)) x >>= aggr_clause g n made)
        (aggrs-alike (at_groups j n (grouping_of g (components_in n))) [] cs (front (calcs_read cs) (maybe_read true x) h))
        (λ made. same-rest (grouping_typed (components_in n) g) (λ names. having_typed one (place.Inside (at_groups j n names)) x >>= aggr_clause g n made) (λ names. having_typed two (place.Inside (at_groups j n names)) x >>= aggr_clause g n made)
        (λ names. same-first (having_typed one (place.Inside (at_groups j n names)) x) (having_typed two (place.Inside (at_groups j n names)) x) (aggr_clause g n made) (having-alike (place.Inside (at_groups j n names)) x (back (calcs_read cs) (maybe_read true x) h))))

    calcs-alike : (j : Option Joined) (n : NodeTree) (done : List ItemTree) (cs : Calcs) → Alike (calcs_read cs) → calcs_typed one (place.Inside (at_points j n)) n done cs ≡ calcs_typed two (place.Inside (at_points j n)) n done cs
    calcs-alike j n done tree.no_calcs h = refl
    calcs-alike j n done (tree.calc_part r c e cs) h =
        same-rest (calc_name n done c) (λ u. calc_value p (place.Inside (at_points j n)) e (typed one (place.Inside (at_points j n)) e) (over_operand one (place.Inside (at_points j n)) e) >>= with_item r c done >>= λ items. calcs_typed one (place.Inside (at_points j n)) n items cs) (λ u. calc_value p (place.Inside (at_points j n)) e (typed two (place.Inside (at_points j n)) e) (over_operand two (place.Inside (at_points j n)) e) >>= with_item r c done >>= λ items. calcs_typed two (place.Inside (at_points j n)) n items cs)
        (λ u. same-then (calc_value p (place.Inside (at_points j n)) e (typed one (place.Inside (at_points j n)) e) (over_operand one (place.Inside (at_points j n)) e) >>= with_item r c done) (calc_value p (place.Inside (at_points j n)) e (typed two (place.Inside (at_points j n)) e) (over_operand two (place.Inside (at_points j n)) e) >>= with_item r c done) (λ items. calcs_typed one (place.Inside (at_points j n)) n items cs) (λ items. calcs_typed two (place.Inside (at_points j n)) n items cs)
        (ap (λ t. calc_value p (place.Inside (at_points j n)) e t (over_operand one (place.Inside (at_points j n)) e) >>= with_item r c done) (typed-alike (place.Inside (at_points j n)) e (front (names_read true e) (calcs_read cs) h))
        ∙ ap (λ t. calc_value p (place.Inside (at_points j n)) e (typed two (place.Inside (at_points j n)) e) t >>= with_item r c done) (over-alike (place.Inside (at_points j n)) e (front (names_read true e) (calcs_read cs) h)))
        (λ items. calcs-alike j n items cs (back (names_read true e) (calcs_read cs) h)))

    over-alike : (at : Place) (e : Exp) → Alike (names_read (is_inside at) e) → over_operand one at e ≡ over_operand two at e
    over-alike at (tree.aggregate_over f e o) h = maybe-alike at e h
    over-alike at (tree.value_window f e o) h = same-first (typed one at e) (typed two at e) (λ x. Ok (Some x)) (typed-alike at e h)
    over-alike at (tree.shift f e n l o) h = same-first (typed one at e) (typed two at e) (λ x. Ok (Some x)) (typed-alike at e h)
    over-alike at e h = refl

    aggrs-alike : (i : Inside) (done : List Made) (cs : Calcs) → Alike (calcs_read cs) → aggrs_typed one (place.Inside i) done cs ≡ aggrs_typed two (place.Inside i) done cs
    aggrs-alike i done tree.no_calcs h = refl
    aggrs-alike i done (tree.calc_part r c e cs) h =
        same-rest (aggr_name done c) (λ u. typed one (place.Inside i) e >>= with_made r c e done >>= λ made. aggrs_typed one (place.Inside i) made cs) (λ u. typed two (place.Inside i) e >>= with_made r c e done >>= λ made. aggrs_typed two (place.Inside i) made cs)
        (λ u. same-then (typed one (place.Inside i) e >>= with_made r c e done) (typed two (place.Inside i) e >>= with_made r c e done) (λ made. aggrs_typed one (place.Inside i) made cs) (λ made. aggrs_typed two (place.Inside i) made cs)
        (same-first (typed one (place.Inside i) e) (typed two (place.Inside i) e) (with_made r c e done) (typed-alike (place.Inside i) e (front (names_read true e) (calcs_read cs) h)))
        (λ made. aggrs-alike i made cs (back (names_read true e) (calcs_read cs) h)))

    parts-alike : (done : List PartTyped) (ps : Parts) → Alike (parts_read ps) → parts_typed one done ps ≡ parts_typed two done ps
    parts-alike done tree.no_parts h = refl
    parts-alike done (tree.join_part e alias ps) h =
        same-then (typed one place.Outside e >>= with_part done e alias) (typed two place.Outside e >>= with_part done e alias) (λ xs. parts_typed one xs ps) (λ xs. parts_typed two xs ps) (same-first (typed one place.Outside e) (typed two place.Outside e) (with_part done e alias) (typed-alike place.Outside e (front (names_read false e) (parts_read ps) h)))
        (λ xs. parts-alike xs ps (back (names_read false e) (parts_read ps) h))

    filter-alike : (j : Option Joined) (n : NodeTree) (e : MaybeExp) → Alike (maybe_read true e) → filter_step one j n e ≡ filter_step two j n e
    filter-alike j n tree.no_exp h = refl
    filter-alike j n (tree.some_exp e) h = same-first (typed one (place.Inside (at_points j n)) e) (typed two (place.Inside (at_points j n)) e) (filter_form n) (typed-alike (place.Inside (at_points j n)) e h)

    step-alike : (j : Option Joined) (n : NodeTree) (m : MaybeTargets) → Alike (step_reads m) → targets_step one j n m ≡ targets_step two j n m
    step-alike j n tree.no_targets h = refl
    step-alike j n (tree.some_targets m) h = targets-alike j n m h

-- ---- conditions
abbrev IsSame : Named → Named → List ℕ → Type 0
IsSame known other name = lookup (same_name name) known ≡ lookup (same_name name) other

module _ (p : Settings) (known other : Named) (a : NodeTree) (names : List (List ℕ)) where
  abbrev here : Place
  here = place.Inside (at_variables names a)

  condition-alike : (e : Exp) → AreKnownAlike known other (names_read true e) → condition_typed (env_of p known) here e ≡ condition_typed (env_of p other) here e
  condition-alike e h = ap (λ t. t >>= condition_in >>= λ c. ruled ((rule.UnknownComponent, not (sees_names c)) ∷ []) c) (typed-alike p known other no_rulings (λ name o x. refl) here e h)

  antecedent-alike : (e : Option Exp) → AreKnownAlike known other (antecedent_reads e) → antecedent_typed (env_of p known) here e ≡ antecedent_typed (env_of p other) here e
  antecedent-alike None h = refl
  antecedent-alike (Some e) h = ap (λ t. t >>= λ c. Ok (Some c)) (condition-alike e h)

  rule-alike : (name : Option (List ℕ)) (antecedent : Option Exp) (holds : Exp) (error : ErrorPart) → AreKnownAlike known other (antecedent_reads antecedent ++ names_read true holds) → point_rule_typed (env_of p known) here (tree.point_rule name antecedent holds error) ≡ point_rule_typed (env_of p other) here (tree.point_rule name antecedent holds error)
  rule-alike name antecedent holds error h =
      same-then (antecedent_typed (env_of p known) here antecedent) (antecedent_typed (env_of p other) here antecedent) (rest (env_of p known)) (rest (env_of p other)) (antecedent-alike antecedent (all_front (IsSame known other) (antecedent_reads antecedent) (names_read true holds) h))
      (λ c. ap (λ t. t >>= λ e. level_typed p error.level >>= λ level. Ok (record { name = name; antecedent = c; condition = e; errorcode = error.code; errorlevel = level })) (condition-alike holds (all_back (IsSame known other) (antecedent_reads antecedent) (names_read true holds) h)))
    where
      rest : Env → Option CompExp → Result nodes.PointRuleTree Rule
      rest env c = condition_typed env here holds >>= λ e. level_typed p error.level >>= λ level. Ok (record { name = name; antecedent = c; condition = e; errorcode = error.code; errorlevel = level })

  rules-alike : (done : List nodes.PointRuleTree) (rules : List PointRuleTree) → AreKnownAlike known other (rules_read rules) → in_turn (λ done r. point_rule_typed (env_of p known) here r) done rules ≡ in_turn (λ done r. point_rule_typed (env_of p other) here r) done rules
  rules-alike done [] h = refl
  rules-alike done (tree.point_rule name antecedent holds error ∷ rules) h =
      same-then (point_rule_typed (env_of p known) here (tree.point_rule name antecedent holds error)) (point_rule_typed (env_of p other) here (tree.point_rule name antecedent holds error))
      (λ t. in_turn (λ done r. point_rule_typed (env_of p known) here r) (done ++ t ∷ []) rules) (λ t. in_turn (λ done r. point_rule_typed (env_of p other) here r) (done ++ t ∷ []) rules)
      (rule-alike name antecedent holds error (all_front (IsSame known other) (antecedent_reads antecedent ++ names_read true holds) (rules_read rules) h))
      (λ t. rules-alike (done ++ t ∷ []) rules (all_back (IsSame known other) (antecedent_reads antecedent ++ names_read true holds) (rules_read rules) h))

-- the names that definitions read stand for the same
abbrev AreReadAlike : Named → Named → StatementTree → Type 0
AreReadAlike known other s = AreKnownAlike known other (statement_reads s)

called-alike : (p : Settings) (known other : Named) (ds : Definitions) → AllByRecursion (λ d. AreReadAlike known other d.1) ds → AreCalledAlike p known other (rulings_of ds)
called-alike p known other ds h name o x = go (definition_named ds name) (looked (AreReadAlike known other) (same_name name) ds h) x
  where
    go : (definition : Option StatementTree) → IfSome definition (AreReadAlike known other) → (x : TypedTree) → (point_definition definition >>= λ d. dataset_in x >>= datapoint_typed (env_of p known) o d) ≡ (point_definition definition >>= λ d. dataset_in x >>= datapoint_typed (env_of p other) o d)
    go None h x = refl
    go (Some (tree.assignment name kind e)) h x = refl
    go (Some (tree.hierarchical name item rules last)) h x = refl
    go (Some (tree.datapoint name variables rules last)) h (value e) = refl
    go (Some (tree.datapoint name variables rules last)) h (dataset a) =
        same-rest (variables_known (map name_of variables) (structure_of a)) (λ names. point_rules_typed (env_of p known) (place.Inside (at_variables names a)) rules >>= checked_points (unwrap_or o out.Invalid) a names)
        (λ names. point_rules_typed (env_of p other) (place.Inside (at_variables names a)) rules >>= checked_points (unwrap_or o out.Invalid) a names) (λ names. ap (λ t. t >>= checked_points (unwrap_or o out.Invalid) a names) (rules-alike p known other a names [] rules h))

-- ---- scripts
abbrev or-end : Option Structure → Option Structure → Option Structure
or-end (Some s) rest = Some s
or-end None rest = rest

end-looked : (test : List ℕ → Bool) (xs : Named) (name : List ℕ) (s : Structure) → lookup test (xs ++ (name, s) ∷ []) ≡ or-end (lookup test xs) (cond (test name) (Some s) None)
end-looked test [] name s = refl
end-looked test (x ∷ xs) name s = go (test x.0) (end-looked test xs name s)
  where
    go : (b : Bool) → lookup test (xs ++ (name, s) ∷ []) ≡ or-end (lookup test xs) (cond (test name) (Some s) None) → cond b (Some x.1) (lookup test (xs ++ (name, s) ∷ [])) ≡ or-end (cond b (Some x.1) (lookup test xs)) (cond (test name) (Some s) None)
    go true ih = refl
    go false ih = ih

more-alike : (known other : Named) (name : List ℕ) (s : Structure) (names : List (List ℕ)) → AreKnownAlike known other names → AreKnownAlike (known ++ (name, s) ∷ []) (other ++ (name, s) ∷ []) names
more-alike known other name s names h =
    lists.weaker (λ q. lookup (same_name q) known ≡ lookup (same_name q) other) (λ q. lookup (same_name q) (known ++ (name, s) ∷ []) ≡ lookup (same_name q) (other ++ (name, s) ∷ [])) names
    (λ q e. end-looked (same_name q) known name s ∙ ap (λ o. or-end o (cond (same_name q name) (Some s) None)) e ∙ sym (end-looked (same_name q) other name s)) h

-- statements over either
abbrev standing : Settings → Named → Definitions → Standing
standing p known ds = record { settings = p; known = known; definitions = ds }

taken-alike : (p : Settings) (known other : Named) (ds : Definitions) (name : List ℕ) → lookup (same_name name) known ≡ lookup (same_name name) other → is_taken (standing p known ds) name ≡ is_taken (standing p other ds) name
taken-alike p known other ds name same = ap (λ b. b || is_defined name ds) (has_name-lookup name known ∙ ap is_some same ∙ sym (has_name-lookup name other))

assigned-alike : (p : Settings) (known other : Named) (ds : Definitions) (before : ℕ) (name : List ℕ) (e : Exp) → lookup (same_name name) known ≡ lookup (same_name name) other → AllByRecursion (λ d. AreReadAlike known other d.1) ds → AreKnownAlike known other (names_read false e) → assigned (standing p known ds) before name e ≡ assigned (standing p other ds) before name e
unfolding assigned
assigned-alike p known other ds before name e same rulesets h =
    ap (λ b. ruled ((rule.NameTaken, b) ∷ []) (tt {0}) >>= λ u. value_typed (standing p known ds) e >>= λ n. ruled ((rule.TooManyNodes, is_too_much before (count n)) ∷ []) n) (taken-alike p known other ds name same)
    ∙ same-rest (ruled ((rule.NameTaken, is_taken (standing p other ds) name) ∷ []) (tt {0})) (λ u. value_typed (standing p known ds) e >>= λ n. ruled ((rule.TooManyNodes, is_too_much before (count n)) ∷ []) n) (λ u. value_typed (standing p other ds) e >>= λ n. ruled ((rule.TooManyNodes, is_too_much before (count n)) ∷ []) n)
    (λ u. ap (λ t. t >>= dataset_in >>= λ n. ruled ((rule.TooManyNodes, is_too_much before (count n)) ∷ []) n) (typed-alike p known other (rulings_of ds) (called-alike p known other ds rulesets) place.Outside e h))

defined-alike : (p : Settings) (known other : Named) (ds : Definitions) (before : ℕ) (name : List ℕ) (rules : ℕ) (fits : Result (Unit {0}) Rule) → lookup (same_name name) known ≡ lookup (same_name name) other → defined (standing p known ds) before name rules fits ≡ defined (standing p other ds) before name rules fits
unfolding defined
defined-alike p known other ds before name rules fits same = ap (λ b. ruled ((rule.NameTaken, b) ∷ []) (tt {0}) >>= λ u. fits >>= λ u. ruled ((rule.TooManyNodes, is_too_much before rules) ∷ []) (tt {0})) (taken-alike p known other ds name same)

at-each : {A B : Type 0} (i : ℕ) (s : Result A Rule) (f g : A → Result B (ℕ × ℕ)) → ((x : A) → f x ≡ g x) → at i s f ≡ at i s g
at-each i (Ok x) f g h = h x
at-each i (Err broken) f g h = refl

at-same : {A B : Type 0} (i : ℕ) (r s : Result A Rule) (f g : A → Result B (ℕ × ℕ)) → r ≡ s → ((x : A) → f x ≡ g x) → at i r f ≡ at i s g
at-same i r s f g e h = ap (λ r. at i r f) e ∙ at-each i s f g h

rest-alike : (known other : Named) (xs ys : List (List ℕ)) → AreKnownAlike known other (xs ++ ys) → AreKnownAlike known other ys
rest-alike known other xs ys h = all_back (IsSame known other) xs ys h

first-alike : (known other : Named) (xs ys : List (List ℕ)) → AreKnownAlike known other (xs ++ ys) → AreKnownAlike known other xs
first-alike known other xs ys h = all_front (IsSame known other) xs ys h

statements-alike : (p : Settings) (known other : Named) (ds : Definitions) (i before : ℕ) (done : List NodeTree) (ss : ScriptTree) → AllByRecursion (λ d. AreReadAlike known other d.1) ds → AreKnownAlike known other (script_names ss) → statements_typed (standing p known ds) i before done ss ≡ statements_typed (standing p other ds) i before done ss
statements-alike p known other ds i before done [] rulesets h = refl
statements-alike p known other ds i before done (tree.assignment name kind e ∷ ss) rulesets h =
    at-same i (assigned (standing p known ds) before name e) (assigned (standing p other ds) before name e)
    (λ n. statements_typed (with_result (standing p known ds) name n) (suc i) (before + count n) (done ++ n ∷ []) ss) (λ n. statements_typed (with_result (standing p other ds) name n) (suc i) (before + count n) (done ++ n ∷ []) ss)
    (assigned-alike p known other ds before name e h.0 rulesets (first-alike known other (names_read false e) (script_names ss) h.1))
    (λ n. statements-alike p (known ++ (name, structure_of n) ∷ []) (other ++ (name, structure_of n) ∷ []) ds (suc i) (before + count n) (done ++ n ∷ []) ss
    (lists.weaker (λ d. AreReadAlike known other d.1) (λ d. AreReadAlike (known ++ (name, structure_of n) ∷ []) (other ++ (name, structure_of n) ∷ []) d.1) ds (λ d k. more-alike known other name (structure_of n) (statement_reads d.1) k) rulesets)
    (more-alike known other name (structure_of n) (script_names ss) (rest-alike known other (names_read false e) (script_names ss) h.1)))
statements-alike p known other ds i before done (tree.datapoint name variables rules last ∷ ss) rulesets h =
    at-same i (defined (standing p known ds) before name (length rules) (datapoint_defined p variables rules)) (defined (standing p other ds) before name (length rules) (datapoint_defined p variables rules))
    (λ u. statements_typed (with_ruleset (standing p known ds) name (tree.datapoint name variables rules last)) (suc i) (before + length rules) done ss) (λ u. statements_typed (with_ruleset (standing p other ds) name (tree.datapoint name variables rules last)) (suc i) (before + length rules) done ss)
    (defined-alike p known other ds before name (length rules) (datapoint_defined p variables rules) h.0)
    (λ u. statements-alike p known other (ds ++ (name, tree.datapoint name variables rules last) ∷ []) (suc i) (before + length rules) done ss
    (all_append (λ d. AreReadAlike known other d.1) ds ((name, tree.datapoint name variables rules last) ∷ []) rulesets (first-alike known other (rules_read rules) (script_names ss) h.1, tt)) (rest-alike known other (rules_read rules) (script_names ss) h.1))
statements-alike p known other ds i before done (tree.hierarchical name item rules last ∷ ss) rulesets h =
    at-same i (defined (standing p known ds) before name (length rules) (hierarchical_defined p rules)) (defined (standing p other ds) before name (length rules) (hierarchical_defined p rules))
    (λ u. statements_typed (with_ruleset (standing p known ds) name (tree.hierarchical name item rules last)) (suc i) (before + length rules) done ss) (λ u. statements_typed (with_ruleset (standing p other ds) name (tree.hierarchical name item rules last)) (suc i) (before + length rules) done ss)
    (defined-alike p known other ds before name (length rules) (hierarchical_defined p rules) h.0)
    (λ u. statements-alike p known other (ds ++ (name, tree.hierarchical name item rules last) ∷ []) (suc i) (before + length rules) done ss (all_append (λ d. AreReadAlike known other d.1) ds ((name, tree.hierarchical name item rules last) ∷ []) rulesets (tt, tt)) h.1)

pub script-alike : (p : Settings) (known other : Named) (ss : ScriptTree) → AreKnownAlike known other (script_names ss) → script_typed (env_over p known) ss ≡ script_typed (env_over p other) ss
script-alike p known other ss h = statements-alike p known other [] 1 0 [] ss tt h
