-- The typing of expressions: parts in written order, operands before operators; the first part that breaks a rule is the fault.
use Rattle.std.specs.Prelude.{Bool, true, false, ◌||◌, List, [], ◌∷◌, ◌++◌, Option, Some, None, Result, Ok}
use Rattle.std.specs.Option.{is_some}
use Rattle.vtl_decimal.specs.Settings.{Settings}
use Rattle.vtl_cell.specs.declared.operator.ScalarOp.TheVariants as op
use Rattle.vtl_syntax.specs.Trees as tree
use Rattle.vtl_syntax.specs.Trees.{Calcs, ClauseTree, Exp, Exps, MaybeExp, MaybeTargets, Parts, TargetsTree}
use Rattle.vtl_syntax.specs.declared.parts.Comp.{Comp}
use Rattle.vtl_syntax.specs.declared.parts.ErrorPart.{ErrorPart}
use Rattle.vtl_syntax.specs.declared.parts.GroupPart.{GroupPart}
use Rattle.vtl_syntax.specs.declared.parts.Keeping.{Keeping}
use Rattle.vtl_syntax.specs.declared.parts.RenamePart.{RenamePart}
use Rattle.vtl_syntax.specs.declared.word_groups.AggregateName.{AggregateName}
use Rattle.vtl_syntax.specs.declared.word_groups.BasicOut.{BasicOut}
use Rattle.vtl_syntax.specs.declared.word_groups.DifferenceName.{DifferenceName}
use Rattle.vtl_syntax.specs.declared.word_groups.Retain.{Retain}
use Rattle.vtl_syntax.specs.declared.word_groups.JoinKind.{JoinKind}
use Rattle.vtl_tree.specs.CompExp.{CompExp}
use Rattle.vtl_tree.specs.Trees.{ItemTree, NodeTree, OperandTree, ValueTree, scalar}
use Rattle.vtl_lists.specs.Results.{◌>>=◌}
use Rattle.check_values.specs.Groupings.{grouping_of, grouping_typed}
use Rattle.check_faults.specs.declared.rules.Rule.{Rule}
use Rattle.check_values.specs.Literals.{literals_fit}
use Rattle.check_values.specs.Operators.{exps_length, of_binary, of_function, of_unary, takes}
use Rattle.check_operators.specs.Operators.{operator_form, set_form}
use Rattle.check_operators.specs.Places.{Written, at_groups, at_points, constant_form, in_aggregate, member_inside, name_typed, regrouped, written_typed}
use Rattle.check_operators.specs.Sets.{check_form, check_spec, difference_form, exists_form, member_of, sets_form}
use Rattle.check_operators.specs.Typed.{TypedTree, value, dataset, components_in, condition_in, dataset_in, value_in}
use Rattle.check_operators.specs.declared.places.Inside.{Inside}
use Rattle.check_operators.specs.declared.places.Joined.{Joined}
use Rattle.check_operators.specs.declared.places.Place.{Place}
use Rattle.check_operators.specs.declared.places.Place.TheVariants as place
use Rattle.check_groups.specs.Aggregates.{aggregate_node, count_call, aggregate_value}
use Rattle.check_groups.specs.Windowed.{over_typed, target_typed}
use Rattle.check_times.specs.Timed.{time_form}
use Rattle.check_clauses.specs.Clauses.{filter_form, keeping_form, pivot_of, renaming_form, sub_form, unpivot_of}
use Rattle.check_clauses.specs.JoinOperands.{PartTyped, joined_node, joined_of, last_naming, operands_in, with_part}
use Rattle.check_clauses.specs.Targets.{aggr_clause, aggr_name, calc_clause, calc_name, with_item, with_made}
use Rattle.check_clauses.specs.declared.targets.Made.{Made}
use Rattle.check_expressions.specs.Rulings.{Sight, names_in}

-- one more operand behind others
abbrev pub behind : List TypedTree → TypedTree → Result (List TypedTree) Rule
behind done x = Ok (done ++ x ∷ [])

abbrev pub as_dataset : Result NodeTree Rule → Result TypedTree Rule
as_dataset typing = typing >>= λ n. Ok (dataset n)

abbrev pub scalar_value : TypedTree → Result ValueTree Rule
scalar_value x = value_in x >>= λ v. Ok (scalar v)

abbrev pub has_exp : MaybeExp → Bool
has_exp tree.no_exp = false
has_exp (tree.some_exp e) = true

-- clauses of a join's body that may be left out
abbrev pub keeping_step : Option Joined → Option Keeping → NodeTree → Result NodeTree Rule
keeping_step j None n = Ok n
keeping_step j (Some k) n = keeping_form j n k

abbrev pub renaming_step : Option Joined → Option (List RenamePart) → NodeTree → Result NodeTree Rule
renaming_step j None n = Ok n
renaming_step j (Some rs) n = renaming_form j n rs

-- `operand#component` where it is a component of the place, or else a measure of a data set
abbrev pub or_component : Option (Inside × Written) → Result TypedTree Rule → Result TypedTree Rule
or_component (Some w) rest = written_typed w.0 w.1
or_component None rest = rest

-- How the condition of groups is typed at their place.
abbrev pub Having : Type 0
Having = Place → Result (Option CompExp) Rule

-- the groups that an aggregate of no data set has of its own: the names of the grouping, and the condition. They stand for
-- components of the place; outside there are none, and nothing is looked up.
abbrev pub own_groups : Place → Option GroupPart → Having → Result (Unit {0}) Rule
own_groups place.Outside g having = Ok tt
own_groups (place.Inside i) g having = grouping_typed i.components g >>= λ names. having (place.Inside (regrouped i names)) >>= λ c. Ok tt

-- an aggregate behind its operand, which is written so: the names of the grouping, the condition, and then the call
abbrev pub grouped_of : Place → AggregateName → MaybeExp → Option GroupPart → (grouped : Bool) → Having → Option TypedTree → Result TypedTree Rule
grouped_of at f e g grouped having (Some (dataset n)) = grouping_typed (components_in n) g >>= λ names. having (place.Inside (at_groups None n names)) >>= aggregate_node f g n
grouped_of at f e g grouped having (Some (value v)) = own_groups at g having >>= λ u. aggregate_value at f grouped e v
grouped_of at f e g grouped having None = own_groups at g having >>= λ u. count_call at f grouped

-- the value of a target of `calc`, by how it is typed, and how the operand of an analytic call is: such a call may be the whole
abbrev pub calc_value : Settings → Place → Exp → Result TypedTree Rule → Result (Option TypedTree) Rule → Result ValueTree Rule
calc_value p at (tree.aggregate_over f e o) plain operand = operand >>= target_typed p at (tree.aggregate_over f e o)
calc_value p at (tree.value_window f e o) plain operand = operand >>= target_typed p at (tree.value_window f e o)
calc_value p at (tree.shift f e n l o) plain operand = operand >>= target_typed p at (tree.shift f e n l o)
calc_value p at (tree.rank o) plain operand = operand >>= target_typed p at (tree.rank o)
calc_value p at e plain operand = plain >>= scalar_value

abbrev pub last_step : Option Joined → NodeTree → Result NodeTree Rule
last_step None n = Ok n
last_step (Some j) n = last_naming j n

-- what follows the parts of a join's body that hold expressions
abbrev pub body_end : Option Joined → Option Keeping → Option (List RenamePart) → NodeTree → Result TypedTree Rule
body_end j k rs n = keeping_step j k n >>= renaming_step j rs >>= λ z. as_dataset (last_step j z)

abbrev mutual
  pub typed : Sight → Place → Exp → Result TypedTree Rule
  typed env at (tree.if_then c a b) = typed env at c >>= behind [] >>= λ xs. typed env at a >>= behind xs >>= λ ys. typed env at b >>= behind ys >>= operator_form at op.If true true
  typed env at (tree.binary l o r) = typed env at l >>= behind [] >>= λ xs. typed env at r >>= behind xs >>= operator_form at (of_binary o) true true
  typed env at (tree.in_set e negated ls) = typed env at e >>= set_form env.settings at negated ls
  typed env at (tree.unary o e) = typed env at e >>= behind [] >>= operator_form at (of_unary o) true true
  typed env at (tree.with_clause e c) = typed env place.Outside e >>= dataset_in >>= λ n. as_dataset (clause_typed env n c)
  typed env at (tree.member e c) = or_component (member_inside at e c) (typed env place.Outside e >>= dataset_in >>= member_of c)
  typed env at (tree.component c) = name_typed (names_in env) at c
  typed env at (tree.constant c) = constant_form env.settings c
  typed env at (tree.brackets e) = typed env at e
  typed env at (tree.function f es) = operands_typed env at [] es >>= operator_form at (of_function f) (takes f (exps_length es)) (literals_fit env.settings f es)
  typed env at (tree.aggregate f e g h) = maybe_typed env (in_aggregate at) e >>= grouped_of at f e g (is_some g || has_exp h) (λ groups. having_typed env groups h)
  typed env at (tree.aggregate_over f e o) = maybe_typed env at e >>= over_typed env.settings at (tree.aggregate_over f e o)
  typed env at (tree.value_window f e o) = typed env at e >>= λ x. over_typed env.settings at (tree.value_window f e o) (Some x)
  typed env at (tree.shift f e n l o) = typed env at e >>= λ x. over_typed env.settings at (tree.shift f e n l o) (Some x)
  typed env at (tree.rank o) = over_typed env.settings at (tree.rank o) None
  typed env at (tree.set_op f es) = operands_typed env place.Outside [] es >>= sets_form f
  typed env at (tree.difference f a b) = typed env place.Outside a >>= λ x. typed env place.Outside b >>= difference_form f x
  typed env at (tree.exists_in a b r) = typed env place.Outside a >>= λ x. typed env place.Outside b >>= exists_form r x
  typed env at (tree.time e call) = typed env place.Outside e >>= time_form env.settings call
  typed env at (tree.check e err i o) = typed env place.Outside e >>= λ x. check_spec env.settings err o >>= λ s. maybe_typed env place.Outside i >>= check_form s x
  typed env at (tree.check_datapoint e n o) = typed env place.Outside e >>= env.called.datapoint (names_in env) n o
  typed env at (tree.check_hierarchy e n r m d o) = typed env place.Outside e >>= env.called.check_hierarchy n r m o
  typed env at (tree.hierarchy e n r m i o) = typed env place.Outside e >>= env.called.hierarchy n r m i o
  typed env at (tree.join kind ps u f m k rs) =
      parts_typed env [] ps >>= operands_in
      >>= λ os. (joined_node kind u os >>= λ n. filter_step env (Some (joined_of kind os)) n f)
      >>= λ a. targets_step env (Some (joined_of kind os)) a m >>= body_end (Some (joined_of kind os)) k rs

  -- operands behind others
  pub operands_typed : Sight → Place → List TypedTree → Exps → Result (List TypedTree) Rule
  operands_typed env at done tree.no_exps = Ok done
  operands_typed env at done (tree.exp e es) = typed env at e >>= behind done >>= λ xs. operands_typed env at xs es

  -- an operand, if there is one
  pub maybe_typed : Sight → Place → MaybeExp → Result (Option TypedTree) Rule
  maybe_typed env at tree.no_exp = Ok None
  maybe_typed env at (tree.some_exp e) = typed env at e >>= λ x. Ok (Some x)

  -- the condition of groups
  pub having_typed : Sight → Place → MaybeExp → Result (Option CompExp) Rule
  having_typed env at tree.no_exp = Ok None
  having_typed env at (tree.some_exp e) = typed env at e >>= condition_in >>= λ c. Ok (Some c)

  pub clause_typed : Sight → NodeTree → ClauseTree → Result NodeTree Rule
  clause_typed env n (tree.filter e) = typed env (place.Inside (at_points None n)) e >>= filter_form n
  clause_typed env n (tree.targets m) = targets_typed env None n m
  clause_typed env n (tree.keeping k) = keeping_form None n k
  clause_typed env n (tree.rename rs) = renaming_form None n rs
  clause_typed env n (tree.sub ss) = sub_form env.settings n ss
  clause_typed env n (tree.pivot id m) = pivot_of id m n
  clause_typed env n (tree.unpivot id m) = unpivot_of id m n

  pub targets_typed : Sight → Option Joined → NodeTree → TargetsTree → Result NodeTree Rule
  targets_typed env j n (tree.calc cs) = calcs_typed env (place.Inside (at_points j n)) n [] cs >>= calc_clause n
  targets_typed env j n (tree.aggr cs g h) =
      aggrs_typed env (place.Inside (at_groups j n (grouping_of g (components_in n)))) [] cs >>= λ made. grouping_typed (components_in n) g
      >>= λ names. having_typed env (place.Inside (at_groups j n names)) h >>= aggr_clause g n made

  -- targets of `calc` behind others: each name, then its value
  pub calcs_typed : Sight → Place → NodeTree → List ItemTree → Calcs → Result (List ItemTree) Rule
  calcs_typed env at n done tree.no_calcs = Ok done
  calcs_typed env at n done (tree.calc_part r c e cs) = calc_name n done c >>= λ u. calc_value env.settings at e (typed env at e) (over_operand env at e) >>= with_item r c done >>= λ items. calcs_typed env at n items cs

  -- the operand of an analytic call, if there is one
  pub over_operand : Sight → Place → Exp → Result (Option TypedTree) Rule
  over_operand env at (tree.aggregate_over f e o) = maybe_typed env at e
  over_operand env at (tree.value_window f e o) = typed env at e >>= λ x. Ok (Some x)
  over_operand env at (tree.shift f e n l o) = typed env at e >>= λ x. Ok (Some x)
  over_operand env at e = Ok None

  -- targets of `aggr` behind others
  pub aggrs_typed : Sight → Place → List Made → Calcs → Result (List Made) Rule
  aggrs_typed env at done tree.no_calcs = Ok done
  aggrs_typed env at done (tree.calc_part r c e cs) = aggr_name done c >>= λ u. typed env at e >>= with_made r c e done >>= λ made. aggrs_typed env at made cs

  -- operands of a join behind others
  pub parts_typed : Sight → List PartTyped → Parts → Result (List PartTyped) Rule
  parts_typed env done tree.no_parts = Ok done
  parts_typed env done (tree.join_part e alias ps) = typed env place.Outside e >>= with_part done e alias >>= λ xs. parts_typed env xs ps

  -- the parts of a join's body that hold expressions
  pub filter_step : Sight → Option Joined → NodeTree → MaybeExp → Result NodeTree Rule
  filter_step env j n tree.no_exp = Ok n
  filter_step env j n (tree.some_exp e) = typed env (place.Inside (at_points j n)) e >>= filter_form n

  pub targets_step : Sight → Option Joined → NodeTree → MaybeTargets → Result NodeTree Rule
  targets_step env j n tree.no_targets = Ok n
  targets_step env j n (tree.some_targets m) = targets_typed env j n m

-- ---- parts of the walk
abbrev pub next_typed : Sight → Place → List TypedTree → Exp → Result (List TypedTree) Rule
next_typed env at done e = typed env at e >>= behind done

abbrev pub filter_typed : Sight → Option Joined → NodeTree → Exp → Result NodeTree Rule
filter_typed env j n e = typed env (place.Inside (at_points j n)) e >>= filter_form n

abbrev pub check_typed : Sight → ErrorPart → Option BasicOut → MaybeExp → TypedTree → Result TypedTree Rule
check_typed env err o i x = check_spec env.settings err o >>= λ s. maybe_typed env place.Outside i >>= check_form s x

abbrev pub difference_typed : Sight → DifferenceName → TypedTree → Exp → Result TypedTree Rule
difference_typed env f x e = typed env place.Outside e >>= difference_form f x

abbrev pub exists_typed : Sight → Option Retain → TypedTree → Exp → Result TypedTree Rule
exists_typed env r x e = typed env place.Outside e >>= exists_form r x

-- a joined set with the filter of the body
abbrev pub filtered_join : Sight → Option Joined → MaybeExp → JoinKind → Option (List Comp) → List OperandTree → Result NodeTree Rule
filtered_join env j f kind u os = joined_node kind u os >>= λ n. filter_step env j n f

-- the rest of the body
abbrev pub join_end : Sight → Option Joined → MaybeTargets → Option Keeping → Option (List RenamePart) → NodeTree → Result TypedTree Rule
join_end env j m k rs a = targets_step env j a m >>= body_end j k rs
