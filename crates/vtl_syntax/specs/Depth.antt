-- How deep trees are. A leaf has depth 1, and each operator, call, clause, join, member, choice and pair of brackets one more than its deepest part.
use Rattle.std.specs.Prelude.{ℕ, suc, ◌+◌, max, List, [], ◌∷◌, length, Option, None, Some}
use Rattle.vtl_syntax.specs.Trees.{Exp, if_then, binary, in_set, unary, with_clause, member, component, constant, brackets, function, aggregate, aggregate_over, value_window, shift, rank, set_op, difference, exists_in, time, check, check_datapoint, check_hierarchy, hierarchy, join, Exps, no_exps, exp, MaybeExp, no_exp, some_exp, ClauseTree, filter, targets, keeping, rename, sub, pivot, unpivot, TargetsTree, calc, aggr, MaybeTargets, no_targets, some_targets, Calcs, no_calcs, calc_part, Parts, no_parts, join_part, PointRuleTree, point_rule, StatementTree, assignment, datapoint, hierarchical}
use Rattle.vtl_syntax.specs.declared.parts.GroupPart.{GroupPart}
use Rattle.vtl_syntax.specs.declared.parts.OverPart.{OverPart}
use Rattle.vtl_syntax.specs.declared.statements.HierRule.{HierRule}
use Rattle.vtl_syntax.specs.declared.word_groups.Addition.{Addition}

-- the names of a grouping are leaves
abbrev pub group_depth : Option GroupPart → ℕ
group_depth None = 0
group_depth (Some g) = 1

-- and so are those of `partition by` and `order by`
abbrev pub names_depth : {P O : Type 0} → Option P → Option O → ℕ
names_depth None None = 0
names_depth None (Some o) = 1
names_depth (Some p) o = 1

abbrev pub over_depth : OverPart → ℕ
over_depth o = names_depth o.partition o.order

abbrev mutual
  pub exp_depth : Exp → ℕ
  exp_depth (if_then c a b) = suc (max (exp_depth c) (max (exp_depth a) (exp_depth b)))
  exp_depth (binary l op r) = suc (max (exp_depth l) (exp_depth r))
  exp_depth (in_set e negated ls) = suc (exp_depth e)
  exp_depth (unary op e) = suc (exp_depth e)
  exp_depth (with_clause e c) = suc (max (exp_depth e) (clause_depth c))
  exp_depth (member e c) = suc (exp_depth e)
  exp_depth (component c) = 1
  exp_depth (constant c) = 1
  exp_depth (brackets e) = suc (exp_depth e)
  exp_depth (function f es) = suc (exps_depth es)
  exp_depth (aggregate f e g h) = suc (max (maybe_depth e) (max (group_depth g) (maybe_depth h)))
  exp_depth (aggregate_over f e o) = suc (max (maybe_depth e) (over_depth o))
  exp_depth (value_window f e o) = suc (exp_depth e)
  exp_depth (shift f e n l o) = suc (exp_depth e)
  exp_depth (rank o) = suc (over_depth o)
  exp_depth (set_op f es) = suc (exps_depth es)
  exp_depth (difference f a b) = suc (max (exp_depth a) (exp_depth b))
  exp_depth (exists_in a b r) = suc (max (exp_depth a) (exp_depth b))
  exp_depth (time e call) = suc (exp_depth e)
  exp_depth (check e err i o) = suc (max (exp_depth e) (maybe_depth i))
  exp_depth (check_datapoint e n o) = suc (exp_depth e)
  exp_depth (check_hierarchy e n r m d o) = suc (exp_depth e)
  exp_depth (hierarchy e n r m i o) = suc (exp_depth e)
  exp_depth (join k ps u f m kept rs) = suc (max (parts_depth ps) (max (maybe_depth f) (maybe_targets_depth m)))

  pub exps_depth : Exps → ℕ
  exps_depth no_exps = 0
  exps_depth (exp e es) = max (exp_depth e) (exps_depth es)

  pub maybe_depth : MaybeExp → ℕ
  maybe_depth no_exp = 0
  maybe_depth (some_exp e) = exp_depth e

  -- names and literals of a clause are leaves, so no deeper than its operand
  pub clause_depth : ClauseTree → ℕ
  clause_depth (filter e) = exp_depth e
  clause_depth (targets m) = targets_depth m
  clause_depth (keeping k) = 0
  clause_depth (rename rs) = 0
  clause_depth (sub ss) = 0
  clause_depth (pivot a b) = 0
  clause_depth (unpivot a b) = 0

  pub targets_depth : TargetsTree → ℕ
  targets_depth (calc cs) = calcs_depth cs
  targets_depth (aggr cs g h) = max (calcs_depth cs) (maybe_depth h)

  pub maybe_targets_depth : MaybeTargets → ℕ
  maybe_targets_depth no_targets = 0
  maybe_targets_depth (some_targets m) = targets_depth m

  pub calcs_depth : Calcs → ℕ
  calcs_depth no_calcs = 0
  calcs_depth (calc_part r c e cs) = max (exp_depth e) (calcs_depth cs)

  pub parts_depth : Parts → ℕ
  parts_depth no_parts = 0
  parts_depth (join_part e a ps) = max (exp_depth e) (parts_depth ps)

abbrev pub option_depth : Option Exp → ℕ
option_depth None = 0
option_depth (Some e) = exp_depth e

-- `when` and `then` add nothing
abbrev pub point_rule_depth : PointRuleTree → ℕ
point_rule_depth (point_rule n w e err) = max (option_depth w) (exp_depth e)

abbrev pub sign_depth : Option Addition → ℕ
sign_depth None = 0
sign_depth (Some s) = 1

-- the comparison and each sign, a leading one too, count one
abbrev pub hier_rule_depth : HierRule → ℕ
hier_rule_depth r = 2 + sign_depth r.sign + length r.others

-- the depth of the deepest item
abbrev pub deepest : {A : Type 0} → (A → ℕ) → List A → ℕ
deepest depth [] = 0
deepest depth (x ∷ xs) = max (depth x) (deepest depth xs)

abbrev pub statement_depth : StatementTree → ℕ
statement_depth (assignment n k e) = exp_depth e
statement_depth (datapoint n vs rs last) = deepest point_rule_depth rs
statement_depth (hierarchical n i rs last) = deepest hier_rule_depth rs

-- the depth that a statement may have
abbrev pub depth_limit : ℕ
depth_limit = 128
