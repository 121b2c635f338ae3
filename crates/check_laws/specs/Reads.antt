-- The names of data sets that a script reads.
use Rattle.std.specs.Prelude.{ℕ, Bool, true, false, ◌&&◌, cond, List, [], ◌∷◌, ◌++◌, Option, Some, None}
use Rattle.std.specs.Option.{is_some}
use Rattle.vtl_syntax.specs.Trees as tree
use Rattle.vtl_syntax.specs.Trees.{Calcs, ClauseTree, Exp, Exps, MaybeExp, MaybeTargets, Parts, PointRuleTree, ScriptTree, StatementTree, TargetsTree}
use Rattle.vtl_syntax.specs.declared.parts.Comp.{Comp}
use Rattle.vtl_syntax.specs.declared.parts.Comp.TheVariants as comp
use Rattle.check_operators.specs.Places.{member_written}
use Rattle.check_operators.specs.declared.places.Place.{Place}
use Rattle.check_operators.specs.declared.places.Place.TheVariants as place

-- inside the brackets of a data set names stand for components
abbrev pub is_inside : Place → Bool
is_inside place.Outside = false
is_inside (place.Inside i) = true

abbrev pub name_read : (inside : Bool) → Comp → List (List ℕ)
name_read false (comp.Name name) = name ∷ []
name_read inside c = []

abbrev mutual
  -- the names of data sets in an expression, which stands inside of brackets or outside
  pub names_read : (inside : Bool) → Exp → List (List ℕ)
  names_read inside (tree.if_then c a b) = names_read inside c ++ (names_read inside a ++ names_read inside b)
  names_read inside (tree.binary l o r) = names_read inside l ++ names_read inside r
  names_read inside (tree.in_set e negated ls) = names_read inside e
  names_read inside (tree.unary o e) = names_read inside e
  names_read inside (tree.with_clause e c) = names_read false e ++ clause_reads c
  names_read inside (tree.member e c) = cond (inside && is_some (member_written e c)) [] (names_read false e)
  names_read inside (tree.component c) = name_read inside c
  names_read inside (tree.constant c) = []
  names_read inside (tree.brackets e) = names_read inside e
  names_read inside (tree.function f es) = all_read inside es
  names_read inside (tree.aggregate f e g h) = maybe_read inside e ++ maybe_read true h
  names_read inside (tree.aggregate_over f e o) = maybe_read inside e
  names_read inside (tree.value_window f e o) = names_read inside e
  names_read inside (tree.shift f e n l o) = names_read inside e
  names_read inside (tree.rank o) = []
  names_read inside (tree.set_op f es) = all_read false es
  names_read inside (tree.difference f a b) = names_read false a ++ names_read false b
  names_read inside (tree.exists_in a b r) = names_read false a ++ names_read false b
  names_read inside (tree.time e call) = names_read false e
  names_read inside (tree.check e err i o) = names_read false e ++ maybe_read false i
  names_read inside (tree.check_datapoint e n o) = names_read false e
  names_read inside (tree.check_hierarchy e n r m d o) = names_read false e
  names_read inside (tree.hierarchy e n r m i o) = names_read false e
  names_read inside (tree.join kind ps u f m k rs) = parts_read ps ++ (maybe_read true f ++ step_reads m)

  pub all_read : (inside : Bool) → Exps → List (List ℕ)
  all_read inside tree.no_exps = []
  all_read inside (tree.exp e es) = names_read inside e ++ all_read inside es

  pub maybe_read : (inside : Bool) → MaybeExp → List (List ℕ)
  maybe_read inside tree.no_exp = []
  maybe_read inside (tree.some_exp e) = names_read inside e

  pub clause_reads : ClauseTree → List (List ℕ)
  clause_reads (tree.filter e) = names_read true e
  clause_reads (tree.targets m) = targets_read m
  clause_reads (tree.keeping k) = []
  clause_reads (tree.rename rs) = []
  clause_reads (tree.sub ss) = []
  clause_reads (tree.pivot id m) = []
  clause_reads (tree.unpivot id m) = []

  pub targets_read : TargetsTree → List (List ℕ)
  targets_read (tree.calc cs) = calcs_read cs
  targets_read (tree.aggr cs g h) = calcs_read cs ++ maybe_read true h

  pub step_reads : MaybeTargets → List (List ℕ)
  step_reads tree.no_targets = []
  step_reads (tree.some_targets m) = targets_read m

  pub calcs_read : Calcs → List (List ℕ)
  calcs_read tree.no_calcs = []
  calcs_read (tree.calc_part r c e cs) = names_read true e ++ calcs_read cs

  pub parts_read : Parts → List (List ℕ)
  parts_read tree.no_parts = []
  parts_read (tree.join_part e alias ps) = names_read false e ++ parts_read ps

-- ---- rulesets
-- the names in the rules of a datapoint ruleset, whose conditions stand inside
abbrev pub antecedent_reads : Option Exp → List (List ℕ)
antecedent_reads None = []
antecedent_reads (Some e) = names_read true e

abbrev pub rules_read : List PointRuleTree → List (List ℕ)
rules_read [] = []
rules_read (tree.point_rule name antecedent holds error ∷ rules) = (antecedent_reads antecedent ++ names_read true holds) ++ rules_read rules

-- ---- scripts
abbrev pub statement_reads : StatementTree → List (List ℕ)
statement_reads (tree.assignment name kind e) = names_read false e
statement_reads (tree.datapoint name variables rules last) = rules_read rules
statement_reads (tree.hierarchical name item rules last) = []

-- the name that a statement gives a result or a ruleset
abbrev pub statement_name : StatementTree → List ℕ
statement_name (tree.assignment name kind e) = name
statement_name (tree.datapoint name variables rules last) = name
statement_name (tree.hierarchical name item rules last) = name

-- the names in a script: those of results and rulesets, and those that expressions and conditions read
abbrev pub script_names : ScriptTree → List (List ℕ)
script_names [] = []
script_names (s ∷ ss) = statement_name s ∷ statement_reads s ++ script_names ss
