-- Which trees the grammar has: what may stand at each place, and which lists have an item. Precedence and grouping to the left are said here.
use Rattle.std.specs.Prelude.{◌≡◌, ℕ, suc, ◌≤◌, List, length, Option, None, Some}
use Rattle.std.specs.List.{AllByRecursion}
use Rattle.vtl_syntax.specs.Depth.{statement_depth, depth_limit}
use Rattle.vtl_syntax.specs.Trees.{Exp, if_then, binary, in_set, unary, with_clause, member, component, constant, brackets, function, aggregate, aggregate_over, value_window, shift, rank, set_op, difference, exists_in, time, check, check_datapoint, check_hierarchy, hierarchy, join, Exps, no_exps, exp, MaybeExp, no_exp, some_exp, ClauseTree, filter, targets, keeping, rename, sub, pivot, unpivot, TargetsTree, calc, aggr, MaybeTargets, no_targets, some_targets, Calcs, no_calcs, calc_part, Parts, no_parts, join_part, PointRuleTree, point_rule, StatementTree, assignment, datapoint, hierarchical, ScriptTree}
use Rattle.vtl_syntax.specs.declared.parts.GroupPart.{GroupPart}
use Rattle.vtl_syntax.specs.declared.parts.Keeping.{Keeping}
use Rattle.vtl_syntax.specs.declared.parts.Keeping.TheVariants as kept
use Rattle.vtl_syntax.specs.declared.parts.OverPart.{OverPart}
use Rattle.vtl_grammar.specs.Grammar.{Tokens, tokens_of}
use Rattle.vtl_grammar.specs.Levels.{operator_level, tighter, Within}
use Rattle.vtl_grammar.specs.declared.levels.Level.TheVariants as level

-- an item at least
abbrev pub Filled : {A : Type 0} → List A → Type 0
Filled xs = 1 ≤ length xs

abbrev pub MaybeFilled : {A : Type 0} → Option (List A) → Type 0
MaybeFilled None = Unit {0}
MaybeFilled (Some xs) = Filled xs

abbrev pub GroupFits : Option GroupPart → Type 0
GroupFits None = Unit {0}
GroupFits (Some g) = Filled g.names

abbrev pub OverFits : OverPart → Type 0
OverFits o = MaybeFilled o.partition × MaybeFilled o.order

abbrev pub KeepingFits : Keeping → Type 0
KeepingFits (kept.Keep rs) = Filled rs
KeepingFits (kept.Drop rs) = Filled rs

abbrev pub MaybeKeepingFits : Option Keeping → Type 0
MaybeKeepingFits None = Unit {0}
MaybeKeepingFits (Some k) = KeepingFits k

abbrev pub exps_count : Exps → ℕ
exps_count no_exps = 0
exps_count (exp e es) = suc (exps_count es)

abbrev pub calcs_count : Calcs → ℕ
calcs_count no_calcs = 0
calcs_count (calc_part r c e cs) = suc (calcs_count cs)

abbrev pub parts_count : Parts → ℕ
parts_count no_parts = 0
parts_count (join_part e a ps) = suc (parts_count ps)

abbrev mutual
  pub Fits : Exp → Type 0
  Fits (if_then c a b) = Fits c × Fits a × Fits b
  -- an operator's left operand may be one of its own kind, its right one is tighter
  Fits (binary l o r) = Within (operator_level o) l × Fits l × Within (tighter (operator_level o)) r × Fits r
  Fits (in_set e negated ls) = Within level.Compare e × Fits e × Filled ls
  Fits (unary o e) = Within level.Unary e × Fits e
  Fits (with_clause e c) = Within level.Postfix e × Fits e × ClauseFits c
  Fits (member e c) = Within level.Postfix e × Fits e
  Fits (component c) = Unit {0}
  Fits (constant c) = Unit {0}
  Fits (brackets e) = Fits e
  Fits (function f es) = (1 ≤ exps_count es) × ExpsFit es
  Fits (aggregate f e g h) = MaybeFits e × GroupFits g × MaybeFits h
  Fits (aggregate_over f e o) = MaybeFits e × OverFits o
  Fits (value_window f e o) = Fits e × OverFits o
  Fits (shift f e n l o) = Fits e × OverFits o
  Fits (rank o) = OverFits o
  Fits (set_op f es) = (2 ≤ exps_count es) × ExpsFit es
  Fits (difference f a b) = Fits a × Fits b
  Fits (exists_in a b r) = Fits a × Fits b
  Fits (time e call) = Fits e
  Fits (check e err i o) = Fits e × MaybeFits i
  Fits (check_datapoint e n o) = Fits e
  Fits (check_hierarchy e n r m d o) = Fits e
  Fits (hierarchy e n r m i o) = Fits e
  Fits (join k ps u f m kept rs) = (2 ≤ parts_count ps) × PartsFit ps × MaybeFilled u × MaybeFits f × MaybeTargetsFit m × MaybeKeepingFits kept × MaybeFilled rs

  pub ExpsFit : Exps → Type 0
  ExpsFit no_exps = Unit {0}
  ExpsFit (exp e es) = Fits e × ExpsFit es

  pub MaybeFits : MaybeExp → Type 0
  MaybeFits no_exp = Unit {0}
  MaybeFits (some_exp e) = Fits e

  pub ClauseFits : ClauseTree → Type 0
  ClauseFits (filter e) = Fits e
  ClauseFits (targets m) = TargetsFit m
  ClauseFits (keeping k) = KeepingFits k
  ClauseFits (rename rs) = Filled rs
  ClauseFits (sub ss) = Filled ss
  ClauseFits (pivot a b) = Unit {0}
  ClauseFits (unpivot a b) = Unit {0}

  pub TargetsFit : TargetsTree → Type 0
  TargetsFit (calc cs) = (1 ≤ calcs_count cs) × CalcsFit cs
  TargetsFit (aggr cs g h) = (1 ≤ calcs_count cs) × CalcsFit cs × GroupFits g × MaybeFits h

  pub MaybeTargetsFit : MaybeTargets → Type 0
  MaybeTargetsFit no_targets = Unit {0}
  MaybeTargetsFit (some_targets m) = TargetsFit m

  pub CalcsFit : Calcs → Type 0
  CalcsFit no_calcs = Unit {0}
  CalcsFit (calc_part r c e cs) = Fits e × CalcsFit cs

  pub PartsFit : Parts → Type 0
  PartsFit no_parts = Unit {0}
  PartsFit (join_part e a ps) = Fits e × PartsFit ps

abbrev pub OptionFits : Option Exp → Type 0
OptionFits None = Unit {0}
OptionFits (Some e) = Fits e

abbrev pub PointRuleFits : PointRuleTree → Type 0
PointRuleFits (point_rule n w e err) = OptionFits w × Fits e

abbrev pub StatementFits : StatementTree → Type 0
StatementFits (assignment n k e) = Fits e
StatementFits (datapoint n vs rs last) = Filled vs × Filled rs × AllByRecursion PointRuleFits rs
StatementFits (hierarchical n i rs last) = Filled rs

-- a statement of the grammar: it fits, and it is not too deep
pub record InGrammar (s : StatementTree) : Type 0 where
  pub fits : StatementFits s
  pub shallow : statement_depth s ≤ depth_limit

-- the tokens spell the script
pub record SpellsScript (ts : Tokens) (script : ScriptTree) : Type 0 where
  pub is : ts ≡ tokens_of script
  pub each : AllByRecursion InGrammar script
