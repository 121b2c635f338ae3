-- What reading gives of every script, said of trees alone: names are names, components have names of components, no list
-- is empty, and no statement is deeper than the limit.
use Rattle.std.specs.Prelude.{◌≡◌, ℕ, suc, ◌≤◌, true, List, length, Option, IfSome}
use Rattle.std.specs.List.{AllByRecursion}
use Rattle.vtl_text.specs.Words.{is_component_name, is_name}
use Rattle.vtl_syntax.specs.Depth.{depth_limit, statement_depth}
use Rattle.vtl_syntax.specs.Trees.{Exp, if_then, binary, in_set, unary, with_clause, member, component, constant, brackets, function, aggregate, aggregate_over, value_window, shift, rank, set_op, difference, exists_in, time, check, check_datapoint, check_hierarchy, hierarchy, join, Exps, no_exps, exp, MaybeExp, no_exp, some_exp, ClauseTree, filter, targets, keeping, rename, sub, pivot, unpivot, TargetsTree, calc, aggr, MaybeTargets, no_targets, some_targets, Calcs, no_calcs, calc_part, Parts, no_parts, join_part, PointRuleTree, point_rule, StatementTree, assignment, datapoint, hierarchical, ScriptTree}
use Rattle.vtl_syntax.specs.declared.parts.Comp.{Comp}
use Rattle.vtl_syntax.specs.declared.parts.Comp.TheVariants as comp
use Rattle.vtl_syntax.specs.declared.parts.GroupPart.{GroupPart}
use Rattle.vtl_syntax.specs.declared.parts.Keeping.{Keeping}
use Rattle.vtl_syntax.specs.declared.parts.Keeping.TheVariants as kept
use Rattle.vtl_syntax.specs.declared.parts.OrderPart.{OrderPart}
use Rattle.vtl_syntax.specs.declared.parts.OverPart.{OverPart}
use Rattle.vtl_syntax.specs.declared.parts.Reference.{Reference}
use Rattle.vtl_syntax.specs.declared.parts.Reference.TheVariants as reference
use Rattle.vtl_syntax.specs.declared.parts.RenamePart.{RenamePart}
use Rattle.vtl_syntax.specs.declared.parts.SignedComp.{SignedComp}
use Rattle.vtl_syntax.specs.declared.parts.SubPart.{SubPart}
use Rattle.vtl_syntax.specs.declared.statements.HierRule.{HierRule}

-- ---- names, and parts that hold no expression
abbrev pub IsName : List ℕ → Type 0
IsName name = is_name name ≡ true

-- a component is written as a name or, between quotes, as a name of a component
abbrev pub IsComponent : Comp → Type 0
IsComponent (comp.Name name) = IsName name
IsComponent (comp.Quoted name) = is_component_name name ≡ true

-- an item at least, and each of them so
abbrev pub SomeAll : {X : Type 0} → (X → Type 0) → List X → Type 0
SomeAll P xs = (1 ≤ length xs) × AllByRecursion P xs

abbrev pub IsReference : Reference → Type 0
IsReference (reference.Component c) = IsComponent c
IsReference (reference.Member alias c) = IsName alias × IsComponent c

abbrev pub IsRenaming : RenamePart → Type 0
IsRenaming r = IsReference r.from × IsComponent r.to

abbrev pub AreKept : Keeping → Type 0
AreKept (kept.Keep rs) = SomeAll IsReference rs
AreKept (kept.Drop rs) = SomeAll IsReference rs

abbrev pub IsGrouping : GroupPart → Type 0
IsGrouping g = SomeAll IsComponent g.names

abbrev pub IsOver : OverPart → Type 0
IsOver o = IfSome o.partition (SomeAll IsComponent) × IfSome o.order (SomeAll (λ x. IsComponent x.component))

-- ---- expressions
abbrev mutual
  pub IsWrittenExp : Exp → Type 0
  IsWrittenExp (if_then c a b) = IsWrittenExp c × IsWrittenExp a × IsWrittenExp b
  IsWrittenExp (binary l o r) = IsWrittenExp l × IsWrittenExp r
  IsWrittenExp (in_set e negated ls) = IsWrittenExp e × (1 ≤ length ls)
  IsWrittenExp (unary o e) = IsWrittenExp e
  IsWrittenExp (with_clause e c) = IsWrittenExp e × IsWrittenClause c
  IsWrittenExp (member e c) = IsWrittenExp e × IsComponent c
  IsWrittenExp (component c) = IsComponent c
  IsWrittenExp (constant c) = Unit {0}
  IsWrittenExp (brackets e) = IsWrittenExp e
  IsWrittenExp (function f es) = AreWrittenExps es
  IsWrittenExp (aggregate f e g h) = IsWrittenMaybe e × IfSome g IsGrouping × IsWrittenMaybe h
  IsWrittenExp (aggregate_over f e o) = IsWrittenMaybe e × IsOver o
  IsWrittenExp (value_window f e o) = IsWrittenExp e × IsOver o
  IsWrittenExp (shift f e n l o) = IsWrittenExp e × IsOver o
  IsWrittenExp (rank o) = IsOver o
  IsWrittenExp (set_op f es) = AreWrittenExps es
  IsWrittenExp (difference f a b) = IsWrittenExp a × IsWrittenExp b
  IsWrittenExp (exists_in a b r) = IsWrittenExp a × IsWrittenExp b
  IsWrittenExp (time e call) = IsWrittenExp e
  IsWrittenExp (check e err i o) = IsWrittenExp e × IsWrittenMaybe i
  IsWrittenExp (check_datapoint e n o) = IsWrittenExp e × IsName n
  IsWrittenExp (check_hierarchy e n r m d o) = IsWrittenExp e × IsName n × IfSome r IsComponent
  IsWrittenExp (hierarchy e n r m i o) = IsWrittenExp e × IsName n × IfSome r IsComponent
  IsWrittenExp (join k ps u f m kept rs) = AreWrittenParts ps × IfSome u (SomeAll IsComponent) × IsWrittenMaybe f × IsWrittenStep m × IfSome kept AreKept × IfSome rs (SomeAll IsRenaming)

  -- an expression at least
  pub AreWrittenExps : Exps → Type 0
  AreWrittenExps no_exps = ⊥
  AreWrittenExps (exp e es) = IsWrittenExp e × AreMoreExps es

  pub AreMoreExps : Exps → Type 0
  AreMoreExps no_exps = Unit {0}
  AreMoreExps (exp e es) = IsWrittenExp e × AreMoreExps es

  pub IsWrittenMaybe : MaybeExp → Type 0
  IsWrittenMaybe no_exp = Unit {0}
  IsWrittenMaybe (some_exp e) = IsWrittenExp e

  pub IsWrittenClause : ClauseTree → Type 0
  IsWrittenClause (filter e) = IsWrittenExp e
  IsWrittenClause (targets m) = AreWrittenTargets m
  IsWrittenClause (keeping k) = AreKept k
  IsWrittenClause (rename rs) = SomeAll IsRenaming rs
  IsWrittenClause (sub ss) = SomeAll (λ p. IsComponent p.component) ss
  IsWrittenClause (pivot a b) = IsComponent a × IsComponent b
  IsWrittenClause (unpivot a b) = IsComponent a × IsComponent b

  pub AreWrittenTargets : TargetsTree → Type 0
  AreWrittenTargets (calc cs) = AreWrittenCalcs cs
  AreWrittenTargets (aggr cs g h) = AreWrittenCalcs cs × IfSome g IsGrouping × IsWrittenMaybe h

  pub IsWrittenStep : MaybeTargets → Type 0
  IsWrittenStep no_targets = Unit {0}
  IsWrittenStep (some_targets m) = AreWrittenTargets m

  -- a target at least
  pub AreWrittenCalcs : Calcs → Type 0
  AreWrittenCalcs no_calcs = ⊥
  AreWrittenCalcs (calc_part r c e cs) = IsComponent c × IsWrittenExp e × AreMoreCalcs cs

  pub AreMoreCalcs : Calcs → Type 0
  AreMoreCalcs no_calcs = Unit {0}
  AreMoreCalcs (calc_part r c e cs) = IsComponent c × IsWrittenExp e × AreMoreCalcs cs

  -- an operand at least
  pub AreWrittenParts : Parts → Type 0
  AreWrittenParts no_parts = ⊥
  AreWrittenParts (join_part e alias ps) = IsWrittenExp e × IfSome alias IsName × AreMoreParts ps

  pub AreMoreParts : Parts → Type 0
  AreMoreParts no_parts = Unit {0}
  AreMoreParts (join_part e alias ps) = IsWrittenExp e × IfSome alias IsName × AreMoreParts ps

-- ---- statements
abbrev pub IsWrittenRule : PointRuleTree → Type 0
IsWrittenRule (point_rule name when holds error) = IfSome name IsName × IfSome when IsWrittenExp × IsWrittenExp holds

abbrev pub IsWrittenHierRule : HierRule → Type 0
IsWrittenHierRule r = IfSome r.name IsName × IsComponent r.item × IsComponent r.first × AllByRecursion (λ x. IsComponent x.item) r.others

abbrev pub HasWrittenParts : StatementTree → Type 0
HasWrittenParts (assignment name kind e) = IsName name × IsWrittenExp e
HasWrittenParts (datapoint name variables rules last) = IsName name × SomeAll IsComponent variables × SomeAll IsWrittenRule rules
HasWrittenParts (hierarchical name item rules last) = IsName name × IsComponent item × SomeAll IsWrittenHierRule rules

pub record IsWritten (s : StatementTree) : Type 0 where
  pub parts : HasWrittenParts s
  pub shallow : statement_depth s ≤ depth_limit

abbrev pub AreWritten : ScriptTree → Type 0
AreWritten script = AllByRecursion IsWritten script
