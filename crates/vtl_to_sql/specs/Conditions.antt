-- Which expressions on data sets and which statements are translated: their names and constants can be written, and no expression
-- is too deep to be printed.
use Rattle.std.specs.Prelude.{◌≡◌, ◌≤◌, ◌<◌, ◌+◌, ◌^◌, true, false, List, [], ◌∷◌, length}
use Rattle.std.specs.List.{AllByRecursion}
use Rattle.std.specs.Option.{IfSome}
use Rattle.vtl_decimal.specs.Settings.{Settings}
use Rattle.vtl_text.specs.Words.{is_word}
use Rattle.vtl_syntax.specs.declared.statements.HierRule.{HierRule}
use Rattle.vtl_cell.specs.declared.kind.Kind.TheVariants as k
use Rattle.vtl_tree.specs.Structure.{columns_of, most_components}
use Rattle.vtl_tree.specs.Structures.{AreStructures, Named, has_name}
use Rattle.vtl_tree.specs.declared.structure.Structure.{Structure}
use Rattle.vtl_tree.specs.Columns.{identifiers_of, kind_named}
use Rattle.vtl_scripts.specs.Made.{IsMade, operands_in}
use Rattle.vtl_scripts.specs.Meaning.{Statement}
use Rattle.vtl_meaning.specs.Operators.{calculated_exps, measured_exps, pair_exps}
use Rattle.vtl_tree.specs.Trees as nodes
use Rattle.vtl_tree.specs.Trees.{FormTree, MaybeNode, NodeTree, NodeTrees, OperandTrees, PointRuleTree, structure_of}
use Rattle.selects_to_sql.specs.Tables.{first_number}
use Rattle.vtl_to_sql.specs.Tables.{made_of}
use Rattle.selects_to_sql.specs.Writable.{CanBeWritten, AllCanBeWritten, HaveNames, HasValue}
use Rattle.groups_to_sql.specs.Writable.{CallsCanBeWritten}
use Rattle.rules_to_sql.specs.Writable.{AreErrorsHeld, CanRuleBeWritten}
use Rattle.hierarchies_to_sql.specs.Writable.{CanBeSided}

-- ---- expressions on data sets

-- there is a rule, and rules can be numbered
pub record CanRulesBeWritten (rules : List PointRuleTree) : Type 0 where
  pub written : AllByRecursion CanRuleBeWritten rules
  pub some : 1 ≤ length rules
  pub few : length rules < 2 ^ 64

pub record CanSidesBeWritten (p : Settings) (rules : List HierRule) : Type 0 where
  pub written : AllByRecursion (CanBeSided p) rules
  pub some : 1 ≤ length rules
  pub few : length rules < 2 ^ 64

abbrev mutual
  pub IsTranslated : Settings → NodeTree → Type 0
  IsTranslated p (nodes.node s form) = HaveNames (columns_of s) × IsFormTranslated p s form

  pub IsFormTranslated : Settings → Structure → FormTree → Type 0
  IsFormTranslated p s (nodes.named x) = Unit {0}
  IsFormTranslated p s (nodes.measures m a) = IsTranslated p a × AllCanBeWritten (measured_exps m (structure_of a) s)
  IsFormTranslated p s (nodes.pair o a b) = IsTranslated p a × IsTranslated p b × AllCanBeWritten (pair_exps o (structure_of a) (structure_of b) s)
  IsFormTranslated p s (nodes.choose t a b) = IsTranslated p t × IsTranslated p a × IsTranslated p b
  IsFormTranslated p s (nodes.member a m) = IsTranslated p a
  IsFormTranslated p s (nodes.filter a e) = IsTranslated p a × CanBeWritten e
  IsFormTranslated p s (nodes.calc a items) = IsTranslated p a × AllCanBeWritten (calculated_exps items (structure_of a) s)
  IsFormTranslated p s (nodes.keep a names) = IsTranslated p a
  IsFormTranslated p s (nodes.drop_named a names) = IsTranslated p a
  IsFormTranslated p s (nodes.rename a pairs) = IsTranslated p a
  IsFormTranslated p s (nodes.sub a items) = IsTranslated p a × AllByRecursion (HasValue p) items × (length items ≤ most_components)
  -- the operands can be numbered
  IsFormTranslated p s (nodes.join os spec) = AreOperandsTranslated p os × (1 + length (operands_in os) < 2 ^ 64)
  IsFormTranslated p s (nodes.union ns) = AreNodesTranslated p ns
  IsFormTranslated p s (nodes.intersect ns) = AreNodesTranslated p ns
  IsFormTranslated p s (nodes.set_diff a b) = IsTranslated p a × IsTranslated p b
  IsFormTranslated p s (nodes.sym_diff a b) = IsTranslated p a × IsTranslated p b
  IsFormTranslated p s (nodes.exists_in a b kept) = IsTranslated p a × IsTranslated p b
  -- codes are texts
  IsFormTranslated p s (nodes.pivot a id m) = IsTranslated p a × (kind_named id (identifiers_of (structure_of a)) ≡ k.Text)
  IsFormTranslated p s (nodes.unpivot a id m) = IsTranslated p a
  IsFormTranslated p s (nodes.aggregate a spec) = IsTranslated p a × IfSome spec.having CanBeWritten
  IsFormTranslated p s (nodes.time a o) = IsTranslated p a
  IsFormTranslated p s (nodes.analytic_of a spec) = IsTranslated p a × CallsCanBeWritten spec
  IsFormTranslated p s (nodes.check a i spec) = IsTranslated p a × IsMaybeTranslated p i × AreErrorsHeld spec.errorcode spec.errorlevel
  IsFormTranslated p s (nodes.check_datapoint a rules out) = IsTranslated p a × CanRulesBeWritten rules.rules
  IsFormTranslated p s (nodes.check_hierarchy a rules m out) = IsTranslated p a × CanSidesBeWritten p rules.rules
  IsFormTranslated p s (nodes.hierarchy a rules m i out) = IsTranslated p a × CanSidesBeWritten p rules.rules

  pub AreNodesTranslated : Settings → NodeTrees → Type 0
  AreNodesTranslated p nodes.no_nodes = Unit {0}
  AreNodesTranslated p (nodes.and_node n ns) = IsTranslated p n × AreNodesTranslated p ns

  pub IsMaybeTranslated : Settings → MaybeNode → Type 0
  IsMaybeTranslated p nodes.no_node = Unit {0}
  IsMaybeTranslated p (nodes.some_node n) = IsTranslated p n

  pub AreOperandsTranslated : Settings → OperandTrees → Type 0
  AreOperandsTranslated p nodes.no_operands = Unit {0}
  AreOperandsTranslated p (nodes.operand n alias os) = IsTranslated p n × AreOperandsTranslated p os

-- ---- statements

-- few tables are made for it
abbrev pub HasFewTables : Settings → Statement → Type 0
HasFewTables p s = 1 + length (made_of p s.result s.node first_number).tables < 2 ^ 64

-- its result has a name that none of these data sets has, and its expression is translated
pub record IsStatementTranslated (p : Settings) (known : Named) (s : Statement) : Type 0 where
  pub word : is_word s.result ≡ true
  pub new : has_name s.result known ≡ false
  pub made : IsMade p known s.node
  pub translated : IsTranslated p s.node
  pub few : HasFewTables p s

-- each behind the results of those before it
abbrev pub AreTranslated : Settings → Named → List Statement → Type 0
AreTranslated p known [] = Unit {0}
AreTranslated p known (s ∷ ss) = IsStatementTranslated p known s × AreTranslated p ((s.result, structure_of s.node) ∷ known) ss

-- data sets that can be declared, and have words as names
pub record AreReadable (reads : Named) : Type 0 where
  pub structures : AreStructures reads
  pub words : AllByRecursion (λ e. is_word e.0 ≡ true) reads

-- statements that read these data sets, in settings that there are
pub record IsScript (p : Settings) (reads : Named) (ss : List Statement) : Type 0 where
  pub low : p.scale ≤ 9
  pub readable : AreReadable reads
  pub translated : AreTranslated p reads ss
