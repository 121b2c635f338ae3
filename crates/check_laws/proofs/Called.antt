-- What calls of definitions give: nodes over their operands, with the rules of the definition.
use Rattle.std.proofs.Common.{◌≡◌, ◌≤◌, ℕ, Bool, not, List, [], ◌∷◌, length, map, Option, Some, None, Ok, refl, sym, ap, ◌∙◌, subst, arith}
use Rattle.std.proofs.lemmas.List.{length-map}
use Rattle.std.specs.List.{AllByRecursion}
use Rattle.std.specs.Option.{IfSome}
use Rattle.std.specs.Prelude.{option_to_list, unwrap_or}
use Rattle.vtl_lists.specs.Results.{◌>>=◌}
use Rattle.vtl_lists.proofs.Alls.{all_append, all_flat_map}
use Rattle.vtl_syntax.specs.Depth.{exp_depth, option_depth, point_rule_depth, statement_depth}
use Rattle.vtl_syntax.specs.Trees as tree
use Rattle.vtl_syntax.specs.Trees.{Exp, PointRuleTree, StatementTree}
use Rattle.vtl_syntax.specs.declared.parts.Comp.{Comp}
use Rattle.vtl_syntax.specs.declared.statements.HierRule.{HierRule}
use Rattle.vtl_syntax.specs.declared.word_groups.CheckOut.{CheckOut}
use Rattle.vtl_syntax.specs.declared.word_groups.CheckOut.TheVariants as out
use Rattle.vtl_syntax.specs.declared.word_groups.HierInput.{HierInput}
use Rattle.vtl_syntax.specs.declared.word_groups.HierInput.TheVariants as input
use Rattle.vtl_syntax.specs.declared.word_groups.HierOut.{HierOut}
use Rattle.vtl_syntax.specs.declared.word_groups.HierOut.TheVariants as points
use Rattle.vtl_syntax.specs.declared.word_groups.Mode.{Mode}
use Rattle.vtl_syntax.specs.declared.word_groups.Mode.TheVariants as mode
use Rattle.vtl_tree.specs.Names.{name_of}
use Rattle.vtl_tree.specs.Structure.{same_name}
use Rattle.vtl_tree.specs.Trees as nodes
use Rattle.vtl_tree.specs.Trees.{FormTree, NodeTree, structure_of}
use Rattle.check_faults.specs.Rules.{ruled}
use Rattle.check_faults.specs.declared.rules.Rule.TheVariants as rule
use Rattle.check_operators.specs.Places.{Env}
use Rattle.check_operators.specs.Sets.{level_typed}
use Rattle.check_operators.specs.Typed.{TypedTree, value, dataset, condition_in, dataset_in, made_of}
use Rattle.check_operators.specs.declared.places.Place.{Place}
use Rattle.check_operators.specs.declared.places.Place.TheVariants as place
use Rattle.check_rules.specs.Calls.{hierarchy_checked, hierarchy_made, point_checked, sees_names, variables_known}
use Rattle.check_rules.specs.Definitions.{point_rule_name}
use Rattle.check_rules.specs.Order.{hierarchy_order}
use Rattle.check_expressions.specs.Rulesets.{Definitions, antecedent_typed, at_variables, check_hierarchy_typed, checked_points, condition_typed, datapoint_typed, definition_named, hier_definition, hier_rules, hierarchy_typed, point_definition, point_rule_typed, point_rules_typed, rulings_of, variable_of}
use Rattle.check_expressions.specs.Rulings.{no_rulings, plain_sight}
use Rattle.check_expressions.specs.Typing.{typed}
use Rattle.vtl_check.specs.Script.{most_nodes}
use Rattle.check_laws.specs.Called.{AreCalls, AreFew, HasFewRules, IsCallOver}
use Rattle.check_laws.specs.Depths.{IsHeldUpTo, rule_exps}
use Rattle.check_laws.specs.Gives.{Gives}
use Rattle.check_laws.proofs.Conditions.{names-kept}
use Rattle.check_laws.proofs.DepthBounds.{AreUpTo, IsTreeUpTo, IsUpTo, each-below, option-up}
use Rattle.check_laws.proofs.DepthClauses.{condition-up}
use Rattle.check_laws.proofs.DepthTyping.{deep}
use Rattle.check_laws.proofs.SoundRulings.{looked}
use Rattle.check_laws.proofs.Steps.{after, tested, then}
use Rattle.check_laws.proofs.Turns.{all-in-turn}

-- no ruleset is known
pub no-calls : (P : FormTree → Type 0) → AreCalls P no_rulings
no-calls P = record { datapoint = λ env name o x. tt; check_hierarchy = λ name r m o x. tt; hierarchy = λ name r m i o x. tt }

-- What holds of definitions gives what holds of calls: by way of what the typed rules of a datapoint ruleset have.
pub record AreKept (P : FormTree → Type 0) (Q : StatementTree → Type 0) (F : List PointRuleTree → List nodes.PointRuleTree → Type 0) : Type 0 where
  pub typed : (name : List ℕ) (variables : List Comp) (rules : List PointRuleTree) (b : Bool) → Q (tree.datapoint name variables rules b) → (env : Env) (at : Place) → Gives (F rules) (point_rules_typed env at rules)
  pub point : (name : List ℕ) (variables : List Comp) (rules : List PointRuleTree) (b : Bool) → Q (tree.datapoint name variables rules b) → (a : NodeTree) (names : List (List ℕ)) (ts : List nodes.PointRuleTree) (o : CheckOut) → F rules ts → P (nodes.check_datapoint a (record { variables = names; rules = ts }) o)
  pub checked : (name : List ℕ) (item : Comp) (rules : List HierRule) (b : Bool) → Q (tree.hierarchical name item rules b) → (a : NodeTree) (v : List ℕ) (order : Option (List ℕ)) (m : Mode) (o : CheckOut) → P (nodes.check_hierarchy a (hier_rules v rules order) m o)
  pub made : (name : List ℕ) (item : Comp) (rules : List HierRule) (b : Bool) → Q (tree.hierarchical name item rules b) → (a : NodeTree) (v : List ℕ) (order : Option (List ℕ)) (m : Mode) (i : HierInput) (o : HierOut) → P (nodes.hierarchy a (hier_rules v rules order) m i o)

module _ (P : FormTree → Type 0) (Q : StatementTree → Type 0) (F : List PointRuleTree → List nodes.PointRuleTree → Type 0) (kept : AreKept P Q F) where
  datapoint-called : (definition : Option StatementTree) → IfSome definition Q → (env : Env) (o : Option CheckOut) (x : TypedTree) → Gives (IsCallOver P x) (point_definition definition >>= λ d. dataset_in x >>= datapoint_typed env o d)
  datapoint-called None h env o x = tt
  datapoint-called (Some (tree.assignment name kind e)) h env o x = tt
  datapoint-called (Some (tree.hierarchical name item rules b)) h env o x = tt
  datapoint-called (Some (tree.datapoint name variables rules b)) h env o (value e) = tt
  datapoint-called (Some (tree.datapoint name variables rules b)) h env o (dataset a) =
      after (IsCallOver P (dataset a)) (variables_known (map name_of variables) (structure_of a)) (λ names. point_rules_typed env (place.Inside (at_variables names a)) rules >>= checked_points shown a names)
      (λ names. then (F rules) (IsCallOver P (dataset a)) (point_rules_typed env (place.Inside (at_variables names a)) rules) (checked_points shown a names) (kept.typed name variables rules b h env (place.Inside (at_variables names a)))
      (λ ts k. after (IsCallOver P (dataset a)) (point_checked shown (structure_of a)) (made_of (nodes.check_datapoint a (record { variables = names; rules = ts }) shown)) (λ s. (kept.point name variables rules b h a names ts shown k, refl))))
    where
      shown : CheckOut
      shown = unwrap_or o out.Invalid

  check-called : (definition : Option StatementTree) → IfSome definition Q → (r : Option Comp) (m : Mode) (o : CheckOut) (x : TypedTree) → Gives (IsCallOver P x) (hier_definition definition >>= λ d. variable_of r d >>= λ v. dataset_in x >>= check_hierarchy_typed m o d.rules v)
  check-called None h r m o x = tt
  check-called (Some (tree.assignment name kind e)) h r m o x = tt
  check-called (Some (tree.datapoint name variables rules b)) h r m o x = tt
  check-called (Some (tree.hierarchical name item rules b)) h r m o x = after (IsCallOver P x) (variable_of r (record { item = name_of item; rules = rules })) (λ v. dataset_in x >>= check_hierarchy_typed m o rules v) (go x)
    where
      go : (x : TypedTree) (v : List ℕ) → Gives (IsCallOver P x) (dataset_in x >>= check_hierarchy_typed m o rules v)
      go (value e) v = tt
      go (dataset a) v = after (IsCallOver P (dataset a)) (hierarchy_checked o v (structure_of a)) (made_of (nodes.check_hierarchy a (hier_rules v rules None) m o)) (λ s. (kept.checked name item rules b h a v None m o, refl))

  hierarchy-called : (definition : Option StatementTree) → IfSome definition Q → (r : Option Comp) (m : Mode) (i : HierInput) (o : HierOut) (x : TypedTree) → Gives (IsCallOver P x) (hier_definition definition >>= λ d. variable_of r d >>= λ v. dataset_in x >>= hierarchy_typed m i o d.rules v)
  hierarchy-called None h r m i o x = tt
  hierarchy-called (Some (tree.assignment name kind e)) h r m i o x = tt
  hierarchy-called (Some (tree.datapoint name variables rules b)) h r m i o x = tt
  hierarchy-called (Some (tree.hierarchical name item rules b)) h r m i o x = after (IsCallOver P x) (variable_of r (record { item = name_of item; rules = rules })) (λ v. dataset_in x >>= hierarchy_typed m i o rules v) (go x)
    where
      go : (x : TypedTree) (v : List ℕ) → Gives (IsCallOver P x) (dataset_in x >>= hierarchy_typed m i o rules v)
      go (value e) v = tt
      go (dataset a) v =
          after (IsCallOver P (dataset a)) (hierarchy_made v (structure_of a)) (λ s. hierarchy_order rules >>= λ order. made_of (nodes.hierarchy a (hier_rules v rules (Some order)) m i o) s)
          (λ s. after (IsCallOver P (dataset a)) (hierarchy_order rules) (λ order. made_of (nodes.hierarchy a (hier_rules v rules (Some order)) m i o) s) (λ order. (kept.made name item rules b h a v (Some order) m i o, refl)))

  pub calls-of : (ds : Definitions) → AllByRecursion (λ d. Q d.1) ds → AreCalls P (rulings_of ds)
  calls-of ds h = record {
    datapoint = λ env name o x. datapoint-called (definition_named ds name) (looked Q (same_name name) ds h) env o x;
    check_hierarchy = λ name r m o x. check-called (definition_named ds name) (looked Q (same_name name) ds h) r (unwrap_or m mode.NonNull) (unwrap_or o out.Invalid) x;
    hierarchy = λ name r m i o x. hierarchy-called (definition_named ds name) (looked Q (same_name name) ds h) r (unwrap_or m mode.NonNull) (unwrap_or i input.Rule) (unwrap_or o points.Computed) x;
  }

-- ---- rules up to a depth
abbrev pub AreDeep : ℕ → List PointRuleTree → List nodes.PointRuleTree → Type 0
AreDeep d rules ts = AllByRecursion (λ t. AreUpTo d (rule_exps t)) ts

condition-deep : (env : Env) (at : Place) (e : Exp) (d : ℕ) → exp_depth e ≤ d → Gives (IsUpTo d) (condition_typed env at e)
condition-deep env at e d le =
    then (IsUpTo d) (IsUpTo d) (typed (plain_sight env) at e >>= condition_in) (λ c. ruled ((rule.UnknownComponent, not (sees_names c)) ∷ []) c)
    (then (IsTreeUpTo Any d) (IsUpTo d) (typed (plain_sight env) at e) condition_in (deep Any (plain_sight env) (no-calls Any) at e d le) (condition-up Any d))
    (λ c h. tested (IsUpTo d) ((rule.UnknownComponent, not (sees_names c)) ∷ []) c (λ passed. h))
  where
    Any : FormTree → Type 0
    Any form = Unit {0}

antecedent-deep : (env : Env) (at : Place) (e : Option Exp) (d : ℕ) → option_depth e ≤ d → Gives (λ c. IfSome c (IsUpTo d)) (antecedent_typed env at e)
antecedent-deep env at None d le = tt
antecedent-deep env at (Some e) d le = then (IsUpTo d) (λ c. IfSome c (IsUpTo d)) (condition_typed env at e) (λ c. Ok (Some c)) (condition-deep env at e d le) (λ c h. h)

rule-deep : (env : Env) (at : Place) (r : PointRuleTree) (d : ℕ) → point_rule_depth r ≤ d → Gives (λ t. AreUpTo d (rule_exps t)) (point_rule_typed env at r)
rule-deep env at (tree.point_rule name antecedent holds error) d le =
    then (λ c. IfSome c (IsUpTo d)) Q (antecedent_typed env at antecedent) (λ c. condition_typed env at holds >>= λ h. level_typed env.settings error.level >>= λ level. Ok (record { name = name; antecedent = c; condition = h; errorcode = error.code; errorlevel = level })) (antecedent-deep env at antecedent d (omega arith))
    (λ c hc. then (IsUpTo d) Q (condition_typed env at holds) (λ h. level_typed env.settings error.level >>= λ level. Ok (record { name = name; antecedent = c; condition = h; errorcode = error.code; errorlevel = level })) (condition-deep env at holds d (omega arith))
    (λ h hh. after Q (level_typed env.settings error.level) (λ level. Ok (record { name = name; antecedent = c; condition = h; errorcode = error.code; errorlevel = level })) (λ level. all_append (IsUpTo d) (option_to_list c) (h ∷ []) (option-up d c hc) (hh, tt))))
  where
    Q : nodes.PointRuleTree → Type 0
    Q t = AreUpTo d (rule_exps t)

pub deep-kept : (d : ℕ) → AreKept (IsHeldUpTo d) (λ s. statement_depth s ≤ d) (AreDeep d)
deep-kept d = record {
  typed = λ name variables rules b le env at. all-in-turn (λ r. point_rule_depth r ≤ d) (λ t. AreUpTo d (rule_exps t)) (λ done r. point_rule_typed env at r) (λ done r k. rule-deep env at r d k) [] rules tt (each-below point_rule_depth d rules le);
  point = λ name variables rules b le a names ts o h. all_flat_map (IsUpTo d) rule_exps ts h;
  checked = λ name item rules b le a v order m o. tt;
  made = λ name item rules b le a v order m i o. tt;
}

-- ---- few rules
abbrev pub DefinesFew : StatementTree → Type 0
DefinesFew (tree.assignment name kind e) = Unit {0}
DefinesFew (tree.datapoint name variables rules b) = AreFew rules
DefinesFew (tree.hierarchical name item rules b) = AreFew rules

abbrev pub AreAsMany : List PointRuleTree → List nodes.PointRuleTree → Type 0
AreAsMany rules ts = map (λ t. t.name) ts ≡ map point_rule_name rules

pub few-kept : AreKept HasFewRules DefinesFew AreAsMany
few-kept = record {
  typed = λ name variables rules b few env at. names-kept env at rules;
  point = λ name variables rules b few a names ts o h. subst (λ n. (1 ≤ n) × (n ≤ most_nodes)) (sym (sym (length-map ts (λ t. t.name)) ∙ ap length h ∙ length-map rules point_rule_name)) few;
  checked = λ name item rules b few a v order m o. few;
  made = λ name item rules b few a v order m i o. few;
}
