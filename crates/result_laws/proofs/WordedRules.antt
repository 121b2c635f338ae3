-- What calls of rulesets give has its words where their definitions are written and their operands have theirs: a ruleset has a rule,
-- and no hierarchical rule has too many items.
use Rattle.std.proofs.Common.{◌≡◌, ◌≤◌, ◌+◌, ◌∙◌, ℕ, suc, Bool, false, true, cond, List, [], ◌∷◌, ◌++◌, length, Option, Some, None, Result, ap, arith, length-append, subst}
use Rattle.std.proofs.lemmas.List.{length-map}
use Rattle.std.specs.List.{AllByRecursion}
use Rattle.std.specs.Map.{lookup}
use Rattle.std.specs.Option.{IfSome}
use Rattle.std.specs.Prelude.{unwrap_or}
use Rattle.vtl_lists.specs.Results.{◌>>=◌}
use Rattle.vtl_decimal.specs.Settings.{Settings}
use Rattle.vtl_syntax.specs.Trees as tree
use Rattle.vtl_syntax.specs.Trees.{StatementTree}
use Rattle.vtl_syntax.specs.Depth.{deepest, depth_limit, hier_rule_depth}
use Rattle.vtl_syntax.specs.Written.{IsWritten}
use Rattle.vtl_syntax.specs.declared.parts.Comp.{Comp}
use Rattle.vtl_syntax.specs.declared.statements.HierRule.{HierRule}
use Rattle.vtl_syntax.specs.declared.word_groups.CheckOut.{CheckOut}
use Rattle.vtl_syntax.specs.declared.word_groups.CheckOut.TheVariants as out
use Rattle.vtl_syntax.specs.declared.word_groups.HierInput.{HierInput}
use Rattle.vtl_syntax.specs.declared.word_groups.HierInput.TheVariants as input
use Rattle.vtl_syntax.specs.declared.word_groups.HierOut.{HierOut}
use Rattle.vtl_syntax.specs.declared.word_groups.HierOut.TheVariants as points
use Rattle.vtl_syntax.specs.declared.word_groups.Mode.{Mode}
use Rattle.vtl_syntax.specs.declared.word_groups.Mode.TheVariants as mode
use Rattle.vtl_tree.specs.RuleItems.{items_of, signed_item}
use Rattle.vtl_tree.specs.Structure.{same_name}
use Rattle.vtl_tree.specs.Trees as nodes
use Rattle.vtl_tree.specs.Trees.{NodeTree, structure_of}
use Rattle.check_faults.specs.InTurn.{in_turn}
use Rattle.check_faults.specs.declared.rules.Rule.{Rule}
use Rattle.check_operators.specs.Places.{Env}
use Rattle.check_operators.specs.Typed.{TypedTree, dataset_in, made_of}
use Rattle.check_operators.specs.declared.places.Place.TheVariants as place
use Rattle.check_rules.specs.Calls.{hierarchy_checked, hierarchy_made, point_checked, variables_known}
use Rattle.check_rules.specs.Order.{hierarchy_order}
use Rattle.check_expressions.specs.Rulings.{Rulings}
use Rattle.check_expressions.specs.Rulesets.{Definitions, HierDefinition, PointDefinition, at_variables, check_hierarchy_typed, checked_points, datapoint_typed, definition_named, hier_definition, hier_rules, hierarchy_typed, point_definition, point_rule_typed, point_rules_typed, rulings_of, variable_of}
use Rattle.check_laws.specs.Gives.{Gives}
use Rattle.check_laws.proofs.Steps.{after, then}
use Rattle.result_laws.proofs.Words.{AreSided, IsTreeWorded, IsWorded, most_items}
use Rattle.result_laws.proofs.WordedOperators.{dataset_in_worded, dataset_worded}

-- what calls give of an operand that has its words
pub record AreCallsWorded (p : Settings) (called : Rulings) : Type 0 where
  pub datapoint : (env : Env) (name : List ℕ) (o : Option CheckOut) (x : TypedTree) → IsTreeWorded p x → Gives (IsTreeWorded p) (called.datapoint env name o x)
  pub check_hierarchy : (name : List ℕ) (c : Option Comp) (m : Option Mode) (o : Option CheckOut) (x : TypedTree) → IsTreeWorded p x → Gives (IsTreeWorded p) (called.check_hierarchy name c m o x)
  pub hierarchy : (name : List ℕ) (c : Option Comp) (m : Option Mode) (i : Option HierInput) (o : Option HierOut) (x : TypedTree) → IsTreeWorded p x → Gives (IsTreeWorded p) (called.hierarchy name c m i o x)

abbrev pub AreDefinitionsWritten : Definitions → Type 0
AreDefinitionsWritten definitions = AllByRecursion (λ d. IsWritten d.1) definitions

-- ---- definitions
found_written : (name : List ℕ) (definitions : Definitions) → AreDefinitionsWritten definitions → IfSome (definition_named definitions name) IsWritten
found_written name [] h = tt
found_written name (d ∷ ds) h = go (same_name name d.0) (found_written name ds h.1)
  where
    go : (b : Bool) → IfSome (lookup (same_name name) ds) IsWritten → IfSome (cond b (Some d.1) (lookup (same_name name) ds)) IsWritten
    go true ih = h.0
    go false ih = ih

abbrev HasRules : PointDefinition → Type 0
HasRules d = 1 ≤ length d.rules

definition_filled : (o : Option StatementTree) → IfSome o IsWritten → Gives HasRules (point_definition o)
definition_filled (Some (tree.datapoint name variables rules last)) h = h.parts.2.0
definition_filled (Some (tree.assignment name kind e)) h = tt
definition_filled (Some (tree.hierarchical name item rules last)) h = tt
definition_filled None h = tt

-- each sign of a rule makes it one deeper
few_items : (rules : List HierRule) → deepest hier_rule_depth rules ≤ depth_limit → AllByRecursion (λ r. length (items_of r) ≤ most_items) rules
few_items [] h = tt
few_items (r ∷ rs) h =
    let many : length (items_of r) ≡ 2 + length r.others = ap (λ n. suc (suc n)) (length-map r.others signed_item) ∙ omega arith in
    let own : hier_rule_depth r ≤ depth_limit = omega (arith, h) in
    let rest : deepest hier_rule_depth rs ≤ depth_limit = omega (arith, h) in
    (omega (arith, many, own), few_items rs rest)

abbrev HasSides : HierDefinition → Type 0
HasSides d = AreSided d.rules

definition_sided : (o : Option StatementTree) → IfSome o IsWritten → Gives HasSides (hier_definition o)
definition_sided (Some (tree.hierarchical name item rules last)) h = record { some = h.parts.2.0; few = few_items rules h.shallow }
definition_sided (Some (tree.assignment name kind e)) h = tt
definition_sided (Some (tree.datapoint name variables rules last)) h = tt
definition_sided None h = tt

-- ---- as many things as items that give them in turn
as_many : {A B : Type 0} (step : List B → A → Result B Rule) (done : List B) (xs : List A) → Gives (λ ys. length ys ≡ length done + length xs) (in_turn step done xs)
as_many step done [] = let e : length done ≡ length done + 0 = omega arith in e
as_many step done (x ∷ xs) =
    after (λ ys. length ys ≡ length done + length (x ∷ xs)) (step done x) (λ y. in_turn step (done ++ y ∷ []) xs)
    (λ y.
    let e : length (done ++ y ∷ []) + length xs ≡ length done + length (x ∷ xs) = omega (arith, length-append done (y ∷ [])) in
    subst (λ n. Gives (λ ys. length ys ≡ n) (in_turn step (done ++ y ∷ []) xs)) e (as_many step (done ++ y ∷ []) xs))

-- ---- calls
module _ (p : Settings) where
  points_worded : (o : CheckOut) (a : NodeTree) (names : List (List ℕ)) (rules : List nodes.PointRuleTree) → IsWorded p a → 1 ≤ length rules → Gives (IsTreeWorded p) (checked_points o a names rules)
  points_worded o a names rules h some = dataset_worded p (nodes.check_datapoint a (record { variables = names; rules = rules }) o) (point_checked o (structure_of a)) (h, some)

  datapoint_worded : (env : Env) (o : Option CheckOut) (d : PointDefinition) (a : NodeTree) → HasRules d → IsWorded p a → Gives (IsTreeWorded p) (datapoint_typed env o d a)
  datapoint_worded env o d a some h =
      let checked = λ (names : List (List ℕ)). checked_points (unwrap_or o out.Invalid) a names in
      let at = λ (names : List (List ℕ)). place.Inside (at_variables names a) in
      after (IsTreeWorded p) (variables_known d.variables (structure_of a)) (λ names. point_rules_typed env (at names) d.rules >>= checked names)
      (λ names. then (λ rules. length rules ≡ 0 + length d.rules) (IsTreeWorded p) (point_rules_typed env (at names) d.rules) (checked names) (as_many (λ done r. point_rule_typed env (at names) r) [] d.rules)
      (λ rules many. points_worded (unwrap_or o out.Invalid) a names rules h (omega (arith, many, some))))

  checks_worded : (m : Mode) (o : CheckOut) (rules : List HierRule) (variable : List ℕ) (a : NodeTree) → IsWorded p a → AreSided rules → Gives (IsTreeWorded p) (check_hierarchy_typed m o rules variable a)
  checks_worded m o rules variable a h sided = dataset_worded p (nodes.check_hierarchy a (hier_rules variable rules None) m o) (hierarchy_checked o variable (structure_of a)) (h, sided)

  computed_worded : (m : Mode) (i : HierInput) (o : HierOut) (rules : List HierRule) (variable : List ℕ) (a : NodeTree) → IsWorded p a → AreSided rules → Gives (IsTreeWorded p) (hierarchy_typed m i o rules variable a)
  computed_worded m i o rules variable a h sided =
      after (IsTreeWorded p) (hierarchy_made variable (structure_of a)) (λ s. hierarchy_order rules >>= λ order. made_of (nodes.hierarchy a (hier_rules variable rules (Some order)) m i o) s)
      (λ s. after (IsTreeWorded p) (hierarchy_order rules) (λ order. made_of (nodes.hierarchy a (hier_rules variable rules (Some order)) m i o) s) (λ order. (h, sided)))

  pub rulings_worded : (definitions : Definitions) → AreDefinitionsWritten definitions → AreCallsWorded p (rulings_of definitions)
  rulings_worded definitions written = record {
    datapoint = λ env name o x h.
        then HasRules (IsTreeWorded p) (point_definition (definition_named definitions name)) (λ d. dataset_in x >>= datapoint_typed env o d) (definition_filled (definition_named definitions name) (found_written name definitions written))
        (λ d some. then (IsWorded p) (IsTreeWorded p) (dataset_in x) (datapoint_typed env o d) (dataset_in_worded p x h) (λ a k. datapoint_worded env o d a some k));
    check_hierarchy = λ name c m o x h.
        let called = λ (d : HierDefinition) (v : List ℕ). check_hierarchy_typed (unwrap_or m mode.NonNull) (unwrap_or o out.Invalid) d.rules v in
        then HasSides (IsTreeWorded p) (hier_definition (definition_named definitions name)) (λ d. variable_of c d >>= λ v. dataset_in x >>= called d v) (definition_sided (definition_named definitions name) (found_written name definitions written))
        (λ d sided. after (IsTreeWorded p) (variable_of c d) (λ v. dataset_in x >>= called d v)
        (λ v. then (IsWorded p) (IsTreeWorded p) (dataset_in x) (called d v) (dataset_in_worded p x h) (λ a k. checks_worded (unwrap_or m mode.NonNull) (unwrap_or o out.Invalid) d.rules v a k sided)));
    hierarchy = λ name c m i o x h.
        let called = λ (d : HierDefinition) (v : List ℕ). hierarchy_typed (unwrap_or m mode.NonNull) (unwrap_or i input.Rule) (unwrap_or o points.Computed) d.rules v in
        then HasSides (IsTreeWorded p) (hier_definition (definition_named definitions name)) (λ d. variable_of c d >>= λ v. dataset_in x >>= called d v) (definition_sided (definition_named definitions name) (found_written name definitions written))
        (λ d sided. after (IsTreeWorded p) (variable_of c d) (λ v. dataset_in x >>= called d v)
        (λ v. then (IsWorded p) (IsTreeWorded p) (dataset_in x) (called d v) (dataset_in_worded p x h) (λ a k. computed_worded (unwrap_or m mode.NonNull) (unwrap_or i input.Rule) (unwrap_or o points.Computed) d.rules v a k sided)));
  }
