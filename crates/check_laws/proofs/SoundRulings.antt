-- Calls of accepted definitions are sound.
use Rattle.std.proofs.Common.{◌≡◌, ℕ, suc, ◌+◌, Bool, true, false, cond, ◌&&◌, not, List, [], ◌∷◌, map, Option, Some, None, Ok, refl, sym, ap, ◌∙◌, arith}
use Rattle.std.specs.List.{AllByRecursion, list_all, list_any}
use Rattle.std.specs.Map.{lookup}
use Rattle.std.specs.Option.{IfSome}
use Rattle.std.specs.Prelude.{unwrap_or}
use Rattle.std.proofs.lemmas.Bool.{not-false}
use Rattle.vtl_decimal.specs.Settings.{Settings}
use Rattle.vtl_lists.specs.Apart.{all_apart}
use Rattle.vtl_lists.specs.Results.{◌>>=◌}
use Rattle.vtl_lists.proofs.Filters.{list_any-map}
use Rattle.vtl_syntax.specs.Trees as tree
use Rattle.vtl_syntax.specs.Trees.{StatementTree}
use Rattle.vtl_syntax.specs.declared.parts.Comp.{Comp}
use Rattle.vtl_syntax.specs.declared.statements.HierRule.{HierRule}
use Rattle.vtl_syntax.specs.declared.word_groups.CheckOut.{CheckOut}
use Rattle.vtl_syntax.specs.declared.word_groups.CheckOut.TheVariants as out
use Rattle.vtl_syntax.specs.declared.word_groups.HierInput.{HierInput}
use Rattle.vtl_syntax.specs.declared.word_groups.HierInput.TheVariants as input
use Rattle.vtl_syntax.specs.declared.word_groups.HierOut.{HierOut}
use Rattle.vtl_syntax.specs.declared.word_groups.HierOut.TheVariants as points
use Rattle.vtl_syntax.specs.declared.word_groups.Mode.{Mode}
use Rattle.vtl_syntax.specs.declared.word_groups.Mode.TheVariants as mode
use Rattle.vtl_tree.specs.Checks.{rule_id, with_ids}
use Rattle.vtl_tree.specs.Names.{name_of}
use Rattle.vtl_tree.specs.RuleItems.{definitions, left_item}
use Rattle.vtl_tree.specs.Structure.{same_name}
use Rattle.vtl_tree.specs.Trees as nodes
use Rattle.vtl_tree.specs.Trees.{NodeTree, structure_of}
use Rattle.vtl_tree.specs.declared.rules.HierRules.{HierRules}
use Rattle.check_faults.specs.Rules.{Tests, ruled}
use Rattle.check_faults.specs.declared.rules.Rule.{Rule}
use Rattle.check_faults.specs.declared.rules.Rule.TheVariants as rule
use Rattle.check_operators.specs.Places.{Env, columns_in}
use Rattle.check_operators.specs.Typed.{dataset_in, made_of}
use Rattle.check_operators.specs.declared.places.Place.{Place}
use Rattle.check_operators.specs.declared.places.Place.TheVariants as place
use Rattle.check_rules.specs.Calls.{hierarchy_checked, hierarchy_made, point_checked, variables_known}
use Rattle.check_rules.specs.Definitions.{are_told_apart, hier_rules_defined, identifiers_from, level_fits, point_rule_error, point_rule_name}
use Rattle.check_rules.specs.Order.{computed_items, hierarchy_order, order_of, placed_or_circular}
use Rattle.check_expressions.specs.Rulesets.{Definitions, HierDefinition, PointDefinition, at_variables, check_hierarchy_typed, checked_points, datapoint_typed, definition_named, hier_definition, hier_rules, hierarchy_typed, point_definition, point_rules_typed, rulings_of, variable_of}
use Rattle.vtl_meaning.specs.Shapes.{IsShaped}
use Rattle.vtl_rulings.specs.HierarchyChecks.{ruled_by}
use Rattle.vtl_rulings.specs.HierarchyShapes.{IsHierarchyChecked, IsHierarchyMade}
use Rattle.vtl_rulings.specs.Ordered.{HasOrder}
use Rattle.vtl_rulings.specs.Shaped.{IsPointChecked, IsPointRuleOver}
use Rattle.vtl_scripts.specs.Made.{IsMade}
use Rattle.check_laws.specs.Gives.{Gives}
use Rattle.check_laws.specs.SoundRulings.{AreAccepted, AreSoundRulings, IsAccepted, IsSoundCall, env_of}
use Rattle.check_laws.specs.WellTyped.{AreShaped, IsWellTyped}
use Rattle.check_laws.proofs.CheckShapes.{hierarchy-checked-fits, hierarchy-made-fits, point-fits}
use Rattle.check_laws.proofs.Conditions.{rules-over}
use Rattle.check_laws.proofs.Inner.{made-shaped}
use Rattle.check_laws.proofs.Operators.{IsMadeWith, made-gives}
use Rattle.check_laws.proofs.Ordered.{placed-gives}
use Rattle.check_laws.proofs.Sets.{dataset-gives}
use Rattle.check_laws.proofs.Steps.{after, given, passed, tested, tested-then, then, under, weaker}

-- ---- rules with identifiers
apart-mapped : {X Y : Type 0} (same : Y → Y → Bool) (f : X → Y) (xs : List X) → all_apart same (map f xs) ≡ all_apart (λ x y. same (f x) (f y)) xs
apart-mapped same f [] = refl
apart-mapped same f (x ∷ xs) = ap (λ b. not b && all_apart same (map f xs)) (list_any-map (same (f x)) f xs) ∙ ap (λ b. not (list_any (λ y. same (f x) (f y)) xs) && b) (apart-mapped same f xs)

ids-named : {R : Type 0} (name : R → Option (List ℕ)) (i : ℕ) (rs : List R) → map (λ x. x.0) (with_ids name i rs) ≡ identifiers_from i (map name rs)
ids-named name i [] = refl
ids-named name i (r ∷ rs) = let next : suc i ≡ i + 1 = omega arith in ap (λ l. rule_id i (name r) ∷ l) (ids-named name (suc i) rs ∙ ap (λ j. identifiers_from j (map name rs)) next)

-- rules whose names are told apart have distinct identifiers
told-apart : {R : Type 0} (name : R → Option (List ℕ)) (rs : List R) → are_told_apart (map name rs) ≡ true → all_apart (λ x y. same_name x.0 y.0) (with_ids name 1 rs) ≡ true
told-apart name rs e = sym (apart-mapped same_name (λ x. x.0) (with_ids name 1 rs)) ∙ ap (all_apart same_name) (ids-named name 1 rs) ∙ e

-- ---- accepted definitions
pub looked : {V : Type 0} (P : V → Type 0) (test : List ℕ → Bool) (xs : List (List ℕ × V)) → AllByRecursion (λ x. P x.1) xs → IfSome (lookup test xs) P
looked P test [] h = tt
looked P test (x ∷ xs) h = go (test x.0) (looked P test xs h.1)
  where
    go : (b : Bool) → IfSome (lookup test xs) P → IfSome (cond b (Some x.1) (lookup test xs)) P
    go true ih = h.0
    go false ih = ih

abbrev ArePointRules : PointDefinition → Type 0
ArePointRules d = are_told_apart (map point_rule_name d.rules) ≡ true

abbrev AreHierRules : HierDefinition → Type 0
AreHierRules d = are_told_apart (map (λ r. r.name) d.rules) ≡ true

-- the last of three tests
third : (a b c : Rule × Bool) → ruled (a ∷ b ∷ c ∷ []) (tt {0}) ≡ Ok tt → c.1 ≡ false
third a b c e = (passed (a ∷ b ∷ c ∷ []) e).1.1.0

point-definition : (p : Settings) (o : Option StatementTree) → IfSome o (IsAccepted p) → Gives ArePointRules (point_definition o)
point-definition p None h = tt
point-definition p (Some (tree.assignment name kind e)) h = tt
point-definition p (Some (tree.hierarchical name item rules last)) h = tt
point-definition p (Some (tree.datapoint name variables rules last)) h = not-false (are_told_apart (map point_rule_name rules)) (third (rule.RepeatedName, not (all_apart same_name (map name_of variables))) (rule.WrongLiteral, not (list_all (λ r. level_fits p (point_rule_error r)) rules)) (rule.RepeatedRule, not (are_told_apart (map point_rule_name rules))) h)

hier-definition : (p : Settings) (o : Option StatementTree) → IfSome o (IsAccepted p) → Gives AreHierRules (hier_definition o)
hier-definition p None h = tt
hier-definition p (Some (tree.assignment name kind e)) h = tt
hier-definition p (Some (tree.datapoint name variables rules last)) h = tt
hier-definition p (Some (tree.hierarchical name item rules last)) h =
    given (λ u. Apart) (hier_rules_defined p rules >>= λ u. ruled tests (tt {0})) tt (after (λ u. Apart) (hier_rules_defined p rules) (λ u. ruled tests (tt {0})) (λ u. tested (λ u. Apart) tests tt (λ passed. not-false (are_told_apart (map (λ r. r.name) rules)) passed.0))) h
  where
    Apart : Type 0
    Apart = are_told_apart (map (λ r. r.name) rules) ≡ true

    tests : Tests
    tests = (rule.RepeatedRule, not (are_told_apart (map (λ r. r.name) rules))) ∷ []

-- ---- calls of a definition
module _ (env : Env) (are : AreShaped env.known) (at : Place) (a : NodeTree) (is : IsMade env.settings env.known a) where
  datapoint-gives : (o : Option CheckOut) (d : PointDefinition) → ArePointRules d → Gives (IsWellTyped env at) (datapoint_typed env o d a)
  datapoint-gives o d told =
      after (IsWellTyped env at) (variables_known d.variables (structure_of a)) (λ names. point_rules_typed env (place.Inside (at_variables names a)) d.rules >>= checked_points shown a names)
      (λ names. then (Are names) (IsWellTyped env at) (point_rules_typed env (place.Inside (at_variables names a)) d.rules) (checked_points shown a names) (rules-over env are names a d.rules) (one names))
    where
      shown : CheckOut
      shown = unwrap_or o out.Invalid

      Are : List (List ℕ) → List nodes.PointRuleTree → Type 0
      Are names ts = AllByRecursion (IsPointRuleOver env.settings (columns_in a)) ts × (map (λ t. t.name) ts ≡ map point_rule_name d.rules)

      one : (names : List (List ℕ)) (ts : List nodes.PointRuleTree) → Are names ts → Gives (IsWellTyped env at) (checked_points shown a names ts)
      one names ts h =
          made-gives env at (nodes.check_datapoint a (record { variables = names; rules = ts }) shown) (point_checked shown (structure_of a))
          (weaker (λ s. IsShaped s × IsPointChecked env.settings shown ts (structure_of a) s) (IsMadeWith env (nodes.check_datapoint a (record { variables = names; rules = ts }) shown)) (point_checked shown (structure_of a)) (λ s k. (k.0, (is, k.1)))
          (point-fits env.settings shown ts (structure_of a) h.0 (told-apart (λ t. t.name) ts (ap are_told_apart h.1 ∙ told))))

  check-hierarchy-gives : (m : Mode) (o : CheckOut) (rules : List HierRule) (variable : List ℕ) → are_told_apart (map (λ r. r.name) rules) ≡ true → Gives (IsWellTyped env at) (check_hierarchy_typed m o rules variable a)
  check-hierarchy-gives m o rules variable told =
      made-gives env at (nodes.check_hierarchy a under_rules m o) (hierarchy_checked o variable (structure_of a))
      (weaker (λ s. IsShaped s × IsHierarchyChecked o (ruled_by under_rules (structure_of a)) rules (structure_of a) s) (IsMadeWith env (nodes.check_hierarchy a under_rules m o)) (hierarchy_checked o variable (structure_of a)) (λ s k. (k.0, (is, k.1)))
      (hierarchy-checked-fits o under_rules (structure_of a) (made-shaped env.settings env.known a is) (told-apart (λ r. r.name) rules told)))
    where
      under_rules : HierRules
      under_rules = hier_rules variable rules None

  hierarchy-gives : (m : Mode) (i : HierInput) (o : HierOut) (rules : List HierRule) (variable : List ℕ) → Gives (IsWellTyped env at) (hierarchy_typed m i o rules variable a)
  hierarchy-gives m i o rules variable =
      then (λ s. Apart → IsShaped s × IsHierarchyMade (ruled_by (hier_rules variable rules None) (structure_of a)) rules (structure_of a) s) (IsWellTyped env at) (hierarchy_made variable (structure_of a)) (λ s. hierarchy_order rules >>= λ order. made_of (nodes.hierarchy a (hier_rules variable rules (Some order)) m i o) s)
      (under Apart (λ s. IsShaped s × IsHierarchyMade (ruled_by (hier_rules variable rules None) (structure_of a)) rules (structure_of a) s) (hierarchy_made variable (structure_of a)) (hierarchy-made-fits (hier_rules variable rules None) (structure_of a) (made-shaped env.settings env.known a is)))
      (λ s fits. then Known (IsWellTyped env at) (hierarchy_order rules) (λ order. made_of (nodes.hierarchy a (hier_rules variable rules (Some order)) m i o) s) order-gives (λ order known. ((fits known.0).0, (is, (fits known.0).1, known.1))))
    where
      Apart : Type 0
      Apart = all_apart (λ q r. same_name (left_item q) (left_item r)) (definitions rules) ≡ true

      Known : List ℕ → Type 0
      Known order = Apart × HasOrder rules (Some order)

      order-gives : Gives Known (hierarchy_order rules)
      order-gives =
          tested-then Known ((rule.CircularHierarchy, not (all_apart same_name (computed_items rules))) ∷ []) (λ u. placed_or_circular (order_of rules))
          (λ passed. weaker (λ order. HasOrder rules (Some order)) Known (placed_or_circular (order_of rules)) (λ order has. (sym (apart-mapped same_name left_item (definitions rules)) ∙ not-false (all_apart same_name (computed_items rules)) passed.0, has)) (placed-gives rules (order_of rules) refl))

-- ---- all calls
pub rulings-of : (p : Settings) (ds : Definitions) → AreAccepted p ds → AreSoundRulings p (rulings_of ds)
rulings-of p ds accepted = record { datapoint = datapoint; check_hierarchy = check-hierarchy; hierarchy = hierarchy }
  where
    here : (name : List ℕ) → IfSome (definition_named ds name) (IsAccepted p)
    here name = looked (IsAccepted p) (same_name name) ds accepted

    datapoint : (name : List ℕ) (o : Option CheckOut) → IsSoundCall p (λ env. (rulings_of ds).datapoint env name o)
    datapoint name o known are at x h =
        then ArePointRules (IsWellTyped (env_of p known) at) (point_definition (definition_named ds name)) (λ d. dataset_in x >>= datapoint_typed (env_of p known) o d) (point-definition p (definition_named ds name) (here name))
        (λ d told. then (IsMade p known) (IsWellTyped (env_of p known) at) (dataset_in x) (datapoint_typed (env_of p known) o d) (dataset-gives (env_of p known) place.Outside x h) (λ a is. datapoint-gives (env_of p known) are at a is o d told))

    check-hierarchy : (name : List ℕ) (r : Option Comp) (m : Option Mode) (o : Option CheckOut) → IsSoundCall p (λ env. (rulings_of ds).check_hierarchy name r m o)
    check-hierarchy name r m o known are at x h =
        then AreHierRules (IsWellTyped (env_of p known) at) (hier_definition (definition_named ds name)) (λ d. variable_of r d >>= λ v. dataset_in x >>= check_hierarchy_typed (unwrap_or m mode.NonNull) (unwrap_or o out.Invalid) d.rules v) (hier-definition p (definition_named ds name) (here name))
        (λ d told. after (IsWellTyped (env_of p known) at) (variable_of r d) (λ v. dataset_in x >>= check_hierarchy_typed (unwrap_or m mode.NonNull) (unwrap_or o out.Invalid) d.rules v)
        (λ v. then (IsMade p known) (IsWellTyped (env_of p known) at) (dataset_in x) (check_hierarchy_typed (unwrap_or m mode.NonNull) (unwrap_or o out.Invalid) d.rules v) (dataset-gives (env_of p known) place.Outside x h)
        (λ a is. check-hierarchy-gives (env_of p known) are at a is (unwrap_or m mode.NonNull) (unwrap_or o out.Invalid) d.rules v told)))

    hierarchy : (name : List ℕ) (r : Option Comp) (m : Option Mode) (i : Option HierInput) (o : Option HierOut) → IsSoundCall p (λ env. (rulings_of ds).hierarchy name r m i o)
    hierarchy name r m i o known are at x h =
        after (IsWellTyped (env_of p known) at) (hier_definition (definition_named ds name)) (λ d. variable_of r d >>= λ v. dataset_in x >>= hierarchy_typed (unwrap_or m mode.NonNull) (unwrap_or i input.Rule) (unwrap_or o points.Computed) d.rules v)
        (λ d. after (IsWellTyped (env_of p known) at) (variable_of r d) (λ v. dataset_in x >>= hierarchy_typed (unwrap_or m mode.NonNull) (unwrap_or i input.Rule) (unwrap_or o points.Computed) d.rules v)
        (λ v. then (IsMade p known) (IsWellTyped (env_of p known) at) (dataset_in x) (hierarchy_typed (unwrap_or m mode.NonNull) (unwrap_or i input.Rule) (unwrap_or o points.Computed) d.rules v) (dataset-gives (env_of p known) place.Outside x h)
        (λ a is. hierarchy-gives (env_of p known) are at a is (unwrap_or m mode.NonNull) (unwrap_or i input.Rule) (unwrap_or o points.Computed) d.rules v)))
