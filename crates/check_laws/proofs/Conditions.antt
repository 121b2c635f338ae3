-- Conditions that see the variables of a ruleset alone, and the rules that hold them.
use Rattle.std.proofs.Common.{◌≡◌, ℕ, zero, suc, Bool, true, false, cond, not, List, [], ◌∷◌, map, Option, Some, None, Ok, refl}
use Rattle.std.proofs.lemmas.Bool.{false≢true, and_parts, not-false}
use Rattle.std.specs.List.{AllByRecursion}
use Rattle.std.specs.Option.{IfSome}
use Rattle.vtl_lists.specs.Results.{◌>>=◌}
use Rattle.vtl_decimal.specs.Settings.{Settings}
use Rattle.vtl_cell.specs.declared.kind.Kind.{Kind}
use Rattle.vtl_syntax.specs.Trees as tree
use Rattle.vtl_syntax.specs.Trees.{Exp, PointRuleTree}
use Rattle.vtl_tree.specs.CompExp.{CompExp, CompExps, column, const, call, aggregate, no_comp_exps, comp_exp}
use Rattle.vtl_tree.specs.Names.{is_among}
use Rattle.vtl_tree.specs.Trees as nodes
use Rattle.vtl_tree.specs.Trees.{NodeTree}
use Rattle.vtl_tree.specs.declared.structure.Component.{Component}
use Rattle.check_faults.specs.Rules.{ruled}
use Rattle.check_faults.specs.declared.rules.Rule.TheVariants as rule
use Rattle.check_operators.specs.Places.{Env, columns_in}
use Rattle.check_operators.specs.Sets.{level_typed}
use Rattle.check_operators.specs.Typed.{condition_in}
use Rattle.check_operators.specs.declared.places.Place.{Place}
use Rattle.check_operators.specs.declared.places.Place.TheVariants as place
use Rattle.check_rules.specs.Calls.{all_see_names, seen_columns, sees_names}
use Rattle.check_rules.specs.Definitions.{point_rule_name}
use Rattle.check_expressions.specs.Rulesets.{antecedent_typed, at_variables, condition_typed, point_rule_typed, point_rules_typed}
use Rattle.check_expressions.specs.Rulings.{plain_sight}
use Rattle.check_expressions.specs.Typing.{typed}
use Rattle.vtl_meaning.specs.Made.{AreTyped, IsColumnAt, IsTyped}
use Rattle.vtl_rulings.specs.Shaped.{IsConditionOver, IsPointRuleOver}
use Rattle.check_laws.specs.Gives.{Gives}
use Rattle.check_laws.specs.WellTyped.{AreShaped, IsWellTyped}
use Rattle.check_laws.proofs.Having.{IsCondition, condition-gives}
use Rattle.check_laws.proofs.Sets.{IsLevel, level-gives}
use Rattle.check_laws.proofs.Sound.{no-rulings, sound}
use Rattle.check_laws.proofs.Steps.{after, both, tested, then}
use Rattle.check_laws.proofs.Turns.{in-turn, kept-in-turn}

-- ---- the columns that conditions see
-- a column that is seen under a name has it
seen-at : (names : List (List ℕ)) (place : ℕ) (q : ℕ) (name : List ℕ) (kind : Kind) (xs : List Component) → IsColumnAt place (q ∷ name) kind (seen_columns names xs) → IsColumnAt place (q ∷ name) kind xs
seen-at names place q name kind [] h = h
seen-at names zero q name kind (x ∷ xs) h = go (is_among x.name names) h
  where
    go : (b : Bool) → ((cond b x (record x { name = [] })).name ≡ q ∷ name) × ((cond b x (record x { name = [] })).kind ≡ kind) → (x.name ≡ q ∷ name) × (x.kind ≡ kind)
    go true h = h
    go false h = let e : [] ≡ q ∷ name = h.0 in cc
seen-at names (suc place) q name kind (x ∷ xs) h = seen-at names place q name kind xs h

mutual
  pub seen-typed : (p : Settings) (names : List (List ℕ)) (xs : List Component) (e : CompExp) → sees_names e ≡ true → IsTyped p (seen_columns names xs) e → IsTyped p xs e
  seen-typed p names xs (column place [] kind) s h = absurd (false≢true s)
  seen-typed p names xs (column place (q ∷ name) kind) s h = seen-at names place q name kind xs h
  seen-typed p names xs (const v) s h = h
  seen-typed p names xs (call o kind args) s h = (h.0, all-typed p names xs args s h.1, h.2)
  seen-typed p names xs (aggregate a kind) s h = h

  all-typed : (p : Settings) (names : List (List ℕ)) (xs : List Component) (es : CompExps) → all_see_names es ≡ true → AreTyped p (seen_columns names xs) es → AreTyped p xs es
  all-typed p names xs no_comp_exps s h = tt
  all-typed p names xs (comp_exp e es) s h = let both = and_parts (sees_names e) (all_see_names es) s in (seen-typed p names xs e both.0 h.0, all-typed p names xs es both.1 h.1)

-- ---- the names of rules
-- a rule is typed under its name
rule-named : (env : Env) (at : Place) (r : PointRuleTree) → Gives (λ t. t.name ≡ point_rule_name r) (point_rule_typed env at r)
rule-named env at (tree.point_rule name antecedent holds error) =
    after Q (antecedent_typed env at antecedent) (λ c. condition_typed env at holds >>= λ h. level_typed env.settings error.level >>= λ level. Ok (record { name = name; antecedent = c; condition = h; errorcode = error.code; errorlevel = level }))
    (λ c. after Q (condition_typed env at holds) (λ h. level_typed env.settings error.level >>= λ level. Ok (record { name = name; antecedent = c; condition = h; errorcode = error.code; errorlevel = level }))
    (λ h. after Q (level_typed env.settings error.level) (λ level. Ok (record { name = name; antecedent = c; condition = h; errorcode = error.code; errorlevel = level })) (λ level. refl)))
  where
    Q : nodes.PointRuleTree → Type 0
    Q t = t.name ≡ name

pub names-kept : (env : Env) (at : Place) (rules : List PointRuleTree) → Gives (λ ts. map (λ t. t.name) ts ≡ map point_rule_name rules) (point_rules_typed env at rules)
names-kept env at rules = kept-in-turn point_rule_name (λ t. t.name) (λ done r. point_rule_typed env at r) (λ done r. rule-named env at r) [] rules

-- ---- rules
-- where the data sets that are known are shaped
module _ (env : Env) (are : AreShaped env.known) (names : List (List ℕ)) (a : NodeTree) where
  abbrev at : Place
  at = place.Inside (at_variables names a)

  abbrev IsOver : CompExp → Type 0
  IsOver e = IsConditionOver env.settings (columns_in a) e

  condition-over : (e : Exp) → Gives IsOver (condition_typed env at e)
  condition-over e =
      then (IsCondition env.settings at) IsOver (typed (plain_sight env) at e >>= condition_in) (λ c. ruled ((rule.UnknownComponent, not (sees_names c)) ∷ []) c)
      (then (IsWellTyped env at) (IsCondition env.settings at) (typed (plain_sight env) at e) condition_in (sound (plain_sight env) are (no-rulings env.settings) at e) (condition-gives env at))
      (λ c is. tested IsOver ((rule.UnknownComponent, not (sees_names c)) ∷ []) c (λ passed. (seen-typed env.settings names (columns_in a) c (not-false (sees_names c) passed.0) is.0, is.1)))

  antecedent-over : (e : Option Exp) → Gives (λ c. IfSome c IsOver) (antecedent_typed env at e)
  antecedent-over None = tt
  antecedent-over (Some e) = then IsOver (λ c. IfSome c IsOver) (condition_typed env at e) (λ c. Ok (Some c)) (condition-over e) (λ c h. h)

  pub rule-over : (r : PointRuleTree) → Gives (IsPointRuleOver env.settings (columns_in a)) (point_rule_typed env at r)
  rule-over (tree.point_rule name antecedent holds error) =
      then (λ c. IfSome c IsOver) Q (antecedent_typed env at antecedent) (λ c. condition_typed env at holds >>= λ h. level_typed env.settings error.level >>= λ level. Ok (record { name = name; antecedent = c; condition = h; errorcode = error.code; errorlevel = level })) (antecedent-over antecedent)
      (λ c hc. then IsOver Q (condition_typed env at holds) (λ h. level_typed env.settings error.level >>= λ level. Ok (record { name = name; antecedent = c; condition = h; errorcode = error.code; errorlevel = level })) (condition-over holds)
      (λ h hh. then (IsLevel env.settings) Q (level_typed env.settings error.level) (λ level. Ok (record { name = name; antecedent = c; condition = h; errorcode = error.code; errorlevel = level })) (level-gives env.settings error.level)
      (λ level l. record { antecedent = hc; condition = hh; level = l })))
    where
      Q : nodes.PointRuleTree → Type 0
      Q t = IsPointRuleOver env.settings (columns_in a) t

  -- all of a ruleset, under their names
  pub rules-over : (rules : List PointRuleTree) → Gives (λ ts. AllByRecursion (IsPointRuleOver env.settings (columns_in a)) ts × (map (λ t. t.name) ts ≡ map point_rule_name rules)) (point_rules_typed env at rules)
  rules-over rules =
      both (AllByRecursion (IsPointRuleOver env.settings (columns_in a))) (λ ts. map (λ t. t.name) ts ≡ map point_rule_name rules) (point_rules_typed env at rules)
      (in-turn (IsPointRuleOver env.settings (columns_in a)) (λ done r. point_rule_typed env at r) (λ done r. rule-over r) rules) (names-kept env at rules)
