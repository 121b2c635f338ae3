-- What the definitions give for small rulesets.
use Rattle.std.proofs.Common.{◌≡◌, ℕ, zero, suc, true, false, List, [], ◌∷◌, Some, None, Err, refl, sym, ap, ◌∙◌}
use Rattle.std.specs.Prelude.{codes, slice_get}
use Rattle.std.specs.List.{list_any}
use Rattle.vtl_decimal.specs.Settings.{Settings}
use Rattle.vtl_decimal.specs.declared.settings.Rounding.TheVariants.{HalfUp}
use Rattle.vtl_syntax.specs.declared.parts.Comp.TheVariants as comp
use Rattle.vtl_syntax.specs.declared.parts.SignedComp.{SignedComp}
use Rattle.vtl_syntax.specs.declared.statements.HierRule.{HierRule}
use Rattle.vtl_syntax.specs.declared.word_groups.Addition.TheVariants as sign
use Rattle.vtl_syntax.specs.declared.word_groups.Comparison.{Comparison}
use Rattle.vtl_syntax.specs.declared.word_groups.Comparison.TheVariants as compared
use Rattle.vtl_tree.specs.Structure.{same_name}
use Rattle.check_faults.specs.declared.rules.Rule.TheVariants as rule
use Rattle.check_rules.specs.Definitions.{hierarchical_defined}
use Rattle.check_rules.specs.Order.{DependsOn, IsCycle, IsMadeOf, directly, hierarchy_order, none, order_of, passed, taken, through}
use Rattle.vtl_tree.specs.RuleItems.{right_items}

abbrev rule_of : List ℕ → Comparison → List ℕ → List SignedComp → HierRule
rule_of left o first others = record { name = Some left; item = comp.Name left; comparison = o; sign = None; first = comp.Name first; others = others; error = record { code = None; level = None } }

abbrev plus : List ℕ → SignedComp
plus item = record { sign = sign.Plus; item = comp.Name item }

-- `A = B + C; B = D + E; B > D`: the second rule is computed first, the third not at all
abbrev sums : List HierRule
sums = rule_of (codes "A") compared.Equal (codes "B") (plus (codes "C") ∷ []) ∷ rule_of (codes "B") compared.Equal (codes "D") (plus (codes "E") ∷ []) ∷ rule_of (codes "B") compared.Greater (codes "D") [] ∷ []

second_first : order_of sums ≡ Some (1 ∷ 0 ∷ [])
second_first = refl

-- rules that do not await each other keep their order
apart : order_of (rule_of (codes "A") compared.Equal (codes "C") [] ∷ rule_of (codes "B") compared.Equal (codes "C") [] ∷ []) ≡ Some (0 ∷ 1 ∷ [])
apart = refl

-- `A = B + C; B = A + E; D = A`: A and B depend on themselves; D only stands behind them, though its rule cannot be placed either
abbrev circular : List HierRule
circular = rule_of (codes "A") compared.Equal (codes "B") (plus (codes "C") ∷ []) ∷ rule_of (codes "B") compared.Equal (codes "A") (plus (codes "E") ∷ []) ∷ rule_of (codes "D") compared.Equal (codes "A") [] ∷ []

stuck : order_of circular ≡ None
stuck = refl

a_of_b : IsMadeOf circular (codes "A") (codes "B")
a_of_b = (0, rule_of (codes "A") compared.Equal (codes "B") (plus (codes "C") ∷ []), refl, refl, refl)

b_of_a : IsMadeOf circular (codes "B") (codes "A")
b_of_a = (1, rule_of (codes "B") compared.Equal (codes "A") (plus (codes "E") ∷ []), refl, refl, refl)

-- what something depends on stands on the right of a rule
is_used : (rules : List HierRule) (item on : List ℕ) → DependsOn rules item on → (i : ℕ) × (r : HierRule) × (slice_get rules i ≡ Some r) × (list_any (same_name on) (right_items r) ≡ true)
is_used rules item on (directly a b m) = (m.0, m.1, m.2, m.4)
is_used rules item on (through a p b m d) = is_used rules p b d

unused : (i : ℕ) (r s : HierRule) → slice_get circular i ≡ Some s → slice_get circular i ≡ Some r → list_any (same_name (codes "D")) (right_items s) ≡ false → list_any (same_name (codes "D")) (right_items r) ≡ true → ⊥
unused i r s there at off on = let same : s ≡ r = cc in never (sym off ∙ ap (λ q. list_any (same_name (codes "D")) (right_items q)) same ∙ on)
  where
    never : false ≡ true → ⊥
    never e = cc

d_unused : (i : ℕ) (r : HierRule) → slice_get circular i ≡ Some r → list_any (same_name (codes "D")) (right_items r) ≡ true → ⊥
d_unused zero r at h = unused 0 r (rule_of (codes "A") compared.Equal (codes "B") (plus (codes "C") ∷ [])) refl at refl h
d_unused (suc zero) r at h = unused 1 r (rule_of (codes "B") compared.Equal (codes "A") (plus (codes "E") ∷ [])) refl at refl h
d_unused (suc (suc zero)) r at h = unused 2 r (rule_of (codes "D") compared.Equal (codes "A") []) refl at refl h
d_unused (suc (suc (suc i))) r at h = cc

in_a_circle : IsCycle circular (codes "A" ∷ codes "B" ∷ [])
in_a_circle =
    taken (codes "A") (through (codes "A") (codes "B") (codes "A") a_of_b (directly (codes "B") (codes "A") b_of_a))
    (taken (codes "B") (through (codes "B") (codes "A") (codes "B") b_of_a (directly (codes "A") (codes "B") a_of_b))
    (passed (codes "D") (λ d. let u = is_used circular (codes "D") (codes "D") d in d_unused u.0 u.1 u.2 u.3) none))

-- two rules of one item, though they have an order
twice : hierarchy_order (rule_of (codes "A") compared.Equal (codes "B") [] ∷ rule_of (codes "A") compared.Equal (codes "C") [] ∷ []) ≡ Err rule.CircularHierarchy
twice = refl

-- ---- definitions
abbrev whole : Settings
whole = record { scale = 0; rounding = HalfUp }

-- an item that stands twice in the first rule comes before a level that is out of range in the second
abbrev high : List ℕ
high = codes "1000000000000000000"

item_first : hierarchical_defined whole (rule_of (codes "A") compared.Equal (codes "B") (plus (codes "B") ∷ []) ∷ record (rule_of (codes "B") compared.Equal (codes "C") []) { error = record { code = None; level = Some high } } ∷ []) ≡ Err rule.RepeatedRule
item_first = refl

level_first : hierarchical_defined whole (record (rule_of (codes "B") compared.Equal (codes "C") []) { error = record { code = None; level = Some high } } ∷ rule_of (codes "A") compared.Equal (codes "B") (plus (codes "B") ∷ []) ∷ []) ≡ Err rule.WrongLiteral
unfolding lib.Utf8.encode
level_first = refl

-- one name twice
names_twice : hierarchical_defined whole (rule_of (codes "A") compared.Equal (codes "B") [] ∷ rule_of (codes "A") compared.Less (codes "B") [] ∷ []) ≡ Err rule.RepeatedRule
names_twice = refl
