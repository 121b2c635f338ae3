-- The order that typing finds is one in which the rules can be run.
use Rattle.std.proofs.Common.{◌≡◌, ℕ, Bool, true, false, cond, ◌&&◌, List, [], ◌∷◌, Option, Some, None, refl, sym, ap, ◌∙◌}
use Rattle.std.specs.List.{AllByRecursion}
use Rattle.vtl_lists.specs.Perm.{Perm}
use Rattle.vtl_lists.proofs.Perms.{AllByRecursion-Perm, Perm-sym}
use Rattle.vtl_syntax.specs.declared.statements.HierRule.{HierRule}
use Rattle.vtl_tree.specs.RuleItems.{definitions, is_equation, left_item, right_items}
use Rattle.vtl_tree.specs.Structure.{same_name}
use Rattle.vtl_meaning.proofs.Places.{same_name-sym}
use Rattle.check_rules.specs.InOrder as typed
use Rattle.check_rules.specs.Order.{order_of, placed_or_circular}
use Rattle.check_rules.proofs.InOrder.{order_is}
use Rattle.vtl_rulings.specs.Ordered.{HasOrder, rules_at}
use Rattle.vtl_rulings.specs.Running.{AreOrdered, IsFree}
use Rattle.check_laws.specs.Gives.{Gives}

-- these rules define their left items
abbrev AreEquations : List HierRule → Type 0
AreEquations rules = AllByRecursion (λ r. is_equation r ≡ true) rules

equations : (rules : List HierRule) → AreEquations (definitions rules)
equations [] = tt
equations (r ∷ rs) = go (is_equation r) refl (equations rs)
  where
    go : (b : Bool) → is_equation r ≡ b → AreEquations (definitions rs) → AreEquations (cond b (r ∷ definitions rs) (definitions rs))
    go true e ih = (e, ih)
    go false e ih = ih

free : (item : List ℕ) (rules : List HierRule) → AreEquations rules → typed.IsFree rules item → IsFree rules item
free item [] e h = tt
free item (r ∷ rs) e h = (same_name-sym (left_item r) item ∙ ap (λ b. b && same_name item (left_item r)) (sym e.0) ∙ h.0, free item rs e.1 h.1)

all_free : (rules : List HierRule) (items : List (List ℕ)) → AreEquations rules → AllByRecursion (typed.IsFree rules) items → AllByRecursion (IsFree rules) items
all_free rules [] e h = tt
all_free rules (item ∷ items) e h = (free item rules e h.0, all_free rules items e h.1)

in_order : (rules : List HierRule) → AreEquations rules → typed.AreOrdered rules → AreOrdered rules
in_order [] e h = tt
in_order (r ∷ rs) e h = (all_free (r ∷ rs) (right_items r) e h.0, in_order rs e.1 h.1)

pub has-order : (rules : List HierRule) (order : List ℕ) → order_of rules ≡ Some order → HasOrder rules (Some order)
has-order rules order e =
    let is = order_is rules order e in
    let all : Perm (rules_at rules order) (definitions rules) = is.all in
    record {
      all = all;
      ordered = in_order (rules_at rules order) (AllByRecursion-Perm (λ r. is_equation r ≡ true) (Perm-sym all) (equations rules)) is.ordered;
    }

pub placed-gives : (rules : List HierRule) (o : Option (List ℕ)) → order_of rules ≡ o → Gives (λ order. HasOrder rules (Some order)) (placed_or_circular o)
placed-gives rules None e = tt
placed-gives rules (Some order) e = has-order rules order e
