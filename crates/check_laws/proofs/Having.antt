-- The condition of groups.
use Rattle.std.proofs.Common.{◌≡◌, true, not, [], ◌∷◌, Some, Result, Ok, Err}
use Rattle.std.specs.Option.{IfSome}
use Rattle.std.proofs.lemmas.Bool.{not-false}
use Rattle.vtl_lists.specs.Results.{◌>>=◌}
use Rattle.vtl_cell.specs.ScalarKinds.{meets}
use Rattle.vtl_decimal.specs.Settings.{Settings}
use Rattle.vtl_cell.specs.declared.kind.Kind.TheVariants as k
use Rattle.check_faults.specs.declared.rules.Rule.{Rule}
use Rattle.check_faults.specs.declared.rules.Rule.TheVariants as rule
use Rattle.vtl_syntax.specs.Trees as tree
use Rattle.vtl_syntax.specs.Trees.{MaybeExp}
use Rattle.vtl_tree.specs.CompExp.{CompExp}
use Rattle.vtl_tree.specs.Kinds.{exp_kind}
use Rattle.check_operators.specs.Places.{Env}
use Rattle.check_operators.specs.Typed.{TypedTree, value, dataset, condition_in}
use Rattle.check_expressions.specs.Rulings.{Sight, names_in}
use Rattle.check_expressions.specs.Typing.{having_typed, maybe_typed, typed}
use Rattle.check_operators.specs.declared.places.Place.{Place}
use Rattle.check_laws.specs.Gives.{Gives}
use Rattle.check_laws.specs.WellTyped.{IsValueAt, IsWellTyped}
use Rattle.check_laws.proofs.Steps.{tested, then}

-- a condition at a place
abbrev pub IsCondition : Settings → Place → CompExp → Type 0
IsCondition p at e = IsValueAt p at e × (meets k.Bool (exp_kind e) ≡ true)

pub condition-gives : (env : Env) (at : Place) (x : TypedTree) → IsWellTyped env at x → Gives (IsCondition env.settings at) (condition_in x)
condition-gives env at (value e) h = tested (IsCondition env.settings at) ((rule.WrongKind, not (meets k.Bool (exp_kind e))) ∷ []) e (λ passed. (h, not-false (meets k.Bool (exp_kind e)) passed.0))
condition-gives env at (dataset n) h = tt

-- by the typing of its expression
pub having-at : (sight : Sight) (at : Place) (e : MaybeExp) → Gives (λ x. IfSome x (IsWellTyped (names_in sight) at)) (maybe_typed sight at e) → Gives (λ c. IfSome c (IsCondition sight.settings at)) (having_typed sight at e)
having-at sight at tree.no_exp h = tt
having-at sight at (tree.some_exp e) h = go (typed sight at e) h
  where
    go : (r : Result TypedTree Rule) → Gives (λ x. IfSome x (IsWellTyped (names_in sight) at)) (r >>= λ x. Ok (Some x)) → Gives (λ c. IfSome c (IsCondition sight.settings at)) (r >>= condition_in >>= λ c. Ok (Some c))
    go (Ok x) h = then (IsCondition sight.settings at) (λ c. IfSome c (IsCondition sight.settings at)) (condition_in x) (λ c. Ok (Some c)) (condition-gives (names_in sight) at x h) (λ c k. k)
    go (Err broken) h = tt
