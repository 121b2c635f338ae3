-- The typing of datapoint rulesets, part by part.
use Rattle.std.proofs.Common.{◌≡◌, ℕ, ◌+◌, ◌<◌, List, [], ◌∷◌, ◌++◌, map, length, drop, get_or, Option, Result, Ok, sym, ap, ◌∙◌}
use Rattle.std.specs.Prelude.{unwrap_or}
use Rattle.std.proofs.lemmas.List.{drop_more, map-append}
use Rattle.vtl_syntax.specs.declared.word_groups.CheckOut.{CheckOut}
use Rattle.vtl_syntax.specs.declared.word_groups.CheckOut.TheVariants as out
use Rattle.vtl_tree.specs.declared.structure.Structure.{Structure}
use Rattle.vtl_tree.specs.Trees.{NodeTree, PointRuleTree, structure_of}
use Rattle.vtl_lists.specs.Results.{◌>>=◌}
use Rattle.check_faults.specs.InTurn.{in_turn}
use Rattle.check_faults.specs.declared.rules.Rule.{Rule}
use Rattle.check_operators.specs.Places.{Env}
use Rattle.check_operators.specs.declared.places.Place.{Place}
use Rattle.check_operators.specs.declared.places.Place.TheVariants as place
use Rattle.check_rules.specs.Calls.{variables_known}
use Rattle.check_expressions.specs.Rulesets.{PointDefinition, at_variables, checked_points, datapoint_typed, point_rules_typed}

-- one more item in turn, of those that are seen so
pub one_more : {X A Y B : Type 0} (step : A → Result B Rule) (view : X → A) (shape : Y → B) (xs : List X) (i : ℕ) (x : X) (before now : List Y) (y : Y) (all : Result (List B) Rule)
    → i < length xs → x ≡ get_or xs i x → now ≡ before ++ y ∷ [] → step (view x) ≡ Ok (shape y)
    → in_turn (λ done a. step a) (map shape before) (map view (drop i xs)) ≡ all
    → in_turn (λ done a. step a) (map shape now) (map view (drop (i + 1) xs)) ≡ all
one_more step view shape xs i x before now y all within is e typed h =
    let rest = map view (drop (i + 1) xs) in
    ap (λ l. in_turn (λ done a. step a) (map shape l) rest) e
    ∙ ap (λ l. in_turn (λ done a. step a) l rest) (map-append shape before (y ∷ []))
    ∙ sym (ap (λ r. r >>= λ z. in_turn (λ done a. step a) (map shape before ++ z ∷ []) rest) typed)
    ∙ sym (ap (λ l. in_turn (λ done a. step a) (map shape before) (map view l)) (drop_more xs i x within ∙ ap (λ z. z ∷ drop (i + 1) xs) (sym is)))
    ∙ h

-- a call, once its variables are known
pub call_typed : (env : Env) (o : Option CheckOut) (d : PointDefinition) (a : NodeTree) (s : Structure) (names : List (List ℕ)) (at : Place) (rules : Result (List PointRuleTree) Rule)
    → structure_of a ≡ s → variables_known d.variables s ≡ Ok names → at ≡ place.Inside (at_variables names a) → point_rules_typed env at d.rules ≡ rules
    → datapoint_typed env o d a ≡ (rules >>= checked_points (unwrap_or o out.Invalid) a names)
call_typed env o d a s names at rules same known there typed =
    ap (λ r. r >>= λ names. point_rules_typed env (place.Inside (at_variables names a)) d.rules >>= checked_points (unwrap_or o out.Invalid) a names) (ap (variables_known d.variables) same ∙ known)
    ∙ ap (λ p. point_rules_typed env p d.rules >>= checked_points (unwrap_or o out.Invalid) a names) (sym there)
    ∙ ap (λ r. r >>= checked_points (unwrap_or o out.Invalid) a names) typed
