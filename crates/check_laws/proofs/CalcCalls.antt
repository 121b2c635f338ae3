-- Analytic calls as targets of `calc`.
use Rattle.std.proofs.Common.{◌≡◌, ℕ, Bool, true, false, cond, not, List, [], ◌∷◌, Option, Some, None, is_some, Err, refl}
use Rattle.std.specs.Option.{IfSome}
use Rattle.std.proofs.lemmas.Bool.{not-false}
use Rattle.vtl_decimal.specs.Settings.{Settings}
use Rattle.check_faults.specs.declared.rules.Rule.TheVariants as rule
use Rattle.vtl_syntax.specs.Trees.{Exp}
use Rattle.vtl_tree.specs.CompExp.{CompExp}
use Rattle.vtl_tree.specs.Structure.{columns_of}
use Rattle.vtl_tree.specs.declared.structure.Structure.{Structure}
use Rattle.vtl_tree.specs.Kinds.{exp_kind}
use Rattle.vtl_meaning.specs.Shapes.{IsShaped}
use Rattle.vtl_tree.specs.Trees as nodes
use Rattle.vtl_tree.specs.Trees.{NodeTree, ValueTree, structure_of}
use Rattle.vtl_tree.specs.declared.calls.AnalyticOp.{AnalyticOp}
use Rattle.vtl_tree.specs.declared.calls.AnalyticOp.TheVariants as op
use Rattle.vtl_tree.specs.declared.calls.Window.{Window}
use Rattle.check_groups.specs.Aggregates.{column_name, is_component}
use Rattle.check_operators.specs.Places.{at_points}
use Rattle.check_operators.specs.Typed.{TypedTree, value, dataset, components_in}
use Rattle.check_groups.specs.Windowed as windowed
use Rattle.check_groups.specs.Windowed.{argument, call_of, call_tree, is_rank, is_unfit_over, operand_exp, over_kind, over_parts, rank_call, suits, target_form, target_typed}
use Rattle.check_groups.specs.declared.calls.Call.{Call}
use Rattle.check_operators.specs.declared.places.Joined.{Joined}
use Rattle.check_operators.specs.declared.places.Place.{Place}
use Rattle.check_operators.specs.declared.places.Place.TheVariants as place
use Rattle.check_laws.specs.Gives.{Gives}
use Rattle.check_laws.proofs.Analyzed.{IsCallOver, component-call, rank-call}
use Rattle.check_laws.proofs.GroupValues.{IsOperand}
use Rattle.check_laws.proofs.Steps.{after, tested, tested-then, then}
use Rattle.check_laws.proofs.Values.{IsNamedIn}
use Rattle.check_laws.proofs.WindowParts.{AreParts, HasNames, IsOperatorFor, parts-give}

-- a call of a component that it takes
abbrev pub IsCallValue : Settings → Structure → ValueTree → Type 0
IsCallValue p a (nodes.scalar e) = ⊥
IsCallValue p a (nodes.analytic x) = IsCallOver p a x

module _ (p : Settings) (j : Option Joined) (n : NodeTree) (is : IsShaped (structure_of n)) (e : Exp) where
  abbrev a : Structure
  a = structure_of n

  abbrev at : Place
  at = place.Inside (at_points j n)

  -- of a component
  of-component : (v : CompExp) (x : Call) (w : Window) (named : Option (List ℕ)) (o : Option AnalyticOp) → IfSome o (IsOperatorFor p e (exp_kind v ∷ []) x.needed) → HasNames (columns_of a) w → is_some (over_kind e (exp_kind v)) ≡ true
      → IfSome named (λ name. IsNamedIn (columns_of a) name v) → Gives (IsCallValue p a) (call_of x named w o)
  of-component v x w None None h names some k = tt
  of-component v x w None (Some o) h names some k = tt
  of-component v x w (Some name) None h names some k = tt
  of-component v x w (Some name) (Some o) h names some k =
      tested (IsCallValue p a) ((rule.AnalyticMisuse, not (suits x.needed w)) ∷ []) (call_tree o (Some name) w) (λ passed. component-call p e a x.needed o w name v is h names k.0 k.1 some (not-false (suits x.needed w) passed.0))

  -- what is written as a component is named
  argument-named : (v : CompExp) → IsOperand at (operand_exp e) (value v) → IfSome (argument e v) (λ name. IsNamedIn (columns_of a) name v)
  argument-named v h = go (is_component (operand_exp e)) refl
    where
      go : (b : Bool) → is_component (operand_exp e) ≡ b → IfSome (cond b (column_name v) None) (λ name. IsNamedIn (columns_of a) name v)
      go true s = h s
      go false s = tt

  pub target-over : (x : Option TypedTree) → IfSome x (IsOperand at (operand_exp e)) → Gives (IsCallValue p a) (target_typed p at e x)
  unfolding target_typed
  target-over x h = then (AreParts p at e x) (IsCallValue p a) (over_parts p at e x) (λ parts. target_form e x parts.0 parts.1) (parts-give p at e x) (λ parts are. go x h parts.0 parts.1 are)
    where
      go : (x : Option TypedTree) → IfSome x (IsOperand at (operand_exp e)) → (y : Call) (w : Window) → AreParts p at e x (y, w) → Gives (IsCallValue p a) (target_form e x y w)
      go (Some (dataset m)) h y w are = after (IsCallValue p a) (windowed.given_structure e (components_in m)) (λ s. Err rule.DatasetOrValue) (λ s. tt)
      go (Some (value v)) h y w are =
          tested-then (IsCallValue p a) ((rule.WrongKind, is_unfit_over e (Some (exp_kind v))) ∷ []) (λ u. call_of y (argument e v) w y.op)
          (λ passed. of-component v y w (argument e v) y.op are.1.0 are.2 (not-false (is_some (over_kind e (exp_kind v))) passed.0) (argument-named v h))
      go None h y w are = rank (is_rank e) refl
        where
          rank : (b : Bool) → is_rank e ≡ b → Gives (IsCallValue p a) (cond b (rank_call y w) (Err rule.WrongKind))
          rank true s = tested (IsCallValue p a) ((rule.AnalyticMisuse, not (suits y.needed w)) ∷ []) (call_tree op.Rank None w) (λ passed. rank-call p e a y.needed w [] (are.1.1 s) are.2 (not-false (suits y.needed w) passed.0))
          rank false s = tt
