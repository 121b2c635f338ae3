-- The values of operators on operands, and of CASE on its branches.
use Rattle.std.proofs.Common.{◌≡◌, arith, List, [], ◌∷◌, ◌++◌, length, get_or, map, Ok, Err, refl, sym, ap, ◌∙◌}
use Rattle.vtl_cell.specs.Outcome.{Outcome, after}
use Rattle.vtl_cell.specs.Outcomes.{all_of, result_of}
use Rattle.vtl_cell.specs.Row.{Row}
use Rattle.vtl_decimal.specs.Settings.{Settings}
use Rattle.vtl_cell.specs.declared.cell.Cell.{Cell}
use Rattle.vtl_cell.specs.declared.kind.Kind.{Kind}
use Rattle.vtl_cell.specs.declared.operator.ScalarOp.{ScalarOp}
use Rattle.sql_tree.specs.Trees.{Text}
use Rattle.sql_meaning.specs.Outcomes.{operated}
use Rattle.sql_eval.specs.Placed.{placed_choice, placed_value, placed_values}
use Rattle.sql_eval.specs.View.{branch_of, branches_of, placed_of, placeds_of}
use Rattle.sql_eval.specs.declared.resolved.Resolved.{Resolved}
use Rattle.sql_eval.specs.declared.resolved.ResolvedBranch.{ResolvedBranch}

two_of : {B : Type 0} (m n : Outcome Cell) (f : List Cell → Outcome B) → after (all_of (m ∷ n ∷ [])) f ≡ after m (λ x. after n (λ y. f (x ∷ y ∷ [])))
two_of (Ok x) (Ok y) f = refl
two_of (Ok x) (Err e) f = refl
two_of (Err e) n f = refl

three_of : {B : Type 0} (m n o : Outcome Cell) (f : List Cell → Outcome B) → after (all_of (m ∷ n ∷ o ∷ [])) f ≡ after m (λ x. after n (λ y. after o (λ z. f (x ∷ y ∷ z ∷ []))))
three_of (Ok x) (Ok y) (Ok z) f = refl
three_of (Ok x) (Ok y) (Err e) f = refl
three_of (Ok x) (Err e) o f = refl
three_of (Err e) n o f = refl

module _ (p : Settings) (rows : Text → List Row) (r : Row) (g : List Row) where
  abbrev pub of_item : Resolved → Outcome Cell
  of_item x = placed_value p rows (placed_of x) r g

  abbrev pub of_items : List Resolved → List (Outcome Cell)
  of_items args = placed_values p rows (placeds_of (map placed_of args)) r g

  pub two_value : (kind : Kind) (o : ScalarOp) (args : List Resolved) → length args ≡ 2 → (x : Resolved) → x ≡ get_or args 0 x → (y : Resolved) → y ≡ get_or args 1 y → operated p kind (of_items args) o ≡ after (of_item x) (λ v. after (of_item y) (λ w. result_of p o kind (v ∷ w ∷ [])))
  two_value kind o [] h x at y at_y = absurd (omega (arith, h))
  two_value kind o (a ∷ []) h x at y at_y = absurd (omega (arith, h))
  two_value kind o (a ∷ b ∷ c ∷ more) h x at y at_y = absurd (omega (arith, h))
  two_value kind o (a ∷ b ∷ []) h x at y at_y =
      two_of (of_item a) (of_item b) (result_of p o kind)
      ∙ ap (λ t. after (of_item t) (λ v. after (of_item b) (λ w. result_of p o kind (v ∷ w ∷ [])))) (sym at)
      ∙ ap (λ t. after (of_item x) (λ v. after (of_item t) (λ w. result_of p o kind (v ∷ w ∷ [])))) (sym at_y)

  pub three_value : (kind : Kind) (o : ScalarOp) (args : List Resolved) → length args ≡ 3 → (x : Resolved) → x ≡ get_or args 0 x → (y : Resolved) → y ≡ get_or args 1 y → (z : Resolved) → z ≡ get_or args 2 z
      → operated p kind (of_items args) o ≡ after (of_item x) (λ v. after (of_item y) (λ w. after (of_item z) (λ u. result_of p o kind (v ∷ w ∷ u ∷ []))))
  three_value kind o [] h x at y at_y z at_z = absurd (omega (arith, h))
  three_value kind o (a ∷ []) h x at y at_y z at_z = absurd (omega (arith, h))
  three_value kind o (a ∷ b ∷ []) h x at y at_y z at_z = absurd (omega (arith, h))
  three_value kind o (a ∷ b ∷ c ∷ d ∷ more) h x at y at_y z at_z = absurd (omega (arith, h))
  three_value kind o (a ∷ b ∷ c ∷ []) h x at y at_y z at_z =
      three_of (of_item a) (of_item b) (of_item c) (result_of p o kind)
      ∙ ap (λ t. after (of_item t) (λ v. after (of_item b) (λ w. after (of_item c) (λ u. result_of p o kind (v ∷ w ∷ u ∷ []))))) (sym at)
      ∙ ap (λ t. after (of_item x) (λ v. after (of_item t) (λ w. after (of_item c) (λ u. result_of p o kind (v ∷ w ∷ u ∷ []))))) (sym at_y)
      ∙ ap (λ t. after (of_item x) (λ v. after (of_item y) (λ w. after (of_item t) (λ u. result_of p o kind (v ∷ w ∷ u ∷ []))))) (sym at_z)

  -- all operands, one after the other: what comes of those that are left, behind the values of others
  abbrev pub rest : List Resolved → List Cell → Outcome (List Cell)
  rest args done = after (all_of (of_items args)) (λ vs. Ok (done ++ vs))

  -- ---- CASE
  abbrev pub of_branches : List ResolvedBranch → Outcome Cell
  of_branches bs = placed_choice p rows (branches_of (map branch_of bs)) r g
