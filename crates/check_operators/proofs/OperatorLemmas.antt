-- Data sets where an operator takes none.
use Rattle.std.proofs.Common.{◌≡◌, ◌≢◌, ◌<◌, ◌+◌, List, [], ◌∷◌, Bool, true, not, ◌||◌, length, refl, subst, ap, sym, arith}
use Rattle.std.specs.Prelude.{map, Result, Err}
use Rattle.vtl_cell.specs.declared.kind.Kind.{Kind}
use Rattle.vtl_cell.specs.declared.operator.ScalarOp.{ScalarOp}
use Rattle.vtl_tree.specs.Trees.{NodeTree}
use Rattle.vtl_tree.specs.CompExp.{CompExp}
use Rattle.check_faults.specs.Answers.{Answers}
use Rattle.check_faults.specs.declared.error.TypeErr.{TypeErr}
use Rattle.vtl_tree.specs.Measures.{Gives}
use Rattle.vtl_tree.specs.declared.measures.Outcome.{Outcome}
use Rattle.vtl_tree.specs.declared.structure.Component.{Component}
use Rattle.vtl_tree.specs.declared.structure.Structure.{Structure}
use Rattle.vtl_tree.specs.Kinds.{exp_kind}
use Rattle.vtl_cell.specs.OperatorKinds.{counted_kinds, takes_literals}
use Rattle.check_operators.specs.Operators.{beside_literal, between_kinds, first_fits, given_structure, meets_first, misplaced_rule, on_datasets, outcome_of, structure_by}

-- several data sets among values
pub beside_values : {A B : Type 0} (o : ScalarOp) (literals : Bool) (exp : A → CompExp) (tree : B → NodeTree) (before : List A) (datasets : List B) (after : List A)
    → length datasets ≢ 1 → 0 < length before + length after
    → on_datasets o literals (map exp before) (map tree datasets) (map exp after) ≡ Err (misplaced_rule true literals)
beside_values o literals exp tree before [] after several beside = refl
beside_values o literals exp tree before (a ∷ []) after several beside = absurd (several refl)
beside_values o literals exp tree [] (a ∷ b ∷ []) [] several beside = absurd (omega (arith, beside))
beside_values o literals exp tree [] (a ∷ b ∷ []) (y ∷ after) several beside = refl
beside_values o literals exp tree (x ∷ before) (a ∷ b ∷ []) after several beside = refl
beside_values o literals exp tree [] (a ∷ b ∷ c ∷ []) [] several beside = absurd (omega (arith, beside))
beside_values o literals exp tree [] (a ∷ b ∷ c ∷ []) (y ∷ after) several beside = refl
beside_values o literals exp tree (x ∷ before) (a ∷ b ∷ c ∷ []) after several beside = refl
beside_values o literals exp tree [] (a ∷ b ∷ c ∷ d ∷ ds) [] several beside = absurd (omega (arith, beside))
beside_values o literals exp tree [] (a ∷ b ∷ c ∷ d ∷ ds) (y ∷ after) several beside = refl
beside_values o literals exp tree (x ∷ before) (a ∷ b ∷ c ∷ d ∷ ds) after several beside = refl

-- data sets alone, of a number that no operator takes
pub many_datasets : {B : Type 0} (o : ScalarOp) (literals : Bool) (tree : B → NodeTree) (datasets : List B)
    → length datasets ≢ 1 → length datasets ≢ 2 → length datasets ≢ 3
    → on_datasets o literals [] (map tree datasets) [] ≡ Err (misplaced_rule true literals)
many_datasets o literals tree [] one two three = refl
many_datasets o literals tree (a ∷ []) one two three = absurd (one refl)
many_datasets o literals tree (a ∷ b ∷ []) one two three = absurd (two refl)
many_datasets o literals tree (a ∷ b ∷ c ∷ []) one two three = absurd (three refl)
many_datasets o literals tree (a ∷ b ∷ c ∷ d ∷ ds) one two three = refl

-- the structure that an operator gives between values, by the kinds of the values
pub given_by_kinds : (o : ScalarOp) (literals : Bool) (before after : List CompExp) (xs : List Component) (outcome : Outcome) (front back counted : List Kind) (by_counted given : Gives) (r : Result Structure TypeErr)
    → outcome ≡ outcome_of o → front ≡ map exp_kind before → back ≡ map exp_kind after → counted ≡ counted_kinds o back
    → by_counted ≡ between_kinds o front counted → given ≡ between_kinds o front back
    → Answers (λ s. s) r (structure_by outcome by_counted given literals xs)
    → Answers (λ s. s) r (given_structure o literals before after xs)
given_by_kinds o literals before after xs outcome front back counted by_counted given r is_outcome is_front is_back is_counted is_by is_given answers =
    let F : Outcome → List Kind → List Kind → List Kind → Type 0 = λ out f b c. Answers (λ s. s) r (structure_by out (between_kinds o f c) (between_kinds o f b) literals xs) in
    let by_kinds : F outcome front back counted =
    subst (λ g. Answers (λ s. s) r (structure_by outcome (between_kinds o front counted) g literals xs)) is_given
    (subst (λ g. Answers (λ s. s) r (structure_by outcome g given literals xs)) is_by answers) in
    let by_back : F outcome front back (counted_kinds o back) = subst (F outcome front back) is_counted by_kinds in
    let by_after : F outcome front (map exp_kind after) (counted_kinds o (map exp_kind after)) = subst (λ b. F outcome front b (counted_kinds o b)) is_back by_back in
    let by_before : F outcome (map exp_kind before) (map exp_kind after) (counted_kinds o (map exp_kind after)) = subst (λ f. F outcome f (map exp_kind after) (counted_kinds o (map exp_kind after))) is_front by_after in
    subst (λ out. F out (map exp_kind before) (map exp_kind after) (counted_kinds o (map exp_kind after))) is_outcome by_before

-- an operator with literals asks its first operand
pub fits_first : (o : ScalarOp) (before : List CompExp) (datasets : List NodeTree) → takes_literals o ≡ true → meets_first (beside_literal o) before datasets ≡ first_fits o before datasets
fits_first o before datasets e = ap (λ b. not b || meets_first (beside_literal o) before datasets) (sym e)
