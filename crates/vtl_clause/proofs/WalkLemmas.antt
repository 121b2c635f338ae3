-- A walk over rows behind those that were walked before, with a condition that was prepared.
use Rattle.std.proofs.Common.{◌≡◌, ℕ, ◌+◌, ◌<◌, Bool, cond, List, [], ◌∷◌, ◌++◌, length, get_or, take, Option, append_assoc, refl, ap, ◌∙◌}
use Rattle.std.specs.List.{filter}
use Rattle.vtl_decimal.specs.Settings.{Settings}
use Rattle.vtl_decimal.specs.declared.number.Fault.{Fault}
use Rattle.vtl_cell.specs.Outcome.{Outcome, fault_in, faults_by, join}
use Rattle.vtl_cell.specs.Outcomes.{is_true}
use Rattle.vtl_cell.specs.Row.{Row}
use Rattle.vtl_cell.specs.declared.cell.Cell.{Cell}
use Rattle.vtl_tree.proofs.Faults.{join_assoc}
use Rattle.vtl_tree.specs.Clauses.{kept}
use Rattle.vtl_tree.specs.CompExp.{CompExp}
use Rattle.vtl_tree.specs.Value.{value}
use Rattle.vtl_expr.specs.Prepared.{SameValue}
use Rattle.vtl_expr.proofs.PointValues.{same_at}
use Rattle.vtl_expr.proofs.Walks.{kept_more, seen_more}
use Rattle.vtl_clause.specs.Walks.{fault_over}

-- ---- one more row
pub kept_behind : {X : Type 0} (before : List X) (p : X → Bool) (xs : List X) (i : ℕ) (x : X) (old new : List X) → i < length xs → x ≡ get_or xs i x → old ≡ before ++ filter p (take i xs) → new ≡ old ++ cond (p x) (x ∷ []) [] → new ≡ before ++ filter p (take (i + 1) xs)
kept_behind before p xs i x old new h at o n =
    let so_far = filter p (take i xs) in
    let one = cond (p x) (x ∷ []) [] in
    n ∙ ap (λ l. l ++ one) o ∙ append_assoc before so_far one ∙ ap (λ l. before ++ l) (kept_more p xs i x so_far (so_far ++ one) h at refl refl)

pub seen_behind : {X : Type 0} (before : Option Fault) (f : X → Option Fault) (xs : List X) (i : ℕ) (x : X) (old new : Option Fault) → i < length xs → x ≡ get_or xs i x → old ≡ join before (faults_by f (take i xs)) → new ≡ join old (f x) → new ≡ join before (faults_by f (take (i + 1) xs))
seen_behind before f xs i x old new h at o n =
    let so_far = faults_by f (take i xs) in
    n ∙ ap (λ g. join g (f x)) o ∙ join_assoc before so_far (f x) ∙ ap (join before) (seen_more f xs i x so_far (join so_far (f x)) h at refl refl)

-- ---- a condition that was prepared
module _ (p : Settings) (x e : CompExp) (same : SameValue x e) where
  values_same : value p x ≡ value p e
  values_same = λ j r. same_at x e same p r j

  pub kept_prepared : (rows : List Row) → kept p x rows ≡ kept p e rows
  kept_prepared rows = ap (λ (f : Row → Outcome Cell). filter (λ r. is_true (f r)) rows) values_same

  pub fault_prepared : (rows : List Row) → fault_over p x rows ≡ fault_over p e rows
  fault_prepared rows = ap (λ (f : Row → Outcome Cell). faults_by (λ r. fault_in (f r)) rows) values_same
