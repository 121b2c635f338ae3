-- What a script means by the values of its statements.
use Rattle.std.proofs.Common.{◌≡◌, ℕ, zero, suc, Bool, true, false, cond, List, [], ◌∷◌, ◌++◌, take, length, slice_get, Option, None, Some, Result, Ok, Err, refl, sym, ap, ◌∙◌, subst, arith}
use Rattle.vtl_cell.specs.Outcome.{Outcome}
use Rattle.vtl_decimal.specs.Settings.{Settings}
use Rattle.vtl_decimal.specs.declared.number.Fault.{Fault}
use Rattle.vtl_rows.specs.Tables.{Listed}
use Rattle.vtl_tree.specs.Environment.{DataSet, Environment}
use Rattle.vtl_scripts.specs.Meaning.{Outputs, Statement, data_set_of, kept_output, stated, with_output}
use Rattle.vtl_backend.specs.Runs.{ShowAll}
use Rattle.rerun_laws.specs.Values.{behind, outputs_of_values, values, with_value}
use Rattle.vtl_rerun.specs.Operands.{written_all, written_by}
use Rattle.vtl_rerun.specs.Sessions.{AreEach, AreHeld, AreKept}
use Rattle.vtl_rerun.specs.declared.part.Part.{Part}

pub values_long : (p : Settings) (ss : List Statement) (env : Environment) → length (values p ss env) ≡ length ss
values_long p [] env = refl
values_long p (s ∷ ss) env = ap suc (values_long p ss (with_value s (data_set_of p env s.node) env))

pub value_at : (n : ℕ) (p : Settings) (ss : List Statement) (env : Environment) (s : Statement) (v : Outcome DataSet) → slice_get ss n ≡ Some s → slice_get (values p ss env) n ≡ Some v → v ≡ data_set_of p (behind p (take n ss) env) s.node
value_at n p [] env s v e f = cc
value_at zero p (x ∷ ss) env s v e f = let g : x ≡ s = cc in let h : data_set_of p env x.node ≡ v = cc in sym h ∙ ap (λ y. data_set_of p env y.node) g
value_at (suc n) p (x ∷ ss) env s v e f = value_at n p ss (with_value x (data_set_of p env x.node) env) s v e f

-- where the results before are held, a fault is that of the whole
pub faulty : (n : ℕ) (ss : List Statement) (vs : List (Outcome DataSet)) (rs : List (Option Listed)) (s : Statement) (f : Fault) → AreKept vs rs → AreHeld (take n rs) → slice_get ss n ≡ Some s → slice_get vs n ≡ Some (Err f) → outputs_of_values ss vs ≡ Err (f, s.result)
faulty n [] vs rs s f kept held e g = cc
faulty n (x ∷ ss) [] rs s f kept held e g = cc
faulty n (x ∷ ss) (v ∷ vs) [] s f kept held e g = absurd kept
faulty zero (x ∷ ss) (v ∷ vs) (r ∷ rs) s f kept held e g =
    let a : v ≡ Err f = cc in let b : x ≡ s = cc in
    ap (λ w. stated x w (λ d. outputs_of_values ss vs)) a ∙ ap (λ y. Err (f, y.result)) b
faulty (suc n) (x ∷ ss) (v ∷ vs) (None ∷ rs) s f kept held e g = cc (held.0)
faulty (suc n) (x ∷ ss) (Err h ∷ vs) (Some t ∷ rs) s f kept held e g = absurd kept.0
faulty (suc n) (x ∷ ss) (Ok d ∷ vs) (Some t ∷ rs) s f kept held e g = ap (λ m. kept_output x d m) (faulty n ss vs rs s f kept.1 held.1 e g) ∙ go x.persistent (Err (f, s.result))
  where
    go : (b : Bool) (m : Result Outputs (Fault × List ℕ)) → cond b m m ≡ m
    go true m = refl
    go false m = refl

-- where all results are held, there is no fault, and the tables of those that are written are the outputs
pub whole : (names : List (List ℕ)) (ks : List ℕ) (ss : List Statement) (xs : List Part) (vs : List (Outcome DataSet)) (rs : List (Option Listed)) → AreEach names ks ss xs → length ss ≡ length vs → AreKept vs rs → AreHeld rs
    → (outputs : Outputs) × (outputs_of_values ss vs ≡ Ok outputs) × ShowAll outputs (written_all xs rs)
whole names ks [] xs [] [] each e kept held = none ks xs each
  where
    none : (ks : List ℕ) (xs : List Part) → AreEach names ks [] xs → (outputs : Outputs) × (outputs_of_values [] [] ≡ Ok outputs) × ShowAll outputs (written_all xs [])
    none [] [] each = ([], refl, tt)
    none [] (x ∷ xs) each = absurd each
    none (k ∷ ks) xs each = absurd each
whole names ks [] xs [] (r ∷ rs) each e kept held = absurd kept
whole names ks [] xs (v ∷ vs) rs each e kept held = cc
whole names ks (s ∷ ss) xs [] rs each e kept held = cc
whole names ks (s ∷ ss) xs (v ∷ vs) [] each e kept held = absurd kept
whole names [] (s ∷ ss) xs (v ∷ vs) (r ∷ rs) each e kept held = absurd each
whole names (k ∷ ks) (s ∷ ss) [] (v ∷ vs) (r ∷ rs) each e kept held = absurd each
whole names (k ∷ ks) (s ∷ ss) (x ∷ xs) (v ∷ vs) (None ∷ rs) each e kept held = cc (held.0)
whole names (k ∷ ks) (s ∷ ss) (x ∷ xs) (Err f ∷ vs) (Some t ∷ rs) each e kept held = absurd kept.0
whole names (k ∷ ks) (s ∷ ss) (x ∷ xs) (Ok d ∷ vs) (Some t ∷ rs) each e kept held = go (whole (names ++ s.result ∷ []) ks ss xs vs rs each.1 (omega (arith, e)) kept.1 held.1) s.persistent refl
  where
    go : (outputs : Outputs) × (outputs_of_values ss vs ≡ Ok outputs) × ShowAll outputs (written_all xs rs) → (b : Bool) → s.persistent ≡ b
        → (outputs : Outputs) × (kept_output s d (outputs_of_values ss vs) ≡ Ok outputs) × ShowAll outputs (written_by x (Some t) ++ written_all xs rs)
    go rest true p = (
      (s.result, d) ∷ rest.0,
      ap (λ m. kept_output s d m) rest.1 ∙ ap (λ b. cond b (with_output s.result d (Ok rest.0)) (Ok rest.0)) p,
      subst (λ b. ShowAll ((s.result, d) ∷ rest.0) (cond b ((x.name, t) ∷ []) [] ++ written_all xs rs)) (sym (each.0.written ∙ p)) (each.0.name, kept.0, rest.2),
    )
    go rest false p = (
      rest.0,
      ap (λ m. kept_output s d m) rest.1 ∙ ap (λ b. cond b (with_output s.result d (Ok rest.0)) (Ok rest.0)) p,
      subst (λ b. ShowAll rest.0 (cond b ((x.name, t) ∷ []) [] ++ written_all xs rs)) (sym (each.0.written ∙ p)) rest.2,
    )
