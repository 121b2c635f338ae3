-- Answers that tell the same meaning agree.
use Rattle.std.proofs.Common.{◌≡◌, ℕ, List, [], ◌∷◌, Result, Ok, Err, sym, ap, ◌∙◌}
use Rattle.vtl_decimal.specs.declared.number.Fault.{Fault}
use Rattle.vtl_decimal.specs.declared.number.Fault.TheVariants.{DivZero, Range}
use Rattle.vtl_lists.specs.Perm.{chain}
use Rattle.vtl_lists.proofs.Perms.{Perm-sym}
use Rattle.vtl_rows.specs.Named.{NamedTables}
use Rattle.vtl_scripts.specs.Meaning.{Outputs}
use Rattle.vtl_backend.specs.Agree.{Agree, SameTables}
use Rattle.vtl_backend.specs.Runs.{ShowAll, ShowMeaning, Tells}
use Rattle.vtl_scalar.specs.declared.run_error.RunErr.{RunErr}
use Rattle.vtl_scalar.specs.declared.run_error.RunErr.TheVariants as err

same_tables : (ds : Outputs) (ts us : NamedTables) → ShowAll ds ts → ShowAll ds us → SameTables ts us
same_tables [] [] [] h k = tt
same_tables [] [] (u ∷ us) h k = k
same_tables [] (t ∷ ts) us h k = absurd h
same_tables (d ∷ ds) [] us h k = absurd h
same_tables (d ∷ ds) (t ∷ ts) [] h k = absurd k
same_tables (d ∷ ds) (t ∷ ts) (u ∷ us) h k = (h.0 ∙ sym k.0, h.1.table.columns ∙ sym k.1.table.columns, chain h.1.same (Perm-sym k.1.same), same_tables ds ts us h.2 k.2)

meaning_same : (meant : Result Outputs (Fault × List ℕ)) (ts us : NamedTables) → ShowMeaning meant ts → ShowMeaning meant us → SameTables ts us
meaning_same (Ok ds) ts us h k = same_tables ds ts us h k
meaning_same (Err f) ts us h k = absurd h

-- a fault has no tables
no_tables : (meant : Result Outputs (Fault × List ℕ)) (f : Fault × List ℕ) (ts : NamedTables) → ShowMeaning meant ts → meant ≡ Err f → ⊥
no_tables (Ok ds) f ts h e = cc
no_tables (Err g) f ts h e = h

fault_of : Result Outputs (Fault × List ℕ) → Fault × List ℕ
fault_of (Ok ds) = (DivZero, [])
fault_of (Err f) = f

one_fault : (meant : Result Outputs (Fault × List ℕ)) (f g : Fault) (m n : List ℕ) → meant ≡ Err (f, m) → meant ≡ Err (g, n) → (f ≡ g) × (m ≡ n)
unfolding fault_of
one_fault meant f g m n h k = (sym (ap (λ r. (fault_of r).0) h) ∙ ap (λ r. (fault_of r).0) k, sym (ap (λ r. (fault_of r).1) h) ∙ ap (λ r. (fault_of r).1) k)

two_faults : DivZero ≡ Range → ⊥
two_faults e = cc

pub agree : (meant : Result Outputs (Fault × List ℕ)) (before now past other : NamedTables) (a b : Result (Unit {0}) RunErr) → Tells meant before now a → Tells meant past other b → Agree a now b other
agree meant before now past other (Ok a) (Ok b) h k = meaning_same meant now other h k
agree meant before now past other (Ok a) (Err (err.DivZero n)) h k = no_tables meant (DivZero, n) now h k.0
agree meant before now past other (Ok a) (Err (err.Range n)) h k = no_tables meant (Range, n) now h k.0
agree meant before now past other (Ok a) (Err err.OutOfMemory) h k = tt
agree meant before now past other (Err (err.DivZero m)) (Ok b) h k = no_tables meant (DivZero, m) other k h.0
agree meant before now past other (Err (err.DivZero m)) (Err (err.DivZero n)) h k = (one_fault meant DivZero DivZero m n h.0 k.0).1
agree meant before now past other (Err (err.DivZero m)) (Err (err.Range n)) h k = two_faults (one_fault meant DivZero Range m n h.0 k.0).0
agree meant before now past other (Err (err.DivZero m)) (Err err.OutOfMemory) h k = tt
agree meant before now past other (Err (err.Range m)) (Ok b) h k = no_tables meant (Range, m) other k h.0
agree meant before now past other (Err (err.Range m)) (Err (err.DivZero n)) h k = two_faults (one_fault meant DivZero Range n m k.0 h.0).0
agree meant before now past other (Err (err.Range m)) (Err (err.Range n)) h k = (one_fault meant Range Range m n h.0 k.0).1
agree meant before now past other (Err (err.Range m)) (Err err.OutOfMemory) h k = tt
agree meant before now past other (Err err.OutOfMemory) b h k = tt
