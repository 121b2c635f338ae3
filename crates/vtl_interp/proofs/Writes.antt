-- The tables that are written.
use Rattle.std.proofs.Common.{◌≡◌, ℕ, Bool, true, false, cond, ◌||◌, List, [], ◌∷◌, ◌++◌, Some, None, Result, Ok, Err, refl, sym, ap, subst, ◌∙◌}
use Rattle.std.specs.Prelude.{OnOk}
use Rattle.std.specs.declared.alloc.AllocError.{AllocError}
use Rattle.std.specs.List.{list_any}
use Rattle.std.specs.Map.{keys_of}
use Rattle.vtl_lists.proofs.Perms.{Perm-same}
use Rattle.vtl_rows.specs.Named.{NamedTables, table_of}
use Rattle.vtl_rows.specs.Tables.{Listed}
use Rattle.vtl_syntax.specs.declared.word_groups.AssignKind.{AssignKind}
use Rattle.vtl_syntax.specs.declared.word_groups.AssignKind.TheVariants as assign
use Rattle.vtl_tree.specs.Environment.{DataSet}
use Rattle.vtl_tree.specs.Structure.{same_name}
use Rattle.vtl_scripts.specs.Meaning.{Outputs}
use Rattle.vtl_decimal.specs.declared.number.Fault.{Fault}
use Rattle.vtl_sets.specs.TableOf.{IsTableOf}
use Rattle.vtl_backend.specs.Runs.{Tells}
use Rattle.vtl_backend.specs.Statements.{is_written}
use Rattle.vtl_scalar.specs.declared.run_error.RunErr.{RunErr}
use Rattle.vtl_scalar.specs.declared.run_error.RunErr.TheVariants as run
use Rattle.vtl_interp.specs.Results.{FaultIs}
use Rattle.vtl_interp.specs.Written.{IsBehind, IsWritten}

is_behind : (name : List ℕ) (d : DataSet) (t : Listed) (before now : NamedTables) → IsTableOf d.structure t → t.rows ≡ d.points → now ≡ before ++ (name, t) ∷ [] → IsBehind name d before now
is_behind name d t before now is rows e = record { table = t; shows = record { table = is; same = Perm-same t.rows d.points rows }; behind = e }

pub persistent_behind : (kind : AssignKind) (name other : List ℕ) (d : DataSet) (t : Listed) (before now : NamedTables) (r : Result (Unit {0}) AllocError) → kind ≡ assign.Persistent → other ≡ name → IsTableOf d.structure t → t.rows ≡ d.points
    → OnOk r (now ≡ before ++ (other, t) ∷ []) → OnOk r (IsWritten (is_written kind) name d before now)
persistent_behind kind name other d t before now (Ok u) k same is rows e =
    subst (λ (q : AssignKind). IsWritten (is_written q) name d before now) (sym k) (is_behind name d t before now is rows (e ∙ ap (λ (n : List ℕ). before ++ (n, t) ∷ []) same))
persistent_behind kind name other d t before now (Err x) k same is rows e = tt

-- a new name has no table
pub no_table : (name : List ℕ) (tables : NamedTables) → list_any (same_name name) (keys_of tables) ≡ false → table_of name tables ≡ None
no_table name [] h = refl
no_table name (t ∷ ts) h = go (same_name name t.0) (no_table name ts) h
  where
    go : (b : Bool) → (list_any (same_name name) (keys_of ts) ≡ false → table_of name ts ≡ None) → (b || list_any (same_name name) (keys_of ts)) ≡ false → cond b (Some t.1) (table_of name ts) ≡ None
    go true ih q = cc
    go false ih q = ih q

-- a fault is told where the tables are as before
pub faulted : (meant : Result Outputs (Fault × List ℕ)) (before now : NamedTables) (e : RunErr) → FaultIs meant e → now ≡ before → Tells meant before now (Err e)
faulted meant before now (run.DivZero name) h same = (h, same)
faulted meant before now (run.Range name) h same = (h, same)
faulted meant before now run.OutOfMemory h same = same
