-- The tables that statements put behind the others.
use Rattle.std.proofs.Common.{◌≡◌, map, List, [], ◌∷◌, ◌++◌, Option, Some, Ok, Err, sym, ap, ◌∙◌, subst}
use Rattle.vtl_lists.proofs.Perms.{Perm-refl}
use Rattle.vtl_decimal.specs.declared.number.Fault.TheVariants.{DivZero, Range}
use Rattle.vtl_cell.specs.Outcome.{Outcome}
use Rattle.vtl_cell.specs.Outcomes.{Same}
use Rattle.vtl_lists.specs.Perm.{Perm}
use Rattle.vtl_cell.specs.Row.{Row}
use Rattle.vtl_rows.specs.Named.{NamedTables, table_of}
use Rattle.vtl_rows.specs.Tables.{Listed}
use Rattle.vtl_scalar.specs.declared.error.ScalarErr.{ScalarErr}
use Rattle.sql_tree.specs.Trees.{Text}
use Rattle.sql_check_parts.specs.Scopes.{Columns}
use Rattle.sql_meaning.specs.Scripts.{or_named}
use Rattle.sql_meaning.specs.Tables.{HasTable, column_entry, rows_of}
use Rattle.sql_exec.specs.Answers.{Gives}
use Rattle.sql_engine.specs.Runs.{FaultIs, Faults}
use Rattle.sql_engine.specs.Statements.{IsPut}
use Rattle.vtl_scalar.specs.declared.run_error.RunErr.{RunErr}
use Rattle.vtl_scalar.specs.declared.run_error.RunErr.TheVariants as run

pub input_put : (name : Text) (columns : Columns) (inputs before now : NamedTables) (t : Listed) → table_of name inputs ≡ Some t → HasTable columns (table_of name inputs) → now ≡ before ++ (name, t) ∷ [] → IsPut name columns (Ok (rows_of (table_of name inputs))) before now
input_put name columns inputs before now t e has put =
    record { table = t; columns_are = subst (HasTable columns) e has; rows_are = subst (λ (o : Option Listed). Perm (rows_of o) t.rows) (sym e) (Perm-refl t.rows); put = put }

-- a table that is held under this name
pub create_put : (name n : Text) (columns : Columns) (rows : Outcome (List Row)) (before now : NamedTables) (t u : Listed) → map column_entry t.columns ≡ columns → Same rows (Ok t.rows) → u ≡ t → n ≡ name → now ≡ before ++ (n, u) ∷ [] → IsPut name columns rows before now
create_put name n columns rows before now t u columns_are rows_are held named put =
    record { table = t; columns_are = columns_are; rows_are = rows_are; put = put ∙ (λ i. before ++ (named i, held i) ∷ []) }

-- the fault of a query, with its name
pub fault_named : (name : Text) (m : Outcome (List Row)) (e : ScalarErr) (told : RunErr) → Gives m (Err e) → Faults name e told → FaultIs (or_named name m) told
fault_named name m e (run.DivZero n) gives h = ap (or_named name) (subst (λ x. Gives m (Err x)) h.1 gives) ∙ ap (λ x. Err (DivZero, x)) (sym h.0)
fault_named name m e (run.Range n) gives h = ap (or_named name) (subst (λ x. Gives m (Err x)) h.1 gives) ∙ ap (λ x. Err (Range, x)) (sym h.0)
fault_named name m e run.OutOfMemory gives h = tt
