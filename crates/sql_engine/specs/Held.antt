-- The tables that a run holds.
use Rattle.std.specs.Prelude.{◌≡◌, ◌⊎◌, Bool, true, false, List, [], ◌∷◌, fold, Result, Ok, Err}
use Rattle.vtl_lists.specs.Perm.{Perm}
use Rattle.vtl_decimal.specs.Settings.{Settings}
use Rattle.vtl_rows.specs.Named.{NamedTables, table_of}
use Rattle.vtl_rows.specs.Tables.{Listed}
use Rattle.sql_tree.specs.Trees.{StatementTree, Text}
use Rattle.sql_check_parts.specs.Statements.{after, nothing}
use Rattle.sql_meaning.specs.Profiles.{AreOfProfile}
use Rattle.sql_meaning.specs.Scripts.{Data, Made, nothing_made, statements_made, table_named, tables_in}
use Rattle.sql_meaning.specs.Tables.{AreHeldFit, rows_of}
use Rattle.sql_from.specs.Held.{tables_held}
use Rattle.sql_engine.specs.InputTables.{rows_given}
use Rattle.sql_engine.specs.LastReads.{EachExported}
use Rattle.sql_engine.specs.Runs.{FaultIs}
use Rattle.vtl_scalar.specs.declared.run_error.RunErr.{RunErr}

-- They stand for tables of the meaning: they have the same names and columns, and those that are still read have the same rows, in any
-- order; the others may have lost theirs.
pub record StandFor (p : Settings) (is_kept : Text → Bool) (tables : Data) (held : NamedTables) : Type 0 where
  pub same : tables_in tables ≡ tables_held held
  pub rows : (name : Text) → is_kept name ≡ true → Perm (table_named tables name).rows (rows_of (table_of name held))
  pub fit : AreHeldFit held
  pub ranged : (name : Text) → AreOfProfile p (rows_of (table_of name held))

-- a table of the same columns
abbrev pub without_rows : Listed → Listed
without_rows t = record { columns = t.columns; rows = [] }

-- a table stays as it is, or it is not read any more and loses its rows
abbrev pub MayLoseRows : (Text → Bool) → (held now : Text × Listed) → Type 0
MayLoseRows is_kept t u = (u ≡ t) ⊎ ((is_kept t.0 ≡ false) × (u ≡ (t.0, without_rows t.1)))

-- and so does each of some tables
abbrev pub MayLetGo : (Text → Bool) → (held now : NamedTables) → Type 0
MayLetGo is_kept [] [] = Unit {0}
MayLetGo is_kept [] (u ∷ now) = ⊥
MayLetGo is_kept (t ∷ held) [] = ⊥
MayLetGo is_kept (t ∷ held) (u ∷ now) = MayLoseRows is_kept t u × MayLetGo is_kept held now

-- ---- all statements

-- They have made this, and the tables that are held have its names and columns; those that are exported have its rows, in any order.
pub record HaveMade (p : Settings) (inputs : NamedTables) (ss : List StatementTree) (held : NamedTables) : Type 0 where
  pub made : Made
  pub made_is : statements_made p (rows_given inputs) nothing_made ss ≡ Ok made
  pub same : tables_in made.tables ≡ tables_held held
  pub given : (fold after nothing ss).tables ≡ tables_held held
  pub rows : EachExported (λ name. Perm (table_named made.tables name).rows (rows_of (table_of name held))) ss

abbrev pub Make : Settings → NamedTables → List StatementTree → Result NamedTables RunErr → Type 0
Make p inputs ss (Ok held) = HaveMade p inputs ss held
Make p inputs ss (Err e) = FaultIs (statements_made p (rows_given inputs) nothing_made ss) e
