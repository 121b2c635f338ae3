-- Tables of the program that have the columns over which a query is typed.
use Rattle.std.proofs.Common.{◌≡◌, List, [], ◌∷◌, map, Option, Some, None, refl, ap, ◌∙◌, subst}
use Rattle.vtl_decimal.specs.Settings.{Settings}
use Rattle.vtl_rows.specs.Named.{NamedTables, table_of}
use Rattle.vtl_rows.specs.Tables.{Listed, column_kinds}
use Rattle.vtl_rows.specs.declared.column.Column.{Column}
use Rattle.sql_check_parts.specs.Scopes.{Tables}
use Rattle.sql_meaning.specs.Tables.{AreHeldFit, HasColumns, HasTable, RowsFit, TablesFit, base_over, column_entry, kinds_of, rows_of}

pub kinds_are : (columns : List Column) → column_kinds columns ≡ kinds_of (map column_entry columns)
kinds_are [] = refl
kinds_are (x ∷ columns) = ap (λ l. x.kind ∷ l) (kinds_are columns)

pub held_fit : (p : Settings) (given : Tables) (held : NamedTables) → HasColumns given held → AreHeldFit held → TablesFit (base_over p given held)
held_fit p given held has fit name columns e = go (table_of name held) refl (has name columns e)
  where
    go : (o : Option Listed) → table_of name held ≡ o → HasTable columns o → RowsFit (kinds_of columns) (rows_of o)
    go None q h = absurd h
    go (Some t) q h = subst (λ ks. RowsFit ks t.rows) (kinds_are t.columns ∙ ap kinds_of h) (fit name t q)
