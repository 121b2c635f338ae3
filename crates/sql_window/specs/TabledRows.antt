-- The table of rows of FROM.
use Rattle.vtl_rows.specs.Tables.{Tabled}
use Rattle.sql_window.specs.declared.tabled_rows.RowTable.{RowTable}
use Rattle.sql_window.specs.declared.tabled_rows.RowTable.TheVariants as rows

-- the one that is lent, or the one that is made
abbrev pub table_in : RowTable → Tabled
table_in (rows.Lent t) = t.now
table_in (rows.Made t) = t
