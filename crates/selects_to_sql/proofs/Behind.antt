-- Tables before others stay before them.
use Rattle.std.proofs.Common.{◌≡◌, ℕ, ◌+◌, List, ◌++◌}
use Rattle.sql_tree.specs.Trees.{Text}
use Rattle.selects_to_sql.specs.Tables.{Made, Sources, Table}

pub record IsBehind (T : List Table) (m less : Made) : Type 0 where
  pub query : m.query ≡ less.query
  pub next : m.next ≡ less.next
  pub tables : m.tables ≡ T ++ less.tables

abbrev pub given : List Text → List Table → ℕ → Sources
given names T n = record { names = names; tables = T; next = n }
