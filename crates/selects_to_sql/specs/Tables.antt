-- Tables by queries that are made one after the other: their names and numbers, and those that stand for operands.
use Rattle.std.specs.Prelude.{ℕ, ◌+◌, List, [], ◌∷◌, ◌++◌}
use Rattle.std.specs.Fmt.{decimal}
use Rattle.sql_tree.specs.Trees.{Text, QueryTree, StatementTree, create}
use Rattle.sql_meaning.specs.Scripts.{dollar}

-- a table by a query
pub record Table : Type 0 where
  pub name : Text
  pub query : QueryTree

abbrev pub table_of : Text → QueryTree → Table
table_of name q = record { name = name; query = q }

-- of an expression: the tables before its own, the query of its own, and the next number of a table
pub record Made : Type 0 where
  pub tables : List Table
  pub query : QueryTree
  pub next : ℕ

-- of operands: the names of the tables that stand for them, the tables that are made for them, and the next number
pub record Sources : Type 0 where
  pub names : List Text
  pub tables : List Table
  pub next : ℕ

-- the result's name, `$` and a number
abbrev pub numbered : Text → ℕ → Text
numbered result n = result ++ dollar ∷ decimal n

-- ---- operands

-- by its name, and by a table of its own
abbrev pub by_name : Text → ℕ → Sources
by_name x n = record { names = x ∷ []; tables = []; next = n }

abbrev pub stored : Text → Made → Sources
stored result m = record {
  names = numbered result m.next ∷ [];
  tables = m.tables ++ table_of (numbered result m.next) m.query ∷ [];
  next = m.next + 1;
}

-- operands, and others behind them
abbrev pub and_then : Sources → (ℕ → Sources) → Sources
and_then a f =
    let b = f a.next in
    record { names = a.names ++ b.names; tables = a.tables ++ b.tables; next = b.next }

-- the names of one, two and three operands
abbrev pub with_one : (Text → QueryTree) → List Text → QueryTree
with_one q (x ∷ []) = q x
with_one q names = []

abbrev pub with_two : (Text → Text → QueryTree) → List Text → QueryTree
with_two q (x ∷ y ∷ []) = q x y
with_two q names = []

abbrev pub with_three : (Text → Text → Text → QueryTree) → List Text → QueryTree
with_three q (x ∷ y ∷ z ∷ []) = q x y z
with_three q names = []

-- a query over operands
abbrev pub over : Sources → (List Text → QueryTree) → Made
over os q = record { tables = os.tables; query = q os.names; next = os.next }

-- by names of tables that there are
abbrev pub by_names : List Text → ℕ → Sources
by_names xs n = record { names = xs; tables = []; next = n }

-- the names of operands, and of one behind them
abbrev pub with_last : (List Text → Text → QueryTree) → List Text → QueryTree
with_last q [] = []
with_last q (x ∷ []) = q [] x
with_last q (x ∷ y ∷ xs) = with_last (λ zs z. q (x ∷ zs) z) (y ∷ xs)

-- ---- statements

-- the first number of a table
abbrev pub first_number : ℕ
first_number = 1

-- the statement that makes a table
abbrev pub create_for : Table → StatementTree
create_for t = create t.name t.query
