-- The joins that go by an index.
use Rattle.std.specs.Prelude.{ℕ, suc, Bool, false, cond, List, [], ◌∷◌, ◌++◌}
use Rattle.std.specs.List.{list_all}
use Rattle.sql_tree.specs.Trees as tree
use Rattle.sql_tree.specs.Trees.{JoinTree, QueryTree}
use Rattle.sql_meaning.specs.Plans.{conjuncts, is_side_equality}
use Rattle.sql_meaning.specs.declared.plan.Indexed.{Indexed}

-- whether ON is a conjunction of equalities of a column of the join's own source and of one left of it
abbrev pub is_equality_join : JoinTree → Bool
is_equality_join (tree.on kind s e) = list_all (is_side_equality s.alias) (conjuncts e)
is_equality_join (tree.cross s) = false

-- of the joins of a select from this one on, those that are such joins
abbrev pub equality_joins_from : ℕ → ℕ → List JoinTree → List Indexed
equality_joins_from select n [] = []
equality_joins_from select n (j ∷ js) = cond (is_equality_join j) (record { select = select; join = n } ∷ []) [] ++ equality_joins_from select (suc n) js

-- those of the selects from this one on
abbrev pub equality_joins_behind : ℕ → QueryTree → List Indexed
equality_joins_behind n [] = []
equality_joins_behind n (s ∷ ss) = equality_joins_from n 0 s.joins ++ equality_joins_behind (suc n) ss

-- those of a query, by select and then by join
abbrev pub equality_joins : QueryTree → List Indexed
equality_joins q = equality_joins_behind 0 q
