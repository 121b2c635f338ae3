-- What a plan lists, as choices among all joins and all parts of a query.
use Rattle.std.specs.Prelude.{ℕ, cond, List, [], ◌∷◌, map, filter, zip, length, Option, Some, None}
use Rattle.std.specs.List.{flat_map, range_with_len}
use Rattle.sql_tree.specs.Trees.{Exp, JoinTree, QueryTree, SelectTree}
use Rattle.sql_meaning.specs.Plans.{conjuncts_of}
use Rattle.sql_meaning.specs.declared.plan.Early.{Early}
use Rattle.sql_meaning.specs.declared.plan.Indexed.{Indexed}
use Rattle.sql_plan.specs.Chosen.{is_equality_join}
use Rattle.sql_plan.specs.EarlyChosen.{first_join, is_safe_select}

-- the items of a list, each behind its place, counted from 0
abbrev pub numbered : {A : Type 0} → List A → List (ℕ × A)
numbered xs = zip (range_with_len 0 (length xs)) xs

-- ---- joins

-- a join by its select and its place there
abbrev pub join_entry : ℕ → ℕ × JoinTree → Indexed × JoinTree
join_entry select j = (record { select = select; join = j.0 }, j.1)

-- all joins of a query, by select and then by join
abbrev pub joins_in : QueryTree → List (Indexed × JoinTree)
joins_in q = flat_map (λ s. map (join_entry s.0) (numbered s.1.joins)) (numbered q)

-- those whose ON is a conjunction of equalities of a column on each side
abbrev pub chosen_joins : QueryTree → List Indexed
chosen_joins q = map (λ j. j.0) (filter (λ j. is_equality_join j.1) (joins_in q))

-- ---- parts of WHERE

-- a part of the WHERE of a select, with the places of both
pub record WherePart : Type 0 where
  pub select : ℕ
  pub within : SelectTree
  pub conjunct : ℕ
  pub condition : Exp

abbrev pub part_of : ℕ × SelectTree → ℕ × Exp → WherePart
part_of s x = record { select = s.0; within = s.1; conjunct = x.0; condition = x.1 }

-- all parts that AND joins in the WHEREs of a query, by select and then by part
abbrev pub parts_in : QueryTree → List WherePart
parts_in q = flat_map (λ s. map (part_of s) (numbered (conjuncts_of s.1.condition))) (numbered q)

-- the first join before which a part may be tried; none in a select in which something can have a fault
abbrev pub first_join_of : WherePart → Option ℕ
first_join_of x = cond (is_safe_select x.within) (first_join x.within x.condition) None

-- a part that has such a join is tried before it
abbrev pub tried_before : WherePart → Option ℕ → List Early
tried_before x None = []
tried_before x (Some join) = record { select = x.select; conjunct = x.conjunct; join = join } ∷ []

-- so is each part that may be tried before a join, once, before the first such join
abbrev pub chosen_parts : QueryTree → List Early
chosen_parts q = flat_map (λ x. tried_before x (first_join_of x)) (parts_in q)
