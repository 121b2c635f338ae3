-- The parts of WHERE that are tried early.
use Rattle.std.specs.Prelude.{ℕ, suc, Bool, not, cond, ◌&&◌, List, [], ◌∷◌, ◌++◌, map, find, drop, length, Option, Some, None}
use Rattle.std.specs.List.{list_all, range_with_len}
use Rattle.sql_tree.specs.Trees.{Exp, JoinTree, QueryTree, SelectTree, Text}
use Rattle.sql_check_parts.specs.Scopes.{is_among}
use Rattle.sql_meaning.specs.Early.{aliases_left, columns_in, is_full, is_safe_condition, is_safe_join}
use Rattle.sql_meaning.specs.Plans.{conjuncts_of}
use Rattle.sql_meaning.specs.declared.plan.Early.{Early}

-- nothing that FROM and WHERE evaluate can have a fault
abbrev pub is_safe_select : SelectTree → Bool
is_safe_select s = list_all is_safe_join s.joins && is_safe_condition s.condition

-- none of these joins is FULL
abbrev pub is_lasting : List JoinTree → Bool
is_lasting js = list_all (λ j. not (is_full j)) js

-- it names columns of sources with these aliases alone
abbrev pub names_only : List Text → Exp → Bool
names_only aliases e = list_all (λ x. is_among x.source aliases) (columns_in e)

-- whether a part may be tried before the n-th join of a select where nothing can have a fault: neither this join nor a later one is
-- FULL, and it names columns of sources left of the join alone
abbrev pub may_precede : SelectTree → Exp → ℕ → Bool
may_precede s e n = is_lasting (drop n s.joins) && names_only (aliases_left s n) e

-- The first join before which it may be tried. Before the later ones it need not be: the rows that are left there pass it.
abbrev pub first_join : SelectTree → Exp → Option ℕ
first_join s e = find (may_precede s e) (range_with_len 0 (length s.joins))

-- the entry of a part that has such a join
abbrev pub entry_of : ℕ → ℕ → Option ℕ → List Early
entry_of select conjunct None = []
entry_of select conjunct (Some join) = record { select = select; conjunct = conjunct; join = join } ∷ []

-- those of the parts of a select from this one on, of each of which the join is given
abbrev pub entries_from : ℕ → ℕ → List (Option ℕ) → List Early
entries_from select n [] = []
entries_from select n (j ∷ js) = entry_of select n j ++ entries_from select (suc n) js

-- each part of the WHERE of a select that may be tried before a join is so once, before the first such join
abbrev pub early_parts_in : ℕ → SelectTree → List Early
early_parts_in select s = cond (is_safe_select s) (entries_from select 0 (map (first_join s) (conjuncts_of s.condition))) []

-- those of the selects from this one on
abbrev pub early_parts_behind : ℕ → QueryTree → List Early
early_parts_behind n [] = []
early_parts_behind n (s ∷ ss) = early_parts_in n s ++ early_parts_behind (suc n) ss

-- those of a query, by select and then by part
abbrev pub early_parts : QueryTree → List Early
early_parts q = early_parts_behind 0 q
