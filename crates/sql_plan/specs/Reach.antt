-- How far to the right the sources of columns stand.
use Rattle.std.specs.Prelude.{◌≡◌, ℕ, suc, max, nat_lt, cond, List, [], ◌∷◌, ◌++◌, map, option_map, option_and_then, Option, Some, None, if◌then◌else◌}
use Rattle.std.specs.Map.{keys_of}
use Rattle.vtl_text.specs.Texts.{same_text}
use Rattle.sql_tree.specs.Trees.{Exp, SelectTree, Text}
use Rattle.sql_tree.specs.declared.parts.Column.{Column}
use Rattle.sql_check_parts.specs.Scopes.{Named, is_among, value_among}
use Rattle.sql_meaning.specs.Early.{columns_in, join_alias}
use Rattle.sql_plan.specs.declared.standing.Standing.{Standing}

-- the first place where a name stands
abbrev pub place_among : List Text → Text → Option ℕ
place_among [] name = None
place_among (x ∷ xs) name = cond (same_text name x) (Some 0) (option_map suc (place_among xs name))

-- at each of these names the first place where it stands
abbrev pub ArePlaces : List Text → Named ℕ → Type 0
ArePlaces names places = (name : Text) → value_among places name ≡ place_among names name

-- with a name more, unless it is there already
abbrev pub with_place : Named ℕ → Text → ℕ → Named ℕ
with_place places name n = if is_among name (keys_of places) then places else places ++ (name, n) ∷ []

-- the aliases of the sources of a select, from the left
abbrev pub aliases_of : SelectTree → List Text
aliases_of s = s.source.alias ∷ map join_alias s.joins

-- the place of the last source that these columns name, at least n; none where a source is not there
abbrev pub reach : Named ℕ → ℕ → List Column → Option ℕ
reach places n [] = Some n
reach places n (x ∷ xs) = option_and_then (λ p. reach places (max n p) xs) (value_among places x.source)

-- a number, where there is one below a bound
abbrev pub below : ℕ → Option ℕ → Option ℕ
below m None = None
below m (Some n) = cond (nat_lt n m) (Some n) None

-- the first join before which a part may be tried, by what is noted of a select
abbrev pub first_join_by : Standing → Exp → Option ℕ
first_join_by s e = below s.joins (reach s.places s.lasting (columns_in e))
