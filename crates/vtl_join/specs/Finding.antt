-- The rows of operands that rows of a lead find, by their numbers.
use Rattle.std.specs.Prelude.{ℕ, ◌+◌, Bool, true, false, not, ◌||◌, cond, List, [], ◌∷◌, ◌++◌, map, length, take, drop, slice_index, nat_le, Option, Some, None}
use Rattle.std.specs.List.{flat_map, list_all, range_with_len}
use Rattle.vtl_cell.specs.Row.{Row}
use Rattle.vtl_rows.specs.Places.{row_at}
use Rattle.vtl_index.specs.Seekers.{Sought, first_meant}
use Rattle.vtl_syntax.specs.declared.word_groups.JoinKind.{JoinKind}
use Rattle.vtl_syntax.specs.declared.word_groups.JoinKind.TheVariants as join
use Rattle.vtl_tree.specs.Environment.{DataSet}
use Rattle.vtl_tree.specs.Structure.{columns_of}
use Rattle.vtl_tree.specs.declared.structure.Component.{Component}
use Rattle.vtl_tree.specs.declared.structure.Structure.{Structure}
use Rattle.vtl_tree.specs.Columns.{common_identifiers, places_in}

-- the points of an operand, by the identifiers that it has in common with the structure of the rows that ask
abbrev pub sought_beside : Structure → DataSet → Sought
sought_beside a d = let ids = common_identifiers a d.structure in record { own = places_in (columns_of d.structure) ids; asked = places_in (columns_of a) ids; rows = d.points }

-- the points of an operand by these identifiers, which are the first cells of the rows that ask
abbrev pub sought_at : List Component → DataSet → Sought
sought_at ids d = record { own = places_in (columns_of d.structure) ids; asked = range_with_len 0 (length ids); rows = d.points }

-- what finds the points of operands for those of one of them, the lead, which has its own
abbrev pub sources_around : Structure → List DataSet → ℕ → List (Option Sought)
sources_around a ds place = map (λ d. Some (sought_beside a d)) (take place ds) ++ None ∷ map (λ d. Some (sought_beside a d)) (drop (place + 1) ds)

-- The number of the row that a row of the lead finds in an operand, or how many rows there are. An operand that is the lead itself
-- has the row.
abbrev pub number : ℕ → Row → Option Sought → ℕ
number i r None = i
number i r (Some x) = first_meant x r

-- the number is that of no row
abbrev pub is_past : Option Sought → ℕ → Bool
is_past None n = false
is_past (Some x) n = nat_le (length x.rows) n

abbrev pub is_found : ℕ → Row → Option Sought → Bool
is_found i r x = not (is_past x (number i r x))

-- the numbers of a row of the lead and of those that it finds
abbrev pub numbers : List (Option Sought) → ℕ → Row → List ℕ
numbers xs i r = i ∷ map (number i r) xs

-- where it finds one in each operand, or where that is not asked
abbrev pub is_kept : Bool → List (Option Sought) → ℕ → Row → Bool
is_kept whole xs i r = not whole || list_all (is_found i r) xs

abbrev pub numbers_for : Bool → List (Option Sought) → ℕ → Row → List ℕ
numbers_for whole xs i r = cond (is_kept whole xs i r) (numbers xs i r) []

-- those of the rows of the lead at these places, one after the other
abbrev pub all_numbers : Bool → List (Option Sought) → List Row → List ℕ → List ℕ
all_numbers whole xs rows places = flat_map (λ i. numbers_for whole xs i (row_at rows i)) places

-- ---- by lists, that are made for all rows of the lead at once
-- what rows of the lead find in an operand, one after the other: the number of the row, or how many rows there are; and how many
-- there are
pub record Found : Type 0 where
  pub numbers : List ℕ
  pub count : ℕ

-- nothing for an operand that is the lead itself
abbrev pub found_by : List Row → Option Sought → Option Found
found_by rows None = None
found_by rows (Some x) = Some (record { numbers = map (first_meant x) rows; count = length x.rows })

abbrev pub listed_number : ℕ → Option Found → ℕ
listed_number i None = i
listed_number i (Some f) = slice_index f.numbers i

-- the number is that of a row
abbrev pub is_within : Option Found → ℕ → Bool
is_within None n = true
is_within (Some f) n = not (nat_le f.count n)

abbrev pub is_listed : ℕ → Option Found → Bool
is_listed i f = is_within f (listed_number i f)

abbrev pub listed_numbers : Bool → List (Option Found) → ℕ → List ℕ
listed_numbers whole fs i = cond (not whole || list_all (is_listed i) fs) (i ∷ map (listed_number i) fs) []

-- a join that asks that each operand has a part
abbrev pub wants_all : JoinKind → Bool
wants_all join.Inner = true
wants_all kind = false
