-- Each law on small tables.
use Rattle.std.proofs.Common.{◌≡◌, ℕ, Bool, true, List, [], ◌∷◌, map, None, Some, refl}
use Rattle.std.specs.Prelude.{codes, take}
use Rattle.vtl_cell.specs.Order.{same_cell}
use Rattle.vtl_cell.specs.Row.{Row, column_of}
use Rattle.vtl_cell.specs.Sorted.{Key, in_order}
use Rattle.vtl_cell.specs.declared.cell.Cell.TheVariants.{Null}
use Rattle.vtl_cell.specs.declared.kind.Kind.TheVariants as k
use Rattle.vtl_cell.specs.declared.operator.ScalarOp.TheVariants as op
use Rattle.sql_tree.specs.Trees as tree
use Rattle.sql_tree.specs.Trees.{Exp, JoinTree, QueryTree, SelectTree}
use Rattle.sql_tree.specs.declared.parts.Constant.TheVariants as constant
use Rattle.sql_tree.specs.declared.word_groups.JoinKind.TheVariants as joining
use Rattle.sql_check_parts.specs.Queries.{query_columns}
use Rattle.sql_check_parts.specs.Scopes.{Tables}
use Rattle.sql_meaning.specs.Windows.{place_within}
use Rattle.sql_meaning.proofs.ExampleParts.{in_s, in_t, int, item, key_and_value, num, number, pair_of, plain, s}
use Rattle.sql_meaning_laws.specs.Columns.{common_kinds}
use Rattle.sql_meaning_laws.specs.Joins.{rows_joined}
use Rattle.sql_meaning_laws.specs.Listed.{chosen_joins, chosen_parts}
use Rattle.sql_meaning_laws.specs.Places.{partition_at, row_at, rows_before, told_at}

-- ---- windows

abbrev alone : ℕ → Row
alone n = number n ∷ []

-- the first and the last one are alike
abbrev three : List Row
three = alone 2 ∷ alone 1 ∷ alone 2 ∷ []

-- the column, falling
abbrev falling : List Key
falling = record { place = 0; falling = true } ∷ []

abbrev places_by : List Key → List ℕ
places_by keys = map (λ i. rows_before keys (partition_at [] three i) (take i three) (row_at three i)) (0 ∷ 1 ∷ 2 ∷ [])

rising_places : places_by [] ≡ 1 ∷ 0 ∷ 2 ∷ []
rising_places = refl

falling_places : places_by falling ≡ 0 ∷ 2 ∷ 1 ∷ []
falling_places = refl

as_windows_count : map (λ i. place_within falling (partition_at [] three i) (told_at three i)) (0 ∷ 1 ∷ 2 ∷ []) ≡ 0 ∷ 2 ∷ 1 ∷ []
as_windows_count = refl

falling_order : in_order falling [] three ≡ alone 2 ∷ alone 2 ∷ alone 1 ∷ []
falling_order = refl

-- ---- joins

abbrev first_two_alike : Row → Bool
first_two_alike r = same_cell (column_of 0 r) (column_of 1 r)

both_sides_padded : rows_joined joining.Full first_two_alike 1 1 (alone 1 ∷ alone 2 ∷ []) (alone 2 ∷ alone 3 ∷ [])
    ≡ pair_of (number 2) (number 2) ∷ pair_of (number 1) Null ∷ pair_of Null (number 3) ∷ []
both_sides_padded = refl

-- ---- unions

abbrev tables : Tables
tables = (codes "T", key_and_value) ∷ (codes "S", key_and_value) ∷ []

-- an integer and null, a number and an integer
abbrev union : QueryTree
union = plain (item (codes "a") (int (codes "1")) ∷ item (codes "b") (tree.constant constant.Null) ∷ []) [] None
    ∷ plain (item (codes "a") (num (codes "2.5")) ∷ item (codes "b") (in_t (codes "v")) ∷ []) [] None ∷ []

kinds_of_both : common_kinds tables union ≡ Some k.Num ∷ Some k.Int ∷ []
kinds_of_both = refl

columns_of_both : query_columns tables union ≡ (codes "a", k.Num) ∷ (codes "b", k.Int) ∷ []
columns_of_both = refl

-- ---- plans

abbrev equality : Exp
equality = tree.binary (in_t (codes "k")) op.Equal (in_s (codes "k"))

abbrev on_equality : JoinTree
on_equality = tree.on joining.Inner s equality

-- the second part of WHERE names the table left of the join alone
abbrev planned : QueryTree
planned = plain [] [] None ∷ plain [] (tree.cross s ∷ on_equality ∷ []) (Some (tree.binary (tree.binary (in_s (codes "v")) op.Less (int (codes "5"))) op.And (tree.binary (in_t (codes "v")) op.Less (int (codes "5"))))) ∷ []

second_join_listed : chosen_joins planned ≡ record { select = 1; join = 1 } ∷ []
second_join_listed = refl

parts_listed : chosen_parts planned ≡ record { select = 1; conjunct = 0; join = 1 } ∷ record { select = 1; conjunct = 1; join = 0 } ∷ []
parts_listed = refl
