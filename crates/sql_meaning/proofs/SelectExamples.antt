-- What the definitions give for single queries, by computing it.
use Rattle.std.proofs.Common.{◌≡◌, pos, negsuc, true, false, List, [], ◌∷◌, Some, None, Ok, Err, refl}
use Rattle.std.specs.Prelude.{codes}
use Rattle.vtl_decimal.specs.declared.number.Fault.TheVariants.{DivZero, Range}
use Rattle.vtl_cell.specs.Row.{Row}
use Rattle.vtl_cell.specs.declared.cell.Cell.TheVariants.{Int, Null, Num}
use Rattle.vtl_cell.specs.declared.operator.AggKind.TheVariants as agg
use Rattle.vtl_cell.specs.declared.operator.ScalarOp.TheVariants as op
use Rattle.sql_tree.specs.Trees as tree
use Rattle.sql_tree.specs.Trees.{Exp, SelectTree}
use Rattle.sql_tree.specs.declared.parts.Literal.TheVariants as literal
use Rattle.sql_tree.specs.declared.parts.Numeral.TheVariants as numeral
use Rattle.sql_tree.specs.declared.windows.Bound.TheVariants as bound
use Rattle.sql_tree.specs.declared.windows.Over.{Over}
use Rattle.sql_tree.specs.declared.windows.Window.{Window}
use Rattle.sql_tree.specs.declared.windows.WindowCall.TheVariants as call
use Rattle.sql_tree.specs.declared.word_groups.Direction.TheVariants as direction
use Rattle.sql_tree.specs.declared.word_groups.JoinKind.{JoinKind}
use Rattle.sql_tree.specs.declared.word_groups.JoinKind.TheVariants as joining
use Rattle.sql_tree.specs.declared.word_groups.ShiftFunction.TheVariants as shift
use Rattle.sql_tree.specs.declared.word_groups.Side.TheVariants as side
use Rattle.sql_tree.specs.declared.word_groups.ValueFunction.TheVariants as value
use Rattle.sql_meaning.specs.Selects.{query_value}
use Rattle.sql_meaning.proofs.ExampleParts.{base, false_exp, in_s, in_t, int, item, num, number, of_s, of_t, one_by_zero, pair_of, plain, s, window}

abbrev three_rows : List Row
three_rows = pair_of (number 1) (number 10) ∷ pair_of (number 2) (number 20) ∷ pair_of Null (number 30) ∷ []

abbrev two_and_null : List Row
two_and_null = pair_of (number 2) (number 200) ∷ pair_of Null (number 300) ∷ []

-- ---- FROM

abbrev by_key : JoinKind → SelectTree
by_key kind = plain (item (codes "a") (in_t (codes "v")) ∷ item (codes "b") (in_s (codes "v")) ∷ []) (tree.on kind s (tree.binary (in_t (codes "k")) op.Equal (in_s (codes "k"))) ∷ []) None

inner_keeps_pairs : query_value (base three_rows two_and_null) (by_key joining.Inner ∷ []) ≡ Ok (pair_of (number 20) (number 200) ∷ [])
inner_keeps_pairs = refl

left_keeps_left_rows : query_value (base three_rows two_and_null) (by_key joining.Left ∷ []) ≡ Ok (pair_of (number 10) Null ∷ pair_of (number 20) (number 200) ∷ pair_of (number 30) Null ∷ [])
left_keeps_left_rows = refl

-- FULL keeps the rows of both sides without a partner, null keys among them
full_keeps_both_sides : query_value (base three_rows two_and_null) (by_key joining.Full ∷ []) ≡ Ok (pair_of (number 10) Null ∷ pair_of (number 20) (number 200) ∷ pair_of (number 30) Null ∷ pair_of Null (number 300) ∷ [])
full_keeps_both_sides = refl

cross_keeps_all : query_value (base two_and_null two_and_null) (plain (item (codes "a") (in_t (codes "v")) ∷ item (codes "b") (in_s (codes "v")) ∷ []) (tree.cross s ∷ []) None ∷ [])
    ≡ Ok (pair_of (number 200) (number 200) ∷ pair_of (number 200) (number 300) ∷ pair_of (number 300) (number 200) ∷ pair_of (number 300) (number 300) ∷ [])
cross_keeps_all = refl

-- ---- WHERE

-- .. WHERE "t"."k" <> 2: at a null key this is null, which is not true
where_keeps_what_is_true : query_value (base three_rows []) (plain (item (codes "v") (in_t (codes "v")) ∷ []) [] (Some (tree.binary (in_t (codes "k")) op.NotEqual (int (codes "2")))) ∷ []) ≡ Ok ((number 10 ∷ []) ∷ [])
unfolding lib.Utf8.encode
where_keeps_what_is_true = refl

-- ---- faults

-- .. LEFT JOIN "S" AS "s" ON "t"."v" * 9000000000 = "s"."v" WHERE "s"."k" IS NULL
abbrev guarded : Exp → SelectTree
guarded e = plain (item (codes "x") e ∷ []) (tree.on joining.Left s (tree.binary (tree.binary (in_t (codes "v")) op.Multiply (int (codes "9000000000"))) op.Equal (in_s (codes "v"))) ∷ []) (Some (tree.is_null (in_s (codes "k")) false))

abbrev one_large : List Row
one_large = pair_of (number 1) (number 9000000000) ∷ []

-- the fault of ON keeps the items from being evaluated
conditions_come_before_items : query_value (base one_large two_and_null) (guarded one_by_zero ∷ []) ≡ Err Range
unfolding lib.Utf8.encode
conditions_come_before_items = refl

-- a row that a faulty ON leaves alone is padded, and WHERE sees it: it divides by zero there
abbrev divided_by_the_missing : SelectTree
divided_by_the_missing = plain (item (codes "x") (int (codes "1")) ∷ []) (tree.on joining.Left s (tree.binary (tree.binary (in_t (codes "v")) op.Multiply (int (codes "9000000000"))) op.Equal (in_s (codes "v"))) ∷ []) (Some (tree.binary (tree.binary (int (codes "1")) op.Divide (tree.call op.ValueOr (tree.exp (in_s (codes "k")) (tree.exp (int (codes "0")) tree.no_exps)))) op.Equal (int (codes "1"))))

padded_rows_are_seen : query_value (base one_large two_and_null) (divided_by_the_missing ∷ []) ≡ Err DivZero
unfolding lib.Utf8.encode
padded_rows_are_seen = refl

-- over the selects of a query a division by zero comes first
division_comes_first : query_value (base one_large two_and_null) (guarded (int (codes "1")) ∷ plain (item (codes "x") one_by_zero ∷ []) [] None ∷ []) ≡ Err DivZero
unfolding lib.Utf8.encode
division_comes_first = refl

-- within one expression the leftmost fault counts
leftmost_fault_counts : query_value (base one_large []) (plain (item (codes "x") (tree.binary (tree.binary (in_t (codes "v")) op.Multiply (int (codes "9000000000"))) op.Add one_by_zero) ∷ []) [] None ∷ []) ≡ Err Range
unfolding lib.Utf8.encode
leftmost_fault_counts = refl

-- CASE evaluates the chosen branch alone
abbrev never_divided : Exp
never_divided = tree.case_when (tree.branch false_exp one_by_zero tree.no_branches) (int (codes "1"))

chosen_branch_alone : query_value (base one_large []) (plain (item (codes "x") never_divided ∷ []) [] None ∷ []) ≡ Ok ((Num (pos 100) ∷ []) ∷ [])
unfolding lib.Utf8.encode
chosen_branch_alone = refl

-- COALESCE evaluates both operands
both_operands_are_evaluated : query_value (base one_large []) (plain (item (codes "x") (tree.call op.ValueOr (tree.exp (num (codes "1.0")) (tree.exp one_by_zero tree.no_exps))) ∷ []) [] None ∷ []) ≡ Err DivZero
unfolding lib.Utf8.encode
both_operands_are_evaluated = refl

-- ---- EXISTS

-- .. WHERE NOT EXISTS (SELECT 1 FROM "S" AS "s" WHERE "s"."k" = "t"."k")
abbrev unmatched : SelectTree
unmatched = plain (item (codes "v") (in_t (codes "v")) ∷ []) [] (Some (tree.unary op.Not (tree.exists s (record { left = of_s (codes "k"); right = of_t (codes "k") } ∷ []))))

-- an equality with null is not true
null_has_no_match : query_value (base three_rows two_and_null) (unmatched ∷ []) ≡ Ok ((number 10 ∷ []) ∷ (number 30 ∷ []) ∷ [])
unfolding lib.Utf8.encode
null_has_no_match = refl

-- ---- groups

-- SELECT "t"."k" AS "k", SUM("t"."v") AS "s" FROM "T" AS "t" GROUP BY "t"."k" HAVING COUNT(*) > 1
abbrev summed : SelectTree
summed = record {
  items = item (codes "k") (in_t (codes "k")) ∷ item (codes "s") (tree.aggregate agg.Sum (in_t (codes "v"))) ∷ [];
  source = record { table = codes "T"; series = None; alias = codes "t" };
  joins = [];
  condition = None;
  group = of_t (codes "k") ∷ [];
  having = Some (tree.binary tree.count_all op.Greater (int (codes "1")));
}

-- null is equal to null in groups
nulls_are_one_group : query_value (base (pair_of Null (number 1) ∷ pair_of (number 7) (number 2) ∷ pair_of Null (number 3) ∷ []) []) (summed ∷ []) ≡ Ok (pair_of Null (number 4) ∷ [])
unfolding lib.Utf8.encode
nulls_are_one_group = refl

no_rows_make_no_group : query_value (base [] []) (summed ∷ []) ≡ Ok []
unfolding lib.Utf8.encode
no_rows_make_no_group = refl

-- SELECT COUNT(*) AS "n" FROM "T" AS "t"
no_rows_are_one_group_without_keys : query_value (base [] []) (plain (item (codes "n") tree.count_all ∷ []) [] None ∷ []) ≡ Ok ((number 0 ∷ []) ∷ [])
no_rows_are_one_group_without_keys = refl

-- among the rows of an aggregate a division by zero comes before what is out of range
aggregates_join_faults : query_value (base (pair_of (number 1) (number 9000000000) ∷ pair_of (number 0) (number 1) ∷ []) []) (plain (item (codes "s") (tree.aggregate agg.Sum (tree.binary (tree.binary (in_t (codes "v")) op.Multiply (in_t (codes "v"))) op.Divide (in_t (codes "k")))) ∷ []) [] None ∷ []) ≡ Err DivZero
unfolding lib.Utf8.encode
aggregates_join_faults = refl

-- ---- UNION ALL

abbrev one_and_a_half : SelectTree
one_and_a_half = plain (item (codes "x") (num (codes "1.5")) ∷ []) [] None

integers_become_numbers : query_value (base (pair_of (number 1) (number 2) ∷ []) []) (plain (item (codes "x") (in_t (codes "v")) ∷ []) [] None ∷ one_and_a_half ∷ []) ≡ Ok ((Num (pos 200) ∷ []) ∷ (Num (pos 150) ∷ []) ∷ [])
unfolding lib.Utf8.encode
integers_become_numbers = refl

-- ---- windows

abbrev by_value : Over
by_value = record { partition = []; order = record { column = of_t (codes "v"); direction = None } ∷ []; frame = None }

abbrev ranked : SelectTree
ranked = plain (item (codes "k") (in_t (codes "k")) ∷ window (codes "r") (record { call = call.Rank; over = by_value }) ∷ window (codes "l") (record { call = call.Shift shift.Lag (of_t (codes "k")) (codes "1") None; over = by_value }) ∷ []) [] None

-- rows tie in RANK by the listed column alone, and stand behind one another by all columns
ties_have_one_rank : query_value (base (pair_of (number 3) (number 20) ∷ pair_of (number 2) (number 10) ∷ pair_of (number 1) (number 10) ∷ []) []) (ranked ∷ []) ≡ Ok ((number 3 ∷ number 3 ∷ number 2 ∷ []) ∷ (number 2 ∷ number 1 ∷ number 1 ∷ []) ∷ (number 1 ∷ number 1 ∷ Null ∷ []) ∷ [])
unfolding lib.Utf8.encode
ties_have_one_rank = refl

-- SUM("t"."v") OVER (ORDER BY "t"."v" ROWS BETWEEN UNBOUNDED PRECEDING AND CURRENT ROW)
abbrev running : Window
running = record { call = call.Aggregate agg.Sum (of_t (codes "v")); over = record { partition = []; order = record { column = of_t (codes "v"); direction = None } ∷ []; frame = Some (record { first = bound.Unbounded side.Preceding; last = bound.CurrentRow }) } }

-- rows that are alike have places of their own, in the order of the list
alike_rows_stand_apart : query_value (base (pair_of (number 1) (number 5) ∷ pair_of (number 1) (number 5) ∷ pair_of (number 1) (number 2) ∷ []) []) (plain (window (codes "s") running ∷ []) [] None ∷ []) ≡ Ok ((number 7 ∷ []) ∷ (number 12 ∷ []) ∷ (number 2 ∷ []) ∷ [])
unfolding lib.Utf8.encode
alike_rows_stand_apart = refl

-- windows see the rows that WHERE keeps, and no others
windows_see_kept_rows : query_value (base (pair_of (number 1) (number 5) ∷ pair_of (number 2) (number 3) ∷ pair_of (number 3) (number 2) ∷ []) []) (plain (window (codes "s") running ∷ []) [] (Some (tree.binary (in_t (codes "k")) op.NotEqual (int (codes "2")))) ∷ []) ≡ Ok ((number 7 ∷ []) ∷ (number 2 ∷ []) ∷ [])
unfolding lib.Utf8.encode
windows_see_kept_rows = refl

-- SUM("t"."v") OVER (PARTITION BY "t"."k" ROWS BETWEEN UNBOUNDED PRECEDING AND UNBOUNDED FOLLOWING)
abbrev of_partition : Window
of_partition = record { call = call.Aggregate agg.Sum (of_t (codes "v")); over = record { partition = of_t (codes "k") ∷ []; order = []; frame = Some (record { first = bound.Unbounded side.Preceding; last = bound.Unbounded side.Following }) } }

-- null is equal to null in partitions, too
nulls_are_one_partition : query_value (base (pair_of Null (number 1) ∷ pair_of (number 7) (number 2) ∷ pair_of Null (number 3) ∷ []) []) (plain (window (codes "s") of_partition ∷ []) [] None ∷ []) ≡ Ok ((number 4 ∷ []) ∷ (number 2 ∷ []) ∷ (number 4 ∷ []) ∷ [])
nulls_are_one_partition = refl

-- LEAD("t"."v", 1, -1) OVER (ORDER BY "t"."k" DESC), and RATIO_TO_REPORT("t"."v") OVER ()
abbrev led_and_shared : SelectTree
led_and_shared =
    plain (window (codes "l") (record { call = call.Shift shift.Lead (of_t (codes "v")) (codes "1") (Some (literal.Number true (numeral.Int (codes "1")))); over = record { partition = []; order = record { column = of_t (codes "k"); direction = Some direction.Descending } ∷ []; frame = None } })
    ∷ window (codes "r") (record { call = call.Value value.RatioToReport (of_t (codes "v")); over = record { partition = []; order = []; frame = None } }) ∷ []) [] None

-- falling, null comes last; a value is divided by the total of its partition
shifts_and_ratios : query_value (base (pair_of (number 1) (number 10) ∷ pair_of (number 2) (number 30) ∷ pair_of Null (number 40) ∷ []) []) (led_and_shared ∷ []) ≡ Ok ((number 40 ∷ Num (pos 13) ∷ []) ∷ (number 10 ∷ Num (pos 38) ∷ []) ∷ (Int (negsuc 0) ∷ Num (pos 50) ∷ []) ∷ [])
unfolding lib.Utf8.encode
shifts_and_ratios = refl
