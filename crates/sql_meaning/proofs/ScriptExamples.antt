-- What the definitions give for whole scripts, by computing it.
use Rattle.std.proofs.Common.{◌≡◌, false, [], ◌∷◌, None, Some, Ok, Err, refl}
use Rattle.std.specs.Prelude.{codes}
use Rattle.vtl_decimal.specs.declared.number.Fault.TheVariants.{DivZero}
use Rattle.vtl_cell.specs.declared.cell.Cell.TheVariants.{Null}
use Rattle.vtl_cell.specs.declared.kind.Kind.TheVariants as k
use Rattle.vtl_cell.specs.declared.operator.AggKind.TheVariants as agg
use Rattle.vtl_cell.specs.declared.operator.ScalarOp.TheVariants as op
use Rattle.vtl_decimal.specs.declared.settings.Rounding.TheVariants.{HalfUp}
use Rattle.sql_tree.specs.Trees as tree
use Rattle.sql_tree.specs.Trees.{ScriptTree, SelectTree, StatementTree, Text}
use Rattle.sql_tree.specs.declared.statements.InputColumn.{InputColumn}
use Rattle.sql_tree.specs.declared.word_groups.JoinKind.TheVariants as joining
use Rattle.sql_meaning.specs.Scripts.{Inputs, script_value}
use Rattle.sql_meaning.proofs.ExampleParts.{in_s, in_t, int, item, number, one_by_zero, plain, source}

abbrev a : Text
a = codes "a"

abbrev b : Text
b = codes "b"

abbrev integers : Text → InputColumn
integers name = record { name = name; kind = k.Int; not_null = false; codes = [] }

-- ---- sums over an empty table

-- SELECT COUNT(*) AS "n", SUM("t"."Me_1") AS "s" FROM "DS_1" AS "t"
abbrev counted : SelectTree
counted = record {
  items = item (codes "n") tree.count_all ∷ item (codes "s") (tree.aggregate agg.Sum (in_t (codes "Me_1"))) ∷ [];
  source = source (codes "DS_1") (codes "t");
  joins = [];
  condition = None;
  group = [];
  having = None;
}

abbrev sums_of_nothing : ScriptTree
sums_of_nothing =
    tree.setting (codes "6") HalfUp
    ∷ tree.input (record { name = codes "DS_1"; columns = record { name = codes "Id_1"; kind = k.Text; not_null = false; codes = [] } ∷ integers (codes "Me_1") ∷ []; key = codes "Id_1" ∷ [] })
    ∷ tree.create (codes "U") (counted ∷ []) ∷ tree.export (record { name = codes "U"; order = [] }) ∷ []

-- a grouped select without GROUP BY has one row, also over no rows
counts_over_no_rows : script_value sums_of_nothing ((codes "DS_1", []) ∷ []) ≡ Ok (record { name = codes "U"; columns = (codes "n", k.Int) ∷ (codes "s", k.Int) ∷ []; rows = (number 0 ∷ Null ∷ []) ∷ [] } ∷ [])
unfolding lib.Utf8.encode
counts_over_no_rows = refl

-- ---- rows that join by a null

abbrev scale_two : StatementTree
scale_two = tree.setting (codes "2") HalfUp

abbrev two_integers : StatementTree
two_integers = tree.input (record { name = codes "T"; columns = integers a ∷ integers b ∷ []; key = a ∷ [] })

abbrev same_b : StatementTree
same_b = tree.create (codes "V") (plain (item a (in_t a) ∷ []) (tree.on joining.Inner (source (codes "T") (codes "s")) (tree.binary (in_t b) op.Equal (in_s b)) ∷ []) None ∷ [])

abbrev with_one : SelectTree
with_one = plain (item b (in_t b) ∷ item (codes "c") (int (codes "1")) ∷ []) [] None

-- SELECT "t"."b" AS "b", 1 AS "c" FROM "T" AS "t" twice, and "T" with itself ON "t"."b" = "s"."b"
abbrev appended_and_joined : ScriptTree
appended_and_joined =
    scale_two ∷ two_integers ∷ tree.create (codes "U") (with_one ∷ with_one ∷ []) ∷ same_b
    ∷ tree.export (record { name = codes "U"; order = codes "c" ∷ [] }) ∷ tree.export (record { name = codes "V"; order = a ∷ [] }) ∷ []

abbrev seven_and_null : Inputs
seven_and_null = (codes "T", (number 1 ∷ number 7 ∷ []) ∷ (number 2 ∷ Null ∷ []) ∷ []) ∷ []

-- null does not meet null; an export is sorted by all columns where the listed ones tie
null_meets_no_null : script_value appended_and_joined seven_and_null ≡ Ok (
    record { name = codes "U"; columns = (b, k.Int) ∷ (codes "c", k.Int) ∷ []; rows = (Null ∷ number 1 ∷ []) ∷ (Null ∷ number 1 ∷ []) ∷ (number 7 ∷ number 1 ∷ []) ∷ (number 7 ∷ number 1 ∷ []) ∷ [] }
    ∷ record { name = codes "V"; columns = (a, k.Int) ∷ []; rows = (number 1 ∷ []) ∷ [] } ∷ [])
unfolding lib.Utf8.encode
null_meets_no_null = refl

-- ---- a division below a filter

-- .. ON "t"."a" / "s"."b" = 1 WHERE "s"."b" <> 0
abbrev divided : Text → ScriptTree
divided name =
    scale_two ∷ two_integers
    ∷ tree.create name (plain (item a (in_t a) ∷ []) (tree.on joining.Inner (source (codes "T") (codes "s")) (tree.binary (tree.binary (in_t a) op.Divide (in_s b)) op.Equal (int (codes "1"))) ∷ []) (Some (tree.binary (in_s b) op.NotEqual (int (codes "0")))) ∷ [])
    ∷ tree.export (record { name = name; order = [] }) ∷ []

abbrev zero_and_null : Inputs
zero_and_null = (codes "T", (number 1 ∷ number 0 ∷ []) ∷ (number 2 ∷ Null ∷ []) ∷ []) ∷ []

-- ON is tried before WHERE, on each pair
conditions_of_joins_come_first : script_value (divided (codes "W")) zero_and_null ≡ Err (DivZero, codes "W")
unfolding lib.Utf8.encode
conditions_of_joins_come_first = refl

-- the fault has the table's name up to the first `$`, which may be empty
names_end_at_a_dollar : script_value (divided (codes "W$1$2")) zero_and_null ≡ Err (DivZero, codes "W")
unfolding lib.Utf8.encode
names_end_at_a_dollar = refl

a_dollar_alone_names_nothing : script_value (divided (codes "$1")) zero_and_null ≡ Err (DivZero, [])
unfolding lib.Utf8.encode
a_dollar_alone_names_nothing = refl

-- ---- the first fault, and columns in order

abbrev faulty : Text → StatementTree
faulty name = tree.create name (plain (item a one_by_zero ∷ []) [] None ∷ [])

-- the first faulty CREATE counts, whether or not its table is exported
the_first_fault_counts : script_value (scale_two ∷ two_integers ∷ faulty (codes "X") ∷ faulty (codes "Y") ∷ tree.export (record { name = codes "Y"; order = [] }) ∷ []) zero_and_null ≡ Err (DivZero, codes "X")
unfolding lib.Utf8.encode
the_first_fault_counts = refl

-- INPUT "T" ("b" INTEGER, "a" INTEGER) KEY ("a"): its table has "a" and then "b"
key_columns_stand_first : script_value (scale_two ∷ tree.input (record { name = codes "T"; columns = integers b ∷ integers a ∷ []; key = a ∷ [] }) ∷ tree.export (record { name = codes "T"; order = b ∷ [] }) ∷ []) ((codes "T", (number 1 ∷ number 9 ∷ []) ∷ (number 2 ∷ number 3 ∷ []) ∷ []) ∷ [])
    ≡ Ok (record { name = codes "T"; columns = (a, k.Int) ∷ (b, k.Int) ∷ []; rows = (number 2 ∷ number 3 ∷ []) ∷ (number 1 ∷ number 9 ∷ []) ∷ [] } ∷ [])
unfolding lib.Utf8.encode
key_columns_stand_first = refl
