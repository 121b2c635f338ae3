-- Values as constants and as literals of SQL. A number always has a point, so that it is not read as an integer, and a negative one
-- stands behind a sign.
use Rattle.std.specs.Prelude.{ℕ, ℤ, pos, negsuc, ◌/◌, ◌%◌, ◌^◌, Bool, true, false, List, [], ◌∷◌, ◌++◌, unsigned_abs}
use Rattle.std.specs.Fmt.{decimal}
use Rattle.vtl_decimal.specs.Written.{shortest_digits}
use Rattle.vtl_time.specs.Days.{day_text}
use Rattle.vtl_time.specs.Periods.{period_text}
use Rattle.vtl_decimal.specs.Settings.{Settings}
use Rattle.vtl_cell.specs.declared.cell.Cell.{Cell}
use Rattle.vtl_cell.specs.declared.cell.Cell.TheVariants as c
use Rattle.vtl_cell.specs.declared.operator.ScalarOp.TheVariants as op
use Rattle.sql_tree.specs.Trees as tree
use Rattle.sql_tree.specs.Trees.{Exp, Text}
use Rattle.sql_tree.specs.declared.parts.Constant.{Constant}
use Rattle.sql_tree.specs.declared.parts.Constant.TheVariants as constant
use Rattle.sql_tree.specs.declared.parts.Literal.{Literal}
use Rattle.sql_tree.specs.declared.parts.Literal.TheVariants as literal
use Rattle.sql_tree.specs.declared.parts.Numeral.{Numeral}
use Rattle.sql_tree.specs.declared.parts.Numeral.TheVariants as numeral

-- ---- numbers

-- the digits behind a point, of which there is one at least
abbrev pub some_digit : List ℕ → List ℕ
some_digit [] = 48 ∷ []
some_digit (d ∷ ds) = d ∷ ds

-- so many units of the scale, with digits on both sides of the point
abbrev pub decimal_text : ℕ → ℕ → Text
decimal_text scale n = decimal (n / 10 ^ scale) ++ 46 ∷ some_digit (shortest_digits scale (n % 10 ^ scale))

-- the sizes of an integer and of a number
abbrev pub integer_size : ℤ → Numeral
integer_size n = numeral.Int (decimal (unsigned_abs n))

abbrev pub number_size : Settings → ℤ → Numeral
number_size p n = numeral.Dec (decimal_text p.scale (unsigned_abs n))

abbrev pub is_below_zero : ℤ → Bool
is_below_zero (pos n) = false
is_below_zero (negsuc n) = true

abbrev pub signed : (negative : Bool) → Numeral → Exp
signed false n = tree.constant (constant.Number n)
signed true n = tree.unary op.Negate (tree.constant (constant.Number n))

-- ---- constants

abbrev pub truth_constant : Bool → Constant
truth_constant true = constant.True
truth_constant false = constant.False

abbrev pub const_to_sql : Settings → Cell → Exp
const_to_sql p c.Null = tree.constant constant.Null
const_to_sql p (c.Bool b) = tree.constant (truth_constant b)
const_to_sql p (c.Int n) = signed (is_below_zero n) (integer_size n)
const_to_sql p (c.Num n) = signed (is_below_zero n) (number_size p n)
const_to_sql p (c.Text t) = tree.constant (constant.Text t)
const_to_sql p (c.Day d) = tree.constant (constant.Date (day_text d))
const_to_sql p (c.Period q) = tree.constant (constant.Period (period_text q))

-- ---- literals

abbrev pub truth_literal : Bool → Literal
truth_literal true = literal.True
truth_literal false = literal.False

-- a member of a set; null is none
abbrev pub literal_to_sql : Settings → Cell → Literal
literal_to_sql p c.Null = literal.False
literal_to_sql p (c.Bool b) = truth_literal b
literal_to_sql p (c.Int n) = literal.Number (is_below_zero n) (integer_size n)
literal_to_sql p (c.Num n) = literal.Number (is_below_zero n) (number_size p n)
literal_to_sql p (c.Text t) = literal.Text t
literal_to_sql p (c.Day d) = literal.Date (day_text d)
literal_to_sql p (c.Period q) = literal.Period (period_text q)
