-- The values that literals write, in both languages.
use Rattle.std.specs.Prelude.{ℕ, ℤ, pos, Bool, true, false, ◌&&◌, List, Option, Some, None, option_and_then, if◌then◌else◌, encode_utf8_all}
use Rattle.std.specs.Int.RustNames.{int_le}
use Rattle.std.specs.Option.{option_map, option_map_or}
use Rattle.std.specs.Result.{result_ok}
use Rattle.vtl_decimal.specs.Numeral.{integer_spelled, number_spelled}
use Rattle.vtl_decimal.specs.Settings.{Settings}
use Rattle.vtl_cell.specs.Reading.{reads}
use Rattle.vtl_cell.specs.ScalarArithmetic.{negation_of}
use Rattle.vtl_cell.specs.ScalarKinds.{meets, shared_kind}
use Rattle.vtl_cell.specs.declared.cell.Cell.{Cell}
use Rattle.vtl_cell.specs.declared.cell.Cell.TheVariants as c
use Rattle.vtl_cell.specs.declared.kind.Kind.{Kind}
use Rattle.vtl_cell.specs.declared.kind.Kind.TheVariants as k

-- the integer that digits write, where it is in range
abbrev pub integer_written : Settings → List ℕ → Option ℤ
integer_written p digits = integer_spelled p.scale (encode_utf8_all digits)

-- the same as a value
abbrev pub integer_cell : Settings → List ℕ → Option Cell
integer_cell p digits = option_map c.Int (integer_written p digits)

-- the number that digits with a point write, rounded once, where it is in range
abbrev pub number_cell : Settings → List ℕ → Option Cell
number_cell p digits = option_map c.Num (number_spelled p (encode_utf8_all digits))

-- the value of a kind that a text of characters stands for
abbrev pub written : Settings → Kind → List ℕ → Option Cell
written p kind text = reads p kind (encode_utf8_all text)

-- a number with its sign
abbrev pub with_sign : Settings → Bool → Option Cell → Option Cell
with_sign p false cell = cell
with_sign p true cell = option_and_then (λ x. result_ok (negation_of p x)) cell

-- whether there is an integer, and it lies in this interval
abbrev pub lies_between : ℤ → ℤ → Option ℤ → Bool
lies_between low high n = option_map_or (λ n. int_le low n && int_le n high) n false

-- the last place in a text that a literal may name
abbrev pub largest_place : ℤ
largest_place = pos 1_000_000_000

-- how far from a row a frame or an offset may reach, and how far on and back a period may be shifted
abbrev pub longest_reach : ℤ
longest_reach = pos 1_000_000

abbrev pub is_null_kind : Kind → Bool
is_null_kind k.Null = true
is_null_kind kind = false
