-- The values of the scalar operators on texts. A text is the list of its characters.
use Rattle.std.specs.Prelude.{ℕ, ◌++◌, ◌&&◌, nat_le, if◌then◌else◌, pos, List, length, Option, Some, None, Ok}
use Rattle.vtl_text.specs.Texts.{replace_of, instr_of, substr_of}
use Rattle.vtl_decimal.specs.Settings.{Settings}
use Rattle.vtl_decimal.specs.Range.{fit_integer}
use Rattle.vtl_cell.specs.Outcome.{Outcome}
use Rattle.vtl_cell.specs.ScalarArithmetic.{integer}
use Rattle.vtl_cell.specs.declared.cell.Cell.{Cell}
use Rattle.vtl_cell.specs.declared.cell.Cell.TheVariants as c

-- what f gives of a text
abbrev pub on_text : (List ℕ → List ℕ) → Cell → Cell
on_text f (c.Text a) = c.Text (f a)
on_text f other = c.Null

-- a || b
abbrev pub joined_of : Cell → Cell → Cell
joined_of (c.Text a) (c.Text b) = c.Text (a ++ b)
joined_of a b = c.Null

-- a place or a length that may be asked for: at least this and at most a thousand million
abbrev pub count_in : ℕ → Cell → Option ℕ
count_in least (c.Int (pos n)) = if nat_le least n && nat_le n 1000000000 then Some n else None
count_in least other = None

-- the part of a text from a place on
abbrev pub part_from : Cell → Option ℕ → Cell
part_from (c.Text a) (Some i) = c.Text (substr_of a i None)
part_from a i = c.Null

-- the same, and at most so many characters
abbrev pub part_within : Cell → Option ℕ → Option ℕ → Cell
part_within (c.Text a) (Some i) (Some l) = c.Text (substr_of a i (Some l))
part_within a i l = c.Null

-- replace(a, p, r)
abbrev pub replaced_of : Cell → Cell → Cell → Cell
replaced_of (c.Text a) (c.Text pattern) (c.Text by) = c.Text (replace_of a pattern by)
replaced_of a pattern by = c.Null

-- instr(a, p)
abbrev pub position_of : Settings → Cell → Cell → Outcome Cell
position_of p (c.Text a) (c.Text pattern) = integer (fit_integer p.scale (pos (instr_of a pattern)))
position_of p a pattern = Ok c.Null

-- length(a)
abbrev pub length_of : Settings → Cell → Outcome Cell
length_of p (c.Text a) = integer (fit_integer p.scale (pos (length a)))
length_of p other = Ok c.Null
