-- The texts that values are written as, in UTF-8.
use Rattle.std.specs.Prelude.{ℕ, ◌≡◌, true, false, List, [], Some, codes, encode_utf8_all}
use Rattle.std.specs.Fmt.{signed_decimal}
use Rattle.vtl_decimal.specs.Settings.{Settings}
use Rattle.vtl_decimal.specs.Written.{number_text}
use Rattle.vtl_time.specs.Days.{day_text}
use Rattle.vtl_time.specs.Periods.{period_text}
use Rattle.vtl_cell.specs.declared.cell.Cell.{Cell}
use Rattle.vtl_cell.specs.declared.cell.Cell.TheVariants as c
use Rattle.vtl_cell.specs.Kinds.{is_null, kind_of}
use Rattle.vtl_cell.specs.Profile.{IsOfProfile}
use Rattle.vtl_cell.specs.Reading.{reads}

-- the text of a value; null has the empty one
abbrev pub text_of : Settings → Cell → List ℕ
text_of p c.Null = []
text_of p (c.Bool true) = codes "true"
text_of p (c.Bool false) = codes "false"
text_of p (c.Int n) = signed_decimal n
text_of p (c.Num n) = number_text p.scale n
text_of p (c.Text t) = encode_utf8_all t
text_of p (c.Day d) = day_text d
text_of p (c.Period q) = period_text q

-- the text of a value of the profile, which is not null, stands for that value
abbrev pub ReadsBack : Settings → Cell → Type 0
ReadsBack p x = is_null x ≡ false → IsOfProfile p x → reads p (kind_of x) (text_of p x) ≡ Some x
