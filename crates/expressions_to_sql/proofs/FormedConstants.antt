-- Constants and literals have the forms that the grammar spells.
use Rattle.std.proofs.Common.{◌≡◌, ℕ, suc, pos, negsuc, ◌/◌, ◌%◌, ◌<◌, ◌≤◌, ◌^◌, true, false, List, [], ◌∷◌, refl, ◌∙◌, arith}
use Rattle.std.specs.Char.{is_ascii_digit}
use Rattle.std.specs.Fmt.{decimal}
use Rattle.std.specs.List.{list_all}
use Rattle.std.specs.Str.{all_ascii_digits}
use Rattle.std.specs.Str.Parse.{digits_value}
use Rattle.std.proofs.Math.Nat.{div-le_self}
use Rattle.std.proofs.lemmas.Fmt.{decimal_nonempty, digits_decimal}
use Rattle.std.proofs.lemmas.Str.Parse.{IsNumeralModel, numerals_by_value, tells_all_ascii_digits}
use Rattle.vtl_decimal.specs.Written.{shortest_digits}
use Rattle.vtl_decimal.proofs.DigitLemmas.{all_are_digits}
use Rattle.vtl_decimal.proofs.WrittenLemmas.{text_spelled}
use Rattle.vtl_cell.specs.Held.{IsHeld}
use Rattle.vtl_cell.specs.Profile.{IsOfProfile}
use Rattle.vtl_decimal.specs.Settings.{Settings}
use Rattle.vtl_cell.specs.declared.cell.Cell.{Cell}
use Rattle.vtl_cell.specs.declared.cell.Cell.TheVariants as c
use Rattle.sql_lexer.specs.Spelling.{IsDecimal, IsDigits}
use Rattle.sql_tree.specs.Formed.{Formed, IsLiteral}
use Rattle.expressions_to_sql.specs.Constants.{const_to_sql, decimal_text, literal_to_sql, some_digit}
use Rattle.expressions_to_sql.proofs.WrittenConstants.{small_of}

digits_are : (ds : List ℕ) → all_ascii_digits ds ≡ true → list_all is_ascii_digit ds ≡ true
digits_are ds h = all_are_digits ds ∙ h

own : IsNumeralModel (λ t. all_ascii_digits t ≡ true) (digits_value 10)
own = numerals_by_value (λ t. all_ascii_digits t ≡ true) tells_all_ascii_digits

whole_digits : (n : ℕ) → n < 10 ^ 18 → IsDigits (decimal n)
whole_digits n h = (decimal_nonempty n (omega (arith, h)), digits_are (decimal n) (digits_decimal own n (omega (arith, h))))

part_digits : (ds : List ℕ) → all_ascii_digits ds ≡ true → IsDigits (some_digit ds)
part_digits [] h = (omega arith, refl)
part_digits (d ∷ ds) h = (omega arith, digits_are (d ∷ ds) h)

number_digits : (p : Settings) (n : ℕ) → p.scale ≤ 9 → n < 10 ^ 18 → IsDecimal (decimal_text p.scale n)
number_digits p n low h = record {
  whole = decimal (n / 10 ^ p.scale);
  part = some_digit (shortest_digits p.scale (n % 10 ^ p.scale));
  is = refl;
  before = whole_digits (n / 10 ^ p.scale) (omega (arith, h, div-le_self n (10 ^ p.scale)));
  behind = part_digits (shortest_digits p.scale (n % 10 ^ p.scale)) (text_spelled p.scale (pos n) low h).fraction_digits;
}

module _ (p : Settings) (low : p.scale ≤ 9) where
  pub const_formed : (v : Cell) → IsHeld v → IsOfProfile p v → Formed (const_to_sql p v)
  const_formed c.Null h i = tt
  const_formed (c.Bool true) h i = tt
  const_formed (c.Bool false) h i = tt
  const_formed (c.Int (pos n)) h i = whole_digits n (small_of p.scale (pos n) i)
  const_formed (c.Int (negsuc n)) h i = (refl, whole_digits (suc n) (small_of p.scale (negsuc n) i))
  const_formed (c.Num (pos n)) h i = number_digits p n low h
  const_formed (c.Num (negsuc n)) h i = (refl, number_digits p (suc n) low h)
  const_formed (c.Text t) h i = tt
  const_formed (c.Day d) h i = tt
  const_formed (c.Period q) h i = tt

  pub literal_formed : (v : Cell) → IsHeld v → IsOfProfile p v → IsLiteral (literal_to_sql p v)
  literal_formed c.Null h i = tt
  literal_formed (c.Bool true) h i = tt
  literal_formed (c.Bool false) h i = tt
  literal_formed (c.Int (pos n)) h i = whole_digits n (small_of p.scale (pos n) i)
  literal_formed (c.Int (negsuc n)) h i = whole_digits (suc n) (small_of p.scale (negsuc n) i)
  literal_formed (c.Num (pos n)) h i = number_digits p n low h
  literal_formed (c.Num (negsuc n)) h i = number_digits p (suc n) low h
  literal_formed (c.Text t) h i = tt
  literal_formed (c.Day d) h i = tt
  literal_formed (c.Period q) h i = tt
