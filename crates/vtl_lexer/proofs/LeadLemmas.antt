-- The first byte of a text, from what it leads.
use Rattle.std.proofs.Common.{◌≡◌, ◌∷◌, ◌==◌, [], ℕ, List, Bool, true, false, cond, drop, ap, refl, eqb-true}
use Rattle.std.specs.Char.{is_ascii_alphabetic, is_ascii_digit}
use Rattle.vtl_lexer.specs.Leads.{lead_byte_of, lead_of}
use Rattle.vtl_lexer.specs.declared.lead.Lead.{Lead}
use Rattle.vtl_lexer.specs.declared.lead.Lead.TheVariants.{Letter, Digit, Quote, DoubleQuote, Other}

abbrev lead_by : Bool → Bool → Bool → Bool → Lead
lead_by a b c d = cond a Letter (cond b Digit (cond c Quote (cond d DoubleQuote Other)))

letter-by : (a b c d : Bool) → lead_by a b c d ≡ Letter → a ≡ true
letter-by true b c d e = refl
letter-by false true c d e = cc e
letter-by false false true d e = cc e
letter-by false false false true e = cc e
letter-by false false false false e = cc e

digit-by : (a b c d : Bool) → lead_by a b c d ≡ Digit → b ≡ true
digit-by true b c d e = cc e
digit-by false true c d e = refl
digit-by false false true d e = cc e
digit-by false false false true e = cc e
digit-by false false false false e = cc e

quote-by : (a b c d : Bool) → lead_by a b c d ≡ Quote → c ≡ true
quote-by true b c d e = cc e
quote-by false true c d e = cc e
quote-by false false true d e = refl
quote-by false false false true e = cc e
quote-by false false false false e = cc e

double-by : (a b c d : Bool) → lead_by a b c d ≡ DoubleQuote → d ≡ true
double-by true b c d e = cc e
double-by false true c d e = cc e
double-by false false true d e = cc e
double-by false false false true e = refl
double-by false false false false e = cc e

pub lead-letter : (byte : ℕ) → lead_byte_of byte ≡ Letter → is_ascii_alphabetic byte ≡ true
lead-letter byte e = letter-by (is_ascii_alphabetic byte) (is_ascii_digit byte) (byte == 39) (byte == 34) e

pub lead-digit : (byte : ℕ) → lead_byte_of byte ≡ Digit → is_ascii_digit byte ≡ true
lead-digit byte e = digit-by (is_ascii_alphabetic byte) (is_ascii_digit byte) (byte == 39) (byte == 34) e

pub quote-first : (text : List ℕ) → lead_of text ≡ Quote → text ≡ 39 ∷ drop 1 text
quote-first [] e = absurd (cc e)
quote-first (byte ∷ rest) e = ap (λ b. b ∷ rest) (eqb-true byte 39 (quote-by (is_ascii_alphabetic byte) (is_ascii_digit byte) (byte == 39) (byte == 34) e))

pub double-first : (text : List ℕ) → lead_of text ≡ DoubleQuote → text ≡ 34 ∷ drop 1 text
double-first [] e = absurd (cc e)
double-first (byte ∷ rest) e = ap (λ b. b ∷ rest) (eqb-true byte 34 (double-by (is_ascii_alphabetic byte) (is_ascii_digit byte) (byte == 39) (byte == 34) e))
