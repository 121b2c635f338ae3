-- The names of tables: the result's name, alone and with numbers.
use Rattle.std.proofs.Common.{◌≡◌, ℕ, ◌+◌, ◌<◌, ◌≤◌, ◌^◌, Bool, true, false, not, ◌&&◌, List, [], ◌∷◌, length, refl, ap, sym, ◌∙◌, arith, append-nil, length-append}
use Rattle.std.specs.Prelude.{◌==◌, encode_utf8_all}
use Rattle.std.specs.Char.{is_ascii_digit, is_control}
use Rattle.std.specs.Fmt.{decimal}
use Rattle.std.specs.List.{list_all}
use Rattle.std.specs.Str.{all_ascii_digits}
use Rattle.std.proofs.lemmas.Bool.{and_from, and_parts}
use Rattle.std.proofs.lemmas.Bool.Decides.{nat_tests}
use Rattle.std.proofs.lemmas.Fmt.{IsAscii-decimal, decimal_injective, digits_decimal, length-decimal-le}
use Rattle.std.proofs.lemmas.List.{append_cancel_left}
use Rattle.std.proofs.lemmas.List.Folds.{list_all-append}
use Rattle.std.proofs.lemmas.Str.{encodes-IsAscii, length-le-encodes}
use Rattle.std.proofs.lemmas.Str.Parse.{numerals_by_value, tells_all_ascii_digits}
use lib.Utf8.{encode}
use Rattle.vtl_decimal.proofs.SplitLemmas.{at, at_end, before_first-append}
use Rattle.vtl_text.specs.Texts.{same_text}
use Rattle.vtl_text.specs.Words.{fits_name, is_component_character, is_component_name, is_word, is_word_character, starts_with_letter}
use Rattle.vtl_tree.proofs.NotNullLemmas.{same_itself}
use Rattle.vtl_meaning.proofs.Places.{same_name-is}
use Rattle.sql_lexer.specs.Spelling.{has_no_control, is_name, size}
use Rattle.sql_lexer.specs.Spelling as sql
use Rattle.sql_lexer.proofs.NameParts.{size-append}
use Rattle.sql_tree.specs.Trees.{Text}
use Rattle.sql_meaning.specs.Scripts.{dollar, fault_name}
use Rattle.selects_to_sql.specs.Tables.{numbered}

-- ---- words

pub word_characters : (r : Text) → is_word r ≡ true → (fits_name r ≡ true) × (starts_with_letter r ≡ true) × (list_all is_word_character r ≡ true)
unfolding is_word
word_characters r h =
    let x = and_parts (fits_name r) (starts_with_letter r && list_all is_word_character r) h in
    let y = and_parts (starts_with_letter r) (list_all is_word_character r) x.1 in
    (x.0, y.0, y.1)

character_is_no_dollar : (x : ℕ) → is_word_character x ≡ true → not (x == dollar) ≡ true
character_is_no_dollar x h = grind (arith, nat_tests, h)

character_is_no_control : (x : ℕ) → is_word_character x ≡ true → not (is_control x) ≡ true
character_is_no_control x h = grind (arith, nat_tests, h)

pub all_pass : (f g : ℕ → Bool) → ((x : ℕ) → f x ≡ true → g x ≡ true) → (xs : List ℕ) → list_all f xs ≡ true → list_all g xs ≡ true
all_pass f g h [] all = refl
all_pass f g h (x ∷ xs) all =
    let y = and_parts (f x) (list_all f xs) all in
    and_from (g x) (list_all g xs) (h x y.0) (all_pass f g h xs y.1)

-- a word has no `$`
pub has_no_dollar : (r : Text) → is_word r ≡ true → list_all (λ x. not (x == dollar)) r ≡ true
has_no_dollar r h = all_pass is_word_character (λ x. not (x == dollar)) character_is_no_dollar r (word_characters r h).2

-- ---- the statement of a table

pub plain_name : (r : Text) → is_word r ≡ true → fault_name r ≡ r
plain_name r h = ap fault_name (sym (append-nil r)) ∙ before_first-append (λ x. x == dollar) r [] (has_no_dollar r h) at_end

pub numbered_name : (r : Text) (n : ℕ) → is_word r ≡ true → fault_name (numbered r n) ≡ r
numbered_name r n h = before_first-append (λ x. x == dollar) r (dollar ∷ decimal n) (has_no_dollar r h) (at dollar (decimal n) refl)

-- a table of another statement has another name
pub other_statement : (r name other : Text) → fault_name name ≡ r → same_text r (fault_name other) ≡ false → same_text name other ≡ false
other_statement r name other e h = go (same_text name other) refl
  where
    go : (b : Bool) → same_text name other ≡ b → b ≡ false
    go false i = refl
    go true i =
        let same : name ≡ other = same_name-is name other i in
        sym (same_itself r) ∙ ap (λ x. same_text r x) (sym e ∙ ap fault_name same) ∙ h

-- ---- numbers

tail_same : (x : ℕ) (xs ys : List ℕ) → x ∷ xs ≡ x ∷ ys → xs ≡ ys
tail_same x xs ys e = cc

pub numbers_differ : (r : Text) (i j : ℕ) → j < i → i < 2 ^ 64 → same_text (numbered r i) (numbered r j) ≡ false
numbers_differ r i j h l = go (same_text (numbered r i) (numbered r j)) refl
  where
    go : (b : Bool) → same_text (numbered r i) (numbered r j) ≡ b → b ≡ false
    go false e = refl
    go true e =
        let same : numbered r i ≡ numbered r j = same_name-is (numbered r i) (numbered r j) e in
        let digits = tail_same dollar (decimal i) (decimal j) (append_cancel_left r (dollar ∷ decimal i) (dollar ∷ decimal j) same) in
        let number = decimal_injective i j l (omega (arith, h, l)) digits in
        absurd (omega (arith, h, number))

-- the result's own name is none with a number
pub not_numbered : (r : Text) (j : ℕ) → same_text r (numbered r j) ≡ false
not_numbered r j = go (same_text r (numbered r j)) refl
  where
    go : (b : Bool) → same_text r (numbered r j) ≡ b → b ≡ false
    go false e = refl
    go true e = let same = ap length (same_name-is r (numbered r j) e) in absurd (omega (arith, same, length-append r (dollar ∷ decimal j)))

-- ---- names of SQL

digit_is_no_control : (x : ℕ) → is_ascii_digit x ≡ true → not (is_control x) ≡ true
digit_is_no_control x h = grind (arith, nat_tests, h)

digits_pass : (ds : List ℕ) → all_ascii_digits ds ≡ true → has_no_control ds ≡ true
digits_pass [] h = refl
digits_pass (d ∷ ds) h =
    let x = and_parts (is_ascii_digit d) (all_ascii_digits ds) h in
    and_from (not (is_control d)) (has_no_control ds) (digit_is_no_control d x.0) (digits_pass ds x.1)

number_passes : (n : ℕ) → n < 2 ^ 64 → has_no_control (decimal n) ≡ true
number_passes n h = digits_pass (decimal n) (digits_decimal (numerals_by_value (λ ds. all_ascii_digits ds ≡ true) tells_all_ascii_digits) n h)

word_is_filled : (r : Text) → starts_with_letter r ≡ true → 1 ≤ length r
word_is_filled [] h = cc
word_is_filled (x ∷ xs) h = omega arith

word_passes : (r : Text) → is_word r ≡ true → has_no_control r ≡ true
word_passes r h = all_pass is_word_character (λ x. not (is_control x)) character_is_no_control r (word_characters r h).2

word_size : (r : Text) → is_word r ≡ true → (1 ≤ size r) × (size r ≤ 64)
word_size r h =
    let x = word_characters r h in
    let some = word_is_filled r x.1 in
    (omega (arith, some, length-le-encodes r), grind (arith, nat_tests, x.0))

number_size : (n : ℕ) → n < 2 ^ 64 → size (dollar ∷ decimal n) ≤ 21
unfolding encode
number_size n h =
    let digits : length (decimal n) ≤ 20 = length-decimal-le 20 n (omega arith) (omega (arith, h)) h in
    let plain : encode_utf8_all (decimal n) ≡ decimal n = encodes-IsAscii (decimal n) (IsAscii-decimal n h) in
    let own : size (dollar ∷ decimal n) ≡ 1 + size (decimal n) = size-append (dollar ∷ []) (decimal n) in
    omega (arith, own, ap length plain, digits)

pub fits : (n : ℕ) → 1 ≤ n → n ≤ 256 → sql.fits_name n ≡ true
fits n h i = grind (arith, nat_tests)

pub word_is_name : (r : Text) → is_word r ≡ true → is_name r ≡ true
unfolding is_name
word_is_name r h = and_from (sql.fits_name (size r)) (has_no_control r) (fits (size r) (word_size r h).0 (omega (arith, (word_size r h).1))) (word_passes r h)

pub numbered_is_name : (r : Text) (n : ℕ) → is_word r ≡ true → n < 2 ^ 64 → is_name (numbered r n) ≡ true
unfolding is_name
numbered_is_name r n h few =
    let both = size-append r (dollar ∷ decimal n) in
    let front = word_size r h in
    let back = number_size n few in
    and_from (sql.fits_name (size (numbered r n))) (has_no_control (numbered r n))
    (fits (size (numbered r n)) (omega (arith, both, front.0)) (omega (arith, both, front.1, back)))
    (list_all-append (λ x. not (is_control x)) r (dollar ∷ decimal n) ∙ and_from (has_no_control r) (has_no_control (dollar ∷ decimal n)) (word_passes r h) (number_passes n few))

-- ---- names of components

pub component_is_no_control : (x : ℕ) → is_component_character x ≡ true → not (is_control x) ≡ true
component_is_no_control x h = (and_parts (not (x == 39)) (not (is_control x)) h).1

filled : (xs : Text) → not (length xs == 0) ≡ true → 1 ≤ length xs
filled [] h = cc
filled (x ∷ xs) h = omega arith

component_parts : (x : Text) → is_component_name x ≡ true → (fits_name x ≡ true) × (1 ≤ length x) × (list_all is_component_character x ≡ true)
unfolding is_component_name
component_parts x h =
    let one = and_parts (fits_name x) (not (length x == 0) && list_all is_component_character x) h in
    let two = and_parts (not (length x == 0)) (list_all is_component_character x) one.1 in
    (one.0, filled x two.0, two.1)

pub component_is_name : (x : Text) → is_component_name x ≡ true → is_name x ≡ true
unfolding is_name
component_is_name x h =
    let parts = component_parts x h in
    let low : 1 ≤ size x = let some = parts.1 in omega (arith, some, length-le-encodes x) in
    let high : size x ≤ 64 = let fit = parts.0 in grind (arith, nat_tests, fit) in
    and_from (sql.fits_name (size x)) (has_no_control x) (fits (size x) low (omega (arith, high))) (all_pass is_component_character (λ c. not (is_control c)) component_is_no_control x parts.2)
