-- The field of a value is read again as the value.
use Rattle.std.proofs.Common.{◌≡◌, ◌≢◌, ◌∷◌, ◌++◌, ◌+◌, ◌%◌, ◌/◌, ◌<◌, ◌^◌, ℕ, [], List, Bool, true, false, cond, not, ◌&&◌, Some, None, Ok, Err, arith, refl, sym, ap, ◌∙◌, true≢false, lit<, encode_utf8_all, pos, negsuc, ℤ, zero, suc, ◌==◌, ◌≤◌, IsTrue, nat_le, unsigned_abs, codes, option_map}
use Rattle.std.specs.List.{AllByRecursion}
use Rattle.std.specs.Str.{IsAscii, all_scalars, is_utf8}
use Rattle.std.proofs.Math.Nat.{div-le_self}
use Rattle.std.proofs.lemmas.Bool.{leb-true, and_parts}
use Rattle.std.proofs.lemmas.Fmt.{IsAscii-decimal_wide}
use Rattle.std.proofs.lemmas.Int.{ints}
use Rattle.std.specs.Fmt.{decimal, signed_decimal}
use Rattle.std.specs.Int.{is_negative, w64}
use Rattle.std.specs.Int.RustNames.{FitsSigned}
use Rattle.std.proofs.lemmas.Str.Ascii.{IsAscii-cons, IsAscii-nil}
use Rattle.std.proofs.lemmas.Str.{chars-encodes, IsAscii-append, IsUtf8-from_ascii, encodes_same, is_utf8-from_IsUtf8}
use Rattle.vtl_decimal.specs.Settings.{Settings}
use Rattle.vtl_decimal.specs.Numeral.{integer_read, number_read}
use Rattle.vtl_decimal.specs.Written.{behind_point, last_digits, number_text, shortest_digits, sign_text}
use Rattle.vtl_time.specs.Days.{CalendarDay, day_text}
use Rattle.vtl_time.specs.Periods.{YearPart, is_year_part, letter_of, part_text, parts_in_year, period_text}
use Rattle.vtl_time.specs.declared.periods.Frequency.{Frequency}
use Rattle.vtl_time.specs.declared.periods.Frequency.TheVariants.{Annual, Semester, Quarter, Month}
use Rattle.vtl_cell.specs.Held.{IsHeld}
use Rattle.vtl_cell.specs.Row.{Row}
use Rattle.vtl_time.specs.Numerals.{four_digits, two_digits}
use Rattle.vtl_cell.specs.declared.cell.Cell.{Cell}
use Rattle.vtl_cell.specs.declared.cell.Cell.TheVariants as c
use Rattle.vtl_cell.specs.declared.kind.Kind.{Kind}
use Rattle.vtl_cell.specs.declared.kind.Kind.TheVariants as k
use Rattle.vtl_cell.specs.Kinds.{is_null, is_of, kind_of}
use Rattle.vtl_cell.specs.Reading.{reads}
use Rattle.vtl_cell.specs.Writing.{ReadsBack, text_of}
use Rattle.vtl_tree.specs.DataSet.{is_point}
use Rattle.vtl_tree.specs.Structure.{same_role}
use Rattle.vtl_tree.specs.declared.structure.Component.{Component}
use Rattle.vtl_tree.specs.declared.structure.Role.TheVariants as role
use Rattle.vtl_decimal.proofs.WrittenLemmas.{reads_back as number_back}
use Rattle.vtl_time.proofs.DayLemmas.{reads_back as day_back}
use Rattle.vtl_time.proofs.PeriodLemmas.{reads_back as period_back}
use Rattle.vtl_cell.proofs.Texts.{day_reads_back, integer_reads_back, period_reads_back}
use Rattle.vtl_scalar.proofs.NullLemmas.{null_is}
use Rattle.vtl_csv.specs.declared.input.InputKind.TheVariants as i
use Rattle.vtl_csv.specs.InputFields.{field_cell, read_column, text_cell}
use Rattle.vtl_csv.specs.ReadAgain.{AreTold, IsShown, IsTold}
use Rattle.vtl_csv.specs.StructuresFile.{is_identifier}

-- the field that each cell is written as is read as the cell, in its column
abbrev pub AreReadAgain : Settings → List Component → Row → Type 0
AreReadAgain p [] [] = Unit {0}
AreReadAgain p [] (v ∷ vs) = ⊥
AreReadAgain p (x ∷ xs) [] = ⊥
AreReadAgain p (x ∷ xs) (v ∷ vs) = (field_cell p (read_column [] x) (text_of p v) ≡ Ok v) × AreReadAgain p xs vs

-- ---- texts are UTF-8
ascii_utf8 : (bs : List ℕ) → IsAscii bs → is_utf8 bs ≡ true
ascii_utf8 bs a = is_utf8-from_IsUtf8 bs (IsUtf8-from_ascii bs a)

two_ascii : (n : ℕ) (bs : List ℕ) → IsAscii bs → IsAscii (two_digits n ++ bs)
two_ascii n bs a = IsAscii-cons (48 + n / 10 % 10) ((48 + n % 10) ∷ bs) (omega arith) (IsAscii-cons (48 + n % 10) bs (omega arith) a)

four_ascii : (n : ℕ) (bs : List ℕ) → IsAscii bs → IsAscii (four_digits n ++ bs)
four_ascii n bs a =
    IsAscii-cons (48 + n / 1000 % 10) ((48 + n / 100 % 10) ∷ (48 + n / 10 % 10) ∷ (48 + n % 10) ∷ bs) (omega arith)
    (IsAscii-cons (48 + n / 100 % 10) ((48 + n / 10 % 10) ∷ (48 + n % 10) ∷ bs) (omega arith) (two_ascii n bs a))

-- ---- texts are read
held_back : (p : Settings) (v : Cell) → p.scale ≤ 9 → IsHeld v → ReadsBack p v
held_back p c.Null few h n fits = absurd (true≢false n)
held_back p (c.Bool true) few h n fits = refl
held_back p (c.Bool false) few h n fits = refl
held_back p (c.Int m) few h n fits = integer_reads_back p m n fits
held_back p (c.Num m) few h n fits = ap (option_map c.Num) (number_back p m few h)
held_back p (c.Text t) few h n fits = ap (λ u. Some (c.Text u)) (chars-encodes t h)
held_back p (c.Day d) few h n fits = day_reads_back p d (day_back d h) n fits
held_back p (c.Period q) few h n fits = period_reads_back p q (period_back q h) n fits

-- ---- a value that is not null, of a component
kind_is : (kind : Kind) (v : Cell) → is_null v ≡ false → is_of kind v ≡ true → kind_of v ≡ kind
kind_is kind c.Null n e = absurd (true≢false n)
kind_is k.Bool (c.Bool x) n e = refl
kind_is k.Int (c.Int x) n e = refl
kind_is k.Num (c.Num x) n e = refl
kind_is k.Text (c.Text x) n e = refl
kind_is k.Day (c.Day x) n e = refl
kind_is k.Period (c.Period x) n e = refl
kind_is kind v n e = absurd (true≢false (sym e))

no_int : (s : ℕ) → integer_read s [] ≡ None
no_int s = refl

no_number : (p : Settings) → number_read p [] ≡ None
no_number p = refl

-- ---- texts of numbers
signed_ascii : (n : ℤ) → FitsSigned w64 n → IsAscii (signed_decimal n)
signed_ascii (pos n) h = IsAscii-decimal_wide n (omega (arith, ints, h))
signed_ascii (negsuc n) h = IsAscii-cons 45 (decimal (suc n)) (lit< tt) (IsAscii-decimal_wide (suc n) (omega (arith, ints, h)))

last_ascii : (w n : ℕ) → IsAscii (last_digits w n)
unfolding last_digits
last_ascii zero n = IsAscii-nil
last_ascii (suc w) n = IsAscii-append (last_digits w (n / 10)) ((48 + n % 10) ∷ []) (last_ascii w (n / 10)) (IsAscii-cons (48 + n % 10) [] (omega arith) IsAscii-nil)

shortest_ascii : (w n : ℕ) → IsAscii (shortest_digits w n)
unfolding shortest_digits
shortest_ascii zero n = IsAscii-nil
shortest_ascii (suc w) n = go (n % 10 == 0) (shortest_ascii w (n / 10))
  where
    go : (b : Bool) → IsAscii (shortest_digits w (n / 10)) → IsAscii (cond b (shortest_digits w (n / 10)) (last_digits (suc w) n))
    go true h = h
    go false h = last_ascii (suc w) n

point_ascii : (ds : List ℕ) → IsAscii ds → IsAscii (behind_point ds)
point_ascii [] a = IsAscii-nil
point_ascii (d ∷ ds) a = IsAscii-cons 46 (d ∷ ds) (lit< tt) a

sign_ascii : (k : ℤ) → IsAscii (sign_text k)
sign_ascii k = go (is_negative k)
  where
    go : (b : Bool) → IsAscii (cond b (45 ∷ []) [])
    go true = IsAscii-cons 45 [] (lit< tt) IsAscii-nil
    go false = IsAscii-nil

number_ascii : (s : ℕ) (k : ℤ) → unsigned_abs k < 10 ^ 18 → IsAscii (number_text s k)
number_ascii s k h =
    let less = div-le_self (unsigned_abs k) (10 ^ s) in
    let few : unsigned_abs k / 10 ^ s < 10 ^ 64 = omega (arith, less, h) in
    IsAscii-append (sign_text k) (decimal (unsigned_abs k / 10 ^ s) ++ behind_point (shortest_digits s (unsigned_abs k % 10 ^ s))) (sign_ascii k)
    (IsAscii-append (decimal (unsigned_abs k / 10 ^ s)) (behind_point (shortest_digits s (unsigned_abs k % 10 ^ s))) (IsAscii-decimal_wide (unsigned_abs k / 10 ^ s) few)
    (point_ascii (shortest_digits s (unsigned_abs k % 10 ^ s)) (shortest_ascii s (unsigned_abs k % 10 ^ s))))

day_ascii : (d : CalendarDay) → IsAscii (day_text d)
day_ascii d = four_ascii d.year (45 ∷ (two_digits d.month ++ (45 ∷ two_digits d.day))) (IsAscii-cons 45 (two_digits d.month ++ (45 ∷ two_digits d.day)) (lit< tt) (two_ascii d.month (45 ∷ two_digits d.day) (IsAscii-cons 45 (two_digits d.day) (lit< tt) (two_ascii d.day [] IsAscii-nil))))

part_ascii : (f : Frequency) (n : ℕ) → n ≤ parts_in_year f → IsAscii (letter_of f ∷ part_text f n)
part_ascii Annual n h = IsAscii-cons 65 ((48 + n) ∷ []) (lit< tt) (IsAscii-cons (48 + n) [] (omega (arith, h)) IsAscii-nil)
part_ascii Semester n h = IsAscii-cons 83 ((48 + n) ∷ []) (lit< tt) (IsAscii-cons (48 + n) [] (omega (arith, h)) IsAscii-nil)
part_ascii Quarter n h = IsAscii-cons 81 ((48 + n) ∷ []) (lit< tt) (IsAscii-cons (48 + n) [] (omega (arith, h)) IsAscii-nil)
part_ascii Month n h = IsAscii-cons 77 (two_digits n) (lit< tt) (two_ascii n [] IsAscii-nil)

few_parts : (f : Frequency) (y n : ℕ) → is_year_part f y n ≡ true → n ≤ parts_in_year f
unfolding is_year_part
few_parts f y n e = leb-true n (parts_in_year f) (and_parts (nat_le 1 n) (nat_le n (parts_in_year f)) (and_parts (nat_le y 9999) (nat_le 1 n && nat_le n (parts_in_year f)) e).1).1

period_ascii : (q : YearPart) → IsTrue (is_year_part q.frequency q.year q.part) → IsAscii (period_text q)
period_ascii q h =
    four_ascii q.year (45 ∷ (letter_of q.frequency ∷ part_text q.frequency q.part))
    (IsAscii-cons 45 (letter_of q.frequency ∷ part_text q.frequency q.part) (lit< tt) (part_ascii q.frequency q.part (few_parts q.frequency q.year q.part h)))

text_utf8 : (t : List ℕ) → IsTrue (all_scalars t) → is_utf8 (encode_utf8_all t) ≡ true
text_utf8 t h = is_utf8-from_IsUtf8 (encode_utf8_all t) (t, (h, refl))

true_ascii : IsAscii (codes "true")
true_ascii = IsAscii-cons 116 (114 ∷ 117 ∷ 101 ∷ []) (lit< tt) (IsAscii-cons 114 (117 ∷ 101 ∷ []) (lit< tt) (IsAscii-cons 117 (101 ∷ []) (lit< tt) (IsAscii-cons 101 ([]) (lit< tt) IsAscii-nil)))

false_ascii : IsAscii (codes "false")
false_ascii = IsAscii-cons 102 (97 ∷ 108 ∷ 115 ∷ 101 ∷ []) (lit< tt) (IsAscii-cons 97 (108 ∷ 115 ∷ 101 ∷ []) (lit< tt) (IsAscii-cons 108 (115 ∷ 101 ∷ []) (lit< tt) (IsAscii-cons 115 (101 ∷ []) (lit< tt) (IsAscii-cons 101 ([]) (lit< tt) IsAscii-nil))))

-- ---- fields
held_utf8 : (p : Settings) (v : Cell) → IsHeld v → is_utf8 (text_of p v) ≡ true
held_utf8 p c.Null h = ascii_utf8 [] IsAscii-nil
held_utf8 p (c.Bool true) h = ascii_utf8 (codes "true") true_ascii
held_utf8 p (c.Bool false) h = ascii_utf8 (codes "false") false_ascii
held_utf8 p (c.Int n) h = ascii_utf8 (signed_decimal n) (signed_ascii n h)
held_utf8 p (c.Num n) h = ascii_utf8 (number_text p.scale n) (number_ascii p.scale n h)
held_utf8 p (c.Text t) h = text_utf8 t h
held_utf8 p (c.Day d) h = ascii_utf8 (day_text d) (day_ascii d)
held_utf8 p (c.Period q) h = ascii_utf8 (period_text q) (period_ascii q h)

-- the text of a value that is not null has a byte
some_text : (p : Settings) (v : Cell) → is_null v ≡ false → IsShown v → reads p (kind_of v) (text_of p v) ≡ Some v → text_of p v ≢ []
some_text p c.Null n shown back e = true≢false n
some_text p (c.Bool true) n shown back e = cc
some_text p (c.Bool false) n shown back e = cc
some_text p (c.Int m) n shown back e = let r = ap (reads p k.Int) e in cc
some_text p (c.Num m) n shown back e = let r = ap (reads p k.Num) e in cc
some_text p (c.Text []) n shown back e = shown
some_text p (c.Text (a ∷ t)) n shown back e = let r = encodes_same (a ∷ t) [] e in cc
some_text p (c.Day d) n shown back e = cc
some_text p (c.Period q) n shown back e = cc

field_again : (p : Settings) (x : Component) (v : Cell) → is_of x.kind v ≡ true → not (same_role x.role role.Identifier && is_null v) ≡ true → p.scale ≤ 9 → IsTold p x v → field_cell p (read_column [] x) (text_of p v) ≡ Ok v
field_again p x v of_kind no_null few told = rw (held_utf8 p v told.held) (go (is_null v) refl)
  where
    filled : (f : List ℕ) → f ≢ [] → reads p x.kind f ≡ Some v → text_cell p (read_column [] x) f ≡ Ok v
    filled [] some e = absurd (some refl)
    filled (b ∷ bs) some e = rw (e, told.coded) refl

    missing : (b : Bool) → not (b && true) ≡ true → cond b (Err i.NullIdentifier) (Ok c.Null) ≡ Ok c.Null
    missing true e = absurd (true≢false (sym e))
    missing false e = refl

    null_again : v ≡ c.Null → text_cell p (read_column [] x) (text_of p v) ≡ Ok v
    null_again e = rw e (missing (is_identifier x) (ap (λ w. not (same_role x.role role.Identifier && is_null w)) (sym e) ∙ no_null))

    go : (b : Bool) → is_null v ≡ b → text_cell p (read_column [] x) (text_of p v) ≡ Ok v
    go true n = null_again (null_is v n)
    go false n =
        let back = held_back p v few told.held n told.fits in
        filled (text_of p v) (some_text p v n told.shown back) (ap (λ kind. reads p kind (text_of p v)) (sym (kind_is x.kind v n of_kind)) ∙ back)

fields_again : (p : Settings) (columns : List Component) (r : Row) → p.scale ≤ 9 → is_point columns r ≡ true → AreTold p columns r → AreReadAgain p columns r
fields_again p [] [] few e all = tt
fields_again p [] (v ∷ vs) few e all = absurd (true≢false (sym e))
fields_again p (x ∷ xs) [] few e all = absurd (true≢false (sym e))
fields_again p (x ∷ xs) (v ∷ vs) few e all =
    let parts = and_parts (is_of x.kind v && not (same_role x.role role.Identifier && is_null v)) (is_point xs vs) e in
    let first = and_parts (is_of x.kind v) (not (same_role x.role role.Identifier && is_null v)) parts.0 in
    (field_again p x v first.0 first.1 few all.0, fields_again p xs vs few parts.1 all.1)

pub points_again : (p : Settings) (columns : List Component) (rows : List Row) → p.scale ≤ 9 → AllByRecursion (λ r. is_point columns r ≡ true) rows → AllByRecursion (AreTold p columns) rows → AllByRecursion (AreReadAgain p columns) rows
points_again p columns [] few typed all = tt
points_again p columns (r ∷ rows) few typed all = (fields_again p columns r few typed.0 all.0, points_again p columns rows few typed.1 all.1)
