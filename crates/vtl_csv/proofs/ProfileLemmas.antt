-- The values that a CSV file gives are of the profile that it is read in.
use Rattle.std.proofs.Common.{◌≡◌, ℕ, zero, suc, ◌+◌, ◌-◌, ◌^◌, List, [], ◌∷◌, ◌++◌, Bool, true, false, cond, nat_le, nat_lt, Option, Some, None, Ok, Err, length, map, refl, sym, subst}
use Rattle.std.specs.Prelude.{◌==◌, ◌/◌, ◌%◌, IsOk, Result, ℤ, chars, min, option_and_then, option_map, unsigned_abs}
use Rattle.std.specs.List.{zip, AllByRecursion}
use Rattle.std.specs.Result.{result_ok}
use Rattle.std.specs.Str.{is_utf8}
use Rattle.vtl_lists.proofs.Alls.{all_push}
use Rattle.vtl_decimal.specs.declared.number.Fault.{Fault}
use Rattle.vtl_decimal.specs.declared.number.Fault.TheVariants.{Range}
use Rattle.vtl_decimal.specs.Numeral.{denominator, integer_of, integer_read, integer_spelled, number_read, numeral_of, numerator, signed}
use Rattle.vtl_decimal.specs.Range.{fit_integer}
use Rattle.vtl_decimal.specs.Settings.{Settings}
use Rattle.vtl_time.specs.Days.{read_day_of}
use Rattle.vtl_time.specs.Periods.{read_period_of}
use Rattle.vtl_cell.specs.declared.cell.Cell.{Cell}
use Rattle.vtl_cell.specs.declared.cell.Cell.TheVariants as c
use Rattle.vtl_cell.specs.declared.kind.Kind.{Kind}
use Rattle.vtl_cell.specs.declared.kind.Kind.TheVariants as k
use Rattle.vtl_cell.specs.Profile.{IsOfProfile}
use Rattle.vtl_cell.specs.Reading.{bool_read, reads}
use Rattle.vtl_cell.specs.Row.{Row, column_of}
use Rattle.vtl_rows.specs.Tables.{cells_at}
use Rattle.vtl_tree.specs.DataSet.{AreOfProfile}
use Rattle.vtl_tree.specs.declared.structure.Component.{Component}
use Rattle.vtl_csv.specs.declared.input.InputKind.{InputKind}
use Rattle.vtl_csv.specs.declared.input.InputKind.TheVariants as i
use Rattle.vtl_csv.specs.InputFields.{ReadColumn, at_column, coded_cell, field_cell, is_coded, most_points, record_row, row_with, text_cell}
use Rattle.vtl_csv.specs.StructuresFile.{is_identifier}
use Rattle.vtl_csv.proofs.InputPointLemmas.{ok_if, ok_same, ok_unless}

-- ---- integers that are read
some_if : {X : Type 0} (b : Bool) (o : Option X) (x : X) → cond b o None ≡ Some x → o ≡ Some x
some_if true o x e = e
some_if false o x e = cc

some_then : {X Y : Type 0} (f : X → Option Y) (o : Option X) (y : Y) → option_and_then f o ≡ Some y → (x : X) × (f x ≡ Some y)
some_then f None y e = cc
some_then f (Some x) y e = (x, e)

range_kept : (s : ℕ) (m n : ℤ) → result_ok (fit_integer s m) ≡ Some n → IsOk (fit_integer s n)
range_kept s m n e = go (nat_lt (unsigned_abs m) (10 ^ (18 - s))) refl e
  where
    go : (b : Bool) → nat_lt (unsigned_abs m) (10 ^ (18 - s)) ≡ b → result_ok {T = ℤ} {E = Fault} (cond b (Ok m) (Err Range)) ≡ Some n → IsOk (fit_integer s n)
    go true t q =
        let same : m ≡ n = cc in
        subst (λ k. IsOk (fit_integer s k)) same (subst (λ b. IsOk {T = ℤ} {E = Fault} (cond b (Ok m) (Err Range))) (sym t) refl)
    go false t q = cc

integer_fits : (s : ℕ) (t : List ℕ) (n : ℤ) → integer_read s t ≡ Some n → IsOk (fit_integer s n)
integer_fits s t n e =
    let numeral = some_then (integer_of s) (numeral_of t) n (some_if (nat_le (length t) 64) (integer_spelled s t) n e) in
    let m = numeral.0 in
    let whole = signed m.negative (numerator 0 m / denominator m) in
    range_kept s whole n (some_if (numerator 0 m % denominator m == 0) (result_ok (fit_integer s whole)) n numeral.1)

-- ---- a value
mapped : {A : Type 0} (f : A → Cell) (P : Cell → Type 0) (o : Option A) (v : Cell) → ((x : A) → o ≡ Some x → P (f x)) → option_map f o ≡ Some v → P v
mapped f P None v all e = cc
mapped f P (Some x) v all e = let same : f x ≡ v = cc in subst P same (all x refl)

value_fits : (p : Settings) (kind : Kind) (t : List ℕ) (v : Cell) → reads p kind t ≡ Some v → IsOfProfile p v
value_fits p k.Null t v e = cc
value_fits p k.Bool t v e = mapped c.Bool (IsOfProfile p) (bool_read t) v (λ x h. tt) e
value_fits p k.Int t v e = mapped c.Int (IsOfProfile p) (integer_read p.scale t) v (λ x h. integer_fits p.scale t x h) e
value_fits p k.Num t v e = mapped c.Num (IsOfProfile p) (number_read p t) v (λ x h. tt) e
value_fits p k.Text t v e = mapped c.Text (IsOfProfile p) (Some (chars t)) v (λ x h. tt) e
value_fits p k.Day t v e = mapped c.Day (IsOfProfile p) (read_day_of (chars t)) v (λ x h. tt) e
value_fits p k.Period t v e = mapped c.Period (IsOfProfile p) (read_period_of (chars t)) v (λ x h. tt) e

-- ---- a field
coded_fits : (p : Settings) (x : Component) (f : List ℕ) (o : Option Cell) (v : Cell) → reads p x.kind f ≡ o → coded_cell x o ≡ Ok v → IsOfProfile p v
coded_fits p x f None v t e = cc
coded_fits p x f (Some w) v t e = subst (IsOfProfile p) (ok_same (ok_if (is_coded x w) (Ok w) i.NotInCodes v e).1) (value_fits p x.kind f w t)

text_fits : (p : Settings) (x : ReadColumn) (f : List ℕ) (v : Cell) → text_cell p x f ≡ Ok v → IsOfProfile p v
text_fits p x [] v e =
    let h = ok_unless (is_identifier x.component) (cond x.not_null (Err i.NotNull) (Ok c.Null)) i.NullIdentifier v e in
    subst (IsOfProfile p) (ok_same (ok_unless x.not_null (Ok c.Null) i.NotNull v h.1).1) tt
text_fits p x (b ∷ bs) v e = coded_fits p x.component (b ∷ bs) (reads p x.component.kind (b ∷ bs)) v refl e

field_fits : (p : Settings) (x : ReadColumn) (f : List ℕ) (v : Cell) → field_cell p x f ≡ Ok v → IsOfProfile p v
field_fits p x f v e = text_fits p x f v (ok_if (is_utf8 f) (text_cell p x f) i.NotText v e).1

-- ---- a row
row_fits : (p : Settings) (xs : List (ReadColumn × List ℕ)) (row out : Row) → AllByRecursion (IsOfProfile p) row → row_with p row xs ≡ Ok out → AllByRecursion (IsOfProfile p) out
row_fits p [] row out all e = subst (AllByRecursion (IsOfProfile p)) (ok_same e) all
row_fits p (x ∷ xs) row out all e = go (field_cell p x.0 x.1) refl (λ longer. row_fits p xs longer out) e
  where
    go : (r : Result Cell InputKind) → field_cell p x.0 x.1 ≡ r
        → ((longer : Row) → AllByRecursion (IsOfProfile p) longer → row_with p longer xs ≡ Ok out → AllByRecursion (IsOfProfile p) out)
        → at_column row (λ longer. row_with p longer xs) r ≡ Ok out → AllByRecursion (IsOfProfile p) out
    go (Err kind) t ih q = cc
    go (Ok v) t ih q = ih (row ++ v ∷ []) (all_push (IsOfProfile p) row v all (field_fits p x.0 x.1 v t)) q

pub record_of_profile : (p : Settings) (columns : List ReadColumn) (count : ℕ) (fields : List (List ℕ)) (row : Row) → record_row p columns count fields ≡ Ok row → AllByRecursion (IsOfProfile p) row
record_of_profile p columns count fields row e =
    let few = ok_unless (nat_le most_points count) (cond (length fields == length columns) (row_with p [] (zip columns fields)) (Err (min (length fields) (length columns) + 1, i.WrongWidth))) (1, i.TooManyRows) row e in
    let wide = ok_if (length fields == length columns) (row_with p [] (zip columns fields)) (min (length fields) (length columns) + 1, i.WrongWidth) row few.1 in
    row_fits p (zip columns fields) [] row tt wide.1

-- ---- rows in another order of columns
column_fits : (p : Settings) (row : Row) → AllByRecursion (IsOfProfile p) row → (place : ℕ) → IsOfProfile p (column_of place row)
column_fits p [] all place = tt
column_fits p (v ∷ row) all zero = all.0
column_fits p (v ∷ row) all (suc place) = column_fits p row all.1 place

cells_fit : (p : Settings) (places : List ℕ) (row : Row) → AllByRecursion (IsOfProfile p) row → AllByRecursion (IsOfProfile p) (cells_at places row)
cells_fit p [] row all = tt
cells_fit p (place ∷ places) row all = (column_fits p row all place, cells_fit p places row all)

pub rows_of_profile : (p : Settings) (places : List ℕ) (rows : List Row) → AreOfProfile p rows → AreOfProfile p (map (cells_at places) rows)
rows_of_profile p places [] all = tt
rows_of_profile p places (row ∷ rows) all = (cells_fit p places row all.0, rows_of_profile p places rows all.1)
