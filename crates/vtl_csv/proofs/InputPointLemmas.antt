-- The rows that a CSV file gives are points of its columns.
use Rattle.std.proofs.Common.{◌≡◌, ℕ, ◌+◌, List, [], ◌∷◌, ◌++◌, Bool, true, false, cond, not, ◌&&◌, nat_le, Option, Some, None, Result, Ok, Err, length, map, arith, refl, sym, ap, ◌∙◌, subst, append_assoc}
use Rattle.std.specs.Prelude.{◌==◌, min}
use Rattle.std.specs.List.{zip, AllByRecursion}
use Rattle.std.specs.Str.{is_utf8}
use Rattle.std.proofs.lemmas.Bool.Decides.{nat_tests}
use Rattle.std.proofs.lemmas.List.{append-nil}
use Rattle.std.proofs.lemmas.Bool.{and_from}
use Rattle.vtl_decimal.specs.Settings.{Settings}
use Rattle.vtl_cell.specs.declared.cell.Cell.{Cell}
use Rattle.vtl_cell.specs.declared.cell.Cell.TheVariants as c
use Rattle.vtl_cell.specs.declared.kind.Kind.TheVariants as k
use Rattle.vtl_cell.specs.Kinds.{is_null, is_of}
use Rattle.vtl_cell.specs.Reading.{reads}
use Rattle.vtl_cell.specs.Row.{Row}
use Rattle.vtl_cell.proofs.Readings.{read_kind}
use Rattle.vtl_rows.specs.declared.column.Column.{Column}
use Rattle.vtl_rows.specs.Tables.{fits}
use Rattle.vtl_rows.proofs.Gathered.{null_is_of}
use Rattle.vtl_tree.specs.DataSet.{is_point}
use Rattle.vtl_tree.specs.declared.structure.Component.{Component}
use Rattle.vtl_tree.specs.declared.structure.Role.TheVariants as role
use Rattle.vtl_tree.specs.Structure.{same_role}
use Rattle.vtl_sets.specs.TableOf.{column_for}
use Rattle.vtl_sets.proofs.TableLemmas.{point_fits}
use Rattle.vtl_csv.specs.declared.input.InputKind.{InputKind}
use Rattle.vtl_csv.specs.declared.input.InputKind.TheVariants as i
use Rattle.vtl_csv.specs.InputFields.{ReadColumn, at_column, components_in, coded_cell, field_cell, is_coded, most_points, record_row, row_with, text_cell}
use Rattle.vtl_csv.specs.StructuresFile.{is_identifier}

abbrev ok_of : {X E : Type 0} → X → Result X E
ok_of x = Ok x

pub ok_same : {X E : Type 0} {x y : X} → ok_of {X = X} {E = E} x ≡ ok_of y → x ≡ y
ok_same e = cc

-- an answer under a test
pub ok_if : {X E : Type 0} (b : Bool) (m : Result X E) (e : E) (x : X) → cond b m (Err e) ≡ Ok x → (b ≡ true) × (m ≡ Ok x)
ok_if true m e x q = (refl, q)
ok_if false m e x q = cc

pub ok_unless : {X E : Type 0} (b : Bool) (m : Result X E) (e : E) (x : X) → cond b (Err e) m ≡ Ok x → (b ≡ false) × (m ≡ Ok x)
ok_unless true m e x q = cc
ok_unless false m e x q = (refl, q)

-- ---- a cell that a component may have
abbrev pub is_good : Component → Cell → Bool
is_good x v = is_of x.kind v && not (same_role x.role role.Identifier && is_null v)

no_null : (b : Bool) → not (b && false) ≡ true
no_null true = refl
no_null false = refl

null_good : (x : Component) → is_identifier x ≡ false → is_good x c.Null ≡ true
null_good x e = and_from (is_of x.kind c.Null) (not (is_identifier x && true)) (null_is_of x.kind) (ap (λ b. not (b && true)) e)

value_good : (x : Component) (v : Cell) → is_of x.kind v ≡ true → is_null v ≡ false → is_good x v ≡ true
value_good x v e h = and_from (is_of x.kind v) (not (is_identifier x && is_null v)) e (ap (λ b. not (is_identifier x && b)) h ∙ no_null (is_identifier x))

coded_good : (p : Settings) (x : Component) (f : List ℕ) (o : Option Cell) (v : Cell) → reads p x.kind f ≡ o → coded_cell x o ≡ Ok v → is_good x v ≡ true
coded_good p x f None v t e = cc
coded_good p x f (Some w) v t e =
    let same : w ≡ v = ok_same (ok_if (is_coded x w) (Ok w) i.NotInCodes v e).1 in
    let h = read_kind p x.kind f w t in
    subst (λ u. is_good x u ≡ true) same (value_good x w h.0 h.1)

text_good : (p : Settings) (x : ReadColumn) (f : List ℕ) (v : Cell) → text_cell p x f ≡ Ok v → is_good x.component v ≡ true
text_good p x [] v e =
    let h = ok_unless (is_identifier x.component) (cond x.not_null (Err i.NotNull) (Ok c.Null)) i.NullIdentifier v e in
    let k = ok_unless x.not_null (Ok c.Null) i.NotNull v h.1 in
    subst (λ u. is_good x.component u ≡ true) (ok_same k.1) (null_good x.component h.0)
text_good p x (b ∷ bs) v e = coded_good p x.component (b ∷ bs) (reads p x.component.kind (b ∷ bs)) v refl e

field_good : (p : Settings) (x : ReadColumn) (f : List ℕ) (v : Cell) → field_cell p x f ≡ Ok v → is_good x.component v ≡ true
field_good p x f v e = text_good p x f v (ok_if (is_utf8 f) (text_cell p x f) i.NotText v e).1

-- ---- a row
row_good : (p : Settings) (xs : List (ReadColumn × List ℕ)) (row out : Row) → row_with p row xs ≡ Ok out → (more : Row) × (out ≡ row ++ more) × (is_point (map (λ x. x.0.component) xs) more ≡ true)
row_good p [] row out e = ([], sym (ok_same e) ∙ sym (append-nil row), refl)
row_good p (x ∷ xs) row out e = go (field_cell p x.0 x.1) refl (λ longer. row_good p xs longer out) e
  where
    go : (r : Result Cell InputKind) → field_cell p x.0 x.1 ≡ r
        → ((longer : Row) → row_with p longer xs ≡ Ok out → (more : Row) × (out ≡ longer ++ more) × (is_point (map (λ x. x.0.component) xs) more ≡ true))
        → at_column row (λ longer. row_with p longer xs) r ≡ Ok out
        → (more : Row) × (out ≡ row ++ more) × (is_point (map (λ x. x.0.component) (x ∷ xs)) more ≡ true)
    go (Err kind) t ih q = cc
    go (Ok v) t ih q =
        let g = ih (row ++ v ∷ []) q in
        (v ∷ g.0, g.1 ∙ append_assoc row (v ∷ []) g.0, and_from (is_good x.0.component v) (is_point (map (λ x. x.0.component) xs) g.0) (field_good p x.0 x.1 v t) g.2)

pub first_of_pairs : {B : Type 0} (xs : List ReadColumn) (ys : List B) → length ys ≡ length xs → map (λ p. p.0.component) (zip xs ys) ≡ components_in xs
first_of_pairs [] [] e = refl
first_of_pairs [] (y ∷ ys) e = cc
first_of_pairs (x ∷ xs) [] e = cc
first_of_pairs (x ∷ xs) (y ∷ ys) e = ap (λ l. x.component ∷ l) (first_of_pairs xs ys (omega (arith, e)))

-- the row of a record is a point
pub record_good : (p : Settings) (columns : List ReadColumn) (count : ℕ) (fields : List (List ℕ)) (row : Row) → record_row p columns count fields ≡ Ok row → is_point (components_in columns) row ≡ true
record_good p columns count fields row e =
    let few = ok_unless (nat_le most_points count) (cond (length fields == length columns) (row_with p [] (zip columns fields)) (Err (min (length fields) (length columns) + 1, i.WrongWidth))) (1, i.TooManyRows) row e in
    let wide = ok_if (length fields == length columns) (row_with p [] (zip columns fields)) (min (length fields) (length columns) + 1, i.WrongWidth) row few.1 in
    let same : length fields ≡ length columns = let t = wide.0 in grind (arith, nat_tests) in
    let g = row_good p (zip columns fields) [] row wide.1 in
    ap (is_point (components_in columns)) g.1 ∙ ap (λ xs. is_point xs g.0) (sym (first_of_pairs columns fields same)) ∙ g.2

-- ---- the rows
abbrev pub ArePoints : List Component → List Row → Type 0
ArePoints columns rows = AllByRecursion (λ r. is_point columns r ≡ true) rows

-- ---- a row fits a table of the columns
pub record_fits : (p : Settings) (columns : List ReadColumn) (count : ℕ) (fields : List (List ℕ)) (row : Row) (below : List Column) → below ≡ map column_for (components_in columns) → record_row p columns count fields ≡ Ok row → fits below row ≡ true
record_fits p columns count fields row below e h = ap (λ cs. fits cs row) e ∙ point_fits (components_in columns) row (record_good p columns count fields row h)
