-- Steps of the loop over the fields of a record.
use Rattle.std.proofs.Common.{◌≡◌, ℕ, ◌+◌, ◌<◌, ◌≤◌, ◌==◌, List, [], ◌∷◌, ◌++◌, Bool, true, false, cond, chars, get_or, drop, take, length, Option, Some, None, Result, Ok, Err, refl, ap, sym, subst, ◌∙◌, arith, length-append, append_assoc}
use Rattle.std.specs.List.{zip}
use Rattle.std.specs.Prelude.{IsUtf8}
use Rattle.std.specs.Str.{is_utf8}
use Rattle.std.proofs.lemmas.Bool.{eqb-true}
use Rattle.std.proofs.lemmas.List.{append-nil, drop_all, drop_more, take_at}
use Rattle.std.proofs.lemmas.Str.{IsUtf8-from_is_utf8, IsUtf8-nil, is_utf8-from_IsUtf8}
use Rattle.vtl_decimal.specs.Settings.{Settings}
use Rattle.vtl_cell.specs.declared.cell.Cell.{Cell}
use Rattle.vtl_cell.specs.declared.kind.Kind.{Kind}
use Rattle.vtl_cell.specs.Reading.{reads}
use Rattle.vtl_cell.specs.Row.{Row}
use Rattle.vtl_csv.specs.declared.input.InputKind.{InputKind}
use Rattle.vtl_csv.specs.declared.input.InputKind.TheVariants as i
use Rattle.vtl_csv.specs.Declarations.{text_in}
use Rattle.vtl_csv.specs.InputFields.{ReadColumn, at_column, coded_cell, field_cell, row_with, text_cell}
use Rattle.vtl_csv.specs.InputSteps.{AddsRow, Goes}
use Rattle.vtl_csv.proofs.PointLemmas.{pair_at, zip_ended, zip_within}

-- a field that is a text, or none
field_text : (p : Settings) (x : ReadColumn) (f : List ℕ) → IsUtf8 f → field_cell p x f ≡ text_cell p x f
field_text p x f h = ap (λ b. cond b (text_cell p x f) (Err i.NotText)) (is_utf8-from_IsUtf8 f h)

pub field_refused : (p : Settings) (x : ReadColumn) (f : List ℕ) → ¬ (IsUtf8 f) → field_cell p x f ≡ Err i.NotText
field_refused p x f h = go (is_utf8 f) refl
  where
    go : (b : Bool) → is_utf8 f ≡ b → cond b (text_cell p x f) (Err i.NotText) ≡ Err i.NotText
    go true e = absurd (h (IsUtf8-from_is_utf8 f e))
    go false e = refl

-- a field with no byte
pub field_empty : (p : Settings) (x : ReadColumn) (f : List ℕ) → (length f == 0) ≡ true → text_cell p x [] ≡ field_cell p x f
field_empty p x [] none = sym (field_text p x [] IsUtf8-nil)
field_empty p x (b ∷ bs) none = let e : length (b ∷ bs) ≡ 0 = eqb-true (length (b ∷ bs)) 0 none in absurd (omega (arith, e))

-- a field that is a text with a byte is read
field_read : (p : Settings) (x : ReadColumn) (f : List ℕ) → 0 < length f → IsUtf8 f → field_cell p x f ≡ coded_cell x.component (reads p x.component.kind f)
field_read p x [] some h = absurd (omega (arith, some))
field_read p x (b ∷ bs) some h = field_text p x (b ∷ bs) h

-- the value that its text stands for
pub field_value : (p : Settings) (x : ReadColumn) (f t : List ℕ) (kind : Kind) (o : Option Cell) → 0 < length f → IsUtf8 f → t ≡ f → kind ≡ x.component.kind → o ≡ reads p kind t → coded_cell x.component o ≡ field_cell p x f
field_value p x f t kind o some h same of_kind e =
    ap (coded_cell x.component) (e ∙ ap (λ m. reads p m t) of_kind ∙ ap (reads p x.component.kind) same) ∙ sym (field_read p x f some h)

-- a field of a column of texts that is none
pub field_lost : (p : Settings) (x : ReadColumn) (f : List ℕ) → None ≡ text_in f → Err i.NotText ≡ field_cell p x f
field_lost p x f found = go (is_utf8 f) refl found
  where
    go : (b : Bool) → is_utf8 f ≡ b → None ≡ cond b (Some (chars f)) None → Err i.NotText ≡ cond b (text_cell p x f) (Err i.NotText)
    go true e q = cc
    go false e q = refl

-- behind other cells stand those of the first i fields of a record, whose row is that of these cells and the fields left
pub record IsFilled (p : Settings) (pairs : List (ReadColumn × List ℕ)) (i : ℕ) (before cells : List Cell) : Type 0 where
  pub row : Row
  pub stands : cells ≡ before ++ row
  pub size : length row ≡ i
  pub goes_on : row_with p row (drop i pairs) ≡ row_with p [] pairs

pub filled_none : (p : Settings) (pairs : List (ReadColumn × List ℕ)) (before : List Cell) → IsFilled p pairs 0 before before
filled_none p pairs before = record { row = []; stands = sym (append-nil before); size = refl; goes_on = refl }

module _ (p : Settings) (xs : List ReadColumn) (ys : List (List ℕ)) (i : ℕ) (before cells : List Cell) (same : length ys ≡ length xs) (filled : IsFilled p (zip xs ys) i before cells) where
  module _ (x : ReadColumn) (y : List ℕ) (h : i < length xs) (at_x : x ≡ get_or xs i x) (at_y : y ≡ get_or ys i y) where
    step : (r : Result Cell InputKind) → field_cell p x y ≡ r → row_with p [] (zip xs ys) ≡ at_column filled.row (λ longer. row_with p longer (drop (i + 1) (zip xs ys))) r
    step r e =
        let k : i < length ys = omega (arith, same, h) in
        sym filled.goes_on
        ∙ ap (row_with p filled.row) (drop_more (zip xs ys) i (x, y) (zip_within xs ys i h same))
        ∙ ap (λ q. at_column filled.row (λ longer. row_with p longer (drop (i + 1) (zip xs ys))) (field_cell p q.0 q.1)) (pair_at xs ys i x y h k at_x at_y)
        ∙ ap (at_column filled.row (λ longer. row_with p longer (drop (i + 1) (zip xs ys)))) e

    -- the field is a cell, which stands behind the others now
    pub filled_more : (after : List Cell) → Goes cells after None (field_cell p x y) → IsFilled p (zip xs ys) (i + 1) before after
    filled_more after goes = go (field_cell p x y) refl goes
      where
        go : (r : Result Cell InputKind) → field_cell p x y ≡ r → Goes cells after None r → IsFilled p (zip xs ys) (i + 1) before after
        go (Ok v) e h = record {
          row = filled.row ++ v ∷ [];
          stands = h.1 ∙ ap (λ l. l ++ v ∷ []) filled.stands ∙ append_assoc before filled.row (v ∷ []);
          size = length-append filled.row (v ∷ []) ∙ ap (λ n. n + 1) filled.size;
          goes_on = sym (step (Ok v) e);
        }
        go (Err kind) e h = let bad : None ≡ Some kind = h.0 in cc

    -- the field has a flaw, and so has the row
    pub filled_stops : (after : List Cell) (kind : InputKind) → Goes cells after (Some kind) (field_cell p x y) → AddsRow before after (Some (i + 1, kind)) (row_with p [] (zip xs ys))
    filled_stops after kind goes = go (field_cell p x y) refl goes
      where
        go : (r : Result Cell InputKind) → field_cell p x y ≡ r → Goes cells after (Some kind) r → AddsRow before after (Some (i + 1, kind)) (row_with p [] (zip xs ys))
        go (Ok v) e h = let bad : Some kind ≡ None = h.0 in cc
        go (Err other) e h =
            let met : row_with p [] (zip xs ys) ≡ Err (i + 1, other) = step (Err other) e ∙ ap (λ n. Err (n + 1, other)) filled.size in
            let kinds : Some kind ≡ Some other = h.0 in
            let flaw : Some (i + 1, kind) ≡ Some (i + 1, other) = cc in
            let front = ap (take (length before)) (h.1 ∙ filled.stands) ∙ take_at before filled.row (length before) refl in
            subst (AddsRow before after (Some (i + 1, kind))) (sym met) (flaw, front)

  -- no field is left
  pub filled_all : length xs ≤ i → AddsRow before cells None (row_with p [] (zip xs ys))
  filled_all h =
      let whole : row_with p [] (zip xs ys) ≡ Ok filled.row = sym filled.goes_on ∙ ap (row_with p filled.row) (drop_all i (zip xs ys) (zip_ended xs ys i h)) in
      subst (AddsRow before cells None) (sym whole) (refl, filled.stands)
