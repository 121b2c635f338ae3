-- The text of a record grows field by field.
use Rattle.std.proofs.Common.{◌≡◌, ◌==◌, ◌&&◌, ◌++◌, ◌∷◌, ◌+◌, ◌<◌, [], ℕ, List, Bool, false, cond, map, length, length-append, take, get_or, arith, refl, sym, ap, ◌∙◌, append_assoc, inl, inr, true≢false}
use Rattle.std.proofs.lemmas.Bool.{cases_Bool, eq-eqb, eqb-true, ne_eqb}
use Rattle.std.proofs.lemmas.List.{append-nil, length-map, length-take-le, map-append, take_more}
use Rattle.csv.specs.Writing.{default_writer, escaped, field_text, fields_text, is_blank, next_sep, row_body, row_text}
use Rattle.vtl_decimal.specs.Settings.{Settings}
use Rattle.vtl_cell.specs.declared.cell.Cell.{Cell}
use Rattle.vtl_cell.specs.Row.{Row}
use Rattle.vtl_cell.specs.Writing.{text_of}
use Rattle.csv.proofs.WriteFacts.{escaped-append}

-- one byte more
pub escaped_more : (init before new field : List ℕ) (i : ℕ) → i < length field → before ≡ init ++ escaped default_writer (take i field) → new ≡ before ++ escaped default_writer (get_or field i 0 ∷ [])
    → new ≡ init ++ escaped default_writer (take (i + 1) field)
escaped_more init before new field i h e n =
    n ∙ ap (λ l. l ++ escaped default_writer (get_or field i 0 ∷ [])) e ∙ append_assoc init (escaped default_writer (take i field)) (escaped default_writer (get_or field i 0 ∷ []))
    ∙ ap (λ l. init ++ l) (sym (ap (escaped default_writer) (take_more field i 0 h) ∙ escaped-append default_writer (take i field) (get_or field i 0 ∷ [])))

fields_more : (fs : List (List ℕ)) (f : List ℕ) → fields_text default_writer (fs ++ f ∷ []) ≡ fields_text default_writer fs ++ (44 ∷ field_text default_writer f)
unfolding fields_text
fields_more [] f = ap (λ l. 44 ∷ l) (append-nil (field_text default_writer f))
fields_more (g ∷ gs) f = ap (λ l. 44 ∷ (field_text default_writer g ++ l)) (fields_more gs f) ∙ ap (λ l. 44 ∷ l) (sym (append_assoc (field_text default_writer g) (fields_text default_writer gs) (44 ∷ field_text default_writer f)))

-- one field more
pub body_more : (fs : List (List ℕ)) (f : List ℕ) (i : ℕ) → length fs ≡ i → row_body default_writer (fs ++ f ∷ []) ≡ (row_body default_writer fs ++ next_sep default_writer i) ++ field_text default_writer f
unfolding fields_text
body_more [] f i e = rw (← e) (append-nil (field_text default_writer f))
body_more (g ∷ gs) f i e =
    let n : (i == 0) ≡ false = ne_eqb i 0 (λ z. omega (arith, e, z)) in
    rw n (ap (λ l. field_text default_writer g ++ l) (fields_more gs f)
    ∙ sym (append_assoc (field_text default_writer g ++ fields_text default_writer gs) (44 ∷ []) (field_text default_writer f) ∙ append_assoc (field_text default_writer g) (fields_text default_writer gs) (44 ∷ field_text default_writer f)))

-- a record that shows no byte
pub blank_is : (fs : List (List ℕ)) (before new : List ℕ) → 0 < length fs → new ≡ before ++ row_body default_writer fs → ((length fs == 1) && (length new == length before)) ≡ is_blank default_writer fs
unfolding is_blank fields_text
blank_is [] before new h e = absurd (omega arith)
blank_is (f ∷ []) before new h e = elim (cases_Bool (length (field_text default_writer f) == 0)) [
  | inl none ↦
      let z = eqb-true (length (field_text default_writer f)) 0 none in
      let l = ap length e ∙ length-append before (field_text default_writer f ++ []) ∙ ap (λ k. length before + length k) (append-nil (field_text default_writer f)) in
      eq-eqb (length new) (length before) (omega (arith, l, z)) ∙ sym none
  | inr some ↦
      let l = ap length e ∙ length-append before (field_text default_writer f ++ []) ∙ ap (λ k. length before + length k) (append-nil (field_text default_writer f)) in
      ne_eqb (length new) (length before) (λ same. let z : length (field_text default_writer f) ≡ 0 = omega (arith, l, same) in absurd (true≢false (sym (eq-eqb (length (field_text default_writer f)) 0 z) ∙ some))) ∙ sym some
]
blank_is (f ∷ g ∷ gs) before new h e =
    let n : (length (f ∷ g ∷ gs) == 1) ≡ false = ne_eqb (length (f ∷ g ∷ gs)) 1 (λ z. omega (arith, z)) in
    rw n refl

-- one cell more
pub row_more : (p : Settings) (row : Row) (i : ℕ) (x : Cell) (init before middle new : List ℕ) → i < length row → x ≡ get_or row i x → before ≡ init ++ row_body default_writer (map (text_of p) (take i row)) → middle ≡ before ++ next_sep default_writer i
    → new ≡ middle ++ field_text default_writer (text_of p x) → new ≡ init ++ row_body default_writer (map (text_of p) (take (i + 1) row))
row_more p row i x init before middle new h at b m n =
    let front = map (text_of p) (take i row) in
    let count : length front ≡ i = length-map (take i row) (text_of p) ∙ length-take-le i row (omega (arith, h)) in
    let longer : map (text_of p) (take (i + 1) row) ≡ front ++ text_of p x ∷ [] =
    ap (map (text_of p)) (take_more row i x h ∙ ap (λ y. take i row ++ y ∷ []) (sym at)) ∙ map-append (text_of p) (take i row) (x ∷ []) in
    n ∙ ap (λ l. l ++ field_text default_writer (text_of p x)) (m ∙ ap (λ l. l ++ next_sep default_writer i) b ∙ append_assoc init (row_body default_writer front) (next_sep default_writer i))
    ∙ append_assoc init (row_body default_writer front ++ next_sep default_writer i) (field_text default_writer (text_of p x))
    ∙ ap (λ l. init ++ l) (sym (ap (row_body default_writer) longer ∙ body_more front (text_of p x) i count))

-- a record with its end
pub record_is : (p : Settings) (row : Row) (old body new : List ℕ) (b : Bool) → 0 < length row → body ≡ old ++ row_body default_writer (map (text_of p) row) → b ≡ ((length row == 1) && (length body == length old))
    → new ≡ body ++ (cond b (34 ∷ 34 ∷ []) [] ++ 10 ∷ []) → new ≡ old ++ row_text default_writer (map (text_of p) row)
record_is p row old body new b h e blank n =
    let fields = map (text_of p) row in
    let count : length fields ≡ length row = length-map row (text_of p) in
    let is : b ≡ is_blank default_writer fields = blank ∙ ap (λ k. (k == 1) && (length body == length old)) (sym count) ∙ blank_is fields old body (omega (arith, count, h)) e in
    n ∙ ap (λ l. l ++ (cond b (34 ∷ 34 ∷ []) [] ++ 10 ∷ [])) e ∙ append_assoc old (row_body default_writer fields) (cond b (34 ∷ 34 ∷ []) [] ++ 10 ∷ [])
    ∙ ap (λ a. old ++ (row_body default_writer fields ++ (cond a (34 ∷ 34 ∷ []) [] ++ 10 ∷ []))) is
