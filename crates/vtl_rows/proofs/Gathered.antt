-- Rows that are put together, in a flat list of cells.
use Rattle.std.proofs.Common.{◌≡◌, ℕ, zero, suc, ◌+◌, ◌*◌, ◌/◌, ◌<◌, ◌≤◌, List, [], ◌∷◌, ◌++◌, inl, inr, map, true, length, length-append, get_or, take, drop, arith, refl, sym, ap, ◌∙◌, subst, All, append_assoc}
use Rattle.std.specs.List.{AllByRecursion, flat_map}
use Rattle.std.specs.Simd.{first_chunks}
use Rattle.std.proofs.Math.Nat.{add-div_left, div-eq_of_lt, mul-div_cancel}
use Rattle.std.proofs.lemmas.Bool.{cases_lt}
use Rattle.std.proofs.lemmas.List.{append-nil, drop-append-le, drop_at, get_or_past, length-drop, length-map, take-append-le, take_all, take_at}
use Rattle.std.proofs.lemmas.List.Elements.{All-map, All-weaker, recursion_from_All}
use Rattle.vtl_cell.specs.declared.cell.Cell.{Cell}
use Rattle.vtl_cell.specs.declared.cell.Cell.TheVariants as c
use Rattle.vtl_cell.specs.declared.kind.Kind.{Kind}
use Rattle.vtl_cell.specs.declared.kind.Kind.TheVariants as k
use Rattle.vtl_cell.specs.Kinds.{is_of}
use Rattle.vtl_cell.specs.Row.{Row, column_of}
use Rattle.vtl_rows.specs.declared.column.Column.{Column}
use Rattle.vtl_rows.specs.declared.gather.Pick.{Pick}
use Rattle.vtl_rows.specs.Flat.{flat_rows, IsFlat}
use Rattle.vtl_rows.specs.Gathered.{part_at, picked, picked_kind, pieces}
use Rattle.vtl_rows.specs.Places.{row_at}
use Rattle.vtl_rows.specs.Tables.{AllFit, Listed, column_at, column_kinds, fits, fits_kinds}
use Rattle.vtl_rows.proofs.Flats.{fits_wide}
use Rattle.vtl_rows.proofs.Gathers.{cell_fits, flat_rows-flat_map, length-flat_map_wide}

-- the rows at places of a table fit its columns
pub rows_at_fit : (columns : List Column) (rows : List Row) (places : List ℕ) → AllFit columns rows → All (λ i. i < length rows) places → All (λ i. fits columns (row_at rows i) ≡ true) places
rows_at_fit columns rows places fit within k d h = fit (get_or places k d) [] (within k d h)

-- ---- pieces of a list
length-chunks : {X : Type 0} (w n : ℕ) (xs : List X) → length (first_chunks w n xs) ≡ n
length-chunks w zero xs = refl
length-chunks w (suc n) xs = ap suc (length-chunks w n (drop w xs))

pub length-pieces : {X : Type 0} (w : ℕ) (xs : List X) → length (pieces w xs) ≡ length xs / w
length-pieces w xs = length-chunks w (length xs / w) xs

pub pieces-next : {X : Type 0} (w : ℕ) (x rest : List X) → 0 < w → length x ≡ w → pieces w (x ++ rest) ≡ x ∷ pieces w rest
pieces-next w x rest some e =
    let next : length rest / w + 1 ≡ suc (length rest / w) = omega arith in
    let n : length (x ++ rest) / w ≡ suc (length rest / w) = ap (λ k. k / w) (length-append x rest ∙ ap (λ k. k + length rest) e) ∙ add-div_left (length rest) some ∙ next in
    ap (λ k. first_chunks w k (x ++ rest)) n
    ∙ ap (λ l. l ∷ first_chunks w (length rest / w) (drop w (x ++ rest))) (take_at x rest w e)
    ∙ ap (λ l. x ∷ first_chunks w (length rest / w) l) (drop_at x rest w e)

pub pieces-none : {X : Type 0} (w : ℕ) (xs : List X) → length xs < w → pieces w xs ≡ []
pieces-none w xs h = ap (λ k. first_chunks w k xs) (div-eq_of_lt h)

chunks-push : {X : Type 0} (w n : ℕ) (xs x : List X) → length xs ≡ n * w → length x ≡ w → first_chunks w (suc n) (xs ++ x) ≡ first_chunks w n xs ++ x ∷ []
chunks-push w zero [] x e h = ap (λ l. l ∷ []) (take_all w x (omega (arith, h)))
chunks-push w zero (y ∷ ys) x e h = absurd (omega (arith, e))
chunks-push w (suc n) xs x e h =
    let l = length-drop w xs in
    let within : w ≤ length xs = omega (arith, e) in
    let left : length (drop w xs) ≡ n * w = omega (arith, e, l) in
    ap (λ r. r ∷ first_chunks w (suc n) (drop w (xs ++ x))) (take-append-le w xs x within)
    ∙ ap (λ r. take w xs ∷ first_chunks w (suc n) r) (drop-append-le w xs x within)
    ∙ ap (λ r. take w xs ∷ r) (chunks-push w n (drop w xs) x left h)

-- one more tuple behind whole ones is one more piece
pub pieces-push : {X : Type 0} (w n : ℕ) (xs x : List X) → 0 < w → length xs ≡ n * w → length x ≡ w → pieces w (xs ++ x) ≡ pieces w xs ++ x ∷ []
pieces-push w n xs x some e h =
    let more : length xs + w ≡ suc n * w = omega (arith, e) in
    let all : length (xs ++ x) / w ≡ suc n = ap (λ k. k / w) (length-append xs x ∙ ap (λ k. length xs + k) h ∙ more) ∙ mul-div_cancel (suc n) some in
    let before : n ≡ length xs / w = sym (ap (λ k. k / w) e ∙ mul-div_cancel n some) in
    ap (λ k. first_chunks w k (xs ++ x)) all ∙ chunks-push w n xs x e h ∙ ap (λ k. first_chunks w k xs ++ x ∷ []) before

-- ---- a row for each piece
module _ {X : Type 0} (f : List X → Row) (w : ℕ) (all : List Row) (rows : List Row) (xs : List X) (sofar : rows ++ map f (pieces w xs) ≡ all) where
  pub next_piece : (more : List Row) (x rest : List X) → 0 < w → xs ≡ x ++ rest → length x ≡ w → more ≡ rows ++ f x ∷ [] → more ++ map f (pieces w rest) ≡ all
  next_piece more x rest some e h put =
      ap (λ l. l ++ map f (pieces w rest)) put ∙ append_assoc rows (f x ∷ []) (map f (pieces w rest))
      ∙ ap (λ ps. rows ++ map f ps) (sym (ap (pieces w) e ∙ pieces-next w x rest some h)) ∙ sofar

  pub no_piece : length xs < w → rows ≡ all
  no_piece h = sym (append-nil rows) ∙ ap (λ ps. rows ++ map f ps) (sym (pieces-none w xs h)) ∙ sofar

-- ---- cells that are picked from parts
pub null_is_of : (kind : Kind) → is_of kind c.Null ≡ true
null_is_of k.Null = refl
null_is_of k.Bool = refl
null_is_of k.Int = refl
null_is_of k.Num = refl
null_is_of k.Text = refl
null_is_of k.Day = refl
null_is_of k.Period = refl

-- a cell at any place of any row is null or of its column's kind
pub cell_at_fits : (columns : List Column) (rows : List Row) (i j : ℕ) → AllFit columns rows → is_of (column_at columns i).kind (column_of i (row_at rows j)) ≡ true
cell_at_fits columns rows i j fit = elim (cases_lt j (length rows)) [
  | inl within ↦ cell_fits columns (row_at rows j) (fit j [] within) i
  | inr past ↦ subst (λ r. is_of (column_at columns i).kind (column_of i r) ≡ true) (sym (get_or_past rows j [] past)) (null_is_of (column_at columns i).kind)
]

module _ (parts : List Listed) (all : All (λ t. AllFit t.columns t.rows) parts) where
  part_fits : (i : ℕ) → AllFit (part_at parts i).columns (part_at parts i).rows
  part_fits i = elim (cases_lt i (length parts)) [
    | inl within ↦ all i (record { columns = []; rows = [] }) within
    | inr past ↦ subst (λ t. AllFit t.columns t.rows) (sym (get_or_past parts i (record { columns = []; rows = [] }) past)) (λ k d h. absurd (omega (arith, h)))
  ]

  picked_fits : (tuple : List ℕ) (picks : List Pick) → fits_kinds (map (picked_kind parts) picks) (picked parts picks tuple) ≡ true
  picked_fits tuple [] = refl
  picked_fits tuple (p ∷ ps) = rw (cell_at_fits (part_at parts p.part).columns (part_at parts p.part).rows p.column (get_or tuple p.part 0) (part_fits p.part)) (picked_fits tuple ps)

  pub picked_row_fits : (columns : List Column) (picks : List Pick) (tuple : List ℕ) → column_kinds columns ≡ map (picked_kind parts) picks → fits columns (picked parts picks tuple) ≡ true
  picked_row_fits columns picks tuple kinds = ap (λ l. fits_kinds l (picked parts picks tuple)) kinds ∙ picked_fits tuple picks

-- where a cell is picked there is a part
pub some_part : (columns : List Column) (kind : Pick → Kind) (picks : List Pick) (n : ℕ) → 0 < length columns → All (λ p. p.part < n) picks → column_kinds columns ≡ map kind picks → 0 < n
some_part columns kind picks n some within kinds =
    let count : length columns ≡ length picks = sym (length-map columns (λ c. c.kind)) ∙ ap length kinds ∙ length-map picks kind in
    let first = within 0 (record { part = 0; column = 0 }) (omega (arith, count, some)) in
    omega (arith, first)
