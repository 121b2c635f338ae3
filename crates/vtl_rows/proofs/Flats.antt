-- Rows in a flat list of cells.
use Rattle.std.proofs.Common.{◌≡◌, ℕ, zero, suc, ◌+◌, ◌*◌, ◌^◌, ◌<◌, ◌≤◌, List, [], ◌∷◌, ◌++◌, Bool, true, false, ◌&&◌, length, length-append, get_or, take, drop, arith, refl, sym, ap, subst, ◌∙◌, true≢false}
use Rattle.std.proofs.lemmas.List.Elements.{All-append, All-push, All-weaker}
use Rattle.std.proofs.lemmas.List.{length-map, take-append-le, drop-append-le, take_all, length-take-le, length-drop, drop-drop}
use Rattle.std.proofs.lemmas.Nat.{mul-le}
use Rattle.std.proofs.Math.Nat.{le_refl}
use Rattle.vtl_cell.specs.declared.cell.Cell.{Cell}
use Rattle.vtl_cell.specs.Kinds.{is_of}
use Rattle.vtl_cell.specs.declared.kind.Kind.{Kind}
use Rattle.vtl_cell.specs.Row.{Row}
use Rattle.vtl_rows.specs.declared.column.Column.{Column}
use Rattle.vtl_rows.specs.Flat.{flat_rows, IsFlat}
use Rattle.vtl_rows.specs.Tables.{AllFit, fits, fits_kinds, column_kinds}

pub length-flat_rows : (width n : ℕ) (cells : List Cell) → length (flat_rows width n cells) ≡ n
length-flat_rows width zero cells = refl
length-flat_rows width (suc n) cells = let e = length-flat_rows width n (drop width cells) in omega (arith, e)

-- a row ends within the cells
pub row_ends : (width n i : ℕ) → i < n → i * width + width ≤ n * width
row_ends width n i h = let up = mul-le (i + 1) width n width (omega arith) (le_refl width) in omega (arith, up)

pub one_more : (width n : ℕ) (cells : List Cell) → length cells ≡ suc n * width → (width ≤ length cells) × (length (drop width cells) ≡ n * width)
one_more width n cells e = let l = length-drop width cells in (omega (arith, e), omega (arith, e, l))

pub none_left : (cells : List Cell) → length cells ≡ 0 → cells ≡ []
none_left [] e = refl
none_left (x ∷ xs) e = absurd (omega (arith, e))

pub flat_rows-push : (width n : ℕ) (cells row : List Cell) → length cells ≡ n * width → length row ≡ width → flat_rows width (n + 1) (cells ++ row) ≡ flat_rows width n cells ++ row ∷ []
flat_rows-push width zero cells row e h = let s = none_left cells (omega (arith, e)) in
    ap (λ l. take width (l ++ row) ∷ []) s ∙ ap (λ r. r ∷ []) (take_all width row (omega (arith, h)))
flat_rows-push width (suc n) cells row e h = let m = one_more width n cells e in
    let next : suc n + 1 ≡ suc (n + 1) = omega arith in
    ap (λ k. flat_rows width k (cells ++ row)) next
    ∙ ap (λ r. r ∷ flat_rows width (n + 1) (drop width (cells ++ row))) (take-append-le width cells row m.0)
    ∙ ap (λ l. take width cells ∷ flat_rows width (n + 1) l) (drop-append-le width cells row m.0)
    ∙ ap (λ l. take width cells ∷ l) (flat_rows-push width n (drop width cells) row m.1 h)

pub flat_rows-append : (width n m : ℕ) (cells more : List Cell) → length cells ≡ n * width → flat_rows width (n + m) (cells ++ more) ≡ flat_rows width n cells ++ flat_rows width m more
flat_rows-append width zero m cells more e =
    let z : 0 + m ≡ m = omega arith in
    let s = none_left cells (omega (arith, e)) in
    ap (λ k. flat_rows width k (cells ++ more)) z ∙ ap (λ l. flat_rows width m (l ++ more)) s
flat_rows-append width (suc n) m cells more e = let h = one_more width n cells e in
    let next : suc n + m ≡ suc (n + m) = omega arith in
    ap (λ k. flat_rows width k (cells ++ more)) next
    ∙ ap (λ r. r ∷ flat_rows width (n + m) (drop width (cells ++ more))) (take-append-le width cells more h.0)
    ∙ ap (λ l. take width cells ∷ flat_rows width (n + m) l) (drop-append-le width cells more h.0)
    ∙ ap (λ l. take width cells ∷ l) (flat_rows-append width n m (drop width cells) more h.1)

pub get_or-flat_rows : (width n i : ℕ) (cells : List Cell) (d : Row) → i < n → get_or (flat_rows width n cells) i d ≡ take width (drop (i * width) cells)
get_or-flat_rows width zero i cells d h = absurd (omega arith)
get_or-flat_rows width (suc n) zero cells d h = let z : 0 ≡ 0 * width = omega arith in ap (λ k. take width (drop k cells)) z
get_or-flat_rows width (suc n) (suc i) cells d h =
    let on : width + i * width ≡ suc i * width = omega arith in
    get_or-flat_rows width n i (drop width cells) d (omega arith) ∙ ap (take width) (drop-drop (i * width) width cells ∙ ap (λ k. drop k cells) on)

fits_both : (a b : Bool) → (a && b) ≡ true → b ≡ true
fits_both true b e = e
fits_both false b e = absurd (true≢false (sym e))

pub fits_count : (kinds : List Kind) (row : Row) → fits_kinds kinds row ≡ true → length row ≡ length kinds
fits_count [] [] e = refl
fits_count [] (x ∷ xs) e = absurd (true≢false (sym e))
fits_count (k ∷ ks) [] e = absurd (true≢false (sym e))
fits_count (k ∷ ks) (x ∷ xs) e = let h = fits_count ks xs (fits_both (is_of k x) (fits_kinds ks xs) e) in omega (arith, h)

pub fits_wide : (columns : List Column) (row : Row) → fits columns row ≡ true → length row ≡ length columns
fits_wide columns row e = let l : length (column_kinds columns) ≡ length columns = simp length-map refl in fits_count (column_kinds columns) row e ∙ l

-- ---- for a list that grows row by row, as `of_cells` takes it: none at the start, and one row more
pub IsFlat-none : (columns : List Column) (cells : List Cell) → 0 < length columns → cells ≡ [] → IsFlat columns 0 cells
IsFlat-none columns cells some e = let l : length cells ≡ 0 = ap length e in record { wide = some; whole = omega (arith, l); fit = λ k d h. absurd (omega (arith, h)) }

pub IsFlat-push : (columns : List Column) (n : ℕ) (cells row : List Cell) → IsFlat columns n cells → fits columns row ≡ true → IsFlat columns (n + 1) (cells ++ row)
IsFlat-push columns n cells row flat h =
    let l = length-append cells row in
    let w = fits_wide columns row h in
    record {
      wide = flat.wide;
      whole = omega (arith, l, w, flat.whole);
      fit = subst (AllFit columns) (sym (flat_rows-push (length columns) n cells row flat.whole w)) (All-push (λ r. fits columns r ≡ true) (flat_rows (length columns) n cells) row flat.fit h);
    }

pub rows_push : (columns : List Column) (n : ℕ) (cells row : List Cell) → IsFlat columns n cells → fits columns row ≡ true → flat_rows (length columns) (n + 1) (cells ++ row) ≡ flat_rows (length columns) n cells ++ row ∷ []
rows_push columns n cells row flat h = flat_rows-push (length columns) n cells row flat.whole (fits_wide columns row h)

-- below other columns of the same kinds
pub as_many_kinds : (columns other : List Column) → column_kinds other ≡ column_kinds columns → length other ≡ length columns
as_many_kinds columns other e = sym (length-map other (λ c. c.kind)) ∙ ap length e ∙ length-map columns (λ c. c.kind)

pub IsFlat-kinds : (columns other : List Column) (n : ℕ) (cells : List Cell) → IsFlat columns n cells → column_kinds other ≡ column_kinds columns → IsFlat other n cells
IsFlat-kinds columns other n cells flat e =
    let as_many = as_many_kinds columns other e in
    record {
      wide = omega (arith, as_many, flat.wide);
      whole = flat.whole ∙ ap (λ w. n * w) (sym as_many);
      fit = subst (λ w. AllFit other (flat_rows w n cells)) (sym as_many)
          (All-weaker (λ r. fits columns r ≡ true) (λ r. fits other r ≡ true) (λ r h. ap (λ kinds. fits_kinds kinds r) e ∙ h) (flat_rows (length columns) n cells) flat.fit);
    }

-- the rows of another table of the same kinds behind them
module _ (columns other : List Column) (n m : ℕ) (cells more : List Cell) (flat : IsFlat columns n cells) (behind : IsFlat other m more) (e : column_kinds other ≡ column_kinds columns) where
  pub IsFlat-append : IsFlat columns (n + m) (cells ++ more)
  IsFlat-append =
      let there = IsFlat-kinds other columns m more behind (sym e) in
      let l = length-append cells more in
      record {
        wide = flat.wide;
        whole = omega (arith, l, flat.whole, there.whole);
        fit = subst (AllFit columns) (sym (flat_rows-append (length columns) n m cells more flat.whole))
            (All-append (λ r. fits columns r ≡ true) (flat_rows (length columns) n cells) (flat_rows (length columns) m more) flat.fit there.fit);
      }

  pub rows_append : flat_rows (length columns) (n + m) (cells ++ more) ≡ flat_rows (length columns) n cells ++ flat_rows (length other) m more
  rows_append =
      flat_rows-append (length columns) n m cells more flat.whole
      ∙ ap (λ w. flat_rows (length columns) n cells ++ flat_rows w m more) (sym (as_many_kinds columns other e))

-- a row's place among the cells of a table's rows
module _ (columns : List Column) (n : ℕ) (cells : List Cell) (rows : List Row) (width : ℕ) (flat : IsFlat columns n cells) (seen : flat_rows (length columns) n cells ≡ rows) (wide : width ≡ length columns) where
  in_count : (i : ℕ) → i < length rows → i < n
  in_count i h = let e = ap length seen in let l = length-flat_rows (length columns) n cells in omega (arith, e, l, h)

  pub row_within : (i : ℕ) → i < length rows → i * width + width ≤ length cells
  row_within i h = subst (λ w. i * w + w ≤ length cells) (sym wide) (let e = row_ends (length columns) n i (in_count i h) in omega (arith, e, flat.whole))

  pub row_read : (i : ℕ) (d : Row) → i < length rows → take width (drop (i * width) cells) ≡ get_or rows i d
  row_read i d h = ap (λ w. take w (drop (i * w) cells)) wide ∙ sym (get_or-flat_rows (length columns) n i cells d (in_count i h)) ∙ ap (λ r. get_or r i d) seen

  pub row_wide : (i : ℕ) → i < length rows → length (take width (drop (i * width) cells)) ≡ width
  row_wide i h = let w = row_within i h in let l = length-drop (i * width) cells in length-take-le width (drop (i * width) cells) (omega (arith, w, l))

-- as many rows as cells at most
pub rows_few : (columns : List Column) (n : ℕ) (cells : List Cell) → IsFlat columns n cells → n ≤ length cells
rows_few columns n cells flat = let up = mul-le n 1 n (length columns) (le_refl n) flat.wide in omega (arith, up, flat.whole)

-- a row that stands alone in a list fits columns that are equal
pub fits_alone : (columns other : List Column) (cells before row : List Cell) → columns ≡ other → cells ≡ before ++ row → before ≡ [] → fits other row ≡ true → fits columns cells ≡ true
fits_alone columns other cells before row same e none fit = ap (λ cs. fits cs cells) same ∙ ap (fits other) (e ∙ ap (λ l. l ++ row) none) ∙ fit
