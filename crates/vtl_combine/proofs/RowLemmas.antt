-- Rows of a table that are taken by their numbers.
use Rattle.std.proofs.Common.{◌≡◌, ℕ, zero, suc, ◌<◌, List, [], ◌∷◌, Bool, map, length, Option, refl, sym, ap, ◌∙◌, arith}
use Rattle.std.specs.Prelude.{All, slice_get}
use Rattle.std.specs.List.{filter, find, position_or_len, range_with_len}
use Rattle.std.specs.Option.{option_map_or}
use Rattle.std.proofs.lemmas.List.Folds.{find_at}
use Rattle.vtl_cell.specs.Row.{Row, column_of}
use Rattle.vtl_rows.specs.Gathered.{picked, picked_kind, pieces}
use Rattle.vtl_rows.specs.Places.{row_at}
use Rattle.vtl_rows.specs.Tables.{Listed, cells_at, column_at, column_kinds}
use Rattle.vtl_rows.specs.declared.gather.Pick.{Pick}
use Rattle.vtl_rows.proofs.Gathered.{pieces-next}
use Rattle.vtl_tuples.proofs.Lists.{filter-map, map-map}
use Rattle.vtl_index.proofs.Ranges.{all_indexed}
use Rattle.vtl_combine.specs.Operands.{pick_at}

-- the rows that pass a test, by their numbers
pub chosen_rows : {X : Type 0} (f : Row → X) (p : Row → Bool) (rows : List Row) → map (λ i. f (row_at rows i)) (filter (λ i. p (row_at rows i)) (range_with_len 0 (length rows))) ≡ map f (filter p rows)
chosen_rows f p rows =
    sym (map-map f (row_at rows) (filter (λ i. p (row_at rows i)) (range_with_len 0 (length rows))))
    ∙ ap (map f) (sym (filter-map p (row_at rows) (range_with_len 0 (length rows))) ∙ ap (filter p) (all_indexed rows []))

-- ---- rows that are put together from one part
single_pieces : {X : Type 0} (xs : List X) → pieces 1 xs ≡ map (λ x. x ∷ []) xs
single_pieces [] = refl
single_pieces (x ∷ xs) = pieces-next 1 (x ∷ []) xs (omega arith) refl ∙ ap (λ l. (x ∷ []) ∷ l) (single_pieces xs)

picked_row : (t : Listed) (places : List ℕ) (i : ℕ) → picked (t ∷ []) (map pick_at places) (i ∷ []) ≡ cells_at places (row_at t.rows i)
picked_row t [] i = refl
picked_row t (p ∷ ps) i = ap (λ l. column_of p (row_at t.rows i) ∷ l) (picked_row t ps i)

picked_rows : (t : Listed) (places is : List ℕ) → map (picked (t ∷ []) (map pick_at places)) (map (λ i. i ∷ []) is) ≡ map (λ i. cells_at places (row_at t.rows i)) is
picked_rows t places [] = refl
picked_rows t places (i ∷ is) = ap (λ r. r ∷ map (picked (t ∷ []) (map pick_at places)) (map (λ j. j ∷ []) is)) (picked_row t places i) ∙ ap (λ l. cells_at places (row_at t.rows i) ∷ l) (picked_rows t places is)

pub rows_of_one : (t : Listed) (places is : List ℕ) → map (picked (t ∷ []) (map pick_at places)) (pieces 1 is) ≡ map (λ i. cells_at places (row_at t.rows i)) is
rows_of_one t places is = ap (map (picked (t ∷ []) (map pick_at places))) (single_pieces is) ∙ picked_rows t places is

pub kinds_of_one : (t : Listed) (places : List ℕ) → map (picked_kind (t ∷ [])) (map pick_at places) ≡ column_kinds (map (column_at t.columns) places)
kinds_of_one t [] = refl
kinds_of_one t (p ∷ ps) = ap (λ l. (column_at t.columns p).kind ∷ l) (kinds_of_one t ps)

pub all_of_one : (places : List ℕ) → All (λ (p : Pick). p.part < 1) (map pick_at places)
all_of_one [] k d h = absurd (omega arith)
all_of_one (i ∷ is) zero d h = omega arith
all_of_one (i ∷ is) (suc k) d h = all_of_one is k d (omega arith)

-- ---- the first row that passes a test, by its number
at_place : {Y : Type 0} (f : Row → Y) (e : Y) (rows : List Row) (i : ℕ) → f [] ≡ e → option_map_or f (slice_get rows i) e ≡ f (row_at rows i)
at_place f e [] i h = sym h
at_place f e (r ∷ rows) zero h = refl
at_place f e (r ∷ rows) (suc i) h = at_place f e rows i h

pub at_first : {Y : Type 0} (f : Row → Y) (e : Y) (p : Row → Bool) (rows : List Row) → f [] ≡ e → option_map_or f (find p rows) e ≡ f (row_at rows (position_or_len p rows))
at_first f e p rows h = ap (λ (o : Option Row). option_map_or f o e) (find_at p rows) ∙ at_place f e rows (position_or_len p rows) h
