-- The cells at listed places of rows of FROM.
use Rattle.std.proofs.Common.{◌≡◌, ℕ, ◌<◌, List, [], ◌∷◌, ◌++◌, map, length, get_or, refl, sym, ap, ◌∙◌, subst, All}
use Rattle.std.specs.List.{AllByRecursion}
use Rattle.std.proofs.lemmas.List.{get_or-map, map-append}
use Rattle.std.proofs.lemmas.List.Elements.{All-map}
use Rattle.vtl_cell.specs.declared.cell.Cell.TheVariants as c
use Rattle.vtl_cell.specs.declared.kind.Kind.TheVariants as k
use Rattle.vtl_rows.specs.Gathered.{picked, picked_cell, picked_kind}
use Rattle.vtl_rows.specs.Named.{NamedTables}
use Rattle.vtl_rows.specs.Tables.{Listed, cells_at, column_kinds}
use Rattle.vtl_rows.specs.declared.gather.Pick.{Pick}
use Rattle.sql_tree.specs.Trees.{Text}
use Rattle.sql_check_parts.specs.Scopes.{Columns, Scope, row_of}
use Rattle.sql_from.specs.Columns.{columns_below, kinds_at, source_columns}
use Rattle.sql_from.specs.Rows.{combined, pick_for, picks_from}
use Rattle.sql_from.specs.Sources.{parts_of, scope_held}
use Rattle.sql_from.proofs.Parted.{length-picks_from, picked_all}
use Rattle.sql_from.proofs.Sited.{row_wide}
use Rattle.sql_from.proofs.Tabled.{kinds_picked}

-- within a row is within the places of its cells
pub within_picks : (ss : NamedTables) (picks : List Pick) (places : List ℕ) → picks ≡ picks_from 0 (parts_of ss) → All (λ i. i < length (row_of (scope_held ss))) places → All (λ i. i < length picks) places
within_picks ss picks places are within = subst (λ n. All (λ i. i < n) places) (row_wide ss ∙ sym (length-picks_from 0 (parts_of ss)) ∙ sym (ap (λ (l : List Pick). length l) are)) within

pub chosen_within : (picks : List Pick) (places : List ℕ) (n : ℕ) → All (λ p. p.part < n) picks → All (λ i. i < length picks) places → All (λ p. p.part < n) (map (pick_for picks) places)
chosen_within picks places n each within = All-map (λ p. p.part < n) (pick_for picks) places (λ i d h. each (get_or places i d) (record { part = 0; column = 0 }) (within i d h))

-- what stands at places of a mapped list
mapped_at : {X Y : Type 0} (f : X → Y) (xs : List X) (d : X) (e : Y) (places : List ℕ) → AllByRecursion (λ i. i < length xs) places → map (λ i. get_or (map f xs) i e) places ≡ map f (map (λ i. get_or xs i d) places)
mapped_at f xs d e [] all = refl
mapped_at f xs d e (i ∷ is) all = λ n. get_or-map f xs i d e all.0 n ∷ mapped_at f xs d e is all.1 n

-- ---- kinds

kinds_below : (alias : Text) (columns : Columns) → map (λ e. e.1) columns ≡ column_kinds (columns_below alias columns)
kinds_below alias [] = refl
kinds_below alias (e ∷ columns) = ap (λ l. e.1 ∷ l) (kinds_below alias columns)

row_kinds : (scope : Scope) → row_of scope ≡ column_kinds (source_columns scope)
row_kinds [] = refl
row_kinds (s ∷ scope) = (λ i. kinds_below s.0 s.1 i ++ row_kinds scope i) ∙ sym (map-append (λ c. c.kind) (columns_below s.0 s.1) (source_columns scope))

pub kinds_chosen : (ss : NamedTables) (picks : List Pick) (places : List ℕ) → picks ≡ picks_from 0 (parts_of ss) → AllByRecursion (λ i. i < length picks) places → kinds_at places (row_of (scope_held ss)) ≡ map (picked_kind (parts_of ss)) (map (pick_for picks) places)
kinds_chosen ss picks places are within =
    ap (kinds_at places) (row_kinds (scope_held ss) ∙ kinds_picked ss ∙ ap (map (picked_kind (parts_of ss))) (sym are))
    ∙ mapped_at (picked_kind (parts_of ss)) picks (record { part = 0; column = 0 }) k.Null places within

-- ---- rows

pub rows_chosen : (ts : List Listed) (picks : List Pick) (places : List ℕ) (tuples : List (List ℕ)) → picks ≡ picks_from 0 ts → AllByRecursion (λ i. i < length picks) places → AllByRecursion (λ x. length x ≡ length ts) tuples
    → map (picked ts (map (pick_for picks) places)) tuples ≡ map (cells_at places) (map (combined ts) tuples)
rows_chosen ts picks places [] are within all = refl
rows_chosen ts picks places (x ∷ xs) are within all =
    let row : picked ts picks x ≡ combined ts x = ap (λ ps. picked ts ps x) are ∙ picked_all ts x all.0 in
    let one : picked ts (map (pick_for picks) places) x ≡ cells_at places (combined ts x) = sym (mapped_at (picked_cell ts x) picks (record { part = 0; column = 0 }) c.Null places within) ∙ ap (cells_at places) row in
    λ i. one i ∷ rows_chosen ts picks places xs are within all.1 i
