-- Columns of structures, and the columns of their tables.
use Rattle.std.proofs.Common.{◌≡◌, ℕ, zero, suc, ◌<◌, ◌≤◌, List, [], ◌∷◌, length, map, All, refl, ap, ◌∙◌, arith}
use Rattle.std.specs.List.{AllByRecursion}
use Rattle.std.proofs.lemmas.List.{length-map}
use Rattle.vtl_cell.specs.declared.kind.Kind.{Kind}
use Rattle.vtl_rows.specs.Tables.{column_at}
use Rattle.vtl_rows.specs.declared.column.Column.{Column}
use Rattle.vtl_tree.specs.Structure.{columns_of}
use Rattle.vtl_tree.specs.declared.structure.Component.{Component}
use Rattle.vtl_tree.specs.declared.structure.Structure.{Structure}
use Rattle.vtl_sets.specs.TableOf.{column_for}
use Rattle.vtl_sets.proofs.ColumnLemmas.{some_columns}
use Rattle.vtl_tree.specs.Columns.{place_of, places_in}
use Rattle.vtl_meaning.specs.Made.{AreAmong, IsColumnAt}

-- ---- columns that are chosen by their names
abbrev column_with : List ℕ → Kind → Column
column_with name kind = record { name = name; kind = kind }

column_there : (place : ℕ) (name : List ℕ) (kind : Kind) (xs : List Component) → IsColumnAt place name kind xs → (place < length xs) × (column_at (map column_for xs) place ≡ column_with name kind)
column_there place name kind [] h = absurd h
column_there zero name kind (x ∷ xs) h = (omega arith, ap (λ n. column_with n x.kind) h.0 ∙ ap (column_with name) h.1)
column_there (suc place) name kind (x ∷ xs) h = let rest = column_there place name kind xs h in (let l = rest.0 in omega (arith, l), rest.1)

pub chosen_columns : (xs ys : List Component) → AreAmong ys xs → map (column_at (map column_for xs)) (places_in xs ys) ≡ map column_for ys
chosen_columns xs [] all = refl
chosen_columns xs (y ∷ ys) all =
    ap (λ (c : Column). c ∷ map (column_at (map column_for xs)) (places_in xs ys)) (column_there (place_of y.name xs) y.name y.kind xs all.0).1
    ∙ ap (λ (l : List Column). column_for y ∷ l) (chosen_columns xs ys all.1)

all_below : (n : ℕ) (is : List ℕ) → AllByRecursion (λ i. i < n) is → All (λ i. i < n) is
all_below n [] all k d h = absurd (omega arith)
all_below n (i ∷ is) all zero d h = all.0
all_below n (i ∷ is) all (suc k) d h = all_below n is all.1 k d (omega arith)

places_within : (xs ys : List Component) → AreAmong ys xs → AllByRecursion (λ i. i < length xs) (places_in xs ys)
places_within xs [] all = tt
places_within xs (y ∷ ys) all = ((column_there (place_of y.name xs) y.name y.kind xs all.0).0, places_within xs ys all.1)

pub all_within : (xs ys : List Component) (places : List ℕ) (n : ℕ) → AreAmong ys xs → places ≡ places_in xs ys → n ≡ length xs → All (λ i. i < n) places
all_within xs ys places n all e l = rw (e, l) (all_below (length xs) (places_in xs ys) (places_within xs ys all))

pub some_places : (a s : Structure) (places : List ℕ) → 1 ≤ length s.components → places ≡ places_in (columns_of a) (columns_of s) → 0 < length places
some_places a s places h e =
    let some = some_columns s.components h in
    let l = ap length e ∙ length-map (columns_of s) (λ y. place_of y.name (columns_of a)) in
    omega (arith, some, l)
