-- The cells of a point that is made of a key and of values by names.
use Rattle.std.proofs.Common.{◌≡◌, ℕ, zero, suc, Bool, true, false, ◌||◌, List, [], ◌∷◌, ◌++◌, map, length, refl, sym, ap, ◌∙◌, arith, true≢false}
use Rattle.std.proofs.lemmas.Slice.Eq.{bytes_eq-Decides}
use Rattle.vtl_cell.specs.Row.{Row, column_of}
use Rattle.vtl_cell.specs.declared.cell.Cell.{Cell}
use Rattle.vtl_rows.specs.Tables.{cells_at}
use Rattle.vtl_tree.specs.Structure.{names_of, same_name}
use Rattle.vtl_tree.specs.declared.structure.Component.{Component}
use Rattle.vtl_tree.specs.Columns.{place_of}
use Rattle.vtl_tree.specs.Names.{is_among}
use Rattle.vtl_meaning.specs.Groups.{places_named}
use Rattle.vtl_meaning.proofs.Places.{place_here, place_later}

-- a value by name for each component
pub by_name : (g : List ℕ → Cell) (name : List ℕ) (xs more : List Component) (rest : Row) → is_among name (names_of xs) ≡ true → column_of (place_of name (xs ++ more)) (map (λ x. g x.name) xs ++ rest) ≡ g name
by_name g name [] more rest e = absurd (true≢false (sym e))
by_name g name (x ∷ xs) more rest e = go (same_name x.name name) refl e (by_name g name xs more rest)
  where
    row : Row
    row = g x.name ∷ (map (λ y. g y.name) xs ++ rest)

    go : (b : Bool) → same_name x.name name ≡ b → (b || is_among name (names_of xs)) ≡ true → (is_among name (names_of xs) ≡ true → column_of (place_of name (xs ++ more)) (map (λ y. g y.name) xs ++ rest) ≡ g name)
        → column_of (place_of name (x ∷ (xs ++ more))) row ≡ g name
    go true h f ih = ap (λ i. column_of i row) (place_here name x (xs ++ more) h) ∙ ap g ((bytes_eq-Decides x.name name).0 h)
    go false h f ih = ap (λ i. column_of i row) (place_later name x (xs ++ more) h) ∙ ih f

-- a component behind others of other names
pub behind : (name : List ℕ) (xs more : List Component) (key rest : Row) → length key ≡ length xs → is_among name (names_of xs) ≡ false → column_of (place_of name (xs ++ more)) (key ++ rest) ≡ column_of (place_of name more) rest
behind name [] more [] rest n e = refl
behind name [] more (v ∷ key) rest n e = absurd (omega (arith, n))
behind name (x ∷ xs) more [] rest n e = absurd (omega (arith, n))
behind name (x ∷ xs) more (v ∷ key) rest n e = go (same_name x.name name) refl e (behind name xs more key rest (omega (arith, n)))
  where
    go : (b : Bool) → same_name x.name name ≡ b → (b || is_among name (names_of xs)) ≡ false → (is_among name (names_of xs) ≡ false → column_of (place_of name (xs ++ more)) (key ++ rest) ≡ column_of (place_of name more) rest)
        → column_of (place_of name (x ∷ (xs ++ more))) (v ∷ (key ++ rest)) ≡ column_of (place_of name more) rest
    go true h f ih = absurd (true≢false f)
    go false h f ih = ap (λ i. column_of i (v ∷ (key ++ rest))) (place_later name x (xs ++ more) h) ∙ ih f

-- a key has a cell for each name, that of its column
pub key_is : (ids xs : List Component) (r : Row) → cells_at (places_named (names_of ids) xs) r ≡ map (λ x. column_of (place_of x.name xs) r) ids
key_is [] xs r = refl
key_is (x ∷ ids) xs r = ap (λ l. column_of (place_of x.name xs) r ∷ l) (key_is ids xs r)
