-- Columns of keys: their places and kinds, and that rows are grouped in a table of their keys as they are.
use Rattle.std.proofs.Common.{◌≡◌, inl, inr, ℕ, ◌+◌, ◌<◌, Bool, true, false, not, cond, List, [], ◌∷◌, All, get_or, length, map, refl, sym, ap, ◌∙◌, subst, arith, Option, None, Some}
use Rattle.std.specs.Prelude.{IsSome, option_map, unwrap_or}
use Rattle.std.specs.List.{AllByRecursion, position_or_len, range_with_len}
use Rattle.std.proofs.lemmas.Bool.{cases_lt}
use Rattle.std.proofs.lemmas.List.{get_or_past, length-map}
use Rattle.std.proofs.lemmas.List.Elements.{All-from_recursion}
use Rattle.vtl_cell.specs.Row.{Row, column_of, same_row}
use Rattle.vtl_decimal.specs.Settings.{Settings}
use Rattle.vtl_cell.specs.declared.kind.Kind.{Kind}
use Rattle.vtl_cell.specs.declared.kind.Kind.TheVariants as k
use Rattle.vtl_rows.specs.Tables.{cells_at}
use Rattle.vtl_rows.proofs.PlacesStay.{cells_stay}
use Rattle.vtl_index.specs.Leads.{leads_of}
use Rattle.sql_tree.specs.declared.parts.Column.{Column}
use Rattle.sql_check_parts.proofs.Places.{found_placed}
use Rattle.sql_check_parts.specs.Scopes.{Scope, column_kind, found, or_null, placed, row_of}
use Rattle.sql_check_laws.specs.Fits.{IsSeen}
use Rattle.sql_meaning.specs.Values.{place_in}
use Rattle.sql_meaning.specs.Groups.{keys_by}
use Rattle.sql_meaning.specs.Profiles.{AreOfProfile, IsRowOfProfile}
use Rattle.sql_meaning.proofs.Lists.{all_once}
use Rattle.sql_meaning.proofs.Profiled.{cell_is}
use Rattle.sql_from.specs.Columns.{kinds_at}

-- ---- places and kinds

-- Past the end of the row any kind would stand there, and the column has one.
pub place_within : (scope : Scope) (x : Column) → IsSome (found scope x) → place_in scope x < length (row_of scope)
place_within scope x there = go (found (placed scope) x) (found_placed k.Null scope x) (found_placed k.Bool scope x)
  where
    go : (o : Option ℕ) → found scope x ≡ option_map (λ i. get_or (row_of scope) i k.Null) o → found scope x ≡ option_map (λ i. get_or (row_of scope) i k.Bool) o → unwrap_or o (length (row_of scope)) < length (row_of scope)
    go None e g = let never : false ≡ true = subst IsSome e there in cc
    go (Some i) e g = elim (cases_lt i (length (row_of scope))) [
      | inl within ↦ within
      | inr past ↦ let null : found scope x ≡ Some k.Null = e ∙ ap (λ (z : Kind). Some z) (get_or_past (row_of scope) i k.Null past) in let bool : found scope x ≡ Some k.Bool = g ∙ ap (λ (z : Kind). Some z) (get_or_past (row_of scope) i k.Bool past) in let same : Some k.Null ≡ Some k.Bool = sym null ∙ bool in cc
    ]

pub places_within : (scope : Scope) (group : List Column) → AllByRecursion (IsSeen scope None) group → All (λ i. i < length (row_of scope)) (map (place_in scope) group)
places_within scope group seen = All-from_recursion (λ i. i < length (row_of scope)) (map (place_in scope) group) (each group seen)
  where
    each : (group : List Column) → AllByRecursion (IsSeen scope None) group → AllByRecursion (λ i. i < length (row_of scope)) (map (place_in scope) group)
    each [] seen = tt
    each (x ∷ group) seen = (place_within scope x seen.0.0, each group seen.1)

-- the kind of a column stands at its place; past the end of the row that of null
kind_placed : (scope : Scope) (x : Column) → column_kind scope x ≡ get_or (row_of scope) (place_in scope x) k.Null
kind_placed scope x = ap or_null (found_placed k.Null scope x) ∙ go (found (placed scope) x)
  where
    go : (o : Option ℕ) → or_null (option_map (λ i. get_or (row_of scope) i k.Null) o) ≡ get_or (row_of scope) (unwrap_or o (length (row_of scope))) k.Null
    go None = sym (get_or_past (row_of scope) (length (row_of scope)) k.Null (omega arith))
    go (Some i) = refl

pub kinds_placed : (scope : Scope) (group : List Column) → map (column_kind scope) group ≡ kinds_at (map (place_in scope) group) (row_of scope)
kinds_placed scope [] = refl
kinds_placed scope (x ∷ group) = λ n. kind_placed scope x n ∷ kinds_placed scope group n

-- ---- integers of keys

pub keys_of_profile : (p : Settings) (places : List ℕ) (rows : List Row) → AreOfProfile p rows → AreOfProfile p (keys_by places rows)
keys_of_profile p [] rows all = (tt, tt)
keys_of_profile p (i ∷ is) rows all = all_once same_row (IsRowOfProfile p) (map (cells_at (i ∷ is)) rows) (each rows all)
  where
    cells : (places : List ℕ) (r : Row) → IsRowOfProfile p r → IsRowOfProfile p (cells_at places r)
    cells [] r h = tt
    cells (j ∷ js) r h = (cell_is p j r h, cells js r h)

    each : (rs : List Row) → AreOfProfile p rs → AreOfProfile p (map (cells_at (i ∷ is)) rs)
    each [] h = tt
    each (r ∷ rs) h = (cells (i ∷ is) r h.0, each rs h.1)

-- ---- keys in their table

key_stays : (places : List ℕ) (r : Row) → cells_at (range_with_len 0 (length places)) (cells_at places r) ≡ cells_at places r
key_stays places r = cells_stay (length places) (cells_at places r) (length-map places (λ i. column_of i r))

map_twice : {X Y Z : Type 0} (f : Y → Z) (g : X → Y) (xs : List X) → map f (map g xs) ≡ map (λ x. f (g x)) xs
map_twice f g [] = refl
map_twice f g (x ∷ xs) = ap (λ l. f (g x) ∷ l) (map_twice f g xs)

first_mapped : {X Y : Type 0} (p : Y → Bool) (f : X → Y) (xs : List X) → position_or_len p (map f xs) ≡ position_or_len (λ x. p (f x)) xs
first_mapped p f [] = refl
first_mapped p f (x ∷ xs) = ap (λ n. cond (not (p (f x))) (1 + n) 0) (first_mapped p f xs)

-- the first row of each key is found in a table of the keys
module _ (places : List ℕ) (rows : List Row) where
  abbrev key : Row → Row
  key = cells_at places

  abbrev all : Row → Row
  all = cells_at (range_with_len 0 (length places))

  lead_stays : (r : Row) → position_or_len (λ s. same_row (all s) (all (key r))) (map key rows) ≡ position_or_len (λ s. same_row (key s) (key r)) rows
  lead_stays r = first_mapped (λ s. same_row (all s) (all (key r))) key rows ∙ λ n. position_or_len (λ s. same_row (key_stays places s n) (key_stays places r n)) rows

  pub leads_stay : leads_of all (map key rows) ≡ leads_of key rows
  leads_stay = map_twice (λ r. position_or_len (λ s. same_row (all s) (all r)) (map key rows)) key rows ∙ λ n. map (λ r. lead_stays r n) rows
