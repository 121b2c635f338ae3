-- Whether rows find one, as told by the first one.
use Rattle.std.proofs.Common.{◌≡◌, ℕ, suc, ◌+◌, ◌<◌, Bool, true, false, not, ◌||◌, cond, List, [], ◌∷◌, length, get_or, map, refl, sym, ap, ◌∙◌, arith, lt-ltb}
use Rattle.std.specs.Prelude.{nat_lt}
use Rattle.std.specs.List.{list_any, position_or_len}
use Rattle.std.proofs.lemmas.List.{get_or-map}
use Rattle.vtl_cell.specs.Row.{Row}
use Rattle.vtl_index.specs.Seekers.{Sought, first_meant, is_any_meant, is_meant}
use Rattle.vtl_tuples.proofs.Lists.{map-map, map_each}

one_on : (m n : ℕ) → nat_lt (1 + m) (suc n) ≡ nat_lt m n
one_on m n = grind arith

within_where_any : {X : Type 0} (p : X → Bool) (xs : List X) → nat_lt (position_or_len p xs) (length xs) ≡ list_any p xs
within_where_any p [] = refl
within_where_any p (x ∷ xs) = go (p x) (within_where_any p xs)
  where
    go : (b : Bool) → nat_lt (position_or_len p xs) (length xs) ≡ list_any p xs → nat_lt (cond (not b) (1 + position_or_len p xs) 0) (suc (length xs)) ≡ (b || list_any p xs)
    go true ih = lt-ltb 0 (suc (length xs)) (omega arith)
    go false ih = one_on (position_or_len p xs) (length xs) ∙ ih

pub answers_are : (x : Sought) (rows : List Row) → map (λ i. nat_lt i (length x.rows)) (map (first_meant x) rows) ≡ map (is_any_meant x) rows
answers_are x rows =
    map-map (λ i. nat_lt i (length x.rows)) (first_meant x) rows
    ∙ map_each (λ r. nat_lt (first_meant x r) (length x.rows)) (is_any_meant x) (λ r. within_where_any (is_meant x r) x.rows) rows

-- the answer for a row
pub answer_told : (x : Sought) (rows : List Row) (answers : List Bool) (i : ℕ) (answer : Bool) (r : Row) → i < length rows → answers ≡ map (is_any_meant x) rows → answer ≡ get_or answers i answer → r ≡ get_or rows i r → answer ≡ is_any_meant x r
answer_told x rows answers i answer r h e at row = at ∙ ap (λ l. get_or l i answer) e ∙ get_or-map (is_any_meant x) rows i r answer h ∙ ap (is_any_meant x) (sym row)
