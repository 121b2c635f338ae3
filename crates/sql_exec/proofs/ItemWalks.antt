-- The values of items, row by row.
use Rattle.std.proofs.Common.{◌≡◌, ℕ, ◌+◌, ◌<◌, ◌≤◌, List, [], ◌∷◌, ◌++◌, map, length, get_or, take, drop, set, refl, sym, ap, ◌∙◌, arith}
use Rattle.std.proofs.lemmas.List.{drop-set-lt, drop_more, map-append, map_more, take_all, take_more_set}
use Rattle.vtl_cell.specs.Outcome.{Outcome}
use Rattle.vtl_cell.specs.Row.{Row}
use Rattle.vtl_decimal.specs.Settings.{Settings}
use Rattle.vtl_cell.specs.declared.cell.Cell.{Cell}
use Rattle.sql_exec.specs.ItemCells.{first_of, next_value, values_in}
use Rattle.sql_exec.specs.declared.item_cells.ItemCells.{ItemCells}
use Rattle.sql_exec.specs.declared.item_cells.ItemCells.TheVariants as from
use Rattle.sql_exec.proofs.Steps.{mapped_twice}

-- what is left of the values of an item behind the next row, which is this one
abbrev pub others_in : Settings → Row → List Row → ItemCells → List (Outcome Cell)
others_in p r rows x = drop 1 (values_in p (r ∷ rows) x)

-- ---- across the items of one row

-- the first items have given their values at the row, and the others are as they were
pub record IsAcross (p : Settings) (r : Row) (i : ℕ) (old now : List ItemCells) : Type 0 where
  pub left : drop i now ≡ drop i old
  pub taken : (rows : List Row) → map (values_in p rows) (take i now) ≡ map (others_in p r rows) (take i old)

pub across_none : (p : Settings) (r : Row) (items : List ItemCells) → IsAcross p r 0 items items
across_none p r items = record { left = refl; taken = λ rows. refl }

-- the next item is as it was
next_same : {X : Type 0} (old now : List X) (i : ℕ) (x : X) → i < length old → i < length now → drop i now ≡ drop i old → x ≡ get_or now i x → (x ≡ get_or old i x) × (drop (i + 1) now ≡ drop (i + 1) old)
next_same old now i x h l same at =
    let both : get_or now i x ∷ drop (i + 1) now ≡ get_or old i x ∷ drop (i + 1) old = sym (drop_more now i x l) ∙ same ∙ drop_more old i x h in
    let first : get_or now i x ≡ get_or old i x = cc in
    let rest : drop (i + 1) now ≡ drop (i + 1) old = cc in
    (at ∙ first, rest)

module _ (p : Settings) (r : Row) (i : ℕ) (old now : List ItemCells) (x then : ItemCells) (h : i < length old) (l : i < length now) (at : x ≡ get_or now i x) (was : IsAcross p r i old now) where
  pub here : x ≡ get_or old i x
  here = (next_same old now i x h l was.left at).0

  pub across_next : ((rows : List Row) → values_in p rows then ≡ others_in p r rows x) → IsAcross p r (i + 1) old (set now i then)
  across_next is = record {
    left = drop-set-lt (i + 1) now i then (omega arith) ∙ (next_same old now i x h l was.left at).1;
    taken = λ rows.
        ap (map (values_in p rows)) (take_more_set now i then l) ∙ map-append (values_in p rows) (take i now) (then ∷ [])
        ∙ (λ j. was.taken rows j ++ (is rows ∙ ap (others_in p r rows) here) j ∷ []) ∙ sym (map_more (others_in p r rows) old i x h);
  }

pub across_all : (p : Settings) (r : Row) (i : ℕ) (old now : List ItemCells) → length old ≤ i → length now ≤ i → IsAcross p r i old now → (rows : List Row) → map (values_in p rows) now ≡ map (others_in p r rows) old
across_all p r i old now h l was rows = ap (map (values_in p rows)) (sym (take_all i now l)) ∙ was.taken rows ∙ ap (map (others_in p r rows)) (take_all i old h)

-- ---- from one row to the next

-- the value at the next row is the first one, whatever rows come behind
first_is : (p : Settings) (r : Row) (rows : List Row) (x : ItemCells) → next_value p x r ≡ first_of (values_in p (r ∷ rows) x)
first_is p r rows (from.Own place) = refl
first_is p r rows (from.Made values kind) = refl

firsts : (p : Settings) (r : Row) (rows : List Row) (items : List ItemCells) → map (λ x. next_value p x r) items ≡ map first_of (map (values_in p (r ∷ rows)) items)
firsts p r rows [] = refl
firsts p r rows (x ∷ items) = λ j. first_is p r rows x j ∷ firsts p r rows items j

-- where items have the values of others at two lists of places, beside each other
module _ {W T : Type 0} (at : W → T → Outcome Cell) (t : T) (rest : List T) where
  first_at : (wanted : List W) → map first_of (map (λ w. map (at w) (t ∷ rest)) wanted) ≡ map (λ w. at w t) wanted
  first_at [] = refl
  first_at (w ∷ wanted) = ap (λ l. at w t ∷ l) (first_at wanted)

  rest_at : (wanted : List W) → map (drop 1) (map (λ w. map (at w) (t ∷ rest)) wanted) ≡ map (λ w. map (at w) rest) wanted
  rest_at [] = refl
  rest_at (w ∷ wanted) = ap (λ l. map (at w) rest ∷ l) (rest_at wanted)

  module _ (p : Settings) (r : Row) (rows : List Row) (items : List ItemCells) (wanted : List W) (same : map (values_in p (r ∷ rows)) items ≡ map (λ w. map (at w) (t ∷ rest)) wanted) where
    -- so they have them at the first
    pub values_at : map (λ x. next_value p x r) items ≡ map (λ w. at w t) wanted
    values_at = firsts p r rows items ∙ ap (map first_of) same ∙ first_at wanted

    -- and behind it
    pub values_behind : (then : List ItemCells) → map (values_in p rows) then ≡ map (others_in p r rows) items → map (values_in p rows) then ≡ map (λ w. map (at w) rest) wanted
    values_behind then is = is ∙ mapped_twice (values_in p (r ∷ rows)) (drop 1) items ∙ ap (map (drop 1)) same ∙ rest_at wanted
