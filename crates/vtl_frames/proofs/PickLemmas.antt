-- Cells at the ends of frames, and cells some places away.
use Rattle.std.proofs.Common.{◌≡◌, ℕ, ◌+◌, ◌-◌, ◌<◌, ◌≤◌, List, length, get_or, Bool, true, false, cond, Option, Some, None, refl, sym, ap, ◌∙◌, arith}
use Rattle.std.specs.Prelude.{nat_le, nat_lt, IfSome}
use Rattle.std.proofs.lemmas.List.{get_or_default, get_or_past}
use Rattle.std.proofs.lemmas.List.FromFn.{get_or-map-range_with_len, length-map-range_with_len}
use Rattle.vtl_cell.specs.Row.{column_of}
use Rattle.vtl_cell.specs.declared.cell.Cell.{Cell}
use Rattle.vtl_cell.specs.declared.cell.Cell.TheVariants as c
use Rattle.vtl_frames.specs.Framed.{cells_at, end_of, framed, places_from, start_of}
use Rattle.vtl_frames.specs.Picks.{cell_or, end_cell, end_place, place_away, shifted}
use Rattle.vtl_frames.specs.declared.bounds.Frame.{Frame}
use Rattle.vtl_frames.specs.declared.picks.End.{End}
use Rattle.vtl_frames.specs.declared.picks.End.TheVariants as ends
use Rattle.vtl_frames.specs.declared.picks.Shift.{Shift}
use Rattle.vtl_frames.specs.declared.picks.Shift.TheVariants as shift
use Rattle.vtl_frames.proofs.PlaceLemmas.{cut_is, end_within}

-- ---- ends
cell_at : (cells : List Cell) (a b k : ℕ) → k < b - a → column_of k (cells_at cells (places_from a b)) ≡ column_of (a + k) cells
cell_at cells a b k h = get_or-map-range_with_len (λ j. column_of j cells) a (b - a) k (a + k) c.Null h refl

none_at : (cells : List Cell) (a b k : ℕ) → b - a ≤ k → column_of k (cells_at cells (places_from a b)) ≡ c.Null
none_at cells a b k h = get_or_past (cells_at cells (places_from a b)) k c.Null (omega (arith, h, length-map-range_with_len (λ j. column_of j cells) a (b - a)))

end_is : (end : End) (cells : List Cell) (a b : ℕ) → cell_or c.Null cells (end_place end a b) ≡ end_cell end (cells_at cells (places_from a b))
end_is ends.First cells a b = go (nat_lt a b) refl
  where
    go : (t : Bool) → nat_lt a b ≡ t → cell_or c.Null cells (cond t (Some a) None) ≡ column_of 0 (cells_at cells (places_from a b))
    go true e = ap (λ j. column_of j cells) (omega arith) ∙ sym (cell_at cells a b 0 (grind (arith, e)))
    go false e = sym (none_at cells a b 0 (grind (arith, e)))
end_is ends.Last cells a b = go (nat_lt a b) refl ∙ ap (λ n. column_of (n - 1) (cells_at cells (places_from a b))) (sym (length-map-range_with_len (λ j. column_of j cells) a (b - a)))
  where
    go : (t : Bool) → nat_lt a b ≡ t → cell_or c.Null cells (cond t (Some (b - 1)) None) ≡ column_of ((b - a) - 1) (cells_at cells (places_from a b))
    go true e =
        let some : a < b = grind (arith, e) in
        ap (λ j. column_of j cells) (omega (arith, some)) ∙ sym (cell_at cells a b ((b - a) - 1) (omega (arith, some)))
    go false e = sym (none_at cells a b ((b - a) - 1) (grind (arith, e)))

pub end_cell_is : (end : End) (f : Frame) (i : ℕ) (cells : List Cell) → cell_or c.Null cells (end_place end (start_of f (length cells) i) (end_of f (length cells) i)) ≡ end_cell end (framed f i cells)
end_cell_is end f i cells = end_is end cells (start_of f (length cells) i) (end_of f (length cells) i) ∙ ap (end_cell end) (sym (cut_is f i cells))

pub end_place_within : (end : End) (f : Frame) (n i : ℕ) → IfSome (end_place end (start_of f n i) (end_of f n i)) (λ k. k < n)
end_place_within ends.First f n i = go (nat_lt (start_of f n i) (end_of f n i)) refl
  where
    go : (t : Bool) → nat_lt (start_of f n i) (end_of f n i) ≡ t → IfSome (let o : Option ℕ = cond t (Some (start_of f n i)) None in o) (λ k. k < n)
    go true e =
        let some : start_of f n i < end_of f n i = grind (arith, e) in
        omega (arith, some, end_within f n i)
    go false e = tt
end_place_within ends.Last f n i = go (nat_lt (start_of f n i) (end_of f n i)) refl
  where
    go : (t : Bool) → nat_lt (start_of f n i) (end_of f n i) ≡ t → IfSome (let o : Option ℕ = cond t (Some (end_of f n i - 1)) None in o) (λ k. k < n)
    go true e =
        let some : start_of f n i < end_of f n i = grind (arith, e) in
        omega (arith, some, end_within f n i)
    go false e = tt

-- ---- shifts
pub away_within : (s : Shift) (distance n i : ℕ) → i < n → IfSome (place_away s distance n i) (λ k. k < n)
away_within shift.Lag distance n i h = go (nat_le distance i) refl
  where
    go : (t : Bool) → nat_le distance i ≡ t → IfSome (let o : Option ℕ = cond t (Some (i - distance)) None in o) (λ k. k < n)
    go true e = omega (arith, h)
    go false e = tt
away_within shift.Lead distance n i h = go (nat_lt distance (n - i)) refl
  where
    go : (t : Bool) → nat_lt distance (n - i) ≡ t → IfSome (let o : Option ℕ = cond t (Some (i + distance)) None in o) (λ k. k < n)
    go true e =
        let some : distance < n - i = grind (arith, e) in
        omega (arith, h, some)
    go false e = tt

pub shifted_is : (s : Shift) (distance : ℕ) (default : Cell) (i : ℕ) (cells : List Cell) → i < length cells → cell_or default cells (place_away s distance (length cells) i) ≡ shifted s distance default i cells
shifted_is shift.Lag distance default i cells h = go (nat_le distance i) refl
  where
    go : (t : Bool) → nat_le distance i ≡ t → cell_or default cells (cond t (Some (i - distance)) None) ≡ cond t (get_or cells (i - distance) default) default
    go true e = get_or_default cells (i - distance) c.Null default (omega (arith, h))
    go false e = refl
shifted_is shift.Lead distance default i cells h = go (nat_lt distance (length cells - i)) refl
  where
    go : (t : Bool) → nat_lt distance (length cells - i) ≡ t → cell_or default cells (cond t (Some (i + distance)) None) ≡ get_or cells (i + distance) default
    go true e =
        let some : distance < length cells - i = grind (arith, e) in
        get_or_default cells (i + distance) c.Null default (omega (arith, h, some))
    go false e =
        let none : length cells - i ≤ distance = grind (arith, e) in
        sym (get_or_past cells (i + distance) default (omega (arith, h, none)))
