-- The cells of a frame are those between two places, which rise with the place of the row.
use Rattle.std.proofs.Common.{◌≡◌, ℕ, zero, suc, ◌+◌, ◌-◌, ◌<◌, ◌≤◌, List, [], ◌∷◌, ◌++◌, length, take, drop, map, refl, sym, ap, ◌∙◌, arith}
use Rattle.std.specs.Prelude.{min}
use Rattle.std.specs.List.{AllByRecursion, range_with_len}
use Rattle.std.proofs.lemmas.List.{drop_more, drop-take, drop_min, length-map, length-take, map-append, take_all, take_min}
use Rattle.std.proofs.lemmas.List.Elements.{All-from_recursion}
use Rattle.std.proofs.lemmas.List.FromFn.{length-range_with_len, map-range_with_len_more}
use Rattle.vtl_lists.proofs.Filters.{range_more}
use Rattle.vtl_cell.specs.Frames.{before, up_to}
use Rattle.vtl_cell.specs.Outcome.{Outcome}
use Rattle.vtl_cell.specs.Row.{column_of}
use Rattle.vtl_cell.specs.declared.cell.Cell.{Cell}
use Rattle.vtl_cell.specs.declared.cell.Cell.TheVariants as c
use Rattle.vtl_frames.specs.Framed.{at_each, bound_of, cells_at, end_of, framed, places_from, start_of}
use Rattle.vtl_frames.specs.Kept.{AreAbove, AreIn}
use Rattle.vtl_frames.specs.declared.bounds.Bound.{Bound}
use Rattle.vtl_frames.specs.declared.bounds.Bound.TheVariants as bound
use Rattle.vtl_frames.specs.declared.bounds.Cut.{Cut}
use Rattle.vtl_frames.specs.declared.bounds.Frame.{Frame}

-- ---- cells between two places
cells_from : (cells : List Cell) (a m : ℕ) → a + m ≤ length cells → take m (drop a cells) ≡ cells_at cells (range_with_len a m)
cells_from cells a zero h = refl
cells_from cells a (suc m) h =
    ap (take (suc m)) (drop_more cells a c.Null (omega (arith, h))) ∙ ap (λ l. column_of a cells ∷ l) (cells_from cells (a + 1) m (omega (arith, h)))

pub cut_is : (f : Frame) (i : ℕ) (cells : List Cell) → framed f i cells ≡ cells_at cells (places_from (start_of f (length cells) i) (end_of f (length cells) i))
cut_is f i cells =
    let n = length cells in
    let b = before (bound_of f.first) n i in
    let u = up_to (bound_of f.last) n i in
    let e = min u n in
    let s = min (min b n) e in
    let long : length (take e cells) ≡ e = length-take e cells ∙ omega arith in
    let start : min b (length (take e cells)) ≡ s = omega (arith, long) in
    let rest : e ≡ s + (e - s) = omega arith in
    let within : s + (e - s) ≤ length cells = omega arith in
    ap (drop b) (sym (take_min u cells)) ∙ sym (drop_min b (take e cells)) ∙ ap (λ k. drop k (take e cells)) start
    ∙ ap (λ k. drop s (take k cells)) rest ∙ drop-take s (e - s) cells ∙ cells_from cells s (e - s) within

-- ---- frames move up
before_rises : (b : Bound) (n i : ℕ) → before (bound_of b) n i ≤ before (bound_of b) n (i + 1)
before_rises bound.UnboundedPreceding n i = omega arith
before_rises (bound.Preceding k) n i = omega arith
before_rises bound.Current n i = omega arith
before_rises (bound.Following k) n i = omega arith
before_rises bound.UnboundedFollowing n i = omega arith

up_to_rises : (b : Bound) (n i : ℕ) → up_to (bound_of b) n i ≤ up_to (bound_of b) n (i + 1)
up_to_rises bound.UnboundedPreceding n i = omega arith
up_to_rises (bound.Preceding k) n i = omega arith
up_to_rises bound.Current n i = omega arith
up_to_rises (bound.Following k) n i = omega arith
up_to_rises bound.UnboundedFollowing n i = omega arith

pub end_rises : (f : Frame) (n i : ℕ) → end_of f n i ≤ end_of f n (i + 1)
end_rises f n i = omega (arith, up_to_rises f.last n i)

pub start_rises : (f : Frame) (n i : ℕ) → start_of f n i ≤ start_of f n (i + 1)
start_rises f n i = omega (arith, before_rises f.first n i, up_to_rises f.last n i)

pub start_before_end : (f : Frame) (n i : ℕ) → start_of f n i ≤ end_of f n i
start_before_end f n i = omega arith

pub end_within : (f : Frame) (n i : ℕ) → end_of f n i ≤ n
end_within f n i = omega arith

-- ---- places
pub no_places : (a b : ℕ) → a ≡ b → places_from a b ≡ []
no_places a b e =
    let none : b - a ≡ 0 = omega (arith, e) in
    ap (range_with_len a) none

pub places_more : (a b : ℕ) → a ≤ b → places_from a (b + 1) ≡ places_from a b ++ b ∷ []
places_more a b h =
    let more : (b + 1) - a ≡ (b - a) + 1 = omega (arith, h) in
    let last : a + (b - a) ≡ b = omega (arith, h) in
    ap (range_with_len a) more ∙ range_more a (b - a) ∙ ap (λ k. places_from a b ++ k ∷ []) last

pub places_front : (a b : ℕ) → a < b → places_from a b ≡ a ∷ places_from (a + 1) b
places_front a b h =
    let more : b - a ≡ suc (b - (a + 1)) = omega (arith, h) in
    ap (range_with_len a) more

pub cells_more : (cells : List Cell) (a b : ℕ) (x : Cell) → a ≤ b → x ≡ column_of b cells → cells_at cells (places_from a b) ++ x ∷ [] ≡ cells_at cells (places_from a (b + 1))
cells_more cells a b x h e =
    ap (λ y. cells_at cells (places_from a b) ++ y ∷ []) e ∙ sym (map-append (λ k. column_of k cells) (places_from a b) (b ∷ [])) ∙ ap (cells_at cells) (sym (places_more a b h))

pub all_cells : (cells : List Cell) (n : ℕ) → n ≡ length cells → cells_at cells (places_from 0 n) ≡ cells
all_cells cells n e =
    let all : 0 + n ≤ length cells = omega (arith, e) in
    let past : length cells ≤ n = omega (arith, e) in
    let whole : n - 0 ≡ n = omega arith in
    ap (λ m. cells_at cells (range_with_len 0 m)) whole ∙ sym (cells_from cells 0 n all) ∙ take_all n cells past

pub many_places : (a b : ℕ) → length (places_from a b) ≡ b - a
many_places a b = length-range_with_len a (b - a)

pub many_cells : (cells : List Cell) (a b : ℕ) → length (cells_at cells (places_from a b)) ≡ b - a
many_cells cells a b = length-map (places_from a b) (λ k. column_of k cells) ∙ many_places a b

-- places of a part of the cells, and those behind a place
places_in : (P : ℕ → Type 0) (a n : ℕ) → ((k : ℕ) → a ≤ k → k < a + n → P k) → AllByRecursion P (range_with_len a n)
places_in P a zero h = tt
places_in P a (suc n) h = (h a (omega arith) (omega arith), places_in P (a + 1) n (λ k l m. h k (omega (arith, l)) (omega (arith, m))))

pub places_within : (cells : List Cell) (a b : ℕ) → b ≤ length cells → AreIn cells (places_from a b)
places_within cells a b h = All-from_recursion (λ k. k < length cells) (places_from a b) (places_in (λ k. k < length cells) a (b - a) (λ k l m. omega (arith, h, l, m)))

pub places_above : (a b : ℕ) → AreAbove a (places_from (a + 1) b)
places_above a b = places_in (λ k. a < k) (a + 1) (b - (a + 1)) (λ k l m. omega (arith, l))

-- ---- a value at each place
pub each_more : (f : ℕ → Outcome Cell) (i : ℕ) (old now : List (Outcome Cell)) (x : Outcome Cell) → now ≡ old ++ map f (range_with_len 0 i) → x ≡ f i → now ++ x ∷ [] ≡ old ++ map f (range_with_len 0 (i + 1))
each_more f i old now x e h =
    ap (λ l. l ++ x ∷ []) e ∙ append_right old (map f (range_with_len 0 i)) (x ∷ []) ∙ ap (λ y. old ++ (map f (range_with_len 0 i) ++ y ∷ [])) h
    ∙ ap (λ l. old ++ l) (sym (map-range_with_len_more f 0 i i same))
  where
    same : 0 + i ≡ i
    same = omega arith

    append_right : (a b d : List (Outcome Cell)) → (a ++ b) ++ d ≡ a ++ (b ++ d)
    append_right [] b d = refl
    append_right (y ∷ a) b d = ap (λ l. y ∷ l) (append_right a b d)

pub each_all : (f : ℕ → Outcome Cell) (i n : ℕ) (cells : List Cell) (old now : List (Outcome Cell)) → now ≡ old ++ map f (range_with_len 0 i) → n ≡ length cells → n ≤ i → i ≤ n → now ≡ old ++ at_each f cells
each_all f i n cells old now e h k l = e ∙ ends
  where
    ends : old ++ map f (range_with_len 0 i) ≡ old ++ at_each f cells
    ends =
        let end : i ≡ length cells = omega (arith, h, k, l) in
        ap (λ j. old ++ map f (range_with_len 0 j)) end

-- a frame before the one at a place: it begins and ends no later
pub record IsBehind (f : Frame) (n : ℕ) (at : Cut) (i : ℕ) : Type 0 where
  pub order : at.start ≤ at.end
  pub start : at.start ≤ start_of f n i
  pub end : at.end ≤ end_of f n i

pub behind_first : (f : Frame) (n : ℕ) (at : Cut) → at.start ≡ 0 → at.end ≡ 0 → IsBehind f n at 0
behind_first f n at start end = record { order = omega (arith, start); start = omega (arith, start); end = omega (arith, end) }

pub behind_next : (f : Frame) (n : ℕ) (at : Cut) (i : ℕ) → at.start ≡ start_of f n i → at.end ≡ end_of f n i → IsBehind f n at (i + 1)
behind_next f n at i start end = record {
  order = omega (arith, start, end, start_before_end f n i);
  start = omega (arith, start, start_rises f n i);
  end = omega (arith, end, end_rises f n i);
}

pub framed_at : (f : Frame) (cells : List Cell) (at : Cut) (i : ℕ) → at.start ≡ start_of f (length cells) i → at.end ≡ end_of f (length cells) i → cells_at cells (places_from at.start at.end) ≡ framed f i cells
framed_at f cells at i start end = ap (λ a. cells_at cells (places_from a at.end)) start ∙ ap (λ b. cells_at cells (places_from (start_of f (length cells) i) b)) end ∙ sym (cut_is f i cells)
