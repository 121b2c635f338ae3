-- Which cells an equality of two columns compares.
use Rattle.std.proofs.Common.{◌≡◌, ℕ, ◌+◌, ◌-◌, ◌<◌, ◌≤◌, List, length, get_or, Option, Some, None, arith, sym, ap, ◌∙◌}
use Rattle.std.specs.Borrow.{Bor}
use Rattle.std.specs.List.{HoldsAt}
use Rattle.std.specs.Option.{MatchOption, option_copied}
use Rattle.std.specs.Prelude.{slice_get, slice_index, IfSome}
use Rattle.std.proofs.lemmas.List.{length-map}
use Rattle.vtl_cell.specs.Row.{column_of}
use Rattle.vtl_rows.specs.Gathered.{part_at}
use Rattle.vtl_rows.specs.Places.{row_at}
use Rattle.vtl_rows.specs.declared.gather.Pick.{Pick}
use Rattle.sql_tree.specs.declared.parts.Column.{Column}
use Rattle.sql_meaning.specs.Values.{place_in}
use Rattle.sql_eval.specs.declared.resolved.Side.TheVariants as side
use Rattle.sql_from.specs.Joins.{with_number}
use Rattle.sql_from.specs.Keys.{IsPairOf, IsSpot, are_equal, last_of, row_in}
use Rattle.sql_from.specs.Partners.{IsPickOf, IsTiedBy}
use Rattle.sql_from.specs.Rows.{combined, picks_from}
use Rattle.sql_from.specs.Sources.{Sourced, parts_of, scope_held}
use Rattle.sql_from.proofs.Equalities.{equal_sym}
use Rattle.sql_from.proofs.Parted.{cell_picked, front_number, got_at, got_past, last_number, pick_among}

-- ---- spots
pub got_copied : (o : Option (Bor Pick)) (picks : List Pick) (i : ℕ) → IfSome o (λ x. x.now ≡ get_or picks i x.now) → MatchOption o (length picks ≤ i) (λ x. i < length picks × HoldsAt (λ y. x.now ≡ y) picks i) → option_copied o ≡ slice_get picks i
got_copied None picks i e h = sym (got_past picks i h)
got_copied (Some x) picks i e h = sym (got_at picks i x.now h.0 e)

pub spot_is : (s : Sourced) (x : Column) (picks : List Pick) (place : ℕ) (o : Option Pick) → picks ≡ picks_from 0 (parts_of s.sources) → place ≡ place_in (scope_held s.sources) x → o ≡ slice_get picks place → IfSome o (IsSpot s x)
spot_is s x picks place None are at e = tt
spot_is s x picks place (Some pick) are at e =
    let many = length-map s.sources (λ t. t.1) in
    let within = pick_among (parts_of s.sources) picks are place pick (sym e) in
    record {
      within = omega (arith, many, within);
      cell = λ front last whole.
          ap (λ n. column_of n (combined (parts_of s.sources) (with_number front last))) (sym at)
          ∙ cell_picked (parts_of s.sources) picks are front last place (omega (arith, many, whole)) pick (sym e);
    }

pub pick_is : (s : Sourced) (picks : List Pick) (place : ℕ) (o : Option Pick) → picks ≡ picks_from 0 (parts_of s.sources) → o ≡ slice_get picks place → IfSome o (IsPickOf s place)
pick_is s picks place None are e = tt
pick_is s picks place (Some pick) are e =
    let many = length-map s.sources (λ t. t.1) in
    let within = pick_among (parts_of s.sources) picks are place pick (sym e) in
    record {
      within = omega (arith, many, within);
      cell = λ front last whole. cell_picked (parts_of s.sources) picks are front last place (omega (arith, many, whole)) pick (sym e);
    }

module _ (s : Sourced) (x : Column) (pick : Pick) (spot : IsSpot s x pick) (front : List ℕ) (last : ℕ) (whole : length front + 1 ≡ length s.sources) where
  cell_own : pick.part ≡ length s.sources - 1 → column_of (place_in (scope_held s.sources) x) (combined (parts_of s.sources) (with_number front last)) ≡ column_of pick.column (row_at (last_of s).rows last)
  cell_own e =
      let n : last ≡ slice_index (with_number front last) pick.part = last_number front last pick.part (omega (arith, whole, e)) (omega (arith, whole, e)) in
      spot.cell front last whole ∙ (λ i. column_of pick.column (row_at (part_at (parts_of s.sources) (e i)).rows (sym n i)))

  cell_asked : (lead : ℕ) → pick.part ≡ lead → lead + 1 < length s.sources → column_of (place_in (scope_held s.sources) x) (combined (parts_of s.sources) (with_number front last)) ≡ column_of pick.column (row_in s lead front)
  cell_asked lead e h =
      let n : slice_index (with_number front last) pick.part ≡ slice_index front lead = ap (slice_index (with_number front last)) e ∙ sym (front_number front last lead (omega (arith, whole, h))) in
      spot.cell front last whole ∙ (λ i. column_of pick.column (row_at (part_at (parts_of s.sources) (e i)).rows (n i)))

-- ---- the pair of an equality
module _ (s : Sourced) (lead : ℕ) (h : lead + 1 < length s.sources) (x y : Column) (a b : Pick) (a_is : IsSpot s x a) (b_is : IsSpot s y b) where
  pub own_first : a.part ≡ length s.sources - 1 → b.part ≡ lead → IsPairOf s lead x y (record { own = a.column; asked = b.column })
  own_first e f p front last whole = λ i. are_equal p (cell_own s x a a_is front last whole e i) (cell_asked s y b b_is front last whole lead f h i)

  pub own_second : b.part ≡ length s.sources - 1 → a.part ≡ lead → IsPairOf s lead x y (record { own = b.column; asked = a.column })
  own_second e f p front last whole =
      let r = combined (parts_of s.sources) (with_number front last) in
      equal_sym p (column_of (place_in (scope_held s.sources) x) r) (column_of (place_in (scope_held s.sources) y) r)
      ∙ (λ i. are_equal p (cell_own s y b b_is front last whole e i) (cell_asked s x a a_is front last whole lead f h i))

-- ---- the pair of an equality of EXISTS
module _ (s : Sourced) (lead own place : ℕ) (pick : Pick) (is : IsPickOf s place pick) (here : pick.part ≡ lead) where
  asked_cell : (front : List ℕ) (last : ℕ) → length front + 1 ≡ length s.sources → column_of place (combined (parts_of s.sources) (with_number front last)) ≡ column_of pick.column (row_in s lead (with_number front last))
  asked_cell front last whole = is.cell front last whole ∙ ap (λ n. column_of pick.column (row_at (part_at (parts_of s.sources) n).rows (slice_index (with_number front last) n))) here

  pub inner_first : IsTiedBy s lead (record { left = side.Inner own; right = side.Outer place }) (record { own = own; asked = pick.column })
  inner_first = record {
    same = λ p inner front last whole. ap (are_equal p (column_of own inner)) (asked_cell front last whole);
  }

  pub inner_second : IsTiedBy s lead (record { left = side.Outer place; right = side.Inner own }) (record { own = own; asked = pick.column })
  inner_second = record {
    same = λ p inner front last whole.
        equal_sym p (column_of place (combined (parts_of s.sources) (with_number front last))) (column_of own inner)
        ∙ ap (are_equal p (column_of own inner)) (asked_cell front last whole);
  }
