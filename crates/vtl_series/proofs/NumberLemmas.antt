-- Numbers of periods: which ones the spans of rows cover, and that these are the numbers from the first to the last.
use Rattle.std.proofs.Common.{◌≡◌, ◌<◌, ◌≤◌, ◌+◌, ◌-◌, ◌*◌, ◌&&◌, ◌||◌, ◌++◌, ℕ, zero, suc, Bool, true, false, cond, List, [], ◌∷◌, map, filter, None, Some, Option, refl, sym, ap, ◌∙◌, arith, nat_eq, nat_le}
use Rattle.std.specs.Prelude.{IfSome}
use Rattle.std.specs.List.{fold, range_with_len}
use Rattle.std.specs.Option.{option_map_or}
use Rattle.std.proofs.Math.Bool.{or_assoc}
use Rattle.std.proofs.lemmas.List.{append_assoc, map-id}
use Rattle.std.proofs.lemmas.List.FromFn.{map-range_with_len_more}
use Rattle.vtl_cell.specs.Row.{Row, column_of}
use Rattle.vtl_index.proofs.Ranges.{more_passing, none_pass, passing, passing_agree, same_passing}
use Rattle.vtl_time.specs.Periods.{YearPart, frequency_rank, index_of, parts_in_year}
use Rattle.vtl_time.specs.declared.periods.Frequency.{Frequency}
use Rattle.vtl_time.specs.declared.periods.Frequency.TheVariants.{Annual, Semester, Quarter, Month}
use Rattle.vtl_series.specs.declared.extent.Extent.{Extent}
use Rattle.vtl_series.specs.declared.extent.Extent.TheVariants as extent
use Rattle.vtl_series.specs.declared.spans.Span.{Span}
use Rattle.vtl_series.specs.declared.spans.Spans.{Spans}
use Rattle.vtl_series.specs.Kept.{IsWithin, and_index, and_number, and_period, chosen, covers, no_spans, numbers_of_span, span_at, spans_of}
use Rattle.vtl_series.specs.Series.{dated, is_spanned, number_of, numbers_of, period_in, seen_by, some_number}

or_nothing : (b : Bool) → b ≡ (b || false)
or_nothing true = refl
or_nothing false = refl

-- ---- a test of spans that tells whether some number passes a test
module _ (m : Option Span → Bool) (t : ℕ → Bool) (none : m None ≡ false) (more : (o : Option Span) (j : ℕ) → m (Some (and_number o j)) ≡ (m o || t j)) where
  index_more : (f g : Frequency) (s : Spans) (j : ℕ) → m (span_at (and_index s g j) f) ≡ (m (span_at s f) || option_map_or t (cond (nat_eq (frequency_rank g) (frequency_rank f)) (Some j) None) false)
  index_more Annual Annual s j = more s.annual j
  index_more Annual Semester s j = or_nothing (m s.annual)
  index_more Annual Quarter s j = or_nothing (m s.annual)
  index_more Annual Month s j = or_nothing (m s.annual)
  index_more Semester Annual s j = or_nothing (m s.semester)
  index_more Semester Semester s j = more s.semester j
  index_more Semester Quarter s j = or_nothing (m s.semester)
  index_more Semester Month s j = or_nothing (m s.semester)
  index_more Quarter Annual s j = or_nothing (m s.quarter)
  index_more Quarter Semester s j = or_nothing (m s.quarter)
  index_more Quarter Quarter s j = more s.quarter j
  index_more Quarter Month s j = or_nothing (m s.quarter)
  index_more Month Annual s j = or_nothing (m s.month)
  index_more Month Semester s j = or_nothing (m s.month)
  index_more Month Quarter s j = or_nothing (m s.month)
  index_more Month Month s j = more s.month j

  period_more : (f : Frequency) (s : Spans) (q : Option YearPart) → m (span_at (and_period s q) f) ≡ (m (span_at s f) || option_map_or t (number_of f q) false)
  period_more f s None = or_nothing (m (span_at s f))
  period_more f s (Some q) = index_more f q.frequency s (index_of q)

  rows_more : (on : ℕ) (f : Frequency) (s : Spans) (rows : List Row) → m (span_at (fold (λ s r. and_period s (period_in (column_of on r))) s rows) f) ≡ (m (span_at s f) || some_number t f on rows)
  rows_more on f s [] = or_nothing (m (span_at s f))
  rows_more on f s (r ∷ rows) =
      rows_more on f (and_period s (period_in (column_of on r))) rows
      ∙ ap (λ b. b || some_number t f on rows) (period_more f s (period_in (column_of on r)))
      ∙ or_assoc (m (span_at s f)) (option_map_or t (number_of f (period_in (column_of on r))) false) (some_number t f on rows)

  none_of : (f : Frequency) → m (span_at no_spans f) ≡ false
  none_of Annual = none
  none_of Semester = none
  none_of Quarter = none
  none_of Month = none

  pub some_in : (on : ℕ) (f : Frequency) (rows : List Row) → m (span_at (spans_of on rows) f) ≡ some_number t f on rows
  some_in on f rows = rows_more on f no_spans rows ∙ ap (λ b. b || some_number t f on rows) (none_of f)

-- ---- the three tests
abbrev is_there : Option Span → Bool
is_there None = false
is_there (Some s) = true

abbrev starts : ℕ → Option Span → Bool
starts i None = false
starts i (Some s) = nat_le s.first i

abbrev ends : ℕ → Option Span → Bool
ends i None = false
ends i (Some s) = nat_le i s.last

there_more : (o : Option Span) (j : ℕ) → is_there (Some (and_number o j)) ≡ (is_there o || true)
there_more None j = refl
there_more (Some s) j = refl

starts_more : (i : ℕ) (o : Option Span) (j : ℕ) → starts i (Some (and_number o j)) ≡ (starts i o || nat_le j i)
starts_more i None j = refl
starts_more i (Some s) j = grind arith

ends_more : (i : ℕ) (o : Option Span) (j : ℕ) → ends i (Some (and_number o j)) ≡ (ends i o || nat_le i j)
ends_more i None j = refl
ends_more i (Some s) j = grind arith

there_in : (on : ℕ) (f : Frequency) (rows : List Row) → is_there (span_at (spans_of on rows) f) ≡ some_number (λ j. true) f on rows
there_in on f rows = some_in is_there (λ j. true) refl there_more on f rows

starts_in : (i on : ℕ) (f : Frequency) (rows : List Row) → starts i (span_at (spans_of on rows) f) ≡ some_number (λ j. nat_le j i) f on rows
starts_in i on f rows = some_in (starts i) (λ j. nat_le j i) refl (starts_more i) on f rows

ends_in : (i on : ℕ) (f : Frequency) (rows : List Row) → ends i (span_at (spans_of on rows) f) ≡ some_number (λ j. nat_le i j) f on rows
ends_in i on f rows = some_in (ends i) (λ j. nat_le i j) refl (ends_more i) on f rows

-- the chosen span covers a number where both bounds do and the series is there
chosen_covers : (e : Extent) (own all : Option Span) (i : ℕ) → covers (chosen e own all) i ≡ (is_there own && (starts i (chosen e own all) && ends i (chosen e own all)))
chosen_covers extent.Single None all i = refl
chosen_covers extent.Single (Some s) all i = refl
chosen_covers extent.All None all i = refl
chosen_covers extent.All (Some s) None i = refl
chosen_covers extent.All (Some s) (Some t) i = refl

spans_cover : (e : Extent) (on : ℕ) (f : Frequency) (rows own : List Row) (i : ℕ) → is_spanned f on own (seen_by e rows own) i ≡ covers (chosen e (span_at (spans_of on own) f) (span_at (spans_of on rows) f)) i
spans_cover extent.Single on f rows own i =
    sym (chosen_covers extent.Single (span_at (spans_of on own) f) (span_at (spans_of on rows) f) i
    ∙ ap (λ b. b && (starts i (span_at (spans_of on own) f) && ends i (span_at (spans_of on own) f))) (there_in on f own)
    ∙ ap (λ b. some_number (λ j. true) f on own && (b && ends i (span_at (spans_of on own) f))) (starts_in i on f own)
    ∙ ap (λ b. some_number (λ j. true) f on own && (some_number (λ j. nat_le j i) f on own && b)) (ends_in i on f own))
spans_cover extent.All on f rows own i =
    sym (every (span_at (spans_of on own) f) (span_at (spans_of on rows) f)
    ∙ ap (λ b. b && (starts i (span_at (spans_of on rows) f) && ends i (span_at (spans_of on rows) f))) (there_in on f own)
    ∙ ap (λ b. some_number (λ j. true) f on own && (b && ends i (span_at (spans_of on rows) f))) (starts_in i on f rows)
    ∙ ap (λ b. some_number (λ j. true) f on own && (some_number (λ j. nat_le j i) f on rows && b)) (ends_in i on f rows))
  where
    every : (a b : Option Span) → covers (chosen extent.All a b) i ≡ (is_there a && (starts i b && ends i b))
    every None b = refl
    every (Some s) None = refl
    every (Some s) (Some t) = refl

-- ---- the numbers between two
abbrev between : ℕ → ℕ → ℕ → Bool
between a b i = nat_le a i && nat_le i b

one_longer : (a n : ℕ) → a ≤ n → range_with_len a (suc n - a) ≡ range_with_len a (n - a) ++ n ∷ []
one_longer a n h =
    let many : suc n - a ≡ (n - a) + 1 = omega (arith, h) in
    let last : a + (n - a) ≡ n = omega (arith, h) in
    ap (range_with_len a) many ∙ sym (map-id (range_with_len a ((n - a) + 1))) ∙ map-range_with_len_more (λ i. i) a (n - a) n last
    ∙ ap (λ l. l ++ n ∷ []) (map-id (range_with_len a (n - a)))

up_to : (a b n : ℕ) → n ≤ b + 1 → passing (between a b) n ≡ range_with_len a (n - a)
up_to a b zero h = let z : zero ≡ 0 - a = omega arith in ap (range_with_len a) z
up_to a b (suc n) h = go (nat_le a n) refl (up_to a b n (omega (arith, h)))
  where
    next : suc n ≡ n + 1
    next = omega arith

    go : (t : Bool) → nat_le a n ≡ t → passing (between a b) n ≡ range_with_len a (n - a) → passing (between a b) (suc n) ≡ range_with_len a (suc n - a)
    go true e before =
        let inside : between a b n ≡ true = grind (arith, e, h) in
        let low : a ≤ n = grind (arith, e) in
        ap (passing (between a b)) next ∙ more_passing (between a b) n inside ∙ ap (λ l. l ++ n ∷ []) before ∙ sym (one_longer a n low)
    go false e before =
        let outside : between a b n ≡ false = grind (arith, e) in
        let high : n < a = grind (arith, e) in
        let same : n - a ≡ suc n - a = omega (arith, high) in
        ap (passing (between a b)) next ∙ same_passing (between a b) n outside ∙ before ∙ ap (range_with_len a) same

past : (a b k : ℕ) → passing (between a b) ((b + 1) + k) ≡ passing (between a b) (b + 1)
past a b zero = let e : (b + 1) + 0 ≡ b + 1 = omega arith in ap (passing (between a b)) e
past a b (suc k) =
    let next : (b + 1) + suc k ≡ ((b + 1) + k) + 1 = omega arith in
    let outside : between a b ((b + 1) + k) ≡ false = grind arith in
    ap (passing (between a b)) next ∙ same_passing (between a b) ((b + 1) + k) outside ∙ past a b k

between_are : (a b n : ℕ) → b < n → passing (between a b) n ≡ range_with_len a (b + 1 - a)
between_are a b n h =
    let e : n ≡ (b + 1) + (n - (b + 1)) = omega (arith, h) in
    ap (passing (between a b)) e ∙ past a b (n - (b + 1)) ∙ up_to a b (b + 1) (omega arith)

covered_are : (f : Frequency) (o : Option Span) → IfSome o (IsWithin f) → filter (covers o) (range_with_len 0 (10000 * parts_in_year f)) ≡ numbers_of_span o
covered_are f None h = none_pass (λ i. false) (10000 * parts_in_year f) (λ i k. refl)
covered_are f (Some s) h = between_are s.first s.last (10000 * parts_in_year f) h.1

-- the periods of a series are those from the first to the last
pub numbers_are : (e : Extent) (on : ℕ) (f : Frequency) (rows own : List Row) → IfSome (chosen e (span_at (spans_of on own) f) (span_at (spans_of on rows) f)) (IsWithin f)
    → numbers_of f on own (seen_by e rows own) ≡ numbers_of_span (chosen e (span_at (spans_of on own) f) (span_at (spans_of on rows) f))
numbers_are e on f rows own h =
    passing_agree (is_spanned f on own (seen_by e rows own)) (covers (chosen e (span_at (spans_of on own) f) (span_at (spans_of on rows) f))) (10000 * parts_in_year f) (λ i k. spans_cover e on f rows own i)
    ∙ covered_are f (chosen e (span_at (spans_of on own) f) (span_at (spans_of on rows) f)) h

-- ---- rows of one period more
pub more_dated : (f : Frequency) (key : Row) (a n : ℕ) (old now new : List Row) → a ≤ n → now ≡ old ++ map (dated f key) (range_with_len a (n - a)) → new ≡ now ++ dated f key n ∷ []
    → new ≡ old ++ map (dated f key) (range_with_len a (n + 1 - a))
more_dated f key a n old now new h before one =
    let many : n + 1 - a ≡ (n - a) + 1 = omega (arith, h) in
    let last : a + (n - a) ≡ n = omega (arith, h) in
    one ∙ ap (λ l. l ++ dated f key n ∷ []) before ∙ append_assoc old (map (dated f key) (range_with_len a (n - a))) (dated f key n ∷ [])
    ∙ ap (λ l. old ++ l) (sym (ap (λ k. map (dated f key) (range_with_len a k)) many ∙ map-range_with_len_more (dated f key) a (n - a) n last))
