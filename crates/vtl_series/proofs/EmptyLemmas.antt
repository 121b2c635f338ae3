-- Without a column of periods there are no series.
use Rattle.std.proofs.Common.{◌≡◌, ℕ, Bool, true, false, ◌&&◌, ◌||◌, List, [], ◌∷◌, None, refl, sym, ap, ◌∙◌, nat_le, true≢false}
use Rattle.std.specs.List.{AllByRecursion}
use Rattle.std.specs.Option.{option_map_or}
use Rattle.std.proofs.lemmas.Bool.{and_parts}
use Rattle.std.proofs.lemmas.List.Elements.{recursion_from_All}
use Rattle.vtl_lists.proofs.Alls.{all_each, all_more}
use Rattle.vtl_cell.specs.Kinds.{is_of, same_kind}
use Rattle.vtl_cell.specs.Row.{Row, column_of}
use Rattle.vtl_cell.specs.declared.cell.Cell.{Cell}
use Rattle.vtl_cell.specs.declared.cell.Cell.TheVariants as c
use Rattle.vtl_cell.specs.declared.kind.Kind.{Kind}
use Rattle.vtl_cell.specs.declared.kind.Kind.TheVariants as k
use Rattle.vtl_rows.specs.Tables.{AllFit, column_at, fits}
use Rattle.vtl_rows.specs.declared.column.Column.{Column}
use Rattle.vtl_rows.proofs.Gathers.{cell_fits}
use Rattle.vtl_time.specs.Periods.{YearPart}
use Rattle.vtl_time.specs.declared.periods.Frequency.{Frequency}
use Rattle.vtl_series.specs.declared.extent.Extent.{Extent}
use Rattle.vtl_series.specs.Series.{keys_by, number_of, period_in, rows_by, seen_by, series_rows, some_number, tuple_rows}
use Rattle.vtl_series.proofs.ListLemmas.{all_flat_map}
use Rattle.vtl_series.proofs.WholeLemmas.{all_rows, among_all, spanned}

-- a period is of no other kind
of_periods : (kind : Kind) (q : YearPart) → is_of kind (c.Period q) ≡ true → same_kind kind k.Period ≡ true
of_periods k.Null q e = absurd (true≢false (sym e))
of_periods k.Bool q e = absurd (true≢false (sym e))
of_periods k.Int q e = absurd (true≢false (sym e))
of_periods k.Num q e = absurd (true≢false (sym e))
of_periods k.Text q e = absurd (true≢false (sym e))
of_periods k.Day q e = absurd (true≢false (sym e))
of_periods k.Period q e = refl

not_period : (kind : Kind) (x : Cell) → same_kind kind k.Period ≡ false → is_of kind x ≡ true → period_in x ≡ None
not_period kind c.Null other e = refl
not_period kind (c.Bool x) other e = refl
not_period kind (c.Int x) other e = refl
not_period kind (c.Num x) other e = refl
not_period kind (c.Text x) other e = refl
not_period kind (c.Day x) other e = refl
not_period kind (c.Period q) other e = absurd (true≢false (sym (of_periods kind q e) ∙ other))

-- rows without a period
abbrev AreEmpty : ℕ → List Row → Type 0
AreEmpty on rows = AllByRecursion (λ r. period_in (column_of on r) ≡ None) rows

no_number : (t : ℕ → Bool) (f : Frequency) (on : ℕ) (rows : List Row) → AreEmpty on rows → some_number t f on rows ≡ false
no_number t f on [] all = refl
no_number t f on (r ∷ rows) all = ap (λ q. option_map_or t (number_of f q) false || some_number t f on rows) all.0 ∙ no_number t f on rows all.1

none_left : {X : Type 0} (xs : List X) → AllByRecursion (λ x. false ≡ true) xs → xs ≡ []
none_left [] all = refl
none_left (x ∷ xs) all = absurd (true≢false (sym all.0))

module _ (e : Extent) (on : ℕ) (by : List ℕ) (rows : List Row) where
  not_spanned : AreEmpty on rows → (key : Row) (f : Frequency) (i : ℕ) → spanned e on by rows key f i ≡ true → false ≡ true
  not_spanned all key f i s =
      let own = rows_by by rows key in
      let seen = seen_by e rows own in
      let there = and_parts (some_number (λ j. true) f on own) (some_number (λ j. nat_le j i) f on seen && some_number (λ j. nat_le i j) f on seen) s in
      sym (no_number (λ j. true) f on rows all) ∙ among_all on by rows (λ j. true) f key there.0

  no_rows : AreEmpty on rows → series_rows e on by rows ≡ []
  no_rows all =
      let never : Row → Type 0 = λ r. false ≡ true in
      none_left (series_rows e on by rows)
      (all_flat_map (tuple_rows e on by rows) never (keys_by by rows)
      (all_each (λ key. AllByRecursion never (tuple_rows e on by rows key)) (λ key. all_rows e on by rows never key (λ f i h s. not_spanned all key f i s)) (keys_by by rows)))

  -- nor have rows below a column of another kind
  pub no_series : (columns : List Column) → same_kind (column_at columns on).kind k.Period ≡ false → AllFit columns rows → series_rows e on by rows ≡ []
  no_series columns other fit =
      no_rows (all_more (λ r. fits columns r ≡ true) (λ r. period_in (column_of on r) ≡ None) (λ r h. not_period (column_at columns on).kind (column_of on r) other (cell_fits columns r h on)) rows
      (recursion_from_All (λ r. fits columns r ≡ true) rows fit))
