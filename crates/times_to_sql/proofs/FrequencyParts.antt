-- Each point has one of the four frequencies, so the parts of a data set are its points.
use Rattle.std.proofs.Common.{◌≡◌, Bool, true, not, ◌&&◌, cond, List, [], ◌∷◌, ◌++◌, Some, refl, sym, ap, ◌∙◌, subst, true≢false}
use Rattle.std.specs.List.{AllByRecursion, filter, flat_map}
use Rattle.std.proofs.lemmas.Bool.{and_parts}
use Rattle.vtl_lists.specs.Perm.{Perm, chain, empty, keep}
use Rattle.vtl_lists.proofs.Perms.{Perm-append_front, Perm-middle, Perm-same}
use Rattle.vtl_lists.proofs.Sorts.{AllByRecursion-filter}
use Rattle.vtl_lists.proofs.Alls.{all_filtered, all_front}
use Rattle.vtl_cell.specs.Kinds.{is_null, same_kind}
use Rattle.vtl_cell.specs.Order.{same_cell}
use Rattle.vtl_cell.specs.Row.{Row, column_of}
use Rattle.vtl_cell.specs.ScalarPeriods.{frequency_of}
use Rattle.vtl_cell.specs.declared.cell.Cell.{Cell}
use Rattle.vtl_cell.specs.declared.cell.Cell.TheVariants as c
use Rattle.vtl_cell.specs.declared.kind.Kind.{Kind}
use Rattle.vtl_cell.specs.declared.kind.Kind.TheVariants as k
use Rattle.vtl_cell.proofs.Cells.{same_cell-refl}
use Rattle.vtl_series.specs.Series.{frequencies}
use Rattle.vtl_time.specs.Periods.{YearPart, letter_of}
use Rattle.vtl_time.specs.declared.periods.Frequency.{Frequency}
use Rattle.vtl_time.specs.declared.periods.Frequency.TheVariants.{Annual, Semester, Quarter, Month}
use Rattle.vtl_tree.specs.Columns.{identifiers_of, others_of, place_of}
use Rattle.vtl_tree.specs.DataSet.{IsDataSet, is_point}
use Rattle.vtl_tree.specs.Names.{component_of}
use Rattle.vtl_tree.specs.Structure.{IsStructure, columns_of, same_role}
use Rattle.vtl_tree.specs.declared.structure.Component.{Component}
use Rattle.vtl_tree.specs.declared.structure.Role.{Role}
use Rattle.vtl_tree.specs.declared.structure.Role.TheVariants as role
use Rattle.vtl_tree.specs.declared.structure.Structure.{Structure}
use Rattle.vtl_meaning.specs.Points.{with_points}
use Rattle.vtl_meaning.proofs.AnalyticColumns.{columns_found}
use Rattle.vtl_meaning.proofs.GroupKinds.{IsOf}
use Rattle.vtl_meaning.proofs.GroupPoints.{found_cell}
use Rattle.vtl_meaning.proofs.Places.{columns_split}
use Rattle.vtl_timing.specs.Times.{HasTime, is_time, time_of}
use Rattle.vtl_timing.proofs.SeriesColumns.{time_only}
use Rattle.times_to_sql.specs.Frequencies.{is_of_frequency, part_of}
use Rattle.times_to_sql.proofs.SeriesOrders.{some_set, time_column}

-- a period stands where no null may
no_null : (r : Role) → same_role r role.Identifier ≡ true → not (same_role r role.Identifier && true) ≡ true → ⊥
no_null r e h = true≢false (sym h ∙ ap (λ b. not (b && true)) e)

period_there : (r : Role) (kind : Kind) (v : Cell) → same_role r role.Identifier ≡ true → same_kind kind k.Period ≡ true → IsOf kind v → not (same_role r role.Identifier && is_null v) ≡ true → (q : YearPart) × (v ≡ c.Period q)
period_there r k.Period (c.Period q) e s h n = (q, refl)
period_there r k.Period c.Null e s h n = absurd (no_null r e n)
period_there r k.Period v e s h n = cc
period_there r kind v e s h n = cc

-- whether the letter of one frequency is that of another
abbrev is_letter : Frequency → Frequency → Bool
is_letter g f = same_cell (c.Text (letter_of g ∷ [])) (c.Text (letter_of f ∷ []))

module _ (a : Structure) (well : IsStructure a) (time : HasTime a) where
  abbrev xs : List Component
  xs = columns_of a

  abbrev t : Component
  t = (time_only a time).item

  found : component_of t.name xs ≡ Some t
  found =
      let P : Component → Type 0 = λ y. component_of y.name xs ≡ Some y in
      (subst (AllByRecursion P) (time_only a time).only (AllByRecursion-filter P is_time (identifiers_of a) (all_front P (identifiers_of a) (others_of a) (subst (AllByRecursion P) (columns_split a) (columns_found a well))))).0

  -- the time of a point is a period
  pub period_is : (r : Row) → is_point xs r ≡ true → (q : YearPart) × (time_of a r ≡ c.Period q)
  period_is r h =
      let is = (subst (AllByRecursion (λ y. is_time y ≡ true)) (time_only a time).only (all_filtered is_time (identifiers_of a))).0 in
      let parts = and_parts (same_role t.role role.Identifier) (same_kind t.kind k.Period) is in
      let cell = found_cell t.name t xs r found h in
      let period = period_there t.role t.kind (column_of (place_of t.name xs) r) parts.0 parts.1 cell.0 cell.1 in
      (period.0, sym (time_column a well time r h) ∙ period.1)

  own_letter : (f : Frequency) → is_letter f f ≡ true
  own_letter f = same_cell-refl (c.Text (letter_of f ∷ []))

  pub frequency_is : (r : Row) → is_point xs r ≡ true → (f : Frequency) × (is_of_frequency a f r ≡ true)
  frequency_is r h =
      let q = period_is r h in
      (q.0.frequency, ap (λ v. same_cell (frequency_of v) (c.Text (letter_of q.0.frequency ∷ []))) q.1 ∙ own_letter q.0.frequency)

  abbrev those : Frequency → List Row → List Row
  those f us = filter (is_of_frequency a f) us

  abbrev all_parts : List Row → List Row
  all_parts us = flat_map (λ f. those f us) frequencies

  module _ (r : Row) (us : List Row) where
    abbrev kept : Frequency → Frequency → List Row
    kept g f = cond (is_letter g f) (r ∷ those f us) (those f us)

    split : (g : Frequency) → ((f : Frequency) → is_of_frequency a f r ≡ is_letter g f) → all_parts (r ∷ us) ≡ kept g Annual ++ (kept g Semester ++ (kept g Quarter ++ (kept g Month ++ [])))
    split g e = λ i.
        cond (e Annual i) (r ∷ those Annual us) (those Annual us)
        ++ (cond (e Semester i) (r ∷ those Semester us) (those Semester us)
        ++ (cond (e Quarter i) (r ∷ those Quarter us) (those Quarter us)
        ++ (cond (e Month i) (r ∷ those Month us) (those Month us) ++ [])))

    -- a point goes to the front of the parts
    to_front : (g : Frequency) → Perm (kept g Annual ++ (kept g Semester ++ (kept g Quarter ++ (kept g Month ++ [])))) (r ∷ all_parts us)
    to_front Annual = Perm-same (r ∷ all_parts us) (r ∷ all_parts us) refl
    to_front Semester = Perm-middle (those Annual us) r (those Semester us ++ (those Quarter us ++ (those Month us ++ [])))
    to_front Quarter =
        chain (Perm-append_front (those Annual us) (Perm-middle (those Semester us) r (those Quarter us ++ (those Month us ++ []))))
        (Perm-middle (those Annual us) r (those Semester us ++ (those Quarter us ++ (those Month us ++ []))))
    to_front Month =
        chain (Perm-append_front (those Annual us) (chain (Perm-append_front (those Semester us) (Perm-middle (those Quarter us) r (those Month us ++ []))) (Perm-middle (those Semester us) r (those Quarter us ++ (those Month us ++ [])))))
        (Perm-middle (those Annual us) r (those Semester us ++ (those Quarter us ++ (those Month us ++ []))))

  perm_of : (us : List Row) → AllByRecursion (λ r. is_point xs r ≡ true) us → Perm (all_parts us) us
  perm_of [] all = empty
  perm_of (r ∷ us) all =
      let q = period_is r all.0 in
      chain (Perm-same (all_parts (r ∷ us)) _ (split r us q.0.frequency (λ f. ap (λ v. same_cell (frequency_of v) (c.Text (letter_of f ∷ []))) q.1)))
      (chain (to_front r us q.0.frequency) (keep r (perm_of us all.1)))

  pub parts_are : (us : List Row) → IsDataSet a us → Perm (flat_map (λ f. (part_of f (with_points a us)).points) frequencies) us
  parts_are us h = perm_of us h.typed

pub part_set : (a : Structure) (us : List Row) → IsDataSet a us → (f : Frequency) → IsDataSet a (part_of f (with_points a us)).points
part_set a us h f = some_set a us h (is_of_frequency a f)
