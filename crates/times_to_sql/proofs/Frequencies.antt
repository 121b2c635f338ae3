-- The time among the columns, and the condition that it has a frequency.
use Rattle.std.proofs.Common.{◌≡◌, ◌+◌, ℕ, zero, suc, Bool, true, false, not, cond, List, [], ◌∷◌, length, filter, Some, None, Ok, refl, ap, sym, ◌∙◌, subst, arith}
use Rattle.std.specs.Prelude.{is_some}
use Rattle.std.specs.List.{position_or_len}
use Rattle.std.proofs.lemmas.Bool.{and_parts}
use Rattle.vtl_lists.proofs.Alls.{all_filtered}
use Rattle.vtl_cell.specs.Kinds.{is_null, is_of, same_kind}
use Rattle.vtl_cell.specs.Outcome.{Outcome, unless}
use Rattle.vtl_cell.specs.Row.{Row, column_of}
use Rattle.vtl_cell.specs.ScalarPeriods.{frequency_of}
use Rattle.vtl_cell.specs.Order.{same_cell}
use Rattle.vtl_cell.specs.ScalarKinds.{meets}
use Rattle.vtl_cell.specs.declared.cell.Cell.{Cell}
use Rattle.vtl_cell.specs.declared.cell.Cell.TheVariants as c
use Rattle.vtl_cell.specs.declared.kind.Kind.{Kind}
use Rattle.vtl_cell.specs.declared.kind.Kind.TheVariants as k
use Rattle.vtl_cell.specs.declared.operator.ScalarOp.TheVariants as op
use Rattle.vtl_decimal.specs.Settings.{Settings}
use Rattle.vtl_time.specs.Periods.{letter_of}
use Rattle.vtl_time.specs.declared.periods.Frequency.{Frequency}
use Rattle.vtl_tree.specs.Columns.{identifiers_of, others_of}
use Rattle.vtl_tree.specs.DataSet.{IsDataSet, is_point}
use Rattle.vtl_tree.specs.Structure.{columns_of, same_role}
use Rattle.vtl_tree.specs.declared.structure.Component.{Component}
use Rattle.vtl_tree.specs.declared.structure.Role.TheVariants as role
use Rattle.vtl_tree.specs.declared.structure.Structure.{Structure}
use Rattle.vtl_meaning.specs.Made.{IsColumnAt}
use Rattle.vtl_meaning.proofs.Kept.{column_front}
use Rattle.vtl_meaning.proofs.OwnColumns.{columns_apart}
use Rattle.vtl_meaning.proofs.Places.{columns_split}
use Rattle.vtl_meaning.proofs.ValueKinds.{cell_is_of}
use Rattle.vtl_timing.specs.Times.{HasTime, is_time, time_of, time_place}
use Rattle.vtl_timing.proofs.ShiftKept.{period_kind}
use Rattle.sql_tree.specs.Formed.{IsExp, IsName}
use Rattle.sql_tree.specs.Trees.{Exp, ItemTree, Text}
use Rattle.sql_check_laws.specs.Fits.{IsCondition}
use Rattle.sql_check_parts.specs.Expressions.{site}
use Rattle.sql_check_parts.specs.Kinds.{given_kind, operator_kind}
use Rattle.sql_check_parts.specs.Scopes.{add_source, found, or_null}
use Rattle.sql_meaning.specs.From.{condition_fault, kept, source_rows}
use Rattle.sql_meaning.specs.Outcomes.{operated}
use Rattle.sql_meaning.specs.Scripts.{Data, base_of, tables_in}
use Rattle.sql_meaning.specs.Values.{at_rows, place_in, value}
use Rattle.expressions_to_sql.specs.Names.{Names}
use Rattle.selects_to_sql.specs.Queries.{first_alias, name_of_first, of_one, select_as, source_as}
use Rattle.selects_to_sql.specs.Runs.{IsTable, printable_depth}
use Rattle.selects_to_sql.specs.Writable.{HaveNames}
use Rattle.selects_to_sql.proofs.Expressions.{Translates}
use Rattle.selects_to_sql.proofs.OneOperand.{known_there, one_from, rows_there}
use Rattle.selects_to_sql.proofs.SelectItems.{IsFrom}
use Rattle.selects_to_sql.proofs.Sources.{one_formed, one_names, one_scope}
use Rattle.selects_to_sql.proofs.Identifiers.{filled_at}
use Rattle.groups_to_sql.proofs.ItemLists.{exactly_kept}
use Rattle.times_to_sql.specs.Flows.{has_frequency, time_name}
use Rattle.times_to_sql.specs.Frequencies.{is_of_frequency}

-- ---- the time

-- the first identifier that holds periods is the column of its name
time_in : (ys : List Component) → length (filter is_time ys) ≡ 1 → IsColumnAt (position_or_len is_time ys) (name_of_first (filter is_time ys)) k.Period ys
time_in [] e = absurd (omega (arith, e))
time_in (y ∷ ys) e = go (is_time y) refl e (time_in ys)
  where
    go : (b : Bool) → is_time y ≡ b → length (cond b (y ∷ filter is_time ys) (filter is_time ys)) ≡ 1 → (length (filter is_time ys) ≡ 1 → IsColumnAt (position_or_len is_time ys) (name_of_first (filter is_time ys)) k.Period ys)
        → IsColumnAt (cond (not b) (1 + position_or_len is_time ys) 0) (name_of_first (cond b (y ∷ filter is_time ys) (filter is_time ys))) k.Period (y ∷ ys)
    go true t e ih = (refl, period_kind y.kind (and_parts (same_role y.role role.Identifier) (same_kind y.kind k.Period) t).1)
    go false t e ih =
        let next : suc (position_or_len is_time ys) ≡ 1 + position_or_len is_time ys = omega arith in
        subst (λ n. IsColumnAt n (name_of_first (filter is_time ys)) k.Period (y ∷ ys)) next (ih e)

-- a period that is there
frequency_text : (p : Settings) (v : Cell) (f : Frequency) → is_of k.Period v ≡ true → is_null v ≡ false
    → operated p k.Bool (operated p k.Text (Ok v ∷ []) op.PeriodFrequency ∷ Ok (c.Text (letter_of f ∷ [])) ∷ []) op.Equal ≡ Ok (c.Bool (same_cell (frequency_of v) (c.Text (letter_of f ∷ []))))
frequency_text p (c.Period q) f h n = refl
frequency_text p v f h n = cc

module _ (a : Structure) (time : HasTime a) where
  pub time_at : IsColumnAt (time_place a) (time_name a) k.Period (columns_of a)
  time_at = subst (IsColumnAt (time_place a) (time_name a) k.Period) (sym (columns_split a)) (column_front (time_place a) (time_name a) k.Period (identifiers_of a) (others_of a) (time_in (identifiers_of a) time))

  -- no time is null
  pub time_filled : (r : Row) → is_point (columns_of a) r ≡ true → is_null (time_of a r) ≡ false
  time_filled r h =
      filled_at (time_place a) (time_name a) k.Period (identifiers_of a) (others_of a) r (all_filtered (λ x. same_role x.role role.Identifier) a.components) (time_in (identifiers_of a) time)
      (subst (λ xs. is_point xs r ≡ true) (columns_split a) h)

-- ---- the condition over a table

module _ (p : Settings) (law : Translates p) (before : Data) (name : Text) (a : Structure) (d : List Row) (there : IsTable before name a d) (named : IsName name) (na : HaveNames (columns_of a)) (set : IsDataSet a d) (time : HasTime a) (f : Frequency) where
  abbrev xs : List Component
  xs = columns_of a

  abbrev condition : Exp
  condition = has_frequency (time_name a) f

  names : Names of_one (one_scope xs) xs
  names = one_names xs (columns_apart a set.well_formed)

  known : or_null (found (one_scope xs) (of_one (time_place a) (time_name a))) ≡ k.Period
  known = ap or_null (names.known (time_place a) (time_name a) k.Period (time_at a time))

  abbrev kinds_with : Kind → Kind
  kinds_with kind = given_kind op.Equal (given_kind op.PeriodFrequency (kind ∷ []) ∷ k.Text ∷ [])

  abbrev value_with : Kind → ℕ → Row → Outcome Cell
  value_with kind place r = operated p (kinds_with kind) (operated p (given_kind op.PeriodFrequency (kind ∷ [])) (Ok (column_of place r) ∷ []) op.PeriodFrequency ∷ Ok (c.Text (letter_of f ∷ [])) ∷ []) op.Equal

  frequency_value : (r : Row) → is_point xs r ≡ true → value (at_rows (base_of p before) (one_scope xs)) condition r [] ≡ Ok (c.Bool (is_of_frequency a f r))
  frequency_value r h =
      ap (λ kind. value_with kind (place_in (one_scope xs) (of_one (time_place a) (time_name a))) r) known
      ∙ ap (λ place. value_with k.Period place r) (names.placed (time_place a) (time_name a) k.Period (time_at a time))
      ∙ frequency_text p (time_of a r) f (cell_is_of (time_place a) (time_name a) k.Period xs r (time_at a time) h) (time_filled a time r h)

  frequency_fits : IsCondition (site p (tables_in before) (one_scope xs)) None condition
  frequency_fits = (
    (((((ap is_some (names.known (time_place a) (time_name a) k.Period (time_at a time)), refl), tt), ap (λ kind. is_some (operator_kind op.PeriodFrequency (kind ∷ []))) known, refl), refl, ap (λ kind. is_some (operator_kind op.Equal (given_kind op.PeriodFrequency (kind ∷ []) ∷ k.Text ∷ []))) known)),
    ap (λ kind. meets k.Bool (kinds_with kind)) known,
  )

  frequency_printed : IsExp printable_depth condition
  frequency_printed = ((refl, (refl, tt, (one_formed xs na (time_place a) (time_name a) k.Period (time_at a time), tt)), tt), omega arith)

  pub frequency_from : (items : List ItemTree) → IsFrom p before (one_scope xs) (select_as items (source_as first_alias name) [] (Some condition))
  frequency_from items = one_from p law before name a d there named set.well_formed na items (Some condition) frequency_fits frequency_printed

  pub frequency_rows : (items : List ItemTree) → source_rows (base_of p before) (select_as items (source_as first_alias name) [] (Some condition)) ≡ Ok (filter (is_of_frequency a f) d)
  frequency_rows items =
      ap (λ t. unless (condition_fault (at_rows (base_of p before) t) (Some condition) ((base_of p before).rows name)) (kept (at_rows (base_of p before) t) (Some condition) ((base_of p before).rows name))) (ap (add_source [] first_alias) (known_there p law before name a d there named set.well_formed na))
      ∙ ap (λ l. unless (condition_fault (at_rows (base_of p before) (one_scope xs)) (Some condition) l) (kept (at_rows (base_of p before) (one_scope xs)) (Some condition) l)) (rows_there p law before name a d there named set.well_formed na)
      ∙ exactly_kept (λ r. is_point xs r ≡ true) (λ r. value (at_rows (base_of p before) (one_scope xs)) condition r []) (is_of_frequency a f) d frequency_value set.typed
