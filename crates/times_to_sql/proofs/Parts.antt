-- The table of the totals or of the previous values: an analytic operator along the series of each frequency.
use Rattle.std.proofs.Common.{◌≡◌, ◌≤◌, ◌-◌, ◌^◌, ◌&&◌, pos, Bool, true, false, not, cond, List, [], ◌∷◌, ◌++◌, length, map, filter, Some, None, Ok, Err, refl, ap, sym, ◌∙◌, subst, arith}
use Rattle.std.specs.Prelude.{◌==◌, IsOk, unwrap_or}
use Rattle.std.specs.List.{AllByRecursion}
use Rattle.std.proofs.Math.Nat.{pow-le-pow_right}
use Rattle.std.proofs.lemmas.Bool.{lt-ltb}
use Rattle.std.proofs.lemmas.List.{length-map}
use Rattle.vtl_lists.proofs.Aparts.{all_apart-filter}
use Rattle.vtl_lists.proofs.Sorts.{AllByRecursion-filter, AllByRecursion-map}
use Rattle.vtl_lists.proofs.Alls.{all_more}
use Rattle.vtl_cell.specs.AggregateKinds.{is_number}
use Rattle.vtl_cell.specs.Held.{IsHeld}
use Rattle.vtl_cell.specs.Literals.{is_null_kind}
use Rattle.vtl_cell.specs.Outcome.{Outcome}
use Rattle.vtl_cell.specs.Profile.{IsOfProfile}
use Rattle.vtl_cell.specs.Row.{Row, same_key}
use Rattle.vtl_cell.specs.declared.kind.Kind.{Kind}
use Rattle.vtl_cell.specs.declared.kind.Kind.TheVariants as k
use Rattle.vtl_decimal.specs.Settings.{Settings}
use Rattle.vtl_decimal.specs.declared.number.Fault.TheVariants.{Range}
use Rattle.vtl_time.specs.declared.periods.Frequency.{Frequency}
use Rattle.vtl_time.specs.declared.periods.Frequency.TheVariants as frequency
use Rattle.vtl_tree.specs.Choices.{chosen}
use Rattle.vtl_tree.specs.Columns.{identifiers_of, place_of}
use Rattle.vtl_tree.specs.DataSet.{IsDataSet, is_point}
use Rattle.vtl_tree.specs.Kinds.{given_kind}
use Rattle.vtl_tree.specs.Measures.{given_measure, made, measures}
use Rattle.vtl_tree.specs.Structure.{columns_of, key_width}
use Rattle.vtl_tree.specs.Times.{flow_gives}
use Rattle.vtl_tree.specs.declared.calls.AnalyticOp.{AnalyticOp}
use Rattle.vtl_tree.specs.declared.choices.Choice.TheVariants as choice
use Rattle.vtl_tree.specs.declared.structure.Component.{Component}
use Rattle.vtl_tree.specs.declared.structure.Role.TheVariants as role
use Rattle.vtl_tree.specs.declared.structure.Structure.{Structure}
use Rattle.vtl_meaning.specs.AnalyticShapes.{IsAnalyzed, IsTypedAnalytic, default_in, of_measure, takes}
use Rattle.vtl_meaning.specs.Analytics.{analytic_of}
use Rattle.vtl_meaning.specs.Made.{IsColumnAt, IsNamedColumn, IsWindowed, is_suited}
use Rattle.vtl_meaning.specs.Points.{with_points}
use Rattle.vtl_meaning.specs.Reaches.{AreNear}
use Rattle.vtl_meaning.proofs.AnalyticShaped.{fits}
use Rattle.selects_to_sql.proofs.Identifiers.{IsIdentifierAt, own_there}
use Rattle.vtl_timing.specs.TimeShapes.{IsFlowed}
use Rattle.vtl_timing.specs.Times.{HasTime, is_time, other_identifiers}
use Rattle.sql_tree.specs.Formed.{IsName}
use Rattle.sql_tree.specs.Trees.{Text}
use Rattle.sql_meaning.specs.Scripts.{Data}
use Rattle.selects_to_sql.specs.Queries.{first_alias, source_as}
use Rattle.selects_to_sql.specs.Runs.{IsTable}
use Rattle.selects_to_sql.specs.Writable.{HaveNames}
use Rattle.selects_to_sql.proofs.Exact.{IsExactly}
use Rattle.selects_to_sql.proofs.Expressions.{Translates}
use Rattle.selects_to_sql.proofs.Givens.{AreGiven}
use Rattle.selects_to_sql.proofs.SelectItems.{GivesRows}
use Rattle.selects_to_sql.proofs.Unions.{union_exactly}
use Rattle.groups_to_sql.specs.WindowItems.{analytic_items}
use Rattle.groups_to_sql.proofs.Windowed.{analytic_gives}
use Rattle.times_to_sql.specs.Flows.{along_series, has_frequency, part_select, parts_query, previous_value, time_name, total}
use Rattle.times_to_sql.specs.Frequencies.{is_of_frequency, part_of, series_window, time_key, within_frequencies}
use Rattle.times_to_sql.proofs.FlowColumns.{IsKept, kept_kinds}
use Rattle.times_to_sql.proofs.Frequencies.{frequency_from, frequency_rows}

-- ---- operators along series

-- the operator keeps the kind of numbers, and can be written
pub record IsAlong (p : Settings) (o : AnalyticOp) : Type 0 where
  pub keeps : (kind : Kind) → is_number kind ≡ true → is_null_kind kind ≡ false → (takes o kind ≡ true) × (given_kind o kind ≡ kind)
  pub suited : (a : Structure) → HasTime a → is_suited o (series_window a) ≡ true
  pub near : (a : Structure) → AreNear (along_series o a)
  pub proper : IsOfProfile p (default_in o)
  pub held : IsHeld (default_in o)

ordered : (a : Structure) → HasTime a → not (length (map time_key (filter is_time (identifiers_of a))) == 0) ≡ true
ordered a time = ap (λ n. not (n == 0)) (length-map (filter is_time (identifiers_of a)) time_key ∙ time)

pub total_along : (p : Settings) → IsAlong p total
total_along p = record {
  keeps = λ kind n some. go kind n some;
  suited = λ a time. refl;
  near = λ a. record { offset = refl; frame = refl };
  proper = tt;
  held = tt;
}
  where
    go : (kind : Kind) → is_number kind ≡ true → is_null_kind kind ≡ false → (takes total kind ≡ true) × (given_kind total kind ≡ kind)
    go k.Int n some = (refl, refl)
    go k.Num n some = (refl, refl)
    go k.Null n some = cc
    go kind n some = cc

pub previous_along : (p : Settings) → p.scale ≤ 9 → IsAlong p previous_value
previous_along p low = record {
  keeps = λ kind n some. go kind n some;
  suited = λ a time. ap (λ b. b && true) (ordered a time);
  near = λ a. record { offset = refl; frame = refl };
  proper = subst (λ b. IsOk (cond b (Ok (pos 0)) (Err Range))) (sym (lt-ltb 0 (10 ^ (18 - p.scale)) (omega (arith, pow-le-pow_right {n = 10} (omega arith) {i = 0} {j = 18 - p.scale} (omega arith))))) refl;
  held = omega arith;
}
  where
    go : (kind : Kind) → is_number kind ≡ true → is_null_kind kind ≡ false → (takes previous_value kind ≡ true) × (given_kind previous_value kind ≡ kind)
    go k.Int n some = (refl, refl)
    go k.Num n some = (refl, refl)
    go k.Null n some = cc
    go kind n some = cc

-- ---- the structure of the result

module _ (a s : Structure) (i : IsFlowed a s) (given : AreGiven (columns_of s)) where
  module _ (p : Settings) (o : AnalyticOp) (along : IsAlong p o) where
    measure_same : (x : Component) → IsKept x → given_measure flow_gives None x ≡ given_measure (of_measure o) None x
    measure_same x h =
        let it = along.keeps x.kind h.0 h.1 in
        ap (λ b. made x.name role.Measure (unwrap_or (cond b (Some x.kind) None) x.kind)) h.0
        ∙ ap (λ kind. made x.name role.Measure kind) (sym it.1)
        ∙ sym (ap (λ b. made x.name role.Measure (unwrap_or (cond b (Some (given_kind o x.kind)) None) x.kind)) it.0)

    measures_same : (ms : List Component) → AllByRecursion IsKept ms → map (given_measure flow_gives None) ms ≡ map (given_measure (of_measure o) None) ms
    measures_same [] all = refl
    measures_same (m ∷ ms) all = λ j. measure_same m all.0 j ∷ measures_same ms all.1 j

    typed_along : IsTypedAnalytic p (along_series o a) a s
    typed_along = record {
      operand = i.operand;
      well_formed = i.well_formed;
      taken = (all_more IsKept (λ x. takes o x.kind ≡ true) (λ x h. (along.keeps x.kind h.0 h.1).0) (measures a.components) (kept_kinds a s i given), along.proper);
      shape = i.shape ∙ ap (λ l. chosen choice.Except [] a.components ++ l) (measures_same (measures a.components) (kept_kinds a s i given));
    }

    pub along_analyzed : IsAnalyzed p (along_series o a) a s
    along_analyzed = fits p (along_series o a) a s typed_along

    named_all : (P : Component → Bool) → AllByRecursion (λ x. IsNamedColumn (columns_of a) x.name) (filter P (identifiers_of a))
    named_all P =
        AllByRecursion-filter (λ x. IsNamedColumn (columns_of a) x.name) P (identifiers_of a)
        (all_more (λ x. IsIdentifierAt x.name x.kind (columns_of a)) (λ x. IsNamedColumn (columns_of a) x.name) (λ x h. subst (λ kind. IsColumnAt (place_of x.name (columns_of a)) x.name kind (columns_of a)) (sym h.named) h.column) (identifiers_of a) (own_there a i.operand))

    pub along_windowed : IsWindowed p (along_series o a) a s
    along_windowed = record {
      analyzed = along_analyzed;
      values = record {
        partition = AllByRecursion-map (λ x. x.name) (IsNamedColumn (columns_of a)) (other_identifiers a) (named_all (λ x. not (is_time x)));
        order = AllByRecursion-map time_key (λ key. IsNamedColumn (columns_of a) key.component) (filter is_time (identifiers_of a)) (named_all is_time);
        suited = along.suited a i.time;
      };
    }

-- ---- the points of a frequency

pub part_is_set : (a : Structure) (d : List Row) (f : Frequency) → IsDataSet a d → IsDataSet a (filter (is_of_frequency a f) d)
part_is_set a d f set = record {
  well_formed = set.well_formed;
  typed = AllByRecursion-filter (λ r. is_point (columns_of a) r ≡ true) (is_of_frequency a f) d set.typed;
  distinct = all_apart-filter (same_key (key_width a)) (is_of_frequency a f) d set.distinct;
}

-- ---- the query

module _ (p : Settings) (law : Translates p) (before : Data) (name : Text) (a s : Structure) (d : List Row) (there : IsTable before name a d) (named : IsName name) (na : HaveNames (columns_of a)) (set : IsDataSet a d) (o : AnalyticOp) (along : IsAlong p o) (i : IsFlowed a s) (given : AreGiven (columns_of s)) where
  part_gives : (f : Frequency) → GivesRows p before s (part_select p (along_series o a) (time_name a) a s name f) (analytic_of p (along_series o a) (part_of f (with_points a d)) s)
  part_gives f =
      let spec = along_series o a in
      let items = analytic_items p spec a (columns_of s) in
      analytic_gives p law before a s (filter (is_of_frequency a f) d) na (part_is_set a d f set) spec (along_windowed a s i given p o along) (along.near a) along.held given (source_as first_alias name) (Some (has_frequency (time_name a) f))
      (frequency_from p law before name a d there named na set i.time f items) (frequency_rows p law before name a d there named na set i.time f items)

  pub parts_mean : IsExactly p before (parts_query p o a s name) s (within_frequencies p o (with_points a d) s)
  parts_mean =
      let spec = along_series o a in
      let select = part_select p spec (time_name a) a s name in
      let rows : Frequency → Outcome (List Row) = λ f. analytic_of p spec (part_of f (with_points a d)) s in
      union_exactly p before s given (select frequency.Annual) (select frequency.Semester ∷ select frequency.Quarter ∷ select frequency.Month ∷ []) (rows frequency.Annual) (rows frequency.Semester ∷ rows frequency.Quarter ∷ rows frequency.Month ∷ [])
      (part_gives frequency.Annual, (part_gives frequency.Semester, (part_gives frequency.Quarter, (part_gives frequency.Month, tt))))
