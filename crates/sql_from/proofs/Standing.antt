-- What one source more stands for.
use Rattle.std.proofs.Common.{◌≡◌, ℕ, suc, true, ◌+◌, ◌-◌, ◌<◌, List, [], ◌∷◌, ◌++◌, cond, map, length, Option, Some, None, Ok, Err, IsSome, refl, sym, ap, ◌∙◌, subst, length-append, arith}
use Rattle.std.specs.Borrow.{Bor}
use Rattle.std.specs.List.{AllByRecursion, filter}
use Rattle.std.specs.Prelude.{fold}
use Rattle.std.specs.Option.{option_map}
use Rattle.std.proofs.lemmas.List.{length-map, map-append}
use Rattle.vtl_lists.proofs.Sorts.{AllByRecursion-filter}
use Rattle.vtl_decimal.specs.declared.number.Fault.TheVariants.{DivZero, Range}
use Rattle.vtl_decimal.specs.declared.number.Fault.{Fault}
use Rattle.vtl_cell.specs.Outcome.{Outcome, fault_in, faults_by, join, unless}
use Rattle.vtl_cell.specs.Outcomes.{is_true}
use Rattle.vtl_cell.specs.Row.{Row}
use Rattle.vtl_decimal.specs.Settings.{Settings}
use Rattle.vtl_cell.specs.declared.cell.Cell.{Cell}
use Rattle.vtl_cell.specs.declared.cell.Cell.TheVariants.{Null}
use Rattle.vtl_rows.specs.Named.{NamedTables, table_of}
use Rattle.vtl_rows.specs.Gathered.{part_at}
use Rattle.vtl_rows.specs.Tables.{Listed}
use Rattle.vtl_scalar.specs.Answers.{AnswersBy}
use Rattle.vtl_scalar.specs.declared.error.ScalarErr.{ScalarErr}
use Rattle.vtl_scalar.specs.declared.error.ScalarErr.TheVariants as err
use Rattle.sql_tree.specs.Trees as tree
use Rattle.sql_tree.specs.Trees.{Exp, JoinTree, SelectTree, Text}
use Rattle.sql_tree.specs.declared.parts.Source.{Source}
use Rattle.sql_tree.specs.declared.word_groups.JoinKind.{JoinKind}
use Rattle.sql_check_parts.specs.Queries.{join_source, joined_scope}
use Rattle.sql_check_parts.specs.Scopes.{Columns, row_of, with_source}
use Rattle.sql_check_laws.specs.Selects.{AreJoinsTyped, IsSourceTyped}
use Rattle.sql_meaning.specs.Profiles.{IsLawful}
use Rattle.sql_meaning.specs.From.{Joined, first_of, joined_rows, kept_of, pairs, with_join}
use Rattle.sql_meaning.specs.Plans.{early_at, planned_joins, try_early}
use Rattle.sql_meaning.specs.Tables.{Base, column_entry, columns_given}
use Rattle.sql_meaning.specs.Values.{View, at_rows, value}
use Rattle.sql_meaning.specs.declared.plan.Early.{Early}
use Rattle.sql_meaning.proofs.SourceKinds.{source_added}
use Rattle.sql_meaning.proofs.UpToOrder.{join_assoc, join_none}
use Rattle.sql_meaning.proofs.UnionParts.{faults_mapped}
use Rattle.sql_from.specs.Conditions.{all_of, conditions_at, due_at, filtered, kind_of, on_of}
use Rattle.sql_from.specs.Held.{base_held, columns_held, tables_held}
use Rattle.sql_from.specs.Joins.{crossed_tuples, joined_tuples, kept_fault, kept_tuples, marks_of, numbers_to, pairs_fault, singles}
use Rattle.sql_from.specs.Keys.{last_of as last_source}
use Rattle.sql_from.specs.Rows.{combined, width_of}
use Rattle.vtl_scalar.specs.Seen.{answer_of}
use Rattle.sql_from.specs.Sources.{IsWide, Sourced, parts_of, scope_held, table_given}
use Rattle.sql_from.specs.Standing.{MayLookUp, StandsFor, condition_at, rows_for, sight_of}
use Rattle.sql_from.specs.Steps.{is_listed}
use Rattle.sql_from.specs.Tuples.{Numbered}
use Rattle.sql_from.proofs.Marks.{other_number, same_number}
use Rattle.sql_from.proofs.Means.{cross_means, crossed_wide, joined_wide, kept_means, marks_many, single_rows, singles_wide, step_faults, step_means}
use Rattle.sql_from.proofs.Parted.{get_behind}
use Rattle.sql_from.proofs.GivenTables.{source_columns_are, source_rows_are}
use Rattle.sql_from.proofs.Sited.{row_wide}
use Rattle.sql_from.proofs.Turns.{all_kept, fault_in_turn, joined_none, joined_one, kept_in_turn, no_fault_kept, pairs_none, pairs_one}

last_of : {X : Type 0} (P : X → Type 0) (xs : List X) (x : X) → AllByRecursion P (xs ++ x ∷ []) → P x
last_of P [] x all = all.0
last_of P (y ∷ xs) x all = last_of P xs x all.1

-- ---- the table of a source

abbrev pub with_table : Sourced → Source → Sourced
with_table s source = record { held = s.held; sources = s.sources ++ (source.alias, table_given s.held source) ∷ [] }

module _ (s : Sourced) (source : Source) (typed : IsSourceTyped (tables_held s.held) (scope_held s.sources) source) where
  abbrev table : Listed
  table = table_given s.held source

  abbrev next : Sourced
  next = with_table s source

  pub parts_more : parts_of next.sources ≡ parts_of s.sources ++ table ∷ []
  parts_more = map-append (λ u. u.1) s.sources ((source.alias, table) ∷ [])

  last_table : last_source next ≡ table
  last_table =
      let many = length-map s.sources (λ u. u.1) in
      let one = length-append s.sources ((source.alias, table) ∷ []) in
      let n : length next.sources - 1 ≡ length (parts_of s.sources) = omega (arith, many, one) in
      (λ i. part_at (parts_more i) (n i)) ∙ get_behind (parts_of s.sources) table [] (record { columns = []; rows = [] })

  pub last_counted : length (last_source next).rows ≡ length table.rows
  last_counted = ap (λ t. length t.rows) last_table

  columns_found : columns_given (tables_held s.held) source ≡ columns_held table
  columns_found = source_columns_are s.held source typed.0 typed.2

  pub columns_count : length (columns_given (tables_held s.held) source) ≡ length table.columns
  columns_count = ap length columns_found ∙ length-map table.columns column_entry

  pub scope_more : scope_held next.sources ≡ with_source (tables_held s.held) (scope_held s.sources) source
  scope_more =
      map-append (λ (t : Text × Listed). (t.0, columns_held t.1)) s.sources ((source.alias, table) ∷ [])
      ∙ ap (λ (cs : Columns). scope_held s.sources ++ (source.alias, cs) ∷ []) (sym columns_found)
      ∙ sym (source_added (tables_held s.held) (scope_held s.sources) source typed).1

  module _ (p : Settings) (t : Numbered) (seen : Option Fault) (f : Joined) (before : StandsFor f s t seen) (wide : AllByRecursion IsWide (parts_of next.sources)) where
    abbrev ts : List Listed
    ts = parts_of s.sources

    many : length ts ≡ length s.sources
    many = length-map s.sources (λ u. u.1)

    one_more : length next.sources ≡ length s.sources + 1
    one_more = length-append s.sources ((source.alias, table) ∷ [])

    table_wide : IsWide table
    table_wide = last_of IsWide ts table (subst (AllByRecursion IsWide) parts_more wide)

    whole_parts : AllByRecursion (λ x. length x ≡ length ts) t.tuples
    whole_parts = subst (λ n. AllByRecursion (λ x. length x ≡ n) t.tuples) (sym many) before.whole

    scope_is : scope_held next.sources ≡ with_source (tables_held s.held) f.scope source
    scope_is = scope_more ∙ ap (λ scope. with_source (tables_held s.held) scope source) before.scope

    -- the row of a missing part has as many cells as those of the sources before
    width_is : width_of ts ≡ length (row_of f.scope)
    width_is = sym (row_wide s.sources) ∙ ap (λ scope. length (row_of scope)) before.scope

    module _ (count : ℕ) (count_is : count ≡ length table.rows) where
      pub on_stands : (kind : JoinKind) (e : Exp) (marks : List ℕ) (t' : Numbered) (seen' : Option Fault) → marks ≡ marks_of ts → t'.width ≡ t.width + 1
          → t'.tuples ≡ joined_tuples kind (condition_at p next e) marks count t.tuples → seen' ≡ join seen (pairs_fault (condition_at p next e) count t.tuples)
          → StandsFor (with_join (base_held p s.held) f (tree.on kind source e)) next t' seen'
      on_stands kind e marks t' seen' m w is fault =
          let b = base_held p s.held in
          let v : Row → Outcome Cell = λ r. value (sight_of p next) e r [] in
          let many_marks : length marks ≡ length s.sources = ap length m ∙ marks_many ts ∙ many in
          record {
            scope = scope_is;
            width = w ∙ ap (λ n. n + 1) before.width ∙ sym one_more;
            whole = subst (λ n. AllByRecursion (λ x. length x ≡ n) t'.tuples) (sym one_more) (subst (λ xs. AllByRecursion (λ x. length x ≡ length s.sources + 1) xs) (sym is) (joined_wide kind (condition_at p next e) marks count (length s.sources) t.tuples many_marks before.whole));
            wide = wide;
            rows =
                ap (map (combined (parts_of next.sources))) is
                ∙ (λ i. map (combined (parts_more i)) (joined_tuples kind (λ x. v (combined (parts_more i) x)) (m i) (count_is i) t.tuples))
                ∙ step_means ts table table_wide v kind t.tuples whole_parts
                ∙ (λ i. joined_rows kind (λ r. is_true (value (at_rows b (scope_is i)) e r [])) (width_is i) (sym columns_count i) (before.rows i) (sym (source_rows_are p s.held source) i));
            fault =
                fault ∙ (λ i. join (before.fault i)
                ((ap (λ (us : List Listed). pairs_fault (λ x. v (combined us x)) count t.tuples) parts_more ∙ ap (λ n. pairs_fault (λ x. v (combined (ts ++ table ∷ []) x)) n t.tuples) count_is
                ∙ step_faults ts table table_wide v t.tuples whole_parts
                ∙ (λ j. faults_by (λ r. fault_in (value (at_rows b (scope_is j)) e r [])) (pairs (before.rows j) (sym (source_rows_are p s.held source) j)))) i));
          }

      pub cross_stands : (t' : Numbered) (seen' : Option Fault) → t'.width ≡ t.width + 1 → t'.tuples ≡ crossed_tuples count t.tuples → seen' ≡ seen → StandsFor (with_join (base_held p s.held) f (tree.cross source)) next t' seen'
      cross_stands t' seen' w is same =
          let v : Row → Outcome Cell = λ r. Ok Null in
          record {
            scope = scope_is;
            width = w ∙ ap (λ n. n + 1) before.width ∙ sym one_more;
            whole = subst (λ n. AllByRecursion (λ x. length x ≡ n) t'.tuples) (sym one_more) (subst (λ xs. AllByRecursion (λ x. length x ≡ length s.sources + 1) xs) (sym is) (crossed_wide count (length s.sources) t.tuples before.whole));
            wide = wide;
            rows =
                ap (map (combined (parts_of next.sources))) is
                ∙ (λ i. map (combined (parts_more i)) (crossed_tuples (count_is i) t.tuples))
                ∙ cross_means ts table table_wide v t.tuples whole_parts
                ∙ (λ i. pairs (before.rows i) (sym (source_rows_are p s.held source) i));
            fault = same ∙ before.fault;
          }

-- ---- the first source

pub first_stands : (p : Settings) (held : NamedTables) (source : Source) (t : Numbered) (s : Sourced) (count : ℕ) → IsSourceTyped (tables_held held) [] source → s ≡ with_table (record { held = held; sources = [] }) source → AllByRecursion IsWide (parts_of s.sources)
    → count ≡ length (table_given held source).rows → t.width ≡ 1 → t.tuples ≡ singles count → StandsFor (first_of (base_held p held) source) s t None
first_stands p held source t s count typed is wide counted w tuples =
    let none : Sourced = record { held = held; sources = [] } in
    let u = table_given held source in
    let all : AllByRecursion IsWide (u ∷ []) = subst (λ (z : Sourced). AllByRecursion IsWide (parts_of z.sources)) is wide in
    subst (λ (z : Sourced). StandsFor (first_of (base_held p held) source) z t None) (sym is) (record {
      scope = scope_more none source typed;
      width = w;
      whole = subst (λ xs. AllByRecursion (λ x. length x ≡ 1) xs) (sym tuples) (singles_wide (numbers_to count));
      wide = all;
      rows = ap (map (combined (u ∷ []))) (tuples ∙ ap singles counted) ∙ single_rows u all.0 ∙ sym (source_rows_are p held source);
      fault = refl;
    })

-- ---- WHERE, and a part of it that is tried early

module _ (p : Settings) (s : Sourced) (t : Numbered) (seen : Option Fault) (f : Joined) (before : StandsFor f s t seen) where
  pub tried_stands : (e : Exp) (t' : Numbered) (seen' : Option Fault) → t'.width ≡ t.width → t'.tuples ≡ kept_tuples (condition_at p s e) t.tuples → seen' ≡ join seen (kept_fault (condition_at p s e) t.tuples) → StandsFor (try_early (sight_of p s) f e) s t' seen'
  tried_stands e t' seen' w is fault =
      let v : Row → Outcome Cell = λ r. value (sight_of p s) e r [] in
      let h = combined (parts_of s.sources) in
      record {
        scope = before.scope;
        width = w ∙ before.width;
        whole = subst (AllByRecursion (λ x. length x ≡ length s.sources)) (sym is) (AllByRecursion-filter (λ x. length x ≡ length s.sources) (λ x. is_true (condition_at p s e x)) t.tuples before.whole);
        wide = before.wide;
        rows = ap (map h) is ∙ kept_means h v t.tuples ∙ ap (filter (λ r. is_true (v r))) before.rows;
        fault = fault ∙ (λ i. join (before.fault i) (faults_mapped (λ r. fault_in (v r)) h t.tuples i)) ∙ ap (λ rows. join f.fault (faults_by (λ r. fault_in (v r)) rows)) before.rows;
      }

-- the same tuples and the same fault
same_stands : (f : Joined) (s : Sourced) (t t' : Numbered) (seen seen' : Option Fault) → StandsFor f s t seen → t'.width ≡ t.width → t'.tuples ≡ t.tuples → seen' ≡ seen → StandsFor f s t' seen'
same_stands f s t t' seen seen' before w is fault = record {
  scope = before.scope;
  width = w ∙ before.width;
  whole = subst (AllByRecursion (λ x. length x ≡ length s.sources)) (sym is) before.whole;
  wide = before.wide;
  rows = ap (map (combined (parts_of s.sources))) is ∙ before.rows;
  fault = fault ∙ before.fault;
}

-- parts that are tried in turn
pub all_tried : (p : Settings) (s : Sourced) (es : List Exp) (t : Numbered) (seen : Option Fault) (f : Joined) → StandsFor f s t seen → (t' : Numbered) (seen' : Option Fault) → t'.width ≡ t.width
    → t'.tuples ≡ kept_tuples (conditions_at p s es) t.tuples → seen' ≡ join seen (kept_fault (conditions_at p s es) t.tuples) → StandsFor (fold (try_early (sight_of p s)) f es) s t' seen'
all_tried p s [] t seen f before t' seen' w is fault = same_stands f s t t' seen seen' before w (is ∙ all_kept t.tuples) (fault ∙ ap (join seen) (no_fault_kept t.tuples) ∙ join_none seen)
all_tried p s (e ∷ es) t seen f before t' seen' w is fault =
    let here = condition_at p s e in
    let rest = conditions_at p s es in
    let kept : Numbered = record { width = t.width; tuples = kept_tuples here t.tuples } in
    let tried : StandsFor (try_early (sight_of p s) f e) s kept (join seen (kept_fault here t.tuples)) = tried_stands p s t seen f before e kept (join seen (kept_fault here t.tuples)) refl refl refl in
    all_tried p s es kept (join seen (kept_fault here t.tuples)) (try_early (sight_of p s) f e) tried t' seen' w
    (is ∙ kept_in_turn here (map (condition_at p s) es) t.tuples)
    (fault ∙ ap (join seen) (fault_in_turn here (map (condition_at p s) es) t.tuples) ∙ sym (join_assoc seen (kept_fault here t.tuples) (kept_fault rest kept.tuples)))

-- ---- a join, and what is tried on its tuples

pub join_stands : (s : Sourced) (j : JoinTree) (typed : IsSourceTyped (tables_held s.held) (scope_held s.sources) (join_source j)) (p : Settings) (t : Numbered) (seen : Option Fault) (f : Joined) → StandsFor f s t seen
    → AllByRecursion IsWide (parts_of (with_table s (join_source j)).sources) → (count : ℕ) → count ≡ length (table_given s.held (join_source j)).rows → (marks : List ℕ) (t' : Numbered) (seen' : Option Fault) → marks ≡ marks_of (parts_of s.sources) → t'.width ≡ t.width + 1
    → t'.tuples ≡ joined_tuples (kind_of j) (conditions_at p (with_table s (join_source j)) (on_of j)) marks count t.tuples → seen' ≡ join seen (pairs_fault (conditions_at p (with_table s (join_source j)) (on_of j)) count t.tuples)
    → StandsFor (with_join (base_held p s.held) f j) (with_table s (join_source j)) t' seen'
join_stands s (tree.on kind source e) typed p t seen f before wide count counted marks t' seen' m w is fault =
    let on = condition_at p (with_table s source) e in
    on_stands s source typed p t seen f before wide count counted kind e marks t' seen' m w (is ∙ joined_one kind on marks count t.tuples) (fault ∙ ap (join seen) (pairs_one on count t.tuples))
join_stands s (tree.cross source) typed p t seen f before wide count counted marks t' seen' m w is fault =
    cross_stands s source typed p t seen f before wide count counted t' seen' w (is ∙ joined_none marks count t.tuples) (fault ∙ ap (join seen) (pairs_none count t.tuples) ∙ join_none seen)

module _ (s : Sourced) (j : JoinTree) (typed : IsSourceTyped (tables_held s.held) (scope_held s.sources) (join_source j)) (p : Settings) (t : Numbered) (seen : Option Fault) (f : Joined) (before : StandsFor f s t seen) where
  -- the tuples of the join, over these sources
  abbrev pub joined_over : Sourced → List ℕ → List (List ℕ)
  joined_over z marks = joined_tuples (kind_of j) (conditions_at p z (on_of j)) marks (length (last_source z).rows) t.tuples

  abbrev pub fault_over : Sourced → Option Fault
  fault_over z = pairs_fault (conditions_at p z (on_of j)) (length (last_source z).rows) t.tuples

  abbrev Stands : List Exp → List ℕ → Numbered → Option Fault → Sourced → Type 0
  Stands es marks t' seen' z =
      AllByRecursion IsWide (parts_of z.sources) → t'.tuples ≡ kept_tuples (conditions_at p z es) (joined_over z marks)
      → seen' ≡ join seen (join (fault_over z) (kept_fault (conditions_at p z es) (joined_over z marks)))
      → StandsFor (fold (try_early (sight_of p z)) (with_join (base_held p s.held) f j) es) z t' seen'

  pub join_tried : (es : List Exp) (marks : List ℕ) (t' : Numbered) (seen' : Option Fault) (z : Sourced) → z ≡ with_table s (join_source j) → marks ≡ marks_of (parts_of s.sources) → t'.width ≡ t.width + 1 → Stands es marks t' seen' z
  join_tried es marks t' seen' z same m w = subst (Stands es marks t' seen') (sym same) here
    where
      here : Stands es marks t' seen' (with_table s (join_source j))
      here wide is fault =
          let next = with_table s (join_source j) in
          let made : Numbered = record { width = t.width + 1; tuples = joined_over next marks } in
          let told = join seen (fault_over next) in
          let stands : StandsFor (with_join (base_held p s.held) f j) next made told = join_stands s j typed p t seen f before wide (length (last_source next).rows) (last_counted s (join_source j) typed) marks made told m refl refl refl in
          all_tried p next es made told (with_join (base_held p s.held) f j) stands t' seen' w is (fault ∙ sym (join_assoc seen (fault_over next) (kept_fault (conditions_at p next es) made.tuples)))

  pub rows_joined : (marks : List ℕ) (z : Sourced) → z ≡ with_table s (join_source j) → AllByRecursion IsWide (parts_of z.sources) → marks ≡ marks_of (parts_of s.sources) → length (joined_over z marks) ≡ length (with_join (base_held p s.held) f j).rows
  rows_joined marks z same wide m =
      let next = with_table s (join_source j) in
      let made : Numbered = record { width = t.width + 1; tuples = joined_over next marks } in
      let stands = join_stands s j typed p t seen f before (subst (λ (y : Sourced). AllByRecursion IsWide (parts_of y.sources)) same wide) (length (last_source next).rows) (last_counted s (join_source j) typed) marks made (join seen (fault_over next)) m refl refl refl in
      ap (λ (y : Sourced). length (joined_over y marks)) same ∙ sym (length-map (joined_over next marks) (combined (parts_of next.sources))) ∙ ap (λ l. length l) stands.rows

-- ---- all joins

-- behind a join stand the sources before it and its own
scope_behind : (b : Base) (f : Joined) (j : JoinTree) → (with_join b f j).scope ≡ with_source b.tables f.scope (join_source j)
scope_behind b f (tree.on kind s e) = refl
scope_behind b f (tree.cross s) = refl

-- what is tried early keeps the sources
pub scope_tried : (v : View) (f : Joined) (es : List Exp) → (fold (try_early v) f es).scope ≡ f.scope
scope_tried v f [] = refl
scope_tried v f (e ∷ es) = scope_tried v (try_early v f e) es

-- what is tried over these sources is tried over the tables of the run
pub restated : (p : Settings) (held : NamedTables) (z : Sourced) (f : Joined) (es ds : List Exp) (t : Numbered) (seen : Option Fault) → z.held ≡ held → es ≡ ds → StandsFor (fold (try_early (sight_of p z)) f es) z t seen → StandsFor (fold (try_early (at_rows (base_held p held) f.scope)) f ds) z t seen
restated p held z f es ds t seen h same stands =
    let scope : scope_held z.sources ≡ f.scope = stands.scope ∙ scope_tried (sight_of p z) f es in
    subst (λ (v : View). StandsFor (fold (try_early v) f ds) z t seen) (λ k. at_rows (base_held p (h k)) (scope k))
    (subst (λ (cs : List Exp). StandsFor (fold (try_early (sight_of p z)) f cs) z t seen) same stands)

-- where WHERE is tried whole
pub filtered_kept : (b : Base) (w : Option Exp) (f : Joined) → unless (fold (try_early (at_rows b f.scope)) f (all_of w)).fault (fold (try_early (at_rows b f.scope)) f (all_of w)).rows ≡ kept_of b w f
filtered_kept b None f = ap (λ g. unless g f.rows) (sym (join_none f.fault))
filtered_kept b (Some e) f = refl

module _ (b : Base) (s : SelectTree) (early : List Early) where
  -- with what is tried before the n-th join
  abbrev pub tried_at : ℕ → Joined → Joined
  tried_at n f = fold (try_early (at_rows b f.scope)) f (due_at s early n)

  scope_next : (es : List Exp) (f : Joined) (j : JoinTree) → (with_join b (fold (try_early (at_rows b f.scope)) f es) j).scope ≡ with_source b.tables f.scope (join_source j)
  scope_next es f j = scope_behind b (fold (try_early (at_rows b f.scope)) f es) j ∙ ap (λ scope. with_source b.tables scope (join_source j)) (scope_tried (at_rows b f.scope) f es)

  scope_joined : (n : ℕ) (f : Joined) (js : List JoinTree) → (planned_joins b s [] early n f js).scope ≡ joined_scope b.tables f.scope js
  scope_joined n f [] = refl
  scope_joined n f (j ∷ js) = scope_joined (suc n) (with_join b (fold (try_early (at_rows b f.scope)) f (early_at s early n)) j) js ∙ ap (λ scope. joined_scope b.tables scope js) (scope_next (early_at s early n) f j)

  pub scope_filtered : (filtered b s early).scope ≡ joined_scope b.tables (first_of b s.source).scope s.joins
  scope_filtered =
      let f = planned_joins b s [] early 0 (first_of b s.source) s.joins in
      scope_tried (at_rows b f.scope) f (all_of s.condition) ∙ scope_joined 0 (first_of b s.source) s.joins

  due_before : (n : ℕ) → n < length s.joins → due_at s early n ≡ early_at s early n
  due_before n h = ap (λ t. cond t (all_of s.condition) (early_at s early n)) (other_number n (length s.joins) (λ e. omega (arith, e, h)))

  due_last : (n : ℕ) → n ≡ length s.joins → due_at s early n ≡ all_of s.condition
  due_last n e = ap (λ t. cond t (all_of s.condition) (early_at s early n)) (same_number n (length s.joins) e)

  -- what has been joined, with what is tried of it, and the joins that are left from the n-th on
  pub record Left (n : ℕ) (js : List JoinTree) (sources : Sourced) (t : Numbered) (seen : Option Fault) : Type 0 where
    pub so_far : Joined
    pub stands : StandsFor (tried_at n so_far) sources t seen
    pub typed : AreJoinsTyped b.settings b.tables so_far.scope js
    pub all : planned_joins b s [] early n so_far js ≡ planned_joins b s [] early 0 (first_of b s.source) s.joins

  pub left_less : (n : ℕ) (j : JoinTree) (js : List JoinTree) (sources sources' : Sourced) (t t' : Numbered) (seen seen' : Option Fault) (left : Left n (j ∷ js) sources t seen) → n < length s.joins
      → StandsFor (tried_at (suc n) (with_join b (tried_at n left.so_far) j)) sources' t' seen' → Left (suc n) js sources' t' seen'
  left_less n j js sources sources' t t' seen seen' left h stands = record {
    so_far = with_join b (tried_at n left.so_far) j;
    stands = stands;
    typed = subst (λ scope. AreJoinsTyped b.settings b.tables scope js) (sym (scope_next (due_at s early n) left.so_far j)) left.typed.2;
    all = ap (λ es. planned_joins b s [] early (suc n) (with_join b (fold (try_early (at_rows b left.so_far.scope)) left.so_far es) j) js) (due_before n h) ∙ left.all;
  }

  pub left_none : (n : ℕ) (sources : Sourced) (t : Numbered) (seen : Option Fault) → n ≡ length s.joins → Left n [] sources t seen → StandsFor (filtered b s early) sources t seen
  left_none n sources t seen e left =
      subst (λ (f : Joined). StandsFor (fold (try_early (at_rows b f.scope)) f (all_of s.condition)) sources t seen) left.all
      (subst (λ (es : List Exp). StandsFor (fold (try_early (at_rows b left.so_far.scope)) left.so_far es) sources t seen) (due_last n e) left.stands)

-- ---- look-ups that are wanted
pub allowed : {A : Type 0} (b : Base) (o : Option A) → IsSome o → MayLookUp b o → IsLawful b
allowed b None e may = cc
allowed b (Some x) e may = may

-- where joins are listed, look-ups are wanted
pub looked_up : (o : Option (Bor (List ℕ))) → is_listed o 0 ≡ true → IsSome o
looked_up None e = cc
looked_up (Some x) e = refl

-- ---- answers

pub answered_rows : (s : Sourced) (rows t : Numbered) (seen : Option Fault) (m : Outcome (List Row)) → Ok t ≡ answer_of (unless seen rows) → unless seen (rows_for s rows) ≡ m → m ≡ Ok (rows_for s t)
answered_rows s rows t None m e is = let same : t ≡ rows = cc in sym is ∙ ap (λ (n : Numbered). Ok (rows_for s n)) (sym same)
answered_rows s rows t (Some DivZero) m e is = cc
answered_rows s rows t (Some Range) m e is = cc

pub answered_fault : {A : Type 0} (view : A → List Row) (s : Sourced) (rows : Numbered) (seen : Option Fault) (m : Outcome (List Row)) (e : ScalarErr) → Err e ≡ answer_of (unless seen rows) → unless seen (rows_for s rows) ≡ m → AnswersBy view (Err e) m
answered_fault {A = A} view s rows seen m e is made = go seen is made
  where
    go : (seen : Option Fault) → Err e ≡ answer_of (unless seen rows) → unless seen (rows_for s rows) ≡ m → AnswersBy view (Err e) m
    go None is made = cc
    go (Some DivZero) is made = let same : e ≡ err.DivZero = cc in subst (λ (x : ScalarErr). AnswersBy view (Err x) m) (sym same) (sym made)
    go (Some Range) is made = let same : e ≡ err.Range = cc in subst (λ (x : ScalarErr). AnswersBy view (Err x) m) (sym same) (sym made)
