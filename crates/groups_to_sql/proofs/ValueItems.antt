-- A select over the rows of its source whose items, windows among them, have known values at each row and its number.
use Rattle.std.proofs.Common.{◌≡◌, ◌≤◌, ℕ, false, not, ◌||◌, cond, List, [], ◌∷◌, length, map, Option, Some, None, Ok, refl, ap, sym, ◌∙◌, subst, arith}
use Rattle.std.specs.Prelude.{zip}
use Rattle.std.specs.List.{AllByRecursion, list_any}
use Rattle.grammar_forms.specs.Written.{Each}
use Rattle.vtl_cell.specs.Outcome.{after, fault_in, faults_by, join, unless}
use Rattle.vtl_cell.specs.Row.{Row}
use Rattle.vtl_decimal.specs.Settings.{Settings}
use Rattle.vtl_tree.specs.Structure.{columns_of, names_of}
use Rattle.vtl_tree.specs.declared.structure.Component.{Component}
use Rattle.vtl_tree.specs.declared.structure.Structure.{Structure}
use Rattle.vtl_meaning.specs.Aggregates.{Made, group_fault as point_fault}
use Rattle.vtl_meaning.specs.Points.{cell_or_null}
use Rattle.vtl_meaning.specs.Analytics.{each_point, point_of}
use Rattle.sql_check_parts.specs.Expressions.{site}
use Rattle.sql_meaning.specs.From.{source_rows}
use Rattle.sql_meaning.specs.Outcomes.{row_at, row_fault}
use Rattle.sql_check_parts.specs.Queries.{groups_of, item_aggregates, item_kind, item_name}
use Rattle.sql_check_parts.specs.Scopes.{Scope, grouping_of, repeats}
use Rattle.sql_meaning.specs.Scripts.{Data, base_of}
use Rattle.sql_meaning.specs.Selects.{Wanted, grouped_rows, item_value, plain_rows, second_phase}
use Rattle.sql_meaning.specs.Tables.{Base}
use Rattle.sql_check_laws.specs.Fits.{IsMaybeCondition}
use Rattle.sql_check_laws.specs.Selects.{IsItemTyped}
use Rattle.sql_meaning.specs.Values.{at_rows}
use Rattle.sql_meaning.specs.Windows.{told_apart}
use Rattle.sql_tree.specs.Formed.{IsItem as IsItemFormed}
use Rattle.sql_tree.specs.Trees.{Exp, ItemTree, SelectTree}
use Rattle.sql_tree.specs.declared.parts.Source.{Source}
use Rattle.selects_to_sql.specs.Queries.{select_as}
use Rattle.selects_to_sql.specs.Runs.{printable_depth}
use Rattle.selects_to_sql.proofs.Givens.{AreGiven, kinds_in}
use Rattle.selects_to_sql.proofs.SelectItems.{GivesRows, IsFrom, Valued}

-- an item at the rows of FROM: it has the column's name and kind, breaks no rule, can be printed, and has this value
pub record IsValueItem (b : Base) (s : Scope) (whole : List Row) (P : Row × ℕ → Type 0) (f : Valued) (i : ItemTree) (y : Component) : Type 0 where
  pub name : i.name ≡ y.name
  pub kind : item_kind s i ≡ y.kind
  pub single : item_aggregates i ≡ false
  pub fits : IsItemTyped (site b.settings b.tables s) None i
  pub printed : IsItemFormed printable_depth i
  pub value_is : (x : Row × ℕ) → P x → item_value (at_rows b s) whole (i, y.kind) x ≡ f x.0

module _ (b : Base) (s : Scope) (whole : List Row) (P : Row × ℕ → Type 0) (made : Made) (item : Component → ItemTree) where
  abbrev pub AreValueItems : List Component → Type 0
  AreValueItems ys = AllByRecursion (λ y. IsValueItem b s whole P (made y) (item y) y) ys

  abbrev wanted : List Component → List Wanted
  wanted ys = zip (map item ys) (kinds_in ys)

  item_names : (ys : List Component) → AreValueItems ys → map item_name (map item ys) ≡ names_of ys
  item_names [] i = refl
  item_names (y ∷ ys) i = λ j. i.0.name j ∷ item_names ys i.1 j

  item_kinds : (ys : List Component) → AreValueItems ys → map (item_kind s) (map item ys) ≡ kinds_in ys
  item_kinds [] i = refl
  item_kinds (y ∷ ys) i = λ j. i.0.kind j ∷ item_kinds ys i.1 j

  no_aggregates : (ys : List Component) → AreValueItems ys → list_any item_aggregates (map item ys) ≡ false
  no_aggregates [] i = refl
  no_aggregates (y ∷ ys) i = λ j. i.0.single j || no_aggregates ys i.1 j

  items_fit : (ys : List Component) → AreValueItems ys → AllByRecursion (IsItemTyped (site b.settings b.tables s) None) (map item ys)
  items_fit [] i = tt
  items_fit (y ∷ ys) i = (i.0.fits, items_fit ys i.1)

  items_printed : (ys : List Component) → AreValueItems ys → Each (IsItemFormed printable_depth) (map item ys)
  items_printed [] i = tt
  items_printed (y ∷ ys) i = (i.0.printed, items_printed ys i.1)

  some_items : (ys : List Component) → 1 ≤ length ys → 1 ≤ length (map item ys)
  some_items [] h = h
  some_items (y ∷ ys) h = omega arith

  items_fault : (ys : List Component) (x : Row × ℕ) → AreValueItems ys → P x → row_fault (item_value (at_rows b s) whole) (wanted ys) x ≡ point_fault made ys x.0
  items_fault [] x i h = refl
  items_fault (y ∷ ys) x i h = λ j. join (fault_in (i.0.value_is x h j)) (items_fault ys x i.1 h j)

  items_cells : (ys : List Component) (x : Row × ℕ) → AreValueItems ys → P x → row_at (item_value (at_rows b s) whole) (wanted ys) x ≡ point_of made ys x.0
  items_cells [] x i h = refl
  items_cells (y ∷ ys) x i h = λ j. cell_or_null (i.0.value_is x h j) ∷ items_cells ys x i.1 h j

  module _ (ys : List Component) (i : AreValueItems ys) where
    rows_fault : (rows : List Row) → AllByRecursion P (told_apart rows) → faults_by (row_fault (item_value (at_rows b s) whole) (wanted ys)) (told_apart rows) ≡ faults_by (point_fault made ys) rows
    rows_fault [] h = refl
    rows_fault (r ∷ rows) h = λ j. join (items_fault ys _ i h.0 j) (rows_fault rows h.1 j)

    rows_cells : (rows : List Row) → AllByRecursion P (told_apart rows) → map (row_at (item_value (at_rows b s) whole) (wanted ys)) (told_apart rows) ≡ map (point_of made ys) rows
    rows_cells [] h = refl
    rows_cells (r ∷ rows) h = λ j. items_cells ys _ i h.0 j ∷ rows_cells rows h.1 j

    plain_is : AllByRecursion P (told_apart whole) → plain_rows (at_rows b s) (wanted ys) whole ≡ each_point made ys whole
    plain_is h = λ j. unless (rows_fault whole h j) (rows_cells whole h j)

-- a select of such items gives a point of their values for each row of FROM that its condition keeps
module _ (p : Settings) (before : Data) (s : Scope) (d : List Row) (P : Row × ℕ → Type 0) (made : Made) (item : Component → ItemTree) (t : Structure) (i : AreValueItems (base_of p before) s d P made item (columns_of t)) (given : AreGiven (columns_of t)) (source : Source) (condition : Option Exp) where
  abbrev b : Base
  b = base_of p before

  abbrev ys : List Component
  ys = columns_of t

  abbrev it : SelectTree
  it = select_as (map item ys) source [] condition

  pub values_give : IsFrom p before s it → source_rows b it ≡ Ok d → AllByRecursion P (told_apart d) → GivesRows p before t it (each_point made ys d)
  values_give from rows all =
      let single = no_aggregates b s d P made item ys i in
      let not_grouped : groups_of it ≡ None = ap (λ g. cond g (Some (grouping_of [])) None) single in
      let fits = items_fit b s d P made item ys i in
      let names = item_names b s d P made item ys i in
      record {
        names = names;
        kinds = ap (λ z. map (item_kind z) (map item ys)) from.scope ∙ item_kinds b s d P made item ys i;
        typed = record {
          source = from.source.0;
          joins = from.joins.0;
          condition = subst (λ z. IsMaybeCondition (site p b.tables z) None condition) (sym from.scope) from.condition.0;
          group = tt;
          having = tt;
          items = subst (λ z. AllByRecursion (IsItemTyped (site p b.tables z) (groups_of it)) (map item ys)) (sym from.scope) (subst (λ g. AllByRecursion (IsItemTyped (site p b.tables s) g) (map item ys)) (sym not_grouped) fits);
          names = ap repeats names ∙ ap not given.apart;
        };
        printed = record {
          some = some_items b s d P made item ys given.some;
          items = items_printed b s d P made item ys i;
          source = from.source.1;
          joins = tt;
          condition = from.condition.1;
          group = tt;
          having = tt;
        };
        rows =
            (λ j. after (rows j) (second_phase (at_rows b (from.scope j)) (zip (map item ys) (kinds_in ys)) it))
            ∙ ap (λ g. cond g (grouped_rows (at_rows b s) (zip (map item ys) (kinds_in ys)) [] None d) (plain_rows (at_rows b s) (zip (map item ys) (kinds_in ys)) d)) single
            ∙ plain_is b s d P made item ys i all;
      }
