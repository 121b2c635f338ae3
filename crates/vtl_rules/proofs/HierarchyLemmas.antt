-- The points of a hierarchy: the computed ones, and the operand's others behind them.
use Rattle.std.proofs.Common.{◌≡◌, ℕ, ◌≤◌, true, List, [], ◌∷◌, ◌++◌, length, map, Option, Ok, sym, ap, ◌∙◌, subst, arith}
use Rattle.std.specs.List.{AllByRecursion}
use Rattle.std.proofs.lemmas.List.{append-nil, length-map}
use Rattle.vtl_lists.proofs.Alls.{all_append, all_each, all_more}
use Rattle.vtl_lists.proofs.Sorts.{AllByRecursion-map}
use Rattle.vtl_decimal.specs.Settings.{Settings}
use Rattle.vtl_decimal.specs.declared.number.Fault.{Fault}
use Rattle.vtl_cell.specs.Outcome.{faults_by, unless}
use Rattle.vtl_cell.specs.Row.{Row, column_of, same_key}
use Rattle.vtl_rows.specs.Tables.{cells_at, column_at}
use Rattle.vtl_rows.specs.declared.column.Column.{Column}
use Rattle.vtl_syntax.specs.declared.statements.HierRule.{HierRule}
use Rattle.vtl_syntax.specs.declared.word_groups.HierInput.{HierInput}
use Rattle.vtl_syntax.specs.declared.word_groups.HierOut.TheVariants as out
use Rattle.vtl_syntax.specs.declared.word_groups.Mode.{Mode}
use Rattle.vtl_tree.specs.Columns.{place_of, places_in}
use Rattle.vtl_tree.specs.DataSet.{IsDataSet, is_point}
use Rattle.vtl_tree.specs.Environment.{DataSet}
use Rattle.vtl_tree.specs.RuleItems.{definitions}
use Rattle.vtl_tree.specs.Structure.{columns_of, key_width}
use Rattle.vtl_tree.specs.declared.structure.Component.{Component}
use Rattle.vtl_tree.specs.declared.structure.Structure.{Structure}
use Rattle.vtl_tuples.specs.Keys.{each_once}
use Rattle.vtl_sets.specs.TableOf.{table_columns}
use Rattle.vtl_sets.proofs.ColumnLemmas.{few_keys}
use Rattle.vtl_meaning.specs.Made.{AreAmong}
use Rattle.vtl_meaning.specs.Operators.{left_of}
use Rattle.vtl_meaning.specs.Sets.{united}
use Rattle.vtl_meaning.proofs.Kept.{unless_ok}
use Rattle.vtl_meaning.proofs.Places.{key_within}
use Rattle.vtl_meaning.proofs.SetsKept.{alternative_tells}
use Rattle.vtl_expr.proofs.ColumnPlaces.{chosen_columns}
use Rattle.vtl_rulings.specs.Hierarchies.{hierarchy_of, made_fault, made_points}
use Rattle.vtl_rulings.specs.HierarchyChecks.{Ruled, combinations}
use Rattle.vtl_rulings.specs.HierarchyShapes.{IsHierarchyMade}

-- ---- the operand in the columns of the result
pub has_columns : (h : Ruled) (rules : List HierRule) (a s : Structure) → IsHierarchyMade h rules a s → AreAmong (columns_of s) (columns_of a)
has_columns h rules a s is = (alternative_tells a s (is.well_formed, is.no_attributes) is.operand).columns

pub operand_columns : (s a : Structure) (columns : List Column) (places : List ℕ) → AreAmong (columns_of s) (columns_of a) → columns ≡ table_columns a → places ≡ places_in (columns_of a) (columns_of s) → map (column_at columns) places ≡ table_columns s
operand_columns s a columns places has cs ps = ap (λ (l : List Column). map (column_at l) places) cs ∙ ap (map (column_at (table_columns a))) ps ∙ chosen_columns (columns_of a) (columns_of s) has

-- ---- both one after the other
pub all_wide : (s : Structure) (a : DataSet) (rows all : List Row) → IsDataSet s rows → all ≡ rows ++ left_of a s → AllByRecursion (λ r. key_width s ≤ length r) all
all_wide s a rows all set e =
    let P : Row → Type 0 = λ r. key_width s ≤ length r in
    let f : Row → Row = cells_at (places_in (columns_of a.structure) (columns_of s)) in
    let few = few_keys s in
    let wide : (r : Row) → P (f r) = λ r. let l = length-map (places_in (columns_of a.structure) (columns_of s)) (λ i. column_of i r) in let k = length-map (columns_of s) (λ (y : Component). place_of y.name (columns_of a.structure)) in omega (arith, l, k, few) in
    subst (AllByRecursion P) (sym e)
    (all_append P rows (left_of a s) (all_more (λ r. is_point (columns_of s) r ≡ true) P (λ r t. key_within s r t) rows set.typed) (AllByRecursion-map f P a.points (all_each (λ r. P (f r)) wide a.points)))

pub united_is : (n : ℕ) (rows others all : List Row) → all ≡ rows ++ others → each_once (same_key n) all ≡ united n (rows ∷ others ∷ [])
united_is n rows others all e = ap (each_once (same_key n)) (e ∙ ap (λ l. rows ++ l) (sym (append-nil others)))

-- ---- what is shown
module _ (p : Settings) (h : Ruled) (m : Mode) (i : HierInput) (rules : List HierRule) (a : DataSet) (s : Structure) where
  abbrev whole_of : Option Fault
  whole_of = faults_by (λ r. faults_by (made_fault p h m i rules a r) (combinations h.id a)) (definitions rules)

  pub all_shown : (rows : List Row) → hierarchy_of p h m i rules a out.Computed s ≡ Ok rows → hierarchy_of p h m i rules a out.All s ≡ Ok (united (key_width s) (rows ∷ left_of a s ∷ []))
  all_shown rows e =
      let both = unless_ok whole_of (made_points p h m i rules a) rows e in
      ap (λ f. unless f (united (key_width s) (made_points p h m i rules a ∷ left_of a s ∷ []))) both.0 ∙ ap (λ l. Ok (united (key_width s) (l ∷ left_of a s ∷ []))) both.1
