-- The values of an expression at rows, one after the other.
use Rattle.std.proofs.Common.{◌≡◌, ℕ, ◌+◌, ◌<◌, ◌≤◌, List, [], ◌∷◌, ◌++◌, length, get_or, map, take, Option, None, Ok, refl, rules, sym, ap, ◌∙◌, subst}
use Rattle.std.proofs.lemmas.List.{map-append, map_more, take_all}
use Rattle.vtl_cell.specs.Groups.{group_value}
use Rattle.vtl_decimal.specs.declared.number.Fault.{Fault}
use Rattle.vtl_cell.specs.Outcome.{Outcome, after, fault_in, faults_by, join, unless}
use Rattle.vtl_cell.specs.Row.{Row, column_of}
use Rattle.vtl_decimal.specs.Settings.{Settings}
use Rattle.vtl_cell.specs.declared.cell.Cell.{Cell}
use Rattle.vtl_cell.specs.declared.operator.AggKind.{AggKind}
use Rattle.vtl_rows.specs.Places.{row_at}
use Rattle.vtl_scalar.specs.Answers.{Answers}
use Rattle.vtl_scalar.specs.declared.error.ScalarErr.{ScalarErr}
use Rattle.sql_tree.specs.Trees.{Text}
use Rattle.sql_eval.specs.Placed.{aggregate_value, column}
use Rattle.sql_eval.specs.View.{placed_of}
use Rattle.sql_eval.specs.declared.resolved.Resolved as resolved
use Rattle.sql_meaning.specs.Outcomes.{all_values, cell_or_null}
use Rattle.sql_meaning.proofs.UpToOrder.{faults_by-append, join_none}
use Rattle.sql_groups.specs.Grouped.{rows_at}
use Rattle.std.specs.Prelude.{Result}

module _ (f : Row → Outcome Cell) (rows : List Row) (numbers : List ℕ) (i : ℕ) where
  abbrev pub values_to : List Cell
  values_to = map (λ r. cell_or_null (f r)) (rows_at rows (take i numbers))

  abbrev pub faults_to : Option Fault
  faults_to = faults_by (λ r. fault_in (f r)) (rows_at rows (take i numbers))

module _ (f : Row → Outcome Cell) (rows : List Row) (numbers : List ℕ) (i : ℕ) (h : i < length numbers) (r : Row) (at : r ≡ row_at rows (get_or numbers i 0)) where
  rows_more : rows_at rows (take (i + 1) numbers) ≡ rows_at rows (take i numbers) ++ r ∷ []
  rows_more = map_more (row_at rows) numbers i 0 h ∙ ap (λ q. rows_at rows (take i numbers) ++ q ∷ []) (sym at)

  pub values_more : values_to f rows numbers i ++ cell_or_null (f r) ∷ [] ≡ values_to f rows numbers (i + 1)
  values_more = sym (ap (map (λ q. cell_or_null (f q))) rows_more ∙ map-append (λ q. cell_or_null (f q)) (rows_at rows (take i numbers)) (r ∷ []))

  pub faults_more : join (faults_to f rows numbers i) (fault_in (f r)) ≡ faults_to f rows numbers (i + 1)
  faults_more =
      sym (ap (faults_by (λ q. fault_in (f q))) rows_more ∙ faults_by-append (λ q. fault_in (f q)) (rows_at rows (take i numbers)) (r ∷ [])
      ∙ ap (join (faults_to f rows numbers i)) (join_none (fault_in (f r))))

-- all of them
pub all_gathered : (f : Row → Outcome Cell) (rows : List Row) (numbers : List ℕ) (i : ℕ) (p q : Settings) (kind function : AggKind) (seen : Option Fault) (r : Result Cell ScalarErr) → length numbers ≤ i → p ≡ q → kind ≡ function → seen ≡ faults_to f rows numbers i
    → Answers r (after (unless seen (values_to f rows numbers i)) (group_value p kind)) → Answers r (after (all_values f (rows_at rows numbers)) (group_value q function))
all_gathered f rows numbers i p q kind function seen r past settings same s a =
    subst (Answers r)
    ((λ n. after (unless (s n) (values_to f rows numbers i)) (group_value (settings n) (same n)))
    ∙ ap (λ l. after (all_values f (rows_at rows l)) (group_value q function)) (take_all i numbers past))
    a

-- those of a column, which have no faults
column_faults : (place : ℕ) (rows : List Row) → faults_by (λ r. fault_in (let m : Outcome Cell = Ok (column_of place r) in m)) rows ≡ None
column_faults place [] = refl
column_faults place (r ∷ rows) = column_faults place rows

placed_column : (place : ℕ) → placed_of (resolved.Column place) ≡ column place
placed_column place = search (rules, resolved.the_lemmas)

pub column_gathered : (p : Settings) (tables : Text → List Row) (function : AggKind) (place : ℕ) (rows : List Row) → group_value p function (map (column_of place) rows) ≡ aggregate_value p tables function (placed_of (resolved.Column place)) rows
column_gathered p tables function place rows =
    ap (λ f. after (unless f (map (column_of place) rows)) (group_value p function)) (sym (column_faults place rows))
    ∙ ap (λ e. aggregate_value p tables function e rows) (sym (placed_column place))
