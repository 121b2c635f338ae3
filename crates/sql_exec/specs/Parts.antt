-- The selects of a query.
use Rattle.std.specs.Prelude.{◌≡◌, ℕ, true, List, [], zip}
use Rattle.vtl_cell.specs.Outcome.{Outcome, after}
use Rattle.vtl_cell.specs.Outcomes.{Same}
use Rattle.vtl_cell.specs.Row.{Row}
use Rattle.vtl_cell.specs.declared.kind.Kind.{Kind}
use Rattle.vtl_rows.specs.Tables.{fits_kinds}
use Rattle.sql_tree.specs.Trees.{SelectTree}
use Rattle.sql_meaning.specs.Plans.{planned_source_rows}
use Rattle.sql_meaning.specs.declared.plan.Early.{Early}
use Rattle.sql_meaning.specs.From.{source_rows}
use Rattle.sql_check_parts.specs.Queries.{kinds_of, scope_of}
use Rattle.sql_check_parts.specs.Scopes.{Scope, row_of}
use Rattle.sql_check_laws.specs.Selects.{IsSelectTyped}
use Rattle.sql_meaning.specs.Selects.{second_phase}
use Rattle.sql_meaning.specs.Tables.{Base, RowsFit}
use Rattle.sql_meaning.specs.Values.{at_rows}
use Rattle.sql_groups.specs.Resolved.{AreLifted}

-- what is made at each row of FROM, among rows that fit, is of these kinds
abbrev pub MakesKinds : Scope → List Kind → (List Row → Row × ℕ → Row) → Type 0
MakesKinds scope kinds made = (rows : List Row) (x : Row × ℕ) → RowsFit (row_of scope) rows → fits_kinds (row_of scope) x.0 ≡ true → fits_kinds kinds (made rows x) ≡ true

-- a select of a query whose columns have these kinds, to which those of its items are lifted
pub record IsPart (b : Base) (kinds : List Kind) (s : SelectTree) : Type 0 where
  pub typed : IsSelectTyped b.settings b.tables s
  pub lifted : AreLifted kinds (kinds_of b.tables s)

-- what the second phase of a select gives of these rows of FROM and WHERE, or their fault
abbrev pub phase_of : Base → List Kind → SelectTree → Outcome (List Row) → Outcome (List Row)
phase_of b kinds s rows = after rows (second_phase (at_rows b (scope_of b.tables s)) (zip s.items kinds) s)

-- with these conjuncts tried early FROM and WHERE give the same rows, in any order, or the same fault
abbrev pub HasRowsOf : Base → List Early → SelectTree → Type 0
HasRowsOf b early s = Same (planned_source_rows b s [] early) (source_rows b s)
