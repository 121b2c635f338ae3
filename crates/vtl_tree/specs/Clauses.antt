-- The clauses on data sets, as functions on lists of points.
use Rattle.std.specs.Prelude.{List, filter}
use Rattle.vtl_decimal.specs.Settings.{Settings}
use Rattle.vtl_cell.specs.Row.{Row}
use Rattle.vtl_cell.specs.Outcome.{Outcome, fault_in, faults_by, unless}
use Rattle.vtl_cell.specs.Outcomes.{is_true}
use Rattle.vtl_tree.specs.CompExp.{CompExp}
use Rattle.vtl_tree.specs.Value.{value}

-- the points at which the condition is true
abbrev pub kept : Settings → CompExp → List Row → List Row
kept p e d = filter (λ r. is_true (value p e r)) d

-- `filter`: these points, or the fault of the condition over all points
abbrev pub filter_of : Settings → CompExp → List Row → Outcome (List Row)
filter_of p e d = unless (faults_by (λ r. fault_in (value p e r)) d) (kept p e d)
