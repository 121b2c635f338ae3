-- The script has no fault over the data sets of at most a million points, and the join has one point for each number.
use Rattle.std.proofs.Common.{◌≡◌, ◌≤◌, ◌∙◌, ◌∷◌, [], ℕ, List, Result, Ok, ap, arith}
use Rattle.std.specs.Prelude.{codes}
use Rattle.std.specs.List.{range_with_len}
use Rattle.std.proofs.lemmas.List.FromFn.{length-range_with_len}
use Rattle.vtl_cell.specs.Outcome.{Outcome, after}
use Rattle.vtl_cell.specs.Row.{Row}
use Rattle.vtl_decimal.specs.declared.number.Fault.{Fault}
use Rattle.vtl_tree.specs.Environment.{Environment}
use Rattle.vtl_sets.specs.DataSets.{data_set}
use Rattle.vtl_meaning.specs.Aggregates.{aggregate_of}
use Rattle.vtl_scripts.specs.Meaning.{Outputs, node_value, stated, with_output}
use Rattle.vtl_meaning.specs.Operators.{left_of}
use Rattle.vtl_meaning.specs.Points.{with_points}
use Rattle.vtl_demo.specs.DataSets.{environment, for_each}
use Rattle.vtl_demo.specs.Nodes.{HasResults, joined_point, joined_structure, kept_node, kept_structure, multiplied_structure, summed_node, summed_structure, sums, totals_statement}
use Rattle.vtl_demo.specs.Script.{settings}
use Rattle.vtl_demo.proofs.Joined.{joined}
use Rattle.vtl_demo.proofs.Products.{calculated, kept, kept_point}
use Rattle.vtl_demo.proofs.Totals.{Sums, summed}

-- the data sets behind the first statement, where the join has these points
abbrev behind : ℕ → List Row → Environment
behind n rows = (codes "DS_j", data_set joined_structure rows) ∷ environment n

kept_is : (n : ℕ) → node_value settings (behind n (for_each joined_point n)) kept_node ≡ Ok (for_each kept_point n)
kept_is n =
    let numbers = range_with_len 1 n in
    ap (λ m. after m (λ points. Ok (left_of (with_points multiplied_structure points) kept_structure))) (calculated numbers) ∙ ap Ok (kept numbers)

sums_of : (n : ℕ) → n ≤ 1000000 → Sums (range_with_len 1 n)
sums_of n few = summed (range_with_len 1 n) (omega (arith, few, length-range_with_len 1 n))

summed_is : (n : ℕ) (few : n ≤ 1000000) → node_value settings (behind n (for_each joined_point n)) summed_node ≡ Ok (sums_of n few).points
summed_is n few = ap (λ m. after m (λ points. aggregate_of settings sums (with_points kept_structure points) summed_structure)) (kept_is n) ∙ (sums_of n few).is

-- the results, by the points of the join and by what the second statement gives over them
abbrev from_join : List Row → Outcome (List Row) → Result Outputs (Fault × List ℕ)
from_join rows m =
    with_output (codes "DS_j") (data_set joined_structure rows) (stated totals_statement (after m (λ points. Ok (with_points summed_structure points))) (λ d. Ok []))

abbrev over_join : ℕ → List Row → Result Outputs (Fault × List ℕ)
over_join n rows = from_join rows (node_value settings (behind n rows) summed_node)

pub meant : (n : ℕ) → n ≤ 1000000 → HasResults n
meant n few = record {
  totals = (sums_of n few).points;
  are = ap (over_join n) (joined n) ∙ ap (from_join (for_each joined_point n)) (summed_is n few);
}
