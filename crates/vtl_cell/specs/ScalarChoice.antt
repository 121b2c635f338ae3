-- The values of the operators of logic, and of those that choose between their operands.
use Rattle.std.specs.Prelude.{Bool, true, false, Option, Some, None, Ok, if◌then◌else◌, is_some}
use Rattle.vtl_decimal.specs.Settings.{Settings}
use Rattle.vtl_decimal.specs.Range.{fit_number}
use Rattle.vtl_cell.specs.Kinds.{kind_of}
use Rattle.vtl_cell.specs.Outcome.{Outcome}
use Rattle.vtl_cell.specs.ScalarArithmetic.{number, units}
use Rattle.vtl_cell.specs.ScalarComparison.{truth}
use Rattle.vtl_cell.specs.ScalarKinds.{shared_kind}
use Rattle.vtl_cell.specs.declared.cell.Cell.{Cell}
use Rattle.vtl_cell.specs.declared.cell.Cell.TheVariants as c

-- a boolean or null, where the operand is one of these
abbrev pub truth_in : Cell → Option (Option Bool)
truth_in c.Null = Some None
truth_in (c.Bool b) = Some (Some b)
truth_in other = None

abbrev pub on_truth : (Option Bool → Option Bool) → Option (Option Bool) → Cell
on_truth f None = c.Null
on_truth f (Some a) = truth (f a)

abbrev pub on_truths : (Option Bool → Option Bool → Option Bool) → Option (Option Bool) → Option (Option Bool) → Cell
on_truths f None b = c.Null
on_truths f (Some a) None = c.Null
on_truths f (Some a) (Some b) = truth (f a b)

-- the operand, as a value of the kind that it shares with another
abbrev pub beside : Settings → Cell → Cell → Outcome Cell
beside p (c.Int a) (c.Num b) = number (fit_number (units p a))
beside p a b = Ok (if is_some (shared_kind (kind_of a) (kind_of b)) then a else c.Null)

-- nvl(a, x)
abbrev pub value_or : Settings → Cell → Cell → Outcome Cell
value_or p c.Null x = Ok x
value_or p a x = beside p a x

-- if c then a else b: a condition that is null chooses b
abbrev pub chosen_of : Settings → Cell → Cell → Cell → Outcome Cell
chosen_of p (c.Bool true) a b = beside p a b
chosen_of p (c.Bool false) a b = beside p b a
chosen_of p c.Null a b = beside p b a
chosen_of p other a b = Ok c.Null
