-- What a node with a time operator means, and what typing gives of it.
use Rattle.std.specs.Prelude.{◌≡◌, Ok, true, List, unsigned_abs}
use Rattle.vtl_cell.specs.Outcome.{Outcome}
use Rattle.vtl_cell.specs.Row.{Row}
use Rattle.vtl_decimal.specs.Settings.{Settings}
use Rattle.vtl_series.specs.declared.extent.Extent.{Extent}
use Rattle.vtl_series.specs.declared.extent.Extent.TheVariants as extent
use Rattle.vtl_syntax.specs.declared.word_groups.Filling.{Filling}
use Rattle.vtl_syntax.specs.declared.word_groups.Filling.TheVariants as filling
use Rattle.vtl_tree.specs.Environment.{DataSet}
use Rattle.vtl_tree.specs.declared.calls.TimeOp.{TimeOp}
use Rattle.vtl_tree.specs.declared.calls.TimeOp.TheVariants as op
use Rattle.vtl_tree.specs.declared.structure.Structure.{Structure}
use Rattle.vtl_meaning.specs.Reaches.{is_near}
use Rattle.vtl_timing.specs.TimeShapes.{IsFlowed}
use Rattle.vtl_timing.specs.Times.{HasTime, fill_of, flow_of, stock_of, timeshift_of}

-- how far a series is filled
abbrev pub extent_of : Filling → Extent
extent_of filling.Single = extent.Single
extent_of filling.All = extent.All

-- the points of the result, whose structure is `s`
abbrev pub timed_of : Settings → TimeOp → DataSet → Structure → Outcome (List Row)
timed_of p (op.Shift n) d s = timeshift_of n d
timed_of p (op.Fill f) d s = Ok (fill_of (extent_of f) d)
timed_of p op.FlowToStock d s = stock_of p d s
timed_of p op.StockToFlow d s = flow_of p d s

-- a period is shifted no farther than a literal may say
abbrev pub IsReached : TimeOp → Type 0
IsReached (op.Shift n) = is_near (unsigned_abs n) ≡ true
IsReached other = Unit {0}

-- the structure of the result
abbrev pub HasGiven : TimeOp → Structure → Structure → Type 0
HasGiven (op.Shift n) a s = s ≡ a
HasGiven (op.Fill f) a s = s ≡ a
HasGiven op.FlowToStock a s = IsFlowed a s
HasGiven op.StockToFlow a s = IsFlowed a s

-- the operand has a time
pub record IsTimed (o : TimeOp) (a s : Structure) : Type 0 where
  pub time : HasTime a
  pub reached : IsReached o
  pub given : HasGiven o a s
