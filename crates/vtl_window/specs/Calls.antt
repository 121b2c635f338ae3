-- Calls, and what makes columns, as they are lent.
use Rattle.std.specs.Prelude.{option_map}
use Rattle.vtl_tree.specs.View.{comp_exp_of}
use Rattle.vtl_tree.specs.declared.calls.AnalyticCall.{AnalyticCall}
use Rattle.vtl_tree.specs.Trees as tree
use Rattle.vtl_tree.specs.Trees.{ValueTree}
use Rattle.vtl_window.specs.declared.call.Call.{Call}
use Rattle.vtl_window.specs.declared.maker.Maker.{Maker}
use Rattle.vtl_window.specs.declared.maker.Maker.TheVariants as maker

-- the call
abbrev pub lent : Call → AnalyticCall
lent c = record { op = c.op.now; component = option_map (λ name. name.now) c.component; window = c.window.now }

-- what makes a column
abbrev pub maker_tree : Maker → ValueTree
maker_tree (maker.Scalar e) = tree.scalar (comp_exp_of e.now)
maker_tree (maker.Analytic call) = tree.analytic (lent call)
