-- The kinds of component expressions and of analytic calls.
use Rattle.std.specs.Prelude.{cond}
use Rattle.vtl_cell.specs.Kinds.{kind_of}
use Rattle.vtl_cell.specs.ScalarKinds.{meets}
use Rattle.vtl_cell.specs.declared.kind.Kind.{Kind}
use Rattle.vtl_cell.specs.declared.kind.Kind.TheVariants as k
use Rattle.vtl_tree.specs.CompExp.{CompExp, column, const, call, aggregate}
use Rattle.vtl_tree.specs.declared.calls.AnalyticOp.{AnalyticOp}
use Rattle.vtl_tree.specs.declared.calls.AnalyticOp.TheVariants as op

-- the kind that an expression has at its head
abbrev pub exp_kind : CompExp → Kind
exp_kind (column place name kind) = kind
exp_kind (const c) = kind_of c
exp_kind (call op kind args) = kind
exp_kind (aggregate a kind) = kind

-- the kind that an analytic operator gives of values of a kind that it takes
abbrev pub given_kind : AnalyticOp → Kind → Kind
given_kind op.Sum kind = cond (meets k.Int kind) k.Int k.Num
given_kind op.Avg kind = k.Num
given_kind op.Count kind = k.Int
given_kind op.Rank kind = k.Int
given_kind op.RatioToReport kind = k.Num
given_kind o kind = kind
