-- The kinds that aggregates take and give.
use Rattle.std.specs.Prelude.{Bool, cond, Option, Some, None}
use Rattle.vtl_cell.specs.ScalarKinds.{meets}
use Rattle.vtl_cell.specs.declared.kind.Kind.{Kind}
use Rattle.vtl_cell.specs.declared.kind.Kind.TheVariants as k
use Rattle.vtl_cell.specs.declared.operator.AggKind.{AggKind}
use Rattle.vtl_cell.specs.declared.operator.AggKind.TheVariants as agg

abbrev pub is_number : Kind → Bool
is_number kind = meets k.Num kind

-- a number, where the kind is one
abbrev pub number_of : Kind → Option Kind
number_of kind = cond (is_number kind) (Some k.Num) None

-- a sum of integers is an integer, and so is one of nulls
abbrev pub sum_kind : Kind → Option Kind
sum_kind kind = cond (meets k.Int kind) (Some k.Int) (number_of kind)

-- the kind that an aggregate gives of values of a kind, where it takes them
abbrev pub aggregate_kind : AggKind → Kind → Option Kind
aggregate_kind agg.Sum kind = sum_kind kind
aggregate_kind agg.Avg kind = number_of kind
aggregate_kind agg.Median kind = number_of kind
aggregate_kind agg.Count kind = Some k.Int
aggregate_kind agg.Min kind = Some kind
aggregate_kind agg.Max kind = Some kind
