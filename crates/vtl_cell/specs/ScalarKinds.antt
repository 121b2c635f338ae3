-- The kinds that scalar operators take, and the kind of what they give.
use Rattle.std.specs.Prelude.{Bool, true, false, ◌&&◌, List, [], ◌∷◌, Option, Some, None, is_some, option_and_then, if◌then◌else◌}
use Rattle.std.specs.List.{list_all}
use Rattle.std.specs.Option.{option_map}
use Rattle.vtl_cell.specs.declared.kind.Kind.{Kind}
use Rattle.vtl_cell.specs.declared.kind.Kind.TheVariants as k
use Rattle.vtl_cell.specs.declared.operator.ScalarOp.{ScalarOp}
use Rattle.vtl_cell.specs.declared.operator.ScalarOp.TheVariants as op

-- whether an operand may stand where a kind is wanted: null anywhere, an integer for a number
abbrev pub meets : Kind → Kind → Bool
meets wanted k.Null = true
meets k.Bool k.Bool = true
meets k.Int k.Int = true
meets k.Num k.Int = true
meets k.Num k.Num = true
meets k.Text k.Text = true
meets k.Day k.Day = true
meets k.Period k.Period = true
meets wanted given = false

-- as many operands as are wanted, each of which meets its kind
abbrev pub meet : List Kind → List Kind → Bool
meet [] [] = true
meet [] (g ∷ gs) = false
meet (w ∷ ws) [] = false
meet (w ∷ ws) (g ∷ gs) = meets w g && meet ws gs

-- the kinds that an operator wants, and the kind that it then gives
pub record Alternative : Type 0 where
  pub wanted : List Kind
  pub given : Kind

abbrev pub to : List Kind → Kind → Alternative
to wanted given = record { wanted = wanted; given = given }

-- what the first alternative gives that the operands meet
abbrev pub first_met : List Alternative → List Kind → Option Kind
first_met [] kinds = None
first_met (a ∷ as_) kinds = if meet a.wanted kinds then Some a.given else first_met as_ kinds

-- the kind that two operands share: null has each kind, and an integer beside a number is a number
abbrev pub shared_kind : Kind → Kind → Option Kind
shared_kind k.Null b = Some b
shared_kind a k.Null = Some a
shared_kind k.Bool k.Bool = Some k.Bool
shared_kind k.Int k.Int = Some k.Int
shared_kind k.Int k.Num = Some k.Num
shared_kind k.Num k.Int = Some k.Num
shared_kind k.Num k.Num = Some k.Num
shared_kind k.Text k.Text = Some k.Text
shared_kind k.Day k.Day = Some k.Day
shared_kind k.Period k.Period = Some k.Period
shared_kind a b = None

-- the kind that all operands share
abbrev pub common_kind : List Kind → Option Kind
common_kind [] = Some k.Null
common_kind (a ∷ rest) = option_and_then (shared_kind a) (common_kind rest)

-- a boolean, where all operands share a kind
abbrev pub truth_of_alike : List Kind → Option Kind
truth_of_alike kinds = option_map (λ kind. k.Bool) (common_kind kinds)

-- whether a set may stand behind `in`: each member meets the kind of the operand, so that an integer stands for a number and
-- no number for an integer; beside a null operand the members share a kind
abbrev pub is_set_of : Kind → List Kind → Bool
is_set_of k.Null members = is_some (common_kind members)
is_set_of a members = list_all (meets a) members

-- a boolean, where the members are a set of the operand's kind
abbrev pub truth_of_set : Kind → List Kind → Option Kind
truth_of_set a members = if is_set_of a members then Some k.Bool else None

-- of integers an integer, of numbers a number
abbrev pub numeric_one : List Alternative
numeric_one = to (k.Int ∷ []) k.Int ∷ to (k.Num ∷ []) k.Num ∷ []

abbrev pub numeric_two : List Alternative
numeric_two = to (k.Int ∷ k.Int ∷ []) k.Int ∷ to (k.Num ∷ k.Num ∷ []) k.Num ∷ []

-- one alternative alone
abbrev pub only : List Kind → Kind → List Alternative
only wanted given = to wanted given ∷ []

-- the kind of the operator's value, where operands of these kinds meet its row; VTL and SQL have the same rows, but that
-- REPLACE of SQL takes exactly three operands, and that VTL does not spell the shift and the frequency of a period
abbrev pub kinds_of : ScalarOp → List Kind → Option Kind
kinds_of op.Identity kinds = first_met numeric_one kinds
kinds_of op.Negate kinds = first_met numeric_one kinds
kinds_of op.Add kinds = first_met numeric_two kinds
kinds_of op.Subtract kinds = first_met numeric_two kinds
kinds_of op.Multiply kinds = first_met numeric_two kinds
kinds_of op.Divide kinds = first_met (only (k.Num ∷ k.Num ∷ []) k.Num) kinds
kinds_of op.Modulo kinds = first_met numeric_two kinds
kinds_of op.Absolute kinds = first_met numeric_one kinds
kinds_of op.Floor kinds = first_met (only (k.Num ∷ []) k.Int) kinds
kinds_of op.Ceil kinds = first_met (only (k.Num ∷ []) k.Int) kinds
kinds_of op.Round kinds = first_met (only (k.Num ∷ k.Int ∷ []) k.Num) kinds
kinds_of op.Truncate kinds = first_met (only (k.Num ∷ k.Int ∷ []) k.Num) kinds
kinds_of op.Concat kinds = first_met (only (k.Text ∷ k.Text ∷ []) k.Text) kinds
kinds_of op.Trim kinds = first_met (only (k.Text ∷ []) k.Text) kinds
kinds_of op.TrimLeft kinds = first_met (only (k.Text ∷ []) k.Text) kinds
kinds_of op.TrimRight kinds = first_met (only (k.Text ∷ []) k.Text) kinds
kinds_of op.Substring kinds = first_met (to (k.Text ∷ k.Int ∷ []) k.Text ∷ to (k.Text ∷ k.Int ∷ k.Int ∷ []) k.Text ∷ []) kinds
kinds_of op.Replace kinds = first_met (to (k.Text ∷ k.Text ∷ []) k.Text ∷ to (k.Text ∷ k.Text ∷ k.Text ∷ []) k.Text ∷ []) kinds
kinds_of op.Position kinds = first_met (only (k.Text ∷ k.Text ∷ []) k.Int) kinds
kinds_of op.Length kinds = first_met (only (k.Text ∷ []) k.Int) kinds
kinds_of op.Equal (a ∷ b ∷ []) = truth_of_alike (a ∷ b ∷ [])
kinds_of op.NotEqual (a ∷ b ∷ []) = truth_of_alike (a ∷ b ∷ [])
kinds_of op.Less (a ∷ b ∷ []) = truth_of_alike (a ∷ b ∷ [])
kinds_of op.LessOrEqual (a ∷ b ∷ []) = truth_of_alike (a ∷ b ∷ [])
kinds_of op.Greater (a ∷ b ∷ []) = truth_of_alike (a ∷ b ∷ [])
kinds_of op.GreaterOrEqual (a ∷ b ∷ []) = truth_of_alike (a ∷ b ∷ [])
kinds_of op.Between (a ∷ x ∷ y ∷ []) = truth_of_alike (a ∷ x ∷ y ∷ [])
kinds_of op.In (a ∷ x ∷ members) = truth_of_set a (x ∷ members)
kinds_of op.NotIn (a ∷ x ∷ members) = truth_of_set a (x ∷ members)
kinds_of op.And kinds = first_met (only (k.Bool ∷ k.Bool ∷ []) k.Bool) kinds
kinds_of op.Or kinds = first_met (only (k.Bool ∷ k.Bool ∷ []) k.Bool) kinds
kinds_of op.Xor kinds = first_met (only (k.Bool ∷ k.Bool ∷ []) k.Bool) kinds
kinds_of op.Not kinds = first_met (only (k.Bool ∷ []) k.Bool) kinds
kinds_of op.IsNull (a ∷ []) = Some k.Bool
kinds_of op.ValueOr (a ∷ x ∷ []) = common_kind (a ∷ x ∷ [])
kinds_of op.PeriodShift kinds = first_met (only (k.Period ∷ k.Int ∷ []) k.Period) kinds
kinds_of op.PeriodFrequency kinds = first_met (only (k.Period ∷ []) k.Text) kinds
kinds_of op.If (c ∷ a ∷ b ∷ []) = if meets k.Bool c then common_kind (a ∷ b ∷ []) else None
kinds_of other kinds = None
