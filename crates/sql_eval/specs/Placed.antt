-- Expressions with places in place of names, and their value at a row and at a group of rows.
use Rattle.std.specs.Prelude.{ℕ, Bool, true, false, List, [], ◌∷◌, Option, Ok}
use Rattle.std.specs.List.{list_all, list_any}
use Rattle.vtl_cell.specs.Conversion.{as_kind}
use Rattle.vtl_cell.specs.Groups.{count_of_points, group_value}
use Rattle.vtl_cell.specs.Logic.{not_of}
use Rattle.vtl_cell.specs.Outcome.{Outcome, after}
use Rattle.vtl_cell.specs.Outcomes.{branch, first_chosen, is_true}
use Rattle.vtl_cell.specs.Row.{Row, column_of}
use Rattle.vtl_cell.specs.ScalarComparison.{membership_of, truth}
use Rattle.vtl_cell.specs.Scalars.{scalar_of}
use Rattle.vtl_decimal.specs.Settings.{Settings}
use Rattle.vtl_cell.specs.declared.cell.Cell.{Cell}
use Rattle.vtl_cell.specs.declared.cell.Cell.TheVariants as c
use Rattle.vtl_cell.specs.declared.kind.Kind.{Kind}
use Rattle.vtl_cell.specs.declared.operator.AggKind.{AggKind}
use Rattle.vtl_cell.specs.declared.operator.ScalarOp.{ScalarOp}
use Rattle.vtl_cell.specs.declared.operator.ScalarOp.TheVariants as op
use Rattle.sql_tree.specs.Trees.{Text}
use Rattle.sql_meaning.specs.Outcomes.{all_values, operated}
use Rattle.sql_eval.specs.Origins.{rows_at}
use Rattle.sql_eval.specs.declared.origin.Origin.{Origin}
use Rattle.sql_eval.specs.declared.resolved.Side.{Side}
use Rattle.sql_eval.specs.declared.resolved.Side.TheVariants as side
use Rattle.sql_eval.specs.declared.resolved.Tie.{Tie}

mutual
  pub data Placed : Type 0 where
    column : ℕ → Placed
    const : Cell → Placed
    apply : ScalarOp → Kind → Placeds → Placed
    -- a value, whether it is asked that it is not there, and the members of a set
    membership : Placed → Bool → List Cell → Placed
    choose : Kind → PlacedBranches → Placed
    there : Origin → List Tie → Placed
    count_all : Placed
    aggregate : AggKind → Placed → Placed

  pub data Placeds : Type 0 where
    no_placeds : Placeds
    placed_then : Placed → Placeds → Placeds

  -- conditions and values
  pub data PlacedBranches : Type 0 where
    no_branches : PlacedBranches
    branch_then : Placed → Placed → PlacedBranches → PlacedBranches

-- ---- EXISTS

abbrev pub side_cell : Row → Row → Side → Cell
side_cell outer inner (side.Inner i) = column_of i inner
side_cell outer inner (side.Outer i) = column_of i outer

-- an equality with null is not true
abbrev pub is_tied : Settings → Row → Row → Tie → Bool
is_tied p outer inner t = is_true (scalar_of p op.Equal (side_cell outer inner t.left ∷ side_cell outer inner t.right ∷ []))

-- some row of the table, or of the SERIES over it, makes every equality true
abbrev pub has_partner : Settings → (Text → List Row) → Origin → List Tie → Row → Bool
has_partner p rows table ts outer = list_any (λ inner. list_all (is_tied p outer inner) ts) (rows_at rows table)

-- ---- sets

abbrev pub asked : Bool → Option Bool → Option Bool
asked false found = found
asked true found = not_of found

-- whether a value is one of the members, or whether it is not
abbrev pub membership_value : Settings → Bool → List Cell → Cell → Outcome Cell
membership_value p negated members v = Ok (truth (asked negated (membership_of p (v ∷ members))))

-- ---- values

abbrev mutual
  pub placed_value : Settings → (Text → List Row) → Placed → Row → List Row → Outcome Cell
  placed_value p rows (column i) r g = Ok (column_of i r)
  placed_value p rows (const v) r g = Ok v
  placed_value p rows (apply o kind es) r g = operated p kind (placed_values p rows es r g) o
  placed_value p rows (membership e negated members) r g = after (placed_value p rows e r g) (membership_value p negated members)
  placed_value p rows (choose kind bs) r g = after (placed_choice p rows bs r g) (as_kind p kind)
  placed_value p rows (there table ts) r g = Ok (c.Bool (has_partner p rows table ts r))
  placed_value p rows count_all r g = count_of_points p g
  placed_value p rows (aggregate f e) r g = after (all_values (λ q. placed_value p rows e q []) g) (group_value p f)

  pub placed_values : Settings → (Text → List Row) → Placeds → Row → List Row → List (Outcome Cell)
  placed_values p rows no_placeds r g = []
  placed_values p rows (placed_then e es) r g = placed_value p rows e r g ∷ placed_values p rows es r g

  -- the value behind the first condition that is true, or null where none is
  pub placed_choice : Settings → (Text → List Row) → PlacedBranches → Row → List Row → Outcome Cell
  placed_choice p rows no_branches r g = Ok c.Null
  placed_choice p rows (branch_then x w bs) r g = after (placed_value p rows x r g) (λ t. branch (first_chosen t) (placed_value p rows w r g) (placed_choice p rows bs r g))

-- an aggregate of the values of an expression at the rows of a group
abbrev pub aggregate_value : Settings → (Text → List Row) → AggKind → Placed → List Row → Outcome Cell
aggregate_value p rows f e g = placed_value p rows (aggregate f e) [] g
