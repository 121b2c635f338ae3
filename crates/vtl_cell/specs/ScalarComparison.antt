-- The values of the comparisons, of `between` and of `in`.
use Rattle.std.specs.Prelude.{Bool, false, not, ◌||◌, ◌&&◌, ◌==◌, if◌then◌else◌, List, [], ◌∷◌, Option, Some, None}
use Rattle.std.specs.Option.{option_map}
use Rattle.std.specs.declared.cmp.Ordering.{Ordering}
use Rattle.std.specs.Ordering.{is_eq, is_le, is_ge}
use Rattle.vtl_decimal.specs.Settings.{Settings}
use Rattle.vtl_cell.specs.Kinds.{is_null}
use Rattle.vtl_cell.specs.Order.{cell_cmp, kind_rank}
use Rattle.vtl_cell.specs.ScalarArithmetic.{units}
use Rattle.vtl_cell.specs.declared.cell.Cell.{Cell}
use Rattle.vtl_cell.specs.declared.cell.Cell.TheVariants as c

-- a value as it stands beside another: an integer beside a number is the number that equals it, of any size
abbrev pub as_beside : Settings → Cell → Cell → Cell
as_beside p (c.Int n) (c.Num k) = c.Num (units p n)
as_beside p v other = v

-- their order, where the values are of one kind and not null
abbrev pub order_within : Cell → Cell → Option Ordering
order_within a b = if not (is_null a) && (kind_rank a == kind_rank b) then Some (cell_cmp a b) else None

-- the order of two values of one kind, an integer beside a number by value; none with null or of two kinds
abbrev pub order_of : Settings → Cell → Cell → Option Ordering
order_of p a b = order_within (as_beside p a b) (as_beside p b a)

-- a boolean, or null
abbrev pub truth : Option Bool → Cell
truth (Some b) = c.Bool b
truth None = c.Null

-- what is asked of the order of two values
abbrev pub compared : (Ordering → Bool) → Settings → Cell → Cell → Option Bool
compared test p a b = option_map test (order_of p a b)

-- null where one is null
abbrev pub combined : (Bool → Bool → Bool) → Option Bool → Option Bool → Option Bool
combined f None b = None
combined f (Some a) None = None
combined f (Some a) (Some b) = Some (f a b)

-- between(a, x, y)
abbrev pub between_of : Settings → Cell → Cell → Cell → Option Bool
between_of p a x y = combined (λ s t. s && t) (compared is_ge p a x) (compared is_le p a y)

-- whether one of the members equals the value
abbrev pub member_of : Settings → Cell → List Cell → Option Bool
member_of p a [] = Some false
member_of p a (x ∷ members) = combined (λ s t. s || t) (compared is_eq p a x) (member_of p a members)

-- a in {x, ..}: a value, and then one member at least
abbrev pub membership_of : Settings → List Cell → Option Bool
membership_of p (a ∷ x ∷ members) = member_of p a (x ∷ members)
membership_of p other = None
