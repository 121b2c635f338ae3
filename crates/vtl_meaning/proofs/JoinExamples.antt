-- What the definitions of joins, set operators, `pivot` and `unpivot` give for single data sets.
use Rattle.std.proofs.Common.{◌≡◌, ℕ, pos, true, false, List, [], ◌∷◌, Some, map, refl}
use Rattle.std.specs.Prelude.{codes}
use Rattle.vtl_cell.specs.declared.cell.Cell.{Cell}
use Rattle.vtl_cell.specs.declared.cell.Cell.TheVariants.{Null, Int, Text}
use Rattle.vtl_cell.specs.declared.cell.Cell.TheVariants as c
use Rattle.vtl_cell.specs.declared.kind.Kind.TheVariants as k
use Rattle.vtl_cell.specs.Row.{Row}
use Rattle.vtl_syntax.specs.declared.word_groups.JoinKind.TheVariants as join
use Rattle.vtl_syntax.specs.declared.word_groups.Retain.TheVariants as retain
use Rattle.vtl_tree.specs.Environment.{DataSet}
use Rattle.vtl_tree.specs.declared.structure.Component.{Component}
use Rattle.vtl_tree.specs.declared.structure.Role.TheVariants as role
use Rattle.vtl_tree.specs.declared.structure.Structure.{Structure}
use Rattle.vtl_tree.specs.Measures.{made}
use Rattle.vtl_meaning.specs.Agreement.{OperandPoint}
use Rattle.vtl_meaning.specs.Joined.{agreeing, inner_tuples, joined_of, present}
use Rattle.vtl_meaning.specs.Points.{with_points}
use Rattle.vtl_meaning.specs.Sets.{difference_of, existence_of, intersection_of, symmetric_difference_of, union_of}
use Rattle.vtl_meaning.specs.Turned.{pivot_of, unpivot_of}

abbrev int : ℕ → Cell
int n = Int (pos n)

abbrev of_components : List Component → Structure
of_components xs = record { components = xs }

abbrev area : Component
area = made (codes "area") role.Identifier k.Text

abbrev year : Component
year = made (codes "year") role.Identifier k.Int

abbrev people : Component
people = made (codes "people") role.Measure k.Int

abbrev size : Component
size = made (codes "size") role.Measure k.Int

abbrev note : Component
note = made (codes "note") role.Attribute k.Text

abbrev p : Cell
p = Text (codes "p")

abbrev q : Cell
q = Text (codes "q")

abbrev r : Cell
r = Text (codes "r")

-- ---- two operands with the same identifier
abbrev counted : DataSet
counted = with_points (of_components (area ∷ people ∷ [])) ((p ∷ int 1 ∷ []) ∷ (q ∷ int 2 ∷ []) ∷ [])

abbrev measured : DataSet
measured = with_points (of_components (area ∷ size ∷ [])) ((q ∷ int 5 ∷ []) ∷ (r ∷ int 6 ∷ []) ∷ [])

left_join : joined_of join.Left counted (counted ∷ measured ∷ []) ≡ ((p ∷ int 1 ∷ Null ∷ []) ∷ (q ∷ int 2 ∷ int 5 ∷ []) ∷ [])
left_join = refl

inner_join : joined_of join.Inner counted (counted ∷ measured ∷ []) ≡ ((q ∷ int 2 ∷ int 5 ∷ []) ∷ [])
inner_join = refl

full_join : joined_of join.Full counted (counted ∷ measured ∷ []) ≡ ((p ∷ int 1 ∷ Null ∷ []) ∷ (q ∷ int 2 ∷ int 5 ∷ []) ∷ (r ∷ Null ∷ int 6 ∷ []) ∷ [])
full_join = refl

cross_join : joined_of join.Cross counted (counted ∷ measured ∷ []) ≡ ((p ∷ q ∷ int 1 ∷ int 5 ∷ []) ∷ (p ∷ r ∷ int 1 ∷ int 6 ∷ []) ∷ (q ∷ q ∷ int 2 ∷ int 5 ∷ []) ∷ (q ∷ r ∷ int 2 ∷ int 6 ∷ []) ∷ [])
cross_join = refl

exists : existence_of counted measured retain.All ≡ ((p ∷ c.Bool false ∷ []) ∷ (q ∷ c.Bool true ∷ []) ∷ [])
exists = refl

exists_true : existence_of counted measured retain.True ≡ ((q ∷ c.Bool true ∷ []) ∷ [])
exists_true = refl

exists_false : existence_of counted measured retain.False ≡ ((p ∷ c.Bool false ∷ []) ∷ [])
exists_false = refl

-- ---- an inner join whose reference is the second of three operands; the first and the last share no identifier. Measures stand
-- before the attributes of all operands.
abbrev names : DataSet
names = with_points (of_components (note ∷ area ∷ [])) ((p ∷ Text (codes "P") ∷ []) ∷ (q ∷ Null ∷ []) ∷ [])

abbrev by_year : DataSet
by_year = with_points (of_components (year ∷ area ∷ people ∷ [])) ((int 10 ∷ q ∷ int 3 ∷ []) ∷ (int 20 ∷ r ∷ int 4 ∷ []) ∷ (int 20 ∷ p ∷ int 5 ∷ []) ∷ [])

abbrev sizes : DataSet
sizes = with_points (of_components (size ∷ year ∷ [])) ((int 20 ∷ int 7 ∷ []) ∷ (int 10 ∷ int 8 ∷ []) ∷ [])

three : joined_of join.Inner by_year (names ∷ by_year ∷ sizes ∷ []) ≡ ((int 10 ∷ q ∷ int 3 ∷ int 8 ∷ Null ∷ []) ∷ (int 20 ∷ p ∷ int 5 ∷ int 7 ∷ Text (codes "P") ∷ []) ∷ [])
three = refl

-- the points that agree, over all operands at once, are those of its tuples, in another order
abbrev one_of : DataSet → Row → OperandPoint
one_of d point = record { structure = d.structure; point = point }

all_at_once : agreeing (names ∷ by_year ∷ sizes ∷ [])
    ≡ ((one_of names (p ∷ Text (codes "P") ∷ []) ∷ one_of by_year (int 20 ∷ p ∷ int 5 ∷ []) ∷ one_of sizes (int 20 ∷ int 7 ∷ []) ∷ [])
    ∷ (one_of names (q ∷ Null ∷ []) ∷ one_of by_year (int 10 ∷ q ∷ int 3 ∷ []) ∷ one_of sizes (int 10 ∷ int 8 ∷ []) ∷ []) ∷ [])
all_at_once = refl

from_reference : map (λ t. t.parts) (inner_tuples by_year (names ∷ by_year ∷ sizes ∷ []))
    ≡ map (map present) ((one_of names (q ∷ Null ∷ []) ∷ one_of by_year (int 10 ∷ q ∷ int 3 ∷ []) ∷ one_of sizes (int 10 ∷ int 8 ∷ []) ∷ [])
    ∷ (one_of names (p ∷ Text (codes "P") ∷ []) ∷ one_of by_year (int 20 ∷ p ∷ int 5 ∷ []) ∷ one_of sizes (int 20 ∷ int 7 ∷ []) ∷ []) ∷ [])
from_reference = refl

-- ---- a full join of three whose identifiers stand in other orders; the last has a point that the others lack
abbrev turned : DataSet
turned = with_points (of_components (area ∷ size ∷ year ∷ note ∷ [])) ((q ∷ int 10 ∷ int 9 ∷ Null ∷ []) ∷ (p ∷ int 30 ∷ Null ∷ p ∷ []) ∷ [])

abbrev bare : DataSet
bare = with_points (of_components (area ∷ year ∷ [])) ((r ∷ int 40 ∷ []) ∷ (p ∷ int 20 ∷ []) ∷ [])

full_of_three : joined_of join.Full by_year (by_year ∷ turned ∷ bare ∷ [])
    ≡ ((int 10 ∷ q ∷ int 3 ∷ int 9 ∷ Null ∷ []) ∷ (int 20 ∷ r ∷ int 4 ∷ Null ∷ Null ∷ []) ∷ (int 20 ∷ p ∷ int 5 ∷ Null ∷ Null ∷ [])
    ∷ (int 30 ∷ p ∷ Null ∷ Null ∷ p ∷ []) ∷ (int 40 ∷ r ∷ Null ∷ Null ∷ Null ∷ []) ∷ [])
full_of_three = refl

-- ---- set operators: the second operand has its measures in another order, and an attribute
abbrev both : Structure
both = of_components (area ∷ people ∷ size ∷ [])

abbrev first : DataSet
first = with_points both ((p ∷ int 1 ∷ int 10 ∷ []) ∷ [])

abbrev second : DataSet
second = with_points (of_components (size ∷ note ∷ people ∷ area ∷ [])) ((p ∷ int 90 ∷ int 9 ∷ Null ∷ []) ∷ (q ∷ Null ∷ int 2 ∷ p ∷ []) ∷ [])

union : union_of (first ∷ second ∷ []) both ≡ ((p ∷ int 1 ∷ int 10 ∷ []) ∷ (q ∷ int 2 ∷ Null ∷ []) ∷ [])
union = refl

intersection : intersection_of (first ∷ second ∷ []) both ≡ ((p ∷ int 1 ∷ int 10 ∷ []) ∷ [])
intersection = refl

difference : difference_of second first both ≡ ((q ∷ int 2 ∷ Null ∷ []) ∷ [])
difference = refl

symmetric_difference : symmetric_difference_of first second both ≡ ((q ∷ int 2 ∷ Null ∷ []) ∷ [])
symmetric_difference = refl

three_united : union_of (second ∷ first ∷ counted ∷ []) (of_components (area ∷ people ∷ [])) ≡ ((p ∷ int 9 ∷ []) ∷ (q ∷ int 2 ∷ []) ∷ [])
three_united = refl

in_all_three : intersection_of (counted ∷ second ∷ first ∷ []) (of_components (area ∷ people ∷ [])) ≡ ((p ∷ int 1 ∷ []) ∷ [])
in_all_three = refl

-- ---- `pivot code, people` with three codes: in their declared order, and null where there is no point
abbrev code : Component
code = record { name = codes "code"; role = role.Identifier; kind = k.Text; codes = Some (codes "A" ∷ codes "B" ∷ codes "C" ∷ []) }

abbrev coded : DataSet
coded =
    with_points (of_components (area ∷ code ∷ people ∷ []))
    ((q ∷ Text (codes "C") ∷ int 3 ∷ []) ∷ (p ∷ Text (codes "C") ∷ int 2 ∷ []) ∷ (p ∷ Text (codes "A") ∷ int 1 ∷ [])
    ∷ (q ∷ Text (codes "B") ∷ int 5 ∷ []) ∷ (q ∷ Text (codes "A") ∷ int 4 ∷ []) ∷ [])

pivoted : pivot_of coded (codes "code") (codes "people") ≡ ((q ∷ int 4 ∷ int 5 ∷ int 3 ∷ []) ∷ (p ∷ int 1 ∷ Null ∷ int 2 ∷ []) ∷ [])
pivoted = refl

-- ---- `unpivot`: nulls give no point, and attributes go
unpivoted : unpivot_of second ≡ ((p ∷ Text (codes "size") ∷ int 90 ∷ []) ∷ (p ∷ Text (codes "people") ∷ int 9 ∷ []) ∷ (q ∷ Text (codes "people") ∷ int 2 ∷ []) ∷ [])
unpivoted = refl
