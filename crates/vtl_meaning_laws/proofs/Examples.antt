-- Each law on data sets that its premises fit.
use Rattle.std.specs.Prelude.{codes, count_by, false, reverse}
use Rattle.std.specs.List.{AllByRecursion, Contains, filter}
use Rattle.std.specs.Ordering.{is_lt}
use Rattle.std.proofs.Common.{◌≡◌, ℕ, zero, suc, pos, List, [], ◌∷◌, Some, None, Ok, map, take, ap, refl, arith}
use Rattle.vtl_cell.specs.Groups.{group_value}
use Rattle.vtl_cell.specs.Outcome.{fault_in}
use Rattle.vtl_cell.specs.Row.{Row, column_of}
use Rattle.vtl_cell.specs.Sorted.{by_keys}
use Rattle.vtl_cell.specs.declared.cell.Cell.{Cell}
use Rattle.vtl_cell.specs.declared.cell.Cell.TheVariants.{Int, Null, Text}
use Rattle.vtl_cell.specs.declared.kind.Kind.TheVariants as k
use Rattle.vtl_cell.specs.declared.operator.AggKind.TheVariants.{Sum}
use Rattle.vtl_decimal.specs.Settings.{Settings}
use Rattle.vtl_decimal.specs.declared.settings.Rounding.TheVariants.{HalfUp}
use Rattle.vtl_syntax.specs.declared.word_groups.JoinKind.TheVariants as join
use Rattle.vtl_tree.specs.ClauseShapes.{renamed}
use Rattle.vtl_tree.specs.Columns.{identifiers_of}
use Rattle.vtl_tree.specs.Joins.{held_names, joined_components}
use Rattle.vtl_tree.specs.declared.joins.Operand.{Operand}
use Rattle.vtl_tree.specs.declared.renaming.Renaming.{Renaming}
use Rattle.vtl_syntax.specs.declared.word_groups.Retain.TheVariants as retain
use Rattle.vtl_tree.specs.DataSet.{IsDataSet, look}
use Rattle.vtl_tree.specs.Environment.{DataSet}
use Rattle.vtl_tree.specs.Measures.{made}
use Rattle.vtl_tree.specs.Structure.{IsStructure, columns_of}
use Rattle.vtl_tree.specs.declared.calls.AnalyticOp.TheVariants as op
use Rattle.vtl_tree.specs.declared.calls.Window.{Window}
use Rattle.vtl_tree.specs.declared.structure.Component.{Component}
use Rattle.vtl_tree.specs.declared.structure.Role.TheVariants as role
use Rattle.vtl_tree.specs.declared.structure.Structure.{Structure}
use Rattle.vtl_meaning.specs.Joined.{Tuple, full_tuples, left_tuples, part_of, reference_place, structures_of}
use Rattle.vtl_meaning.specs.Made.{IsCombined, IsJoined, IsPivoted, IsUnpivoted}
use Rattle.vtl_meaning.specs.Operators.{left_of}
use Rattle.vtl_meaning.specs.Points.{with_points}
use Rattle.vtl_meaning.specs.Sets.{difference_of, existence_of, intersection_of, symmetric_difference_of, union_of}
use Rattle.vtl_meaning.specs.Aggregates.{aggregate_of}
use Rattle.vtl_meaning.specs.AggregateShapes.{IsAggregated}
use Rattle.vtl_meaning.specs.AnalyticShapes.{IsAnalyzed}
use Rattle.vtl_meaning.specs.Analytics.{analytic_of}
use Rattle.vtl_meaning.specs.Turned.{pivot_of, unpivot_of}
use Rattle.vtl_meaning.specs.Windows.{keys_in, op_value, partition_of, seen, stand_of}
use Rattle.vtl_meaning_laws.specs.Found.{IsFullTuple, IsLeftTuple, begins_whole}
use Rattle.vtl_meaning_laws.specs.Frames.{of_current_alone, turned_round}
use Rattle.vtl_meaning_laws.specs.Overs.{by_groups, over_partitions}
use Rattle.vtl_meaning_laws.proofs.BracketCodes.{same_structures}
use Rattle.vtl_meaning_laws.proofs.ClauseCodes.{joined_shared, renamed_identifiers}
use Rattle.vtl_meaning_laws.proofs.Combined.{own_points}
use Rattle.vtl_meaning_laws.proofs.Existence.{absent_is_difference, there_is_intersection}
use Rattle.vtl_meaning_laws.proofs.FallingOrders.{from_its_end}
use Rattle.vtl_meaning_laws.proofs.JoinTuples.{full_has_all, full_within, left_has_all, left_is_part, left_within}
use Rattle.vtl_meaning_laws.proofs.Regrouped.{bracketed_sets, two_differences}
use Rattle.vtl_meaning_laws.proofs.Stands.{lagged, led, rank_is_place, ranks_tie, running_whole, seen_alone}
use Rattle.vtl_meaning_laws.proofs.Twice.{union_twice}
use Rattle.vtl_meaning_laws.proofs.Unpivoted.{undone}
use Rattle.vtl_meaning_laws.proofs.WholeGroups.{faults_alike, over_is}

abbrev int : ℕ → Cell
int n = Int (pos n)

abbrev text : ℕ → Cell
text n = Text (n ∷ [])

abbrev of_components : List Component → Structure
of_components xs = record { components = xs }

abbrev area : Component
area = made (codes "area") role.Identifier k.Text

abbrev year : Component
year = made (codes "year") role.Identifier k.Int

abbrev people : Component
people = made (codes "people") role.Measure k.Int

abbrev note : Component
note = made (codes "note") role.Attribute k.Text

-- ---- two operands, the second with its identifiers in another order
abbrev noted : Structure
noted = of_components (area ∷ year ∷ people ∷ note ∷ [])

abbrev turned : Structure
turned = of_components (year ∷ area ∷ people ∷ [])

abbrev plain : Structure
plain = of_components (area ∷ year ∷ people ∷ [])

abbrev first : DataSet
first = with_points noted ((text 97 ∷ int 1 ∷ int 10 ∷ Null ∷ []) ∷ (text 98 ∷ int 1 ∷ int 20 ∷ text 120 ∷ []) ∷ [])

abbrev second : DataSet
second = with_points turned ((int 1 ∷ text 98 ∷ int 30 ∷ []) ∷ (int 2 ∷ text 98 ∷ int 40 ∷ []) ∷ [])

noted_is : IsStructure noted
noted_is = record { some = omega arith; few = omega arith; distinct = refl }

turned_is : IsStructure turned
turned_is = record { some = omega arith; few = omega arith; distinct = refl }

plain_is : IsStructure plain
plain_is = record { some = omega arith; few = omega arith; distinct = refl }

first_is : IsDataSet noted first.points
first_is = record { well_formed = noted_is; typed = (refl, (refl, tt)); distinct = refl }

second_is : IsDataSet turned second.points
second_is = record { well_formed = turned_is; typed = (refl, (refl, tt)); distinct = refl }

-- the structures of `union(first, first)`, of `union(first, second)`, and of `setdiff(second, first)`
twice_is : IsCombined noted (noted ∷ []) plain
twice_is = record {
  well_formed = plain_is;
  identifiers = (refl, refl);
  operands = (record { there = ((refl, refl), ((refl, refl), tt)); back = ((refl, refl), ((refl, refl), tt)); measures = ((refl, refl), tt) }, (record { there = ((refl, refl), ((refl, refl), tt)); back = ((refl, refl), ((refl, refl), tt)); measures = ((refl, refl), tt) }, tt));
  no_attributes = refl;
  shape = refl;
}

both_are : IsCombined noted (turned ∷ []) plain
both_are = record {
  well_formed = plain_is;
  identifiers = (refl, refl);
  operands = (record { there = ((refl, refl), ((refl, refl), tt)); back = ((refl, refl), ((refl, refl), tt)); measures = ((refl, refl), tt) }, (record { there = ((refl, refl), ((refl, refl), tt)); back = ((refl, refl), ((refl, refl), tt)); measures = ((refl, refl), tt) }, tt));
  no_attributes = refl;
  shape = refl;
}

back_is : IsCombined turned (noted ∷ []) turned
back_is = record {
  well_formed = turned_is;
  identifiers = (refl, refl);
  operands = (record { there = ((refl, refl), ((refl, refl), tt)); back = ((refl, refl), ((refl, refl), tt)); measures = ((refl, refl), tt) }, (record { there = ((refl, refl), ((refl, refl), tt)); back = ((refl, refl), ((refl, refl), tt)); measures = ((refl, refl), tt) }, tt));
  no_attributes = refl;
  shape = refl;
}

whole_is : IsCombined plain (turned ∷ []) plain
whole_is = record {
  well_formed = plain_is;
  identifiers = (refl, refl);
  operands = (record { there = ((refl, refl), ((refl, refl), tt)); back = ((refl, refl), ((refl, refl), tt)); measures = ((refl, refl), tt) }, (record { there = ((refl, refl), ((refl, refl), tt)); back = ((refl, refl), ((refl, refl), tt)); measures = ((refl, refl), tt) }, tt));
  no_attributes = refl;
  shape = refl;
}

with_itself : union_of (first ∷ first ∷ []) plain ≡ left_of first plain
with_itself = union_twice first plain twice_is first_is

there : map (take 2) (existence_of first second retain.True) ≡ map (take 2) (intersection_of (first ∷ second ∷ []) plain)
there = there_is_intersection first second plain both_are first_is second_is

absent : map (take 2) (existence_of first second retain.False) ≡ map (take 2) (difference_of first second plain)
absent = absent_is_difference first second plain both_are first_is second_is

differences : symmetric_difference_of first second plain ≡ union_of (with_points plain (difference_of first second plain) ∷ with_points turned (difference_of second first turned) ∷ []) plain
differences = two_differences first second plain turned plain both_are back_is whole_is first_is second_is

-- the points that it has: those of the first, those of the second alone
differences_are : symmetric_difference_of first second plain ≡ ((text 97 ∷ int 1 ∷ int 10 ∷ []) ∷ (text 98 ∷ int 2 ∷ int 40 ∷ []) ∷ [])
differences_are = refl

twice_back : IsCombined turned (turned ∷ []) turned
twice_back = record {
  well_formed = turned_is;
  identifiers = (refl, refl);
  operands = (record { there = ((refl, refl), ((refl, refl), tt)); back = ((refl, refl), ((refl, refl), tt)); measures = ((refl, refl), tt) }, (record { there = ((refl, refl), ((refl, refl), tt)); back = ((refl, refl), ((refl, refl), tt)); measures = ((refl, refl), tt) }, tt));
  no_attributes = refl;
  shape = refl;
}

brackets : union_of (with_points plain (union_of (first ∷ second ∷ []) plain) ∷ second ∷ []) plain ≡ union_of (first ∷ with_points turned (union_of (second ∷ second ∷ []) turned) ∷ []) plain
brackets = bracketed_sets first second second plain turned plain plain both_are twice_back whole_is both_are first_is second_is second_is

bracket_structures : plain ≡ plain
bracket_structures = same_structures noted turned turned plain turned plain plain both_are twice_back whole_is both_are turned_is turned_is

-- a data set without attributes, in its own columns
in_own_columns : left_of second turned ≡ second.points
in_own_columns = own_points turned turned second.points second_is refl

-- ---- joins of two operands by one identifier
abbrev size : Component
size = made (codes "size") role.Measure k.Int

abbrev counted : DataSet
counted = with_points (of_components (area ∷ people ∷ [])) ((text 97 ∷ int 1 ∷ []) ∷ (text 98 ∷ int 2 ∷ []) ∷ [])

abbrev measured : DataSet
measured = with_points (of_components (area ∷ size ∷ [])) ((text 98 ∷ int 5 ∷ []) ∷ (text 99 ∷ int 6 ∷ []) ∷ [])

abbrev joined : Structure
joined = of_components (area ∷ people ∷ size ∷ [])

both_sets : AllByRecursion (λ d. IsDataSet d.structure d.points) (counted ∷ measured ∷ [])
both_sets = (record { well_formed = record { some = omega arith; few = omega arith; distinct = refl }; typed = (refl, (refl, tt)); distinct = refl }, (record { well_formed = record { some = omega arith; few = omega arith; distinct = refl }; typed = (refl, (refl, tt)); distinct = refl }, tt))

left_is : IsJoined join.Left (structures_of (counted ∷ measured ∷ [])) joined
left_is = record {
  well_formed = record { some = omega arith; few = omega arith; distinct = refl };
  reference = counted.structure;
  there = refl;
  identifiers = ((refl, refl), (((refl, refl), tt), (((refl, refl), tt), tt)));
  measures = refl;
  attributes = refl;
}

full_is : IsJoined join.Full (structures_of (counted ∷ measured ∷ [])) joined
full_is = record {
  well_formed = record { some = omega arith; few = omega arith; distinct = refl };
  reference = counted.structure;
  there = refl;
  identifiers = ((refl, refl), ((((refl, refl), tt), ((refl, refl), tt)), ((((refl, refl), tt), ((refl, refl), tt)), tt)));
  measures = refl;
  attributes = refl;
}

-- a point of the first operand that no other agrees with
abbrev alone : Tuple
alone = record { identifiers = text 97 ∷ []; parts = part_of counted (Some (text 97 ∷ int 1 ∷ [])) ∷ part_of measured None ∷ [] }

alone_is : IsLeftTuple counted (measured ∷ []) alone
alone_is = record {
  point = text 97 ∷ int 1 ∷ [];
  there = (zero, omega arith, refl);
  identifiers = refl;
  parts = part_of measured None ∷ [];
  begins = refl;
  agree = (refl, (refl, (refl, tt)), tt);
}

in_left : Contains (left_tuples counted (counted ∷ measured ∷ [])) alone
in_left = left_has_all counted (measured ∷ []) (left_within counted (measured ∷ []) joined left_is both_sets) alone alone_is

-- a point of the second operand alone
abbrev behind : Tuple
behind = record { identifiers = text 99 ∷ []; parts = part_of counted None ∷ part_of measured (Some (text 99 ∷ int 6 ∷ [])) ∷ [] }

behind_is : IsFullTuple (area ∷ []) (counted ∷ measured ∷ []) behind
behind_is = record { some = refl; parts = (refl, (refl, (refl, tt)), (refl, ((suc zero, omega arith, refl), refl), tt)) }

in_full : Contains (full_tuples counted (counted ∷ measured ∷ [])) behind
in_full = full_has_all counted (counted ∷ measured ∷ []) (full_within counted (measured ∷ []) joined full_is both_sets) behind behind_is

left_in_full : filter begins_whole (full_tuples counted (counted ∷ measured ∷ [])) ≡ left_tuples counted (counted ∷ measured ∷ [])
left_in_full = left_is_part counted (measured ∷ []) joined full_is both_sets

-- the reference of the inner join is the first operand
first_is_reference : reference_place join.Inner (structures_of (counted ∷ measured ∷ [])) ≡ 0
first_is_reference = refl

-- ---- windows over all points of the first data set, by its measure
abbrev scale_six : Settings
scale_six = record { scale = 6; rounding = HalfUp }

abbrev by_people : Window
by_people = record { partition = []; order = record { component = codes "people"; falling = false } ∷ []; frame = None }

abbrev current : Window
current = record { partition = []; order = record { component = codes "people"; falling = false } ∷ []; frame = Some of_current_alone }

abbrev people_at : Row → Cell
people_at r = column_of 2 r

abbrev lower : Row
lower = text 97 ∷ int 1 ∷ int 10 ∷ Null ∷ []

abbrev higher : Row
higher = text 98 ∷ int 1 ∷ int 20 ∷ text 120 ∷ []

lag_of_higher : op_value scale_six (columns_of noted) by_people people_at (op.Lag 1 Null) (stand_of first by_people higher) ≡ Ok (int 10)
lag_of_higher = ap Ok (lagged first by_people people_at 1 Null lower higher first_is refl refl (zero, omega arith, refl))

lead_of_lower : op_value scale_six (columns_of noted) by_people people_at (op.Lead 1 Null) (stand_of first by_people lower) ≡ Ok (int 20)
lead_of_lower = ap Ok (led first by_people people_at 1 Null lower higher first_is refl refl (suc zero, omega arith, refl))

running_at_last : group_value scale_six Sum (seen by_people people_at (stand_of first by_people higher)) ≡ group_value scale_six Sum (map people_at (partition_of first by_people higher))
running_at_last = running_whole scale_six first by_people Sum people_at higher refl refl

seen_by_lower : seen current people_at (stand_of first current lower) ≡ int 10 ∷ []
seen_by_lower = seen_alone first current people_at lower first_is (zero, omega arith, refl) refl

rank_of_higher : count_by (λ q. is_lt (by_keys (keys_in (columns_of noted) by_people) q higher)) (stand_of first by_people higher).ordered ≡ 1
rank_of_higher = rank_is_place scale_six first by_people higher ((λ e. cc), ((λ e. refl), tt))

-- both points have one year, and so one rank by it
abbrev by_years : Window
by_years = record { partition = []; order = record { component = codes "year"; falling = false } ∷ []; frame = None }

one_rank : count_by (λ q. is_lt (by_keys (keys_in (columns_of noted) by_years) q higher)) (stand_of first by_years higher).ordered ≡ count_by (λ q. is_lt (by_keys (keys_in (columns_of noted) by_years) q lower)) (stand_of first by_years lower).ordered
one_rank = ranks_tie scale_six first by_years lower higher refl refl

-- ---- `sum(first over (partition by year))` beside `sum(first group by year)`
abbrev windowed : Structure
windowed = of_components (area ∷ year ∷ people ∷ [])

abbrev grouped : Structure
grouped = of_components (year ∷ people ∷ [])

windowed_is : IsAnalyzed scale_six (over_partitions op.Sum (codes "year" ∷ [])) noted windowed
windowed_is = record { well_formed = plain_is; identifiers = refl; free = (refl, (refl, tt)); columns = ((refl, tt), tt); shape = refl }

grouped_is : IsAggregated (by_groups Sum (codes "year" ∷ [])) noted grouped
grouped_is = record {
  well_formed = record { some = omega arith; few = omega arith; distinct = refl };
  grouping = refl;
  identifiers = (refl, tt);
  columns = (refl, tt);
  shape = refl;
}

same_faults : fault_in (analytic_of scale_six (over_partitions op.Sum (codes "year" ∷ [])) first windowed) ≡ fault_in (aggregate_of scale_six (by_groups Sum (codes "year" ∷ [])) first grouped)
same_faults = faults_alike scale_six Sum op.Sum (codes "year" ∷ []) first windowed grouped (over_is Sum op.Sum refl) windowed_is grouped_is first_is

sums_over : analytic_of scale_six (over_partitions op.Sum (codes "year" ∷ [])) first windowed ≡ Ok ((text 97 ∷ int 1 ∷ int 30 ∷ []) ∷ (text 98 ∷ int 1 ∷ int 30 ∷ []) ∷ [])
sums_over = refl

-- ---- `pivot area, people` of points by year and area, and back
abbrev coded : Component
coded = record { name = codes "area"; role = role.Identifier; kind = k.Text; codes = Some (codes "a" ∷ codes "b" ∷ []) }

abbrev by_area : DataSet
by_area = with_points (of_components (year ∷ coded ∷ people ∷ [])) ((int 1 ∷ text 97 ∷ int 10 ∷ []) ∷ (int 1 ∷ text 98 ∷ int 20 ∷ []) ∷ (int 2 ∷ text 97 ∷ Null ∷ []) ∷ [])

abbrev pivoted : Structure
pivoted = of_components (year ∷ made (codes "a") role.Measure k.Int ∷ made (codes "b") role.Measure k.Int ∷ [])

abbrev back : Structure
back = of_components (year ∷ coded ∷ people ∷ [])

by_area_is : IsDataSet by_area.structure by_area.points
by_area_is = record { well_formed = record { some = omega arith; few = omega arith; distinct = refl }; typed = (refl, (refl, (refl, tt))); distinct = refl }

pivoted_is : IsPivoted (codes "area") (codes "people") by_area.structure pivoted
pivoted_is = record {
  well_formed = record { some = omega arith; few = omega arith; distinct = refl };
  identifiers = (refl, refl);
  coded = (refl, refl);
  measured = (refl, refl);
  measures = refl;
  shape = refl;
}

back_to_points : IsUnpivoted (codes "area") (codes "people") pivoted back
back_to_points = record {
  well_formed = record { some = omega arith; few = omega arith; distinct = refl };
  identifiers = (refl, refl);
  measured = refl;
  alike = (refl, (refl, tt));
  shape = refl;
}

-- a value comes back, and null does not
twenty_is_back : look 2 (unpivot_of (with_points pivoted (pivot_of by_area (codes "area") (codes "people")))) (int 1 ∷ text 98 ∷ []) ≡ Some (int 1 ∷ text 98 ∷ int 20 ∷ [])
twenty_is_back = undone (codes "area") (codes "people") (codes "area") (codes "people") by_area pivoted back pivoted_is back_to_points by_area_is (int 1 ∷ []) (codes "b") refl

null_is_not : look 2 (unpivot_of (with_points pivoted (pivot_of by_area (codes "area") (codes "people")))) (int 2 ∷ text 97 ∷ []) ≡ None
null_is_not = undone (codes "area") (codes "people") (codes "area") (codes "people") by_area pivoted back pivoted_is back_to_points by_area_is (int 2 ∷ []) (codes "a") refl

-- ---- `order by people desc`
falling_people : (stand_of first (turned_round by_people) lower).ordered ≡ reverse (lower ∷ higher ∷ [])
falling_people = from_its_end first by_people lower (((λ e. refl), ((λ e. cc), tt)), (((λ e. cc), ((λ e. refl), tt)), tt))

-- ---- an identifier with codes under another name, and beside an operand in which it has none
abbrev region : Component
region = record coded { name = codes "region" }

abbrev to_region : List Renaming
to_region = record { from = codes "area"; to = codes "region" } ∷ []

region_keeps_codes : identifiers_of (of_components (year ∷ region ∷ people ∷ [])) ≡ map (renamed to_region) (identifiers_of by_area.structure)
region_keeps_codes = renamed_identifiers to_region by_area.structure (of_components (year ∷ region ∷ people ∷ [])) refl

abbrev beside : List Operand
beside = record { alias = codes "d"; structure = by_area.structure } ∷ record { alias = codes "e"; structure = of_components (year ∷ area ∷ size ∷ []) } ∷ []

area_loses_codes : identifiers_of (of_components (joined_components join.Inner (held_names join.Inner beside) beside)) ≡ year ∷ area ∷ []
area_loses_codes = joined_shared join.Inner beside (record { alias = codes "d"; structure = by_area.structure }) (of_components (joined_components join.Inner (held_names join.Inner beside) beside)) refl refl refl
