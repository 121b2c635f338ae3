-- Joins: tuples with a part for each operand, present or missing, and the points that they make.
use Rattle.std.specs.Prelude.{ℕ, List, [], ◌++◌, filter, map, Bool, Option, Some, None, is_some, slice_get}
use Rattle.std.specs.List.{flat_map, list_all, position_or_len}
use Rattle.std.specs.Option.{option_map_or}
use Rattle.vtl_cell.specs.Row.{Row, same_row}
use Rattle.vtl_cell.specs.declared.cell.Cell.TheVariants as c
use Rattle.vtl_syntax.specs.declared.word_groups.JoinKind.{JoinKind}
use Rattle.vtl_syntax.specs.declared.word_groups.JoinKind.TheVariants as join
use Rattle.vtl_tree.specs.Environment.{DataSet}
use Rattle.vtl_tree.specs.Structure.{of_role}
use Rattle.vtl_tree.specs.declared.structure.Component.{Component}
use Rattle.vtl_tree.specs.declared.structure.Role.TheVariants as role
use Rattle.vtl_tree.specs.declared.structure.Structure.{Structure}
use Rattle.vtl_tree.specs.Pairs.{contains}
use Rattle.vtl_tuples.specs.Keys.{each_once, item_at}
use Rattle.vtl_tuples.specs.Tuples.{combinations, matching}
use Rattle.vtl_meaning.specs.Agreement.{OperandPoint, first_agreeing, key_of, operand_points, points_agree, values_in}
use Rattle.vtl_tree.specs.Columns.{identifiers_of, measures_of}

-- what a tuple has of one operand: a point of it, or nothing
pub record Part : Type 0 where
  pub structure : Structure
  pub point : Option Row

-- the values of the joined set's identifiers, and a part for each operand
pub record Tuple : Type 0 where
  pub identifiers : Row
  pub parts : List Part

abbrev pub part_of : DataSet → Option Row → Part
part_of d q = record { structure = d.structure; point = q }

abbrev pub present : OperandPoint → Part
present x = record { structure = x.structure; point = Some x.point }

-- no part is missing
abbrev pub is_whole : Tuple → Bool
is_whole t = list_all (λ p. is_some p.point) t.parts

-- ---- the reference, of which the joined set has the identifiers
abbrev pub contains_all : List Structure → Structure → Bool
contains_all ss a = list_all (λ b. contains a b) ss

-- Its place: in an inner join that of the first operand whose identifiers contain those of every other, in the other joins the
-- first one.
abbrev pub reference_place : JoinKind → List Structure → ℕ
reference_place join.Inner ss = position_or_len (contains_all ss) ss
reference_place join.Left ss = 0
reference_place join.Full ss = 0
reference_place join.Cross ss = 0

abbrev pub structures_of : List DataSet → List Structure
structures_of ds = map (λ d. d.structure) ds

abbrev pub reference_of : JoinKind → List DataSet → Option DataSet
reference_of kind ds = slice_get ds (reference_place kind (structures_of ds))

-- ---- `left_join` and `inner_join`: from the points of the reference, which is one of the operands
-- the identifiers of a point of the reference, and of each operand the point that agrees with it, if there is one
abbrev pub tuple_beside : Structure → List DataSet → Row → Tuple
tuple_beside reference ds r = record { identifiers = key_of reference r; parts = map (λ d. part_of d (first_agreeing reference d r)) ds }

abbrev pub left_tuples : DataSet → List DataSet → List Tuple
left_tuples reference ds = map (tuple_beside reference.structure ds) reference.points

abbrev pub inner_tuples : DataSet → List DataSet → List Tuple
inner_tuples reference ds = filter is_whole (left_tuples reference ds)

-- the same as a set, over all operands at once, which knows no reference: the points of all operands of which each two agree
abbrev pub agreeing : List DataSet → List (List OperandPoint)
agreeing ds = matching points_agree (map operand_points ds)

-- ---- `full_join`: for each tuple of identifiers that some operand has, in the reference's order of identifiers
abbrev pub keys_in : List Component → DataSet → List Row
keys_in ids d = map (values_in d.structure ids) d.points

abbrev pub all_keys : List Component → List DataSet → List Row
all_keys ids ds = each_once same_row (flat_map (keys_in ids) ds)

-- of each operand the point with these identifiers, if there is one
abbrev pub tuple_at : List Component → List DataSet → Row → Tuple
tuple_at ids ds k = record { identifiers = k; parts = map (λ d. part_of d (item_at same_row (values_in d.structure ids) d.points k)) ds }

abbrev pub full_tuples : DataSet → List DataSet → List Tuple
full_tuples reference ds = let ids = identifiers_of reference.structure in map (tuple_at ids ds) (all_keys ids ds)

-- ---- `cross_join`: every combination, with the identifiers of all operands
abbrev pub crossed : List OperandPoint → Tuple
crossed xs = record { identifiers = flat_map (λ x. key_of x.structure x.point) xs; parts = map present xs }

abbrev pub cross_tuples : List DataSet → List Tuple
cross_tuples ds = map crossed (combinations (map operand_points ds))

-- ---- the joined set
abbrev pub tuples_of : JoinKind → (reference : DataSet) → List DataSet → List Tuple
tuples_of join.Inner reference ds = inner_tuples reference ds
tuples_of join.Left reference ds = left_tuples reference ds
tuples_of join.Full reference ds = full_tuples reference ds
tuples_of join.Cross reference ds = cross_tuples ds

-- the values of a part in columns of its structure, or nulls where it is missing
abbrev pub values_or_nulls : Structure → List Component → Option Row → Row
values_or_nulls a xs None = map (λ x. c.Null) xs
values_or_nulls a xs (Some q) = values_in a xs q

abbrev pub measures_in : Part → Row
measures_in p = values_or_nulls p.structure (measures_of p.structure) p.point

abbrev pub attributes_in : Part → Row
attributes_in p = values_or_nulls p.structure (of_role role.Attribute p.structure) p.point

-- The point of a tuple: its identifiers, the measures operand by operand, and then the attributes. In this order stand the columns of
-- the structure that typing gives, whose components are the identifiers and then the others operand by operand.
abbrev pub tuple_point : Tuple → Row
tuple_point t = t.identifiers ++ flat_map measures_in t.parts ++ flat_map attributes_in t.parts

abbrev pub joined_of : JoinKind → (reference : DataSet) → List DataSet → List Row
joined_of kind reference ds = map tuple_point (tuples_of kind reference ds)

-- the same with the reference that the operands have; without operands there is none, and no typed join is
abbrev pub join_of : JoinKind → List DataSet → List Row
join_of kind ds = option_map_or (λ reference. joined_of kind reference ds) (reference_of kind ds) []
