-- Joins in the words of their laws: as tuples of points that agree, one operand after the other, and by look-up.
use Rattle.std.specs.Prelude.{ℕ, Bool, not, List, [], ◌∷◌, ◌++◌, cond, filter, map, Option, Some, None, option_map, slice_get}
use Rattle.std.specs.List.{flat_map, list_any}
use Rattle.std.specs.Option.{option_and_then, option_map_or}
use Rattle.vtl_lists.specs.Each.{cons_if}
use Rattle.vtl_cell.specs.Row.{Row, same_row}
use Rattle.vtl_tree.specs.DataSet.{IsDataSet, look}
use Rattle.vtl_tree.specs.Environment.{DataSet}
use Rattle.vtl_tree.specs.Structure.{key_width}
use Rattle.vtl_tree.specs.declared.structure.Component.{Component}
use Rattle.vtl_tree.specs.declared.structure.Structure.{Structure}
use Rattle.vtl_tuples.specs.Keys.{item_at}
use Rattle.vtl_meaning.specs.Agreement.{OperandPoint, first_agreeing, key_of, operand_point, operand_points, values_in}
use Rattle.vtl_tree.specs.Columns.{identifiers_of}
use Rattle.vtl_meaning.specs.Joined.{Part, Tuple, is_whole, part_of, present, tuple_point}
use Rattle.vtl_meaning.specs.LookUps.{part_for}
use Rattle.vtl_meaning.specs.Made.{AreAmong}

-- a data set whose identifiers the reference has
pub record IsWithin (reference : Structure) (d : DataSet) : Type 0 where
  pub kept : IsDataSet d.structure d.points
  pub within : AreAmong (identifiers_of d.structure) (identifiers_of reference)

-- the tuple of points that agree, of which the one at a place is the reference's
abbrev pub agreed_tuple : ℕ → List OperandPoint → Tuple
agreed_tuple place xs = record { identifiers = option_map_or (λ x. key_of x.structure x.point) (slice_get xs place) []; parts = map present xs }

-- ---- one operand after the other
-- a tuple with one more part
abbrev pub and_part : Tuple → Part → Tuple
and_part t p = record { identifiers = t.identifiers; parts = t.parts ++ p ∷ [] }

-- `left_join`: each tuple with the point of one more operand that agrees with its first part
abbrev pub beside_part : DataSet → Part → Option Row
beside_part d p = option_and_then (first_agreeing p.structure d) p.point

abbrev pub left_with : List Tuple → DataSet → List Tuple
left_with ts d = map (λ t. and_part t (part_of d (option_and_then (beside_part d) (slice_get t.parts 0)))) ts

-- `full_join`: each tuple with the point of one more operand that has its identifiers, or a missing part; then each other point
-- of that operand, behind missing parts
abbrev pub point_with : List Component → DataSet → Row → Option Row
point_with ids d k = item_at same_row (values_in d.structure ids) d.points k

abbrev pub alone : List Component → List DataSet → DataSet → Row → Tuple
alone ids before d q = record { identifiers = values_in d.structure ids q; parts = map (λ e. part_of e None) before ++ part_of d (Some q) ∷ [] }

-- a tuple has the identifiers of a point
abbrev pub is_there : List Component → List Tuple → DataSet → Row → Bool
is_there ids ts d q = list_any (λ t. same_row t.identifiers (values_in d.structure ids q)) ts

abbrev pub full_with : List Component → List DataSet → List Tuple → DataSet → List Tuple
full_with ids before ts d = map (λ t. and_part t (part_of d (point_with ids d t.identifiers))) ts ++ map (alone ids before d) (filter (λ q. not (is_there ids ts d q)) d.points)

-- `cross_join`: each tuple with each point of one more operand
abbrev pub and_crossed : Tuple → OperandPoint → Tuple
and_crossed t x = record { identifiers = t.identifiers ++ key_of x.structure x.point; parts = t.parts ++ present x ∷ [] }

abbrev pub cross_with : List Tuple → DataSet → List Tuple
cross_with ts d = flat_map (λ t. map (and_crossed t) (operand_points d)) ts

-- ---- by look-up
-- the point of a tuple, where no part is missing
abbrev pub whole_point : Tuple → Option Row
whole_point t = cond (is_whole t) (Some (tuple_point t)) None

-- of each operand the point at its part of these identifiers, if there is one
abbrev pub looked_tuple : Structure → List DataSet → Row → Tuple
looked_tuple a ds k = record { identifiers = k; parts = map (λ d. part_of d (look (key_width d.structure) d.points (part_for a d.structure k))) ds }

-- of each operand the point with its identifiers among these, one tuple of them for each operand, if all have one
abbrev pub points_at : List DataSet → List Row → Option (List OperandPoint)
points_at [] ks = Some []
points_at (d ∷ ds) [] = None
points_at (d ∷ ds) (k ∷ ks) = cons_if (option_map (operand_point d.structure) (look (key_width d.structure) d.points k)) (points_at ds ks)
