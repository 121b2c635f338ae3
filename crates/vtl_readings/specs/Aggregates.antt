-- What an aggregate operator gives of a data set, group by group: a point for each group of which the condition is true, which is
-- the group's key and then its aggregates, unless there is a fault.
use Rattle.std.specs.Prelude.{List, ◌++◌, map, filter, true, Ok}
use Rattle.std.specs.List.{flat_map}
use Rattle.std.specs.Option.{option_map_or}
use Rattle.vtl_cell.specs.Outcome.{Outcome, unless}
use Rattle.vtl_cell.specs.Outcomes.{is_true}
use Rattle.vtl_cell.specs.Row.{Row}
use Rattle.vtl_decimal.specs.Settings.{Settings}
use Rattle.vtl_cell.specs.declared.cell.Cell.{Cell}
use Rattle.vtl_cell.specs.declared.cell.Cell.TheVariants as c
use Rattle.vtl_tree.specs.Environment.{DataSet}
use Rattle.vtl_tree.specs.Structure.{columns_of}
use Rattle.vtl_tree.specs.declared.structure.Structure.{Structure}
use Rattle.vtl_tree.specs.Trees.{AggTree}
use Rattle.vtl_tree.specs.Columns.{others_of}
use Rattle.vtl_meaning.specs.Aggregates.{made_value}
use Rattle.vtl_meaning.specs.Points.{cell_or_null}
use Rattle.vtl_meaning.specs.GroupExpressions.{value_at_group}
use Rattle.vtl_meaning.specs.Groups.{keys_by, places_named, points_with}
use Rattle.vtl_readings.specs.Faults.{worst}

-- the points that have the same values of the grouping identifiers; these values are the key
pub record Group : Type 0 where
  pub key : Row
  pub points : List Row

-- the group with this key
abbrev pub group_of : AggTree → DataSet → Row → Group
group_of spec d key = record { key = key; points = points_with (places_named spec.grouping (columns_of d.structure)) d.points key }

-- a group for each key that points have, in the order of their first points
abbrev pub groups_of : AggTree → DataSet → List Group
groups_of spec d = map (group_of spec d) (keys_by (places_named spec.grouping (columns_of d.structure)) d.points)

-- the value of `having` at a group; where none is written it is true
abbrev pub condition_at : Settings → AggTree → DataSet → Group → Outcome Cell
condition_at p spec d g = option_map_or (λ e. value_at_group p spec.grouping (columns_of d.structure) e g.key g.points) spec.having (Ok (c.Bool true))

-- the aggregates of a group's points, one for each column behind the key
abbrev pub aggregates_at : Settings → AggTree → DataSet → Structure → Group → List (Outcome Cell)
aggregates_at p spec d s g = map (λ y. made_value p (columns_of d.structure) spec.items y g.points) (others_of s)

-- the groups of which the condition is true
abbrev pub kept_groups : Settings → AggTree → DataSet → List Group
kept_groups p spec d = filter (λ g. is_true (condition_at p spec d g)) (groups_of spec d)

-- the values that may have a fault: the condition at each group, and the aggregates of those that are kept
abbrev pub values_asked : Settings → AggTree → DataSet → Structure → List (Outcome Cell)
values_asked p spec d s = map (condition_at p spec d) (groups_of spec d) ++ flat_map (aggregates_at p spec d s) (kept_groups p spec d)

-- the key of a group, and then its aggregates
abbrev pub group_point : Settings → AggTree → DataSet → Structure → Group → Row
group_point p spec d s g = g.key ++ map cell_or_null (aggregates_at p spec d s g)

abbrev pub aggregate_points : Settings → AggTree → DataSet → Structure → Outcome (List Row)
aggregate_points p spec d s = unless (worst (values_asked p spec d s)) (map (group_point p spec d s) (kept_groups p spec d))
