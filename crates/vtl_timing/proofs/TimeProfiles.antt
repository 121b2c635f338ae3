-- What a shift, totals and differences give is of the profile where their operand is.
use Rattle.std.proofs.Common.{◌-◌, ℕ, ℤ, pos, Bool, true, false, List, [], ◌∷◌, map, Ok, Option, Some, None, refl}
use Rattle.std.specs.Prelude.{IfOk, IfSome, if◌then◌else◌}
use Rattle.std.specs.List.{AllByRecursion}
use Rattle.std.specs.Option.{option_map_or}
use Rattle.vtl_lists.proofs.Sorts.{AllByRecursion-filter}
use Rattle.vtl_lists.proofs.Filters.{found_has}
use Rattle.vtl_decimal.specs.Settings.{Settings}
use Rattle.vtl_cell.specs.Groups.{group_value}
use Rattle.vtl_cell.specs.Kinds.{is_null}
use Rattle.vtl_cell.specs.Outcome.{Outcome, faults_by}
use Rattle.vtl_cell.specs.Profile.{IsOfProfile}
use Rattle.vtl_cell.specs.Row.{Row, column_of}
use Rattle.vtl_cell.specs.ScalarPeriods.{period, shifted_of}
use Rattle.vtl_cell.specs.Scalars.{scalar_of}
use Rattle.vtl_cell.specs.declared.cell.Cell.{Cell}
use Rattle.vtl_cell.specs.declared.cell.Cell.TheVariants as c
use Rattle.vtl_cell.specs.declared.operator.AggKind.TheVariants as agg
use Rattle.vtl_cell.specs.declared.operator.ScalarOp.TheVariants as op
use Rattle.vtl_scalar.proofs.ProfileLemmas.{value_is_of_profile}
use Rattle.vtl_time.specs.Periods.{YearPart, shift_of}
use Rattle.vtl_tree.specs.Columns.{place_of}
use Rattle.vtl_tree.specs.DataSet.{AreOfProfile}
use Rattle.vtl_tree.specs.Environment.{DataSet}
use Rattle.vtl_tree.specs.Measures.{is_measure}
use Rattle.vtl_tree.specs.Structure.{columns_of}
use Rattle.vtl_tree.specs.declared.structure.Component.{Component}
use Rattle.vtl_tree.specs.declared.structure.Structure.{Structure}
use Rattle.vtl_meaning.specs.Aggregates.{Made, group_fault as point_fault}
use Rattle.vtl_meaning.specs.Analytics.{each_point as each_made, point_of}
use Rattle.vtl_meaning.specs.LookUps.{value_named}
use Rattle.vtl_meaning.proofs.CallProfiles.{stays_proper}
use Rattle.vtl_meaning.proofs.GroupKinds.{GivesOfProfile, group_gives, zero_gives}
use Rattle.vtl_meaning.proofs.GroupPoints.{column_gives, value_gives, unless_has}
use Rattle.vtl_timing.specs.Times.{before, by_measure, flow_of, flow_value, in_one_series, is_time, previous, series_of, shifted_value, stock_of, stock_value, timeshift_of, up_to}

abbrev IsProper : Settings → Row → Type 0
IsProper p r = AllByRecursion (IsOfProfile p) r

-- ---- a value for each column of each point
point_proper : (p : Settings) (made : Made) (ys : List Component) (r : Row) → ((y : Component) → GivesOfProfile p (made y r)) → IsProper p (point_of made ys r)
point_proper p made [] r g = tt
point_proper p made (y ∷ ys) r g = (value_gives p (made y r) (g y), point_proper p made ys r g)

points_proper : (p : Settings) (made : Made) (ys : List Component) (points : List Row) → ((y : Component) (r : Row) → IsProper p r → GivesOfProfile p (made y r)) → AreOfProfile p points → AreOfProfile p (map (point_of made ys) points)
points_proper p made ys [] g h = tt
points_proper p made ys (r ∷ points) g h = (point_proper p made ys r (λ y. g y r h.0), points_proper p made ys points g h.1)

made_gives : (p : Settings) (made : Made) (ys : List Component) (points : List Row) → ((y : Component) (r : Row) → IsProper p r → GivesOfProfile p (made y r)) → AreOfProfile p points → IfOk (each_made made ys points) (AreOfProfile p)
made_gives p made ys points g h = unless_has (AreOfProfile p) (faults_by (point_fault made ys) points) (map (point_of made ys) points) (points_proper p made ys points g h)

-- ---- `timeshift`
later_gives : (p : Settings) (v : Cell) (n : ℤ) → GivesOfProfile p (shifted_of v (Some n))
later_gives p (c.Period q) n = go (shift_of q n)
  where
    go : (o : Option YearPart) → GivesOfProfile p (period o)
    go None = tt
    go (Some m) = tt
later_gives p v n = tt

pub shift_gives : (p : Settings) (n : ℤ) (d : DataSet) → AreOfProfile p d.points → IfOk (timeshift_of n d) (AreOfProfile p)
shift_gives p n d h = made_gives p (shifted_value n xs) xs d.points value h
  where
    xs : List Component
    xs = columns_of d.structure

    value : (y : Component) (r : Row) → IsProper p r → GivesOfProfile p (shifted_value n xs y r)
    value y r t = go (is_time y)
      where
        go : (b : Bool) → GivesOfProfile p (if b then shifted_of (value_named xs r y.name) (Some n) else Ok (value_named xs r y.name))
        go true = later_gives p (value_named xs r y.name) n
        go false = column_gives p (place_of y.name xs) r t

-- ---- totals and differences
values_proper : (p : Settings) (place : ℕ) (points : List Row) → AreOfProfile p points → AllByRecursion (IsOfProfile p) (map (λ q. column_of place q) points)
values_proper p place [] h = tt
values_proper p place (q ∷ points) h = (column_gives p place q h.0, values_proper p place points h.1)

series_proper : (p : Settings) (d : DataSet) (r : Row) → AreOfProfile p d.points → AreOfProfile p (series_of d r)
series_proper p d r h = AllByRecursion-filter (IsProper p) (in_one_series d.structure r) d.points h

stock_gives : (p : Settings) (d : DataSet) (y : Component) (r : Row) → AreOfProfile p d.points → GivesOfProfile p (stock_value p d y r)
stock_gives p d y r h = go (is_null (at r))
  where
    at : Row → Cell
    at q = value_named (columns_of d.structure) q y.name

    go : (b : Bool) → GivesOfProfile p (if b then Ok c.Null else group_value p agg.Sum (map at (up_to d r)))
    go true = tt
    go false = group_gives p agg.Sum (map at (up_to d r)) (values_proper p (place_of y.name (columns_of d.structure)) (up_to d r) (AllByRecursion-filter (IsProper p) _ (series_of d r) (series_proper p d r h)))

flow_gives : (p : Settings) (d : DataSet) (y : Component) (r : Row) → AreOfProfile p d.points → IsProper p r → GivesOfProfile p (flow_value p d y r)
flow_gives p d y r h t =
    stays_proper p y.kind (scalar_of p op.Subtract (at r ∷ last ∷ [])) (value_is_of_profile p op.Subtract (at r ∷ last ∷ []) (column_gives p place r t, (last_gives, tt)))
  where
    place : ℕ
    place = place_of y.name (columns_of d.structure)

    at : Row → Cell
    at q = value_named (columns_of d.structure) q y.name

    last : Cell
    last = option_map_or at (previous d r) (c.Int (pos 0))

    last_gives : IsOfProfile p last
    last_gives = go (previous d r) (found_has (IsProper p) _ (before d r) (AllByRecursion-filter (IsProper p) _ (series_of d r) (series_proper p d r h)))
      where
        go : (o : Option Row) → IfSome o (IsProper p) → IsOfProfile p (option_map_or at o (c.Int (pos 0)))
        go None i = zero_gives p
        go (Some q) i = column_gives p place q i

-- a value for each measure, and all else as it is
measures_give : (p : Settings) (value : Component → Row → Outcome Cell) (a s : Structure) (points : List Row) → ((y : Component) (r : Row) → IsProper p r → GivesOfProfile p (value y r)) → AreOfProfile p points
    → IfOk (each_made (by_measure value a) (columns_of s) points) (AreOfProfile p)
measures_give p value a s points g h = made_gives p (by_measure value a) (columns_of s) points each h
  where
    each : (y : Component) (r : Row) → IsProper p r → GivesOfProfile p (by_measure value a y r)
    each y r t = go (is_measure y)
      where
        go : (b : Bool) → GivesOfProfile p (if b then value y r else Ok (value_named (columns_of a) r y.name))
        go true = g y r t
        go false = column_gives p (place_of y.name (columns_of a)) r t

pub stocks_give : (p : Settings) (d : DataSet) (s : Structure) → AreOfProfile p d.points → IfOk (stock_of p d s) (AreOfProfile p)
stocks_give p d s h = measures_give p (stock_value p d) d.structure s d.points (λ y r t. stock_gives p d y r h) h

pub flows_give : (p : Settings) (d : DataSet) (s : Structure) → AreOfProfile p d.points → IfOk (flow_of p d s) (AreOfProfile p)
flows_give p d s h = measures_give p (flow_value p d) d.structure s d.points (λ y r t. flow_gives p d y r h t) h
