-- What the definitions give for single data sets.
use Rattle.std.proofs.Common.{◌≡◌, ℕ, pos, negsuc, List, [], ◌∷◌, None, Some, Ok, Err, refl}
use Rattle.std.specs.Prelude.{codes}
use Rattle.vtl_decimal.specs.Settings.{Settings}
use Rattle.vtl_decimal.specs.declared.number.Fault.TheVariants.{DivZero}
use Rattle.vtl_decimal.specs.declared.settings.Rounding.TheVariants.{HalfUp}
use Rattle.vtl_cell.specs.declared.cell.Cell.{Cell}
use Rattle.vtl_cell.specs.declared.cell.Cell.TheVariants.{Int, Null, Text}
use Rattle.vtl_cell.specs.declared.kind.Kind.TheVariants as k
use Rattle.vtl_cell.specs.declared.operator.AggKind.TheVariants.{Count, Sum}
use Rattle.vtl_cell.specs.declared.operator.ScalarOp.TheVariants as op
use Rattle.vtl_tree.specs.CompExp.{aggregate, call, comp_exp, const, no_comp_exps}
use Rattle.vtl_tree.specs.Environment.{DataSet, Environment}
use Rattle.vtl_tree.specs.Measures.{made}
use Rattle.vtl_tree.specs.Trees as nodes
use Rattle.vtl_tree.specs.Trees.{AggTree, NodeTree}
use Rattle.vtl_tree.specs.declared.specifications.AggItems.TheVariants as items
use Rattle.vtl_tree.specs.declared.structure.Component.{Component}
use Rattle.vtl_tree.specs.declared.structure.Role.TheVariants as role
use Rattle.vtl_tree.specs.declared.structure.Structure.{Structure}
use Rattle.vtl_meaning.specs.Points.{with_points}
use Rattle.vtl_readings.specs.Aggregates.{aggregate_points}
use Rattle.vtl_readings.specs.Expressions.{given}
use Rattle.vtl_readings.specs.Pairs.{agreeing_pairs, pair_points, two_points}

abbrev scale_six : Settings
scale_six = record { scale = 6; rounding = HalfUp }

abbrev int : ℕ → Cell
int n = Int (pos n)

abbrev with_components : List Component → Structure
with_components xs = record { components = xs }

abbrev place : Component
place = made (codes "place") role.Identifier k.Int

abbrev year : Component
year = made (codes "year") role.Identifier k.Int

abbrev sold : Component
sold = made (codes "sold") role.Measure k.Int

abbrev note : Component
note = made (codes "note") role.Attribute k.Text

abbrev sales : DataSet
sales =
    with_points (with_components (note ∷ place ∷ sold ∷ year ∷ []))
    ((int 1 ∷ int 10 ∷ int 5 ∷ Text (codes "a") ∷ []) ∷ (int 2 ∷ int 10 ∷ int 0 ∷ Null ∷ []) ∷ (int 1 ∷ int 20 ∷ int 7 ∷ Null ∷ []) ∷ [])

-- year, sold
abbrev yearly : DataSet
yearly = with_points (with_components (sold ∷ year ∷ [])) ((int 10 ∷ int 2 ∷ []) ∷ (int 30 ∷ int 4 ∷ []) ∷ [])

abbrev by_place_and_year : Structure
by_place_and_year = with_components (place ∷ year ∷ sold ∷ [])

-- ---- `sum(sales group by place)`, and with `having 1 / (count() - 1) > 0`, which has a fault at the group of one point
abbrev by_place : AggTree
by_place = record { items = items.Measures Sum; grouping = codes "place" ∷ []; having = None }

summed : aggregate_points scale_six by_place sales (with_components (place ∷ sold ∷ [])) ≡ Ok ((int 1 ∷ int 12 ∷ []) ∷ (int 2 ∷ int 0 ∷ []) ∷ [])
summed = refl

abbrev several : AggTree
several =
    let points = aggregate (record { kind = Count; component = None }) k.Int in
    let others = call op.Subtract k.Int (comp_exp points (comp_exp (const (int 1)) no_comp_exps)) in
    record by_place { having = Some (call op.Greater k.Bool (comp_exp (call op.Divide k.Num (comp_exp (const (int 1)) (comp_exp others no_comp_exps))) (comp_exp (const (int 0)) no_comp_exps))) }

divided : aggregate_points scale_six several sales (with_components (place ∷ sold ∷ [])) ≡ Err DivZero
divided = refl

-- ---- `sales - yearly`: pairs by the year, none of the years 20 and 30
pairs : agreeing_pairs sales yearly
    ≡ (two_points (int 1 ∷ int 10 ∷ int 5 ∷ Text (codes "a") ∷ []) (int 10 ∷ int 2 ∷ []) ∷ two_points (int 2 ∷ int 10 ∷ int 0 ∷ Null ∷ []) (int 10 ∷ int 2 ∷ []) ∷ [])
pairs = refl

difference : pair_points scale_six op.Subtract sales yearly by_place_and_year ≡ Ok ((int 1 ∷ int 10 ∷ int 3 ∷ []) ∷ (int 2 ∷ int 10 ∷ Int (negsuc 1) ∷ []) ∷ [])
difference = refl

-- `yearly - sales`: the identifiers that the first operand lacks are those of the second one
turned : pair_points scale_six op.Subtract yearly sales by_place_and_year ≡ Ok ((int 1 ∷ int 10 ∷ Int (negsuc 2) ∷ []) ∷ (int 2 ∷ int 10 ∷ int 2 ∷ []) ∷ [])
turned = refl

-- ---- `sum(sales - yearly group by place)`
abbrev named : (name : List ℕ) → DataSet → NodeTree
named name d = nodes.node d.structure (nodes.named name)

abbrev held : Environment
held = (codes "sales", sales) ∷ (codes "yearly", yearly) ∷ []

abbrev changed : NodeTree
changed = nodes.node by_place_and_year (nodes.pair op.Subtract (named (codes "sales") sales) (named (codes "yearly") yearly))

given_points : given scale_six held (nodes.node (with_components (place ∷ sold ∷ [])) (nodes.aggregate changed by_place)) ≡ Ok (with_points (with_components (place ∷ sold ∷ [])) ((int 1 ∷ int 3 ∷ []) ∷ (int 2 ∷ Int (negsuc 1) ∷ []) ∷ []))
given_points = refl
