-- The operators on data sets and the clauses: the points of their results. `s` is the structure that typing gives of the result,
-- and stands behind the operands.
use Rattle.std.specs.Prelude.{ℕ, List, [], ◌∷◌, ◌++◌, map, filter, length, Bool, find, Ok, cond, Option, option_map}
use Rattle.std.specs.List.{flat_map, list_all}
use Rattle.std.specs.Option.{option_map_or, option_to_list}
use Rattle.vtl_decimal.specs.Settings.{Settings}
use Rattle.vtl_cell.specs.declared.cell.Cell.TheVariants as c
use Rattle.vtl_cell.specs.declared.operator.ScalarOp.{ScalarOp}
use Rattle.vtl_cell.specs.Order.{same_cell}
use Rattle.vtl_cell.specs.Outcome.{Outcome}
use Rattle.vtl_cell.specs.Outcomes.{is_true}
use Rattle.vtl_cell.specs.Row.{Row, column_of}
use Rattle.vtl_rows.specs.Tables.{cells_at}
use Rattle.vtl_tree.specs.CompExp.{CompExp, call, const, comp_exp, no_comp_exps}
use Rattle.vtl_tree.specs.Environment.{DataSet}
use Rattle.vtl_tree.specs.Structure.{columns_of, key_width, same_name}
use Rattle.vtl_tree.specs.View.{comp_exps_of}
use Rattle.vtl_tree.specs.declared.structure.Component.{Component}
use Rattle.vtl_tree.specs.declared.structure.Structure.{Structure}
use Rattle.vtl_tree.specs.Trees as nodes
use Rattle.vtl_tree.specs.Trees.{ItemTree, MeasureTree, ValueTree}
use Rattle.vtl_tree.specs.declared.clauses.SubItem.{SubItem}
use Rattle.vtl_tree.specs.Pairs.{contains}
use Rattle.vtl_tree.specs.Columns.{column_behind, column_named, columns_named, identifiers_of, measures_of, place_of, places_in}
use Rattle.vtl_meaning.specs.Points.{each_point, paired, partner, shown, with_points}

-- an expression for each measure of an operand and the one of the result that it becomes
abbrev pub for_measures : (Component → Component → CompExp) → List Component → List Component → List CompExp
for_measures f (x ∷ xs) (y ∷ ys) = f x y ∷ for_measures f xs ys
for_measures f xs ys = []

-- ---- an operator on each measure of one operand: the other operands are values without components
abbrev pub with_measure : MeasureTree → List Component → Component → Component → CompExp
with_measure m xs x y = call m.op y.kind (comp_exps_of (m.before ++ column_named xs x.name ∷ m.after))

abbrev pub measured_exps : MeasureTree → Structure → Structure → List CompExp
measured_exps m a s = columns_named (columns_of a) (identifiers_of s) ++ for_measures (with_measure m (columns_of a)) (measures_of a) (measures_of s)

abbrev pub measured_of : Settings → MeasureTree → DataSet → Structure → Outcome (List Row)
measured_of p m a s = each_point p (measured_exps m a.structure s) a.points

-- ---- an operator on two operands: at each pair of points that agree on the common identifiers, on each pair of namesakes
abbrev pub with_namesake : ScalarOp → (left right : List ℕ → CompExp) → Component → Component → CompExp
with_namesake o left right x y = call o y.kind (comp_exp (left x.name) (comp_exp (right x.name) no_comp_exps))

-- the expressions over the cells of the operand with all identifiers, behind which stand those of the other one
abbrev pub pair_exps : ScalarOp → Structure → Structure → Structure → List CompExp
pair_exps o a b s =
    cond (contains a b)
    (columns_named (columns_of a) (identifiers_of s) ++ for_measures (with_namesake o (column_named (columns_of a)) (column_behind (length (columns_of a)) (columns_of b))) (measures_of a) (measures_of s))
    (columns_named (columns_of b) (identifiers_of s) ++ for_measures (with_namesake o (column_behind (length (columns_of b)) (columns_of a)) (column_named (columns_of b))) (measures_of a) (measures_of s))

abbrev pub pair_columns : Structure → Structure → List Component
pair_columns a b = cond (contains a b) (columns_of a ++ columns_of b) (columns_of b ++ columns_of a)

-- the pairs of points, which begin with the one of the operand with all identifiers
abbrev pub pairs_of : DataSet → DataSet → List Row
pairs_of a b = cond (contains a.structure b.structure) (paired a b) (paired b a)

abbrev pub pair_of : Settings → ScalarOp → DataSet → DataSet → Structure → Outcome (List Row)
pair_of p o a b s = each_point p (pair_exps o a.structure b.structure s) (pairs_of a b)

-- ---- `if`: at each point of the condition the point of the operand that it chooses, where that operand has one
abbrev pub is_first_chosen : Structure → Row → Bool
is_first_chosen t r = is_true (Ok (column_of (key_width t) r))

-- the identifiers of the condition's point, and the measures of the chosen one
abbrev pub joined_point : Structure → Structure → Structure → Row → Row → Row
joined_point t other s r q = cells_at (places_in (columns_of t) (identifiers_of s)) r ++ cells_at (places_in (columns_of other) (measures_of s)) q

abbrev pub taken_from : Structure → DataSet → Structure → Row → List Row
taken_from t other s r = option_to_list (option_map (joined_point t other.structure s r) (partner t other r))

abbrev pub taken_at : Structure → (first second : DataSet) → Structure → Row → List Row
taken_at t a b s r = cond (is_first_chosen t r) (taken_from t a s r) (taken_from t b s r)

abbrev pub choice_of : (condition first second : DataSet) → Structure → List Row
choice_of t a b s = flat_map (taken_at t.structure a b s) t.points

-- ---- `calc`: the value of a target, or the column as it was; all targets see the operand's point
abbrev pub value_exp : ValueTree → CompExp
value_exp (nodes.scalar e) = e
value_exp (nodes.analytic windowed) = const c.Null

abbrev pub target_named : List ItemTree → List ℕ → Option ItemTree
target_named items name = find (λ i. same_name i.target name) items

abbrev pub calculated_exp : List ItemTree → List Component → Component → CompExp
calculated_exp items xs y = option_map_or (λ i. value_exp i.value) (target_named items y.name) (column_named xs y.name)

abbrev pub calculated_exps : List ItemTree → Structure → Structure → List CompExp
calculated_exps items a s = map (calculated_exp items (columns_of a)) (columns_of s)

abbrev pub calculated_of : Settings → List ItemTree → DataSet → Structure → Outcome (List Row)
calculated_of p items a s = each_point p (calculated_exps items a.structure s) a.points

-- ---- `keep`, `drop`, `a#m`: the columns that are left
abbrev pub left_of : DataSet → Structure → List Row
left_of a s = shown (columns_of a.structure) (columns_of s) a.points

-- ---- `sub`: the points with these values, without these identifiers
abbrev pub has_values : Structure → List SubItem → Row → Bool
has_values a items r = list_all (λ i. same_cell (column_of (place_of i.id (columns_of a)) r) i.value) items

abbrev pub sub_of : List SubItem → DataSet → Structure → List Row
sub_of items a s = left_of (with_points a.structure (filter (has_values a.structure items) a.points)) s
