-- Operators on whole data sets.
use Rattle.std.specs.Prelude.{ℕ, List, [], ◌∷◌, Option, Some, None, Result, Ok, Err, map, ℤ, option_to_list, unwrap_or}
use Rattle.vtl_decimal.specs.Settings.{Settings}
use Rattle.vtl_syntax.specs.declared.parts.ErrorPart.{ErrorPart}
use Rattle.vtl_syntax.specs.declared.word_groups.BasicOut.{BasicOut}
use Rattle.vtl_syntax.specs.declared.word_groups.BasicOut.TheVariants as out
use Rattle.vtl_syntax.specs.declared.word_groups.DifferenceName.{DifferenceName}
use Rattle.vtl_syntax.specs.declared.word_groups.DifferenceName.TheVariants as difference
use Rattle.vtl_syntax.specs.declared.word_groups.Retain.{Retain}
use Rattle.vtl_syntax.specs.declared.word_groups.Retain.TheVariants as retain
use Rattle.vtl_syntax.specs.declared.word_groups.SetOpName.{SetOpName}
use Rattle.vtl_syntax.specs.declared.word_groups.SetOpName.TheVariants as set
use Rattle.vtl_syntax.specs.declared.parts.Comp.{Comp}
use Rattle.vtl_tree.specs.declared.structure.Structure.{Structure}
use Rattle.vtl_tree.specs.Trees.{FormTree, NodeTree, NodeTrees, nodes_of, structure_of, member, union, intersect, set_diff, sym_diff, exists_in, check, maybe_node}
use Rattle.vtl_tree.specs.declared.specifications.CheckSpec.{CheckSpec}
use Rattle.vtl_lists.specs.Results.{◌>>=◌}
use Rattle.check_faults.specs.InTurn.{in_turn}
use Rattle.check_faults.specs.declared.rules.Rule.{Rule}
use Rattle.check_faults.specs.declared.rules.Rule.TheVariants as rule
use Rattle.check_shapes.specs.Choices.{choice_form}
use Rattle.check_shapes.specs.Pairs as pairs
use Rattle.vtl_tree.specs.declared.choices.Choice.TheVariants as choice
use Rattle.vtl_tree.specs.declared.names.Wanted.TheVariants as wanted
use Rattle.vtl_tree.specs.Names.{name_of}
use Rattle.vtl_cell.specs.Literals.{integer_written}
use Rattle.check_operators.specs.Typed.{TypedTree, components_in, dataset_in, made_of}

-- operands that all have to be data sets
abbrev pub datasets_in : List TypedTree → Result (List NodeTree) Rule
datasets_in xs = in_turn (λ done x. dataset_in x) [] xs

abbrev pub structures_in : List NodeTree → List Structure
structures_in ns = map structure_of ns

-- `a#m`
unfoldable pub member_of : Comp → NodeTree → Result TypedTree Rule
member_of c a = choice_form wanted.Measure choice.Keep (name_of c ∷ []) (components_in a) >>= made_of (member a (name_of c))

-- `union` and `intersect`
abbrev pub set_tree : SetOpName → NodeTrees → FormTree
set_tree set.Union ns = union ns
set_tree set.Intersect ns = intersect ns

-- there is at least one operand
abbrev pub set_structure : List NodeTree → Result Structure Rule
set_structure [] = Err rule.DatasetOrValue
set_structure (n ∷ ns) = pairs.set_form (structure_of n) (structures_in ns)

abbrev pub set_of : SetOpName → List NodeTree → Result TypedTree Rule
set_of f ns = set_structure ns >>= made_of (set_tree f (nodes_of ns))

unfoldable pub sets_form : SetOpName → List TypedTree → Result TypedTree Rule
sets_form f xs = datasets_in xs >>= set_of f

-- `setdiff` and `symdiff`
abbrev pub difference_tree : DifferenceName → NodeTree → NodeTree → FormTree
difference_tree difference.Setdiff a b = set_diff a b
difference_tree difference.Symdiff a b = sym_diff a b

unfoldable pub difference_form : DifferenceName → TypedTree → TypedTree → Result TypedTree Rule
difference_form f x y = dataset_in x >>= λ a. dataset_in y >>= λ b. pairs.set_form (structure_of a) (structure_of b ∷ []) >>= made_of (difference_tree f a b)

-- `exists_in`
unfoldable pub exists_form : Option Retain → TypedTree → TypedTree → Result TypedTree Rule
exists_form r x y = dataset_in x >>= λ a. dataset_in y >>= λ b. pairs.exists_form (structure_of a) (structure_of b) >>= made_of (exists_in a b (unwrap_or r retain.All))

-- ---- `check`
-- the level of an error: an integer in range
abbrev pub level_read : Option ℤ → Result (Option ℤ) Rule
level_read None = Err rule.WrongLiteral
level_read (Some n) = Ok (Some n)

abbrev pub level_typed : Settings → Option (List ℕ) → Result (Option ℤ) Rule
level_typed p None = Ok None
level_typed p (Some digits) = level_read (integer_written p digits)

abbrev pub check_spec : Settings → ErrorPart → Option BasicOut → Result CheckSpec Rule
check_spec p e o = level_typed p e.level >>= λ level. Ok (record { errorcode = e.code; errorlevel = level; output = unwrap_or o out.All })

abbrev pub imbalance_in : Option TypedTree → Result (Option NodeTree) Rule
imbalance_in None = Ok None
imbalance_in (Some x) = dataset_in x >>= λ n. Ok (Some n)

unfoldable pub check_form : CheckSpec → TypedTree → Option TypedTree → Result TypedTree Rule
check_form s x i =
    dataset_in x >>= λ a. imbalance_in i >>= λ b. pairs.check_form (structure_of a) (structures_in (option_to_list b))
    >>= made_of (check a (maybe_node b) s)
