-- What checks give for single data sets.
use Rattle.std.proofs.Common.{◌≡◌, ℕ, pos, negsuc, true, false, List, [], ◌∷◌, Option, Some, None, Ok, Err, refl}
use Rattle.std.specs.Prelude.{codes}
use Rattle.std.specs.Fmt.{decimal}
use Rattle.vtl_decimal.specs.Settings.{Settings}
use Rattle.vtl_decimal.specs.declared.number.Fault.TheVariants.{DivZero, Range}
use Rattle.vtl_decimal.specs.declared.settings.Rounding.TheVariants.{HalfUp}
use Rattle.vtl_cell.specs.declared.cell.Cell.{Cell}
use Rattle.vtl_cell.specs.declared.cell.Cell.TheVariants.{Null, Int, Num, Text}
use Rattle.vtl_cell.specs.declared.cell.Cell.TheVariants as c
use Rattle.vtl_cell.specs.declared.kind.Kind.TheVariants as k
use Rattle.vtl_cell.specs.declared.operator.ScalarOp.{ScalarOp}
use Rattle.vtl_cell.specs.declared.operator.ScalarOp.TheVariants as op
use Rattle.vtl_syntax.specs.declared.word_groups.BasicOut.{BasicOut}
use Rattle.vtl_syntax.specs.declared.word_groups.BasicOut.TheVariants as basic
use Rattle.vtl_syntax.specs.declared.word_groups.CheckOut.TheVariants as out
use Rattle.vtl_tree.specs.CompExp.{CompExp, call, column, comp_exp, const, no_comp_exps}
use Rattle.vtl_tree.specs.Environment.{DataSet}
use Rattle.vtl_tree.specs.Measures.{bool_var, made}
use Rattle.vtl_tree.specs.Trees.{PointRuleTree}
use Rattle.vtl_tree.specs.declared.specifications.CheckSpec.{CheckSpec}
use Rattle.vtl_tree.specs.declared.structure.Component.{Component}
use Rattle.vtl_tree.specs.declared.structure.Role.TheVariants as role
use Rattle.vtl_tree.specs.declared.structure.Structure.{Structure}
use Rattle.vtl_meaning.specs.Points.{with_points}
use Rattle.vtl_rulings.specs.PointChecks.{check_of, datapoint_of}

abbrev scale_six : Settings
scale_six = record { scale = 6; rounding = HalfUp }

abbrev int : ℕ → Cell
int n = Int (pos n)

abbrev minus_one : Cell
minus_one = Int (negsuc 0)

abbrev with_components : List Component → Structure
with_components xs = record { components = xs }

abbrev place : Component
place = made (codes "place") role.Identifier k.Text

abbrev sold : Component
sold = made (codes "sold") role.Measure k.Int

abbrev left : Component
left = made (codes "left") role.Measure k.Int

abbrev a : Cell
a = Text (codes "a")

abbrev b : Cell
b = Text (codes "b")

abbrev d : Cell
d = Text (codes "d")

-- ---- `left_over: when sold > 0 then left > 0 errorcode "neg" errorlevel 3`
abbrev stock : Structure
stock = with_components (place ∷ sold ∷ left ∷ [])

abbrev of_two : ScalarOp → CompExp → CompExp → CompExp
of_two o x y = call o k.Bool (comp_exp x (comp_exp y no_comp_exps))

abbrev sold_there : CompExp
sold_there = column 1 (codes "sold") k.Int

abbrev left_there : CompExp
left_there = column 2 (codes "left") k.Int

abbrev rule : (name : Option (List ℕ)) → (antecedent : Option CompExp) → CompExp → PointRuleTree
rule name antecedent condition = record { name = name; antecedent = antecedent; condition = condition; errorcode = None; errorlevel = None }

abbrev left_over : PointRuleTree
left_over = record {
  name = Some (codes "left_over");
  antecedent = Some (of_two op.Greater sold_there (const (int 0)));
  condition = of_two op.Greater left_there (const (int 0));
  errorcode = Some (codes "neg");
  errorlevel = Some (pos 3);
}

abbrev three_places : DataSet
three_places = with_points stock ((a ∷ int 1 ∷ minus_one ∷ []) ∷ (b ∷ int 0 ∷ minus_one ∷ []) ∷ (d ∷ Null ∷ int 1 ∷ []) ∷ [])

abbrev named : Cell
named = Text (codes "left_over")

-- where the antecedent is false the rule holds, where it is null its value is null; errors stand at a false value alone
all_checked : datapoint_of scale_six out.All (left_over ∷ []) three_places ≡ Ok (
    (a ∷ named ∷ c.Bool false ∷ Text (codes "neg") ∷ int 3 ∷ [])
    ∷ (b ∷ named ∷ c.Bool true ∷ Null ∷ Null ∷ [])
    ∷ (d ∷ named ∷ Null ∷ Null ∷ Null ∷ []) ∷ []
    )
all_checked = refl

with_measures : datapoint_of scale_six out.AllMeasures (left_over ∷ []) three_places ≡ Ok (
    (a ∷ named ∷ int 1 ∷ minus_one ∷ c.Bool false ∷ Text (codes "neg") ∷ int 3 ∷ [])
    ∷ (b ∷ named ∷ int 0 ∷ minus_one ∷ c.Bool true ∷ Null ∷ Null ∷ [])
    ∷ (d ∷ named ∷ Null ∷ int 1 ∷ Null ∷ Null ∷ Null ∷ []) ∷ []
    )
with_measures = refl

-- the second rule has no name: its number among all rules stands for one
only_wrong : datapoint_of scale_six out.Invalid (left_over ∷ rule None None (of_two op.Greater sold_there left_there) ∷ rule None None (of_two op.Less sold_there left_there) ∷ []) three_places ≡ Ok (
    (a ∷ named ∷ int 1 ∷ minus_one ∷ Text (codes "neg") ∷ int 3 ∷ [])
    ∷ (a ∷ Text (decimal 3) ∷ int 1 ∷ minus_one ∷ Null ∷ Null ∷ [])
    ∷ (b ∷ Text (decimal 3) ∷ int 0 ∷ minus_one ∷ Null ∷ Null ∷ []) ∷ []
    )
only_wrong = refl

no_points : datapoint_of scale_six out.All (left_over ∷ []) (with_points stock []) ≡ Ok []
no_points = refl

-- ---- faults
abbrev divided : CompExp
divided = of_two op.Greater (call op.Divide k.Num (comp_exp left_there (comp_exp sold_there no_comp_exps))) (const (int 9))

abbrev too_large : CompExp
too_large = of_two op.Greater (call op.Add k.Int (comp_exp sold_there (comp_exp (const (int 999_999_999_999)) no_comp_exps))) (const (int 0))

-- each rule is evaluated at each point, also where the output shows none
out_of_range : datapoint_of scale_six out.Invalid (rule None None too_large ∷ []) three_places ≡ Err Range
out_of_range = refl

-- over all rules a division by zero counts before a number out of range
division_first : datapoint_of scale_six out.Invalid (rule None None too_large ∷ rule None None divided ∷ []) three_places ≡ Err DivZero
division_first = refl

-- a condition is evaluated only where its antecedent is true
guarded : datapoint_of scale_six out.Invalid (rule None (Some (of_two op.Greater sold_there (const (int 0)))) divided ∷ []) three_places ≡ Ok ((a ∷ Text (decimal 1) ∷ int 1 ∷ minus_one ∷ Null ∷ Null ∷ []) ∷ [])
guarded = refl

-- ---- `check(.. errorcode "e" imbalance ..)`
abbrev truths : DataSet
truths = with_points (with_components (place ∷ bool_var ∷ [])) ((a ∷ c.Bool true ∷ []) ∷ (b ∷ c.Bool false ∷ []) ∷ (d ∷ Null ∷ []) ∷ [])

abbrev differences : DataSet
differences = with_points (with_components (place ∷ left ∷ [])) ((d ∷ int 7 ∷ []) ∷ (b ∷ Int (negsuc 1) ∷ []) ∷ [])

abbrev spec : BasicOut → CheckSpec
spec o = record { errorcode = Some (codes "e"); errorlevel = None; output = o }

-- an imbalance is a number, and null where its operand lacks the point
checked : check_of scale_six (spec basic.All) truths (Some differences) ≡
    (a ∷ c.Bool true ∷ Null ∷ Null ∷ Null ∷ [])
    ∷ (b ∷ c.Bool false ∷ Num (negsuc 1_999_999) ∷ Text (codes "e") ∷ Null ∷ [])
    ∷ (d ∷ Null ∷ Num (pos 7_000_000) ∷ Null ∷ Null ∷ []) ∷ []
checked = refl

without_imbalance : check_of scale_six (spec basic.Invalid) truths None ≡ (b ∷ c.Bool false ∷ Null ∷ Text (codes "e") ∷ Null ∷ []) ∷ []
without_imbalance = refl
